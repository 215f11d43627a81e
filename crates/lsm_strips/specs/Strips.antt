-- Strips as the code goes over them: a list with, of each, where it starts and its bytes. The definitions say of such a list what Picture's
-- say of the n strips of a table from strip i on.
use Rattle.std.specs.Prelude.{ℕ, zero, suc, ◌+◌, ◌-◌, ◌/◌, ◌%◌, ◌<◌, ◌≡◌, Bool, true, false, ◌&&◌, List, [], ◌∷◌, leb, ltb, eqb, get_or}
use Rattle.std.specs.List.{list_all}
use Rattle.lsm_format.specs.Answer.{Result, bind, need, decode}
use Rattle.lsm_format.specs.Picture.{offset_of, count_of}

abbrev pub offset_in : List ℕ → ℕ
offset_in s = get_or s 0 0

abbrev pub count_in : List ℕ → ℕ
count_in s = get_or s 1 0

-- The n strips of a table from strip i on.
abbrev pub strips_at : List ℕ → ℕ → ℕ → List (List ℕ)
strips_at t i zero = []
strips_at t i (suc n) = (offset_of t i ∷ count_of t i ∷ []) ∷ strips_at t (i + 1) n

-- `total`
abbrev pub total_in : List (List ℕ) → ℕ
total_in [] = 0
total_in (s ∷ rest) = count_in s + total_in rest

-- `place`
abbrev pub place_in : List (List ℕ) → ℕ → ℕ
place_in [] k = 0
place_in (s ∷ rest) k = elim (ltb k (count_in s)) [ true ↦ offset_in s + k | false ↦ place_in rest (k - count_in s) ]

-- `inside`
abbrev pub all_lie : ℕ → List (List ℕ) → Bool
all_lie len strips = list_all (λ s. leb (offset_in s + count_in s) len) strips

-- `in_turn`
abbrev pub turn_in : ℕ → List (List ℕ) → ℕ → Result (Unit {0})
turn_in len [] left = need decode (eqb left 0)
turn_in len (s ∷ rest) left =
    bind (need decode (leb (offset_in s + count_in s) len)) (λ _.
    bind (need decode (leb (count_in s) left)) (λ _.
    turn_in len rest (left - count_in s)))

-- `whole_rows_of`, with the rows counted down
abbrev pub whole_in : ℕ → List (List ℕ) → ℕ → Bool
whole_in row [] height = eqb height 0
whole_in row (s ∷ rest) height =
    eqb (count_in s % row) 0 && (leb (count_in s / row) height && whole_in row rest (height - count_in s / row))

-- Byte k of the strips `all` is byte d of those that are `left`.
pub record Stands (all : List (List ℕ)) (k : ℕ) (left : List (List ℕ)) (d : ℕ) : Type 0 where
  pub moved : (m : ℕ) → place_in all (k + m) ≡ place_in left (d + m)
  pub whole : total_in all + d ≡ total_in left + k
  pub within : (len : ℕ) → all_lie len all ≡ true → all_lie len left ≡ true

-- There is a byte k, and it is byte d of the first of those that are left.
pub record Reaches (all : List (List ℕ)) (k : ℕ) (left : List (List ℕ)) (d : ℕ) : Type 0 where
  pub there : k < total_in all
  pub first : d < count_in (get_or left 0 [])
  pub stands : Stands all k left d
