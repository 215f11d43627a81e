-- Strips as the code goes over them are those of the table, and what is said of the ones is said of the others. Assumes nothing.
use Prim.Native.Nat.{ℕ, zero, suc, ◌+◌, ◌-◌, ◌*◌, ◌/◌, ◌%◌, ◌<◌, ◌≤◌}
use native.Mathlib.Nat.{zero-add, add-zero, suc-mul}
use native.Mathlib.Omega.{arith}
use mathlib.Core.Path.{◌≡◌, refl, sym, ap, ap₂, ◌∙◌}
use mathlib.Core.Bool.{Bool, true, false, ◌&&◌, and-false}
use mathlib.Core.List.{List, [], ◌∷◌, ◌++◌}
use lib.Dec.{eqb, ltb, leb}
use lib.ListN.{length, get_or, take, drop}
use lib.Seq.{drop-cons}
use Rattle.std.proofs.Math.Seq.{take-append_seam, drop-append_seam}
use Rattle.std.specs.List.{list_all, range_with_len}
use borrow.Author.Tests.{eq-eqb, ne_eqb, eqb-true, eqb-false, leb-true, leb-false}
use Rattle.std.specs.Simd.{first_chunks}
use Rattle.lsm_format.specs.Answer.{decode}
use Rattle.lsm_format.specs.Picture.{offset_of, count_of, total, place, inside, in_turn, whole_strips, rows_in, whole_rows_of}
use Rattle.lsm_strips.specs.Strips.{strips_at, total_in, place_in, all_lie, turn_in, whole_in}

chunks_at : (t : List ℕ) (i n : ℕ) → 2 * (i + n) ≤ length t → first_chunks 2 n (drop (2 * i) t) ≡ strips_at t i n
chunks_at t i zero h = refl
chunks_at t i (suc n) h =
    let a : 2 * i < length t = omega arith in
    let b : suc (2 * i) < length t = omega arith in
    let f : suc (suc (2 * i)) ≡ 2 * (i + 1) = omega arith in
    let g : suc (2 * i) ≡ 2 * i + 1 = omega arith in
    rw (drop-cons t (2 * i) 0 a, drop-cons t (suc (2 * i)) 0 b)
    (ap₂ (λ (k : ℕ) (l : List (List ℕ)). (get_or t (2 * i) 0 ∷ k ∷ []) ∷ l) (ap (λ (k : ℕ). get_or t k 0) g)
    (ap (λ (k : ℕ). first_chunks 2 n (drop k t)) f ∙ chunks_at t (i + 1) n (omega arith)))

-- ---- strips after strips

pub strips_long : (t : List ℕ) (i n : ℕ) → length (strips_at t i n) ≡ n
strips_long t i zero = refl
strips_long t i (suc n) = ap suc (strips_long t (i + 1) n)

module _ (t : List ℕ) (n : ℕ) where
  strips_split : (i m : ℕ) → strips_at t i (m + n) ≡ strips_at t i m ++ strips_at t (i + m) n
  strips_split i zero = rw (zero-add, add-zero) refl
  strips_split i (suc m) =
      let e : suc m + n ≡ suc (m + n) = omega arith in
      let f : i + 1 + m ≡ i + suc m = omega arith in
      rw e
      (ap (λ (l : List (List ℕ)). (offset_of t i ∷ count_of t i ∷ []) ∷ l)
      (strips_split (i + 1) m ∙ ap (λ (k : ℕ). strips_at t (i + 1) m ++ strips_at t k n) f))

  strips_front : (i m : ℕ) → take m (strips_at t i (m + n)) ≡ strips_at t i m
  strips_front i m =
      ap (take m) (strips_split i m) ∙ ap (λ (k : ℕ). take k (strips_at t i m ++ strips_at t (i + m) n)) (sym (strips_long t i m))
      ∙ take-append_seam (strips_at t i m) (strips_at t (i + m) n)

  strips_back : (i m : ℕ) → drop m (strips_at t i (m + n)) ≡ strips_at t (i + m) n
  strips_back i m =
      ap (drop m) (strips_split i m) ∙ ap (λ (k : ℕ). drop k (strips_at t i m ++ strips_at t (i + m) n)) (sym (strips_long t i m))
      ∙ drop-append_seam (strips_at t i m) (strips_at t (i + m) n)

-- the strips of a run, out of all that the table has
pub run_at : (t : List ℕ) (i n : ℕ) → i + n ≤ length t / 2 → take n (drop i (first_chunks 2 (length t / 2) t)) ≡ strips_at t i n
run_at t i n h =
    let m : ℕ = length t / 2 - (i + n) in
    let e : length t / 2 ≡ i + (n + m) = omega arith in
    ap (λ (l : List (List ℕ)). take n (drop i l)) (chunks_at t 0 (length t / 2) (omega arith) ∙ ap (strips_at t 0) e)
    ∙ ap (take n) (strips_back t (n + m) 0 i ∙ ap (λ (k : ℕ). strips_at t k (n + m)) (zero-add i)) ∙ strips_front t m i n

-- a test of strips taken n by n, from those from i + c * n on
pub parts_at : (test : List (List ℕ) → Bool) (t : List ℕ) (i n c k : ℕ)
    → list_all test (first_chunks n k (strips_at t (i + c * n) (k * n))) ≡ list_all (λ j. test (strips_at t (i + j * n) n)) (range_with_len c k)
parts_at test t i n c zero = refl
parts_at test t i n c (suc k) =
    let e : suc k * n ≡ n + k * n = suc-mul k n ∙ omega arith in
    let f : i + c * n + n ≡ i + (c + 1) * n = omega (arith, suc-mul c n) in
    rw (e, strips_front t (k * n) (i + c * n) n, strips_back t (k * n) (i + c * n) n, f)
    (ap (λ (b : Bool). test (strips_at t (i + c * n) n) && b) (parts_at test t i n (c + 1) k))

pub total_at : (t : List ℕ) (i n : ℕ) → total_in (strips_at t i n) ≡ total t i n
unfolding total
total_at t i zero = refl
total_at t i (suc n) = ap (λ (k : ℕ). count_of t i + k) (total_at t (i + 1) n)

pub place_at : (t : List ℕ) (i n k : ℕ) → place_in (strips_at t i n) k ≡ place t i n k
unfolding place
place_at t i zero k = refl
place_at t i (suc n) k =
    ap (λ (p : ℕ). elim (ltb k (count_of t i)) [ true ↦ offset_of t i + k | false ↦ p ]) (place_at t (i + 1) n (k - count_of t i))

pub inside_at : (t : List ℕ) (len i n : ℕ) → all_lie len (strips_at t i n) ≡ inside t len i n
unfolding inside
inside_at t len i zero = refl
inside_at t len i (suc n) = rw (inside_at t len (i + 1) n) refl

pub turn_at : (t : List ℕ) (len i n left : ℕ) → turn_in len (strips_at t i n) left ≡ in_turn decode decode t len i n left
unfolding in_turn
turn_at t len i zero left = refl
turn_at t len i (suc n) left = rw (turn_at t len (i + 1) n (left - count_of t i)) refl

-- ---- rows counted down

counted_by : (a c height : ℕ) (b : Bool) → leb c height ≡ b → (eqb (c + a) height) ≡ (b && eqb a (height - c))
counted_by a c height true e =
    let l = leb-true c height e in
    by (eqb a (height - c)) refl
  where
    by : (k : Bool) → eqb a (height - c) ≡ k → eqb (c + a) height ≡ k
    by true h = let l = leb-true c height e in let z = eqb-true a (height - c) h in eq-eqb (c + a) height (omega arith)
    by false h = let l = leb-true c height e in let z = eqb-false a (height - c) h in ne_eqb (c + a) height (λ q. z (omega arith))
counted_by a c height false e = let l = leb-false c height e in ne_eqb (c + a) height (λ q. omega arith)

turned : (a b : ℕ) → eqb a b ≡ eqb b a
turned a b = by (eqb b a) refl
  where
    by : (k : Bool) → eqb b a ≡ k → eqb a b ≡ k
    by true h = eq-eqb a b (sym (eqb-true b a h))
    by false h = ne_eqb a b (λ q. eqb-false b a h (sym q))

swapped : (a b c d : Bool) → (a && b) && (c && d) ≡ a && (c && (b && d))
swapped true true c d = refl
swapped true false c d = sym (and-false c)
swapped false b c d = refl

pub whole_at : (row : ℕ) (t : List ℕ) (i n height : ℕ) → whole_in row (strips_at t i n) height ≡ whole_rows_of row t i n height
unfolding whole_rows_of whole_strips rows_in
whole_at row t i zero height = turned height 0
whole_at row t i (suc n) height =
    let c : ℕ = count_of t i / row in
    rw (whole_at row t (i + 1) n (height - c), counted_by (rows_in row t (i + 1) n) c height (leb c height) refl)
    (sym (swapped (eqb (count_of t i % row) 0) (whole_strips row t (i + 1) n) (leb c height) (eqb (rows_in row t (i + 1) n) (height - c))))
