-- The bytes that a rule reads, and two files that agree on them ("The bytes that are read"). A definition that looks at the
-- file has its ranges beside it; that agreeing on them is enough for the same answer is proved in proofs/.
use Rattle.std.specs.Prelude.{ℕ, ◌+◌, ◌≤◌, ◌<◌, true, false, ◌⊎◌, ◌≡◌, List, [], ◌∷◌, ◌++◌, leb, length, get_or}
use Rattle.lsm_format.specs.Answer.{Result, accepted, refused}

-- Nothing; the count bytes from start; what two parts of a rule read.
pub data Ranges : Type 0 where
  nothing : Ranges
  at : ℕ → ℕ → Ranges
  both : Ranges → Ranges → Ranges

-- What is read after a step whose answer is m: nothing where it refuses.
unfoldable pub over : {A : Type 0} → Result A → (A → Ranges) → Ranges
over (accepted a) k = k a
over (refused row) k = nothing

-- The count bytes from start where all of them are in the file, and otherwise none: a read past the end looks at no byte,
-- only at the file's length.
unfoldable pub in_file : List ℕ → ℕ → ℕ → Ranges
in_file f start count = elim (leb (start + count) (length f)) [ true ↦ at start count | false ↦ nothing ]

-- The ranges as a list of starts and counts, in the order in which they were drawn up.
unfoldable pub flat : Ranges → List (ℕ × ℕ)
flat nothing = []
flat (at start count) = (start, count) ∷ []
flat (both r q) = flat r ++ flat q

-- A byte's place is in one of the ranges of a list.
abbrev pub Inside : ℕ → List (ℕ × ℕ) → Type 0
Inside p [] = ⊥
Inside p (r ∷ rs) = ((r.0 ≤ p) × (p < r.0 + r.1)) ⊎ Inside p rs

-- Two files agree on the count bytes from start.
abbrev pub On : List ℕ → List ℕ → ℕ → ℕ → Type 0
On f g start count = (p : ℕ) → (start ≤ p) × (p < start + count) → get_or g p 0 ≡ get_or f p 0

-- Two files agree on all the ranges.
abbrev pub Agree : List ℕ → List ℕ → Ranges → Type 0
Agree f g nothing = Unit {0}
Agree f g (at start count) = On f g start count
Agree f g (both r q) = Agree f g r × Agree f g q
