-- What a rule answers: a value, or one of the papers' numbered refusals.
use Rattle.std.specs.Prelude.{ℕ, Bool, true, false, List, [], ◌∷◌, Option, None, Some}

-- A refusal is a row of document 01's table "Returned, When, Left in lent memory": its number, then its values in the
-- table's order.
pub data Result (A : Type 0) : Type 0 where
  accepted : A → Result A
  refused : List ℕ → Result A

-- A rule whose first step is m and which goes on as k says. The first refusal is the answer ("Order of checks").
unfoldable pub bind : {A B : Type 0} → Result A → (A → Result B) → Result B
bind (accepted a) k = k a
bind (refused row) k = refused row

-- A check: go on where the test holds, refuse with the row where it does not.
abbrev pub need : List ℕ → Bool → Result (Unit {0})
need row true = accepted tt
need row false = refused row

-- A value that may be absent: refuse with the row where it is.
abbrev pub given : {A : Type 0} → List ℕ → Option A → Result A
given row (Some a) = accepted a
given row None = refused row

-- ---- the table, row by row

-- "1: Parse"
abbrev pub parse : List ℕ
parse = 1 ∷ []

-- "2: Decode"
abbrev pub decode : List ℕ
decode = 2 ∷ []

-- "3: Unsupported"
abbrev pub unsupported : List ℕ
unsupported = 3 ∷ []

-- "4, requested, cap: OversizedAllocation"
abbrev pub oversized_allocation : ℕ → ℕ → List ℕ
oversized_allocation requested cap = 4 ∷ requested ∷ cap ∷ []

-- "5, scene, count: SceneOutOfRange"
abbrev pub scene_out_of_range : ℕ → ℕ → List ℕ
scene_out_of_range scene count = 5 ∷ scene ∷ count ∷ []

-- "6, scene, t, c, z: OutOfRange"
abbrev pub out_of_range : ℕ → ℕ → ℕ → ℕ → List ℕ
out_of_range scene t c z = 6 ∷ scene ∷ t ∷ c ∷ z ∷ []

-- "7, length needed: added: strip table (in words), sample buffer or name buffer (in bytes) too short"
abbrev pub too_short : ℕ → List ℕ
too_short needed = 7 ∷ needed ∷ []

-- Document 02, request 3: "8, uneven bits or a wrong count". "New numbers, here and later, [..] carry no figures and write nothing."
abbrev pub uneven_bits : List ℕ
uneven_bits = 8 ∷ []

-- Document 02, request 5: "9, a negative value".
abbrev pub negative_value : List ℕ
negative_value = 9 ∷ []
