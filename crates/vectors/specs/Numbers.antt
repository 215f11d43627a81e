-- The numbers of a list of recorded answers: what a text begins with, and what follows it.
use Rattle.std.specs.Prelude.{ℕ, zero, suc, ◌+◌, ◌-◌, ◌*◌, ◌^◌, Bool, cond, ◌&&◌, List, [], ◌∷◌, ◌++◌, leb, ltb, eqb, Option, None, Some}

-- Whether a number is from low to high.
abbrev pub within : ℕ → ℕ → ℕ → Bool
within low high b = leb low b && leb b high

-- The value of a hexadecimal digit, 0 to 9 and a to f; none for another byte.
unfoldable pub digit_of : ℕ → Option ℕ
digit_of b = cond (within 48 57 b) (Some (b - 48)) (cond (within 97 102 b) (Some (b - 97 + 10)) None)

-- A number with a digit more behind it. A byte that is no digit, or would take the number past 64 bits, is none.
abbrev pub put_digit : ℕ → Option ℕ → Option ℕ
put_digit value None = None
put_digit value (Some d) = cond (ltb (value * 16 + d) (2 ^ 64)) (Some (value * 16 + d)) None

unfoldable pub with_digit : ℕ → ℕ → Option ℕ
with_digit value b = put_digit value (digit_of b)

-- What a value comes to with the digits that a text begins with, and the text behind them.
unfoldable pub digits : ℕ → List ℕ → ℕ × List ℕ
digits value [] = (value, [])
digits value (b ∷ bs) = elim (with_digit value b) [ None ↦ (value, b ∷ bs) | Some more ↦ digits more bs ]

-- The number that a text begins with, which has a digit at least, and the text behind it.
unfoldable pub number : List ℕ → Option (ℕ × List ℕ)
number [] = None
number (b ∷ bs) = elim (with_digit 0 b) [ None ↦ None | Some value ↦ Some (digits value bs) ]

-- The text behind a byte, where it begins with that.
unfoldable pub behind : ℕ → List ℕ → Option (List ℕ)
behind b [] = None
behind b (x ∷ xs) = cond (eqb x b) (Some xs) None

-- The number behind a space.
abbrev pub number_in : Option (List ℕ) → Option (ℕ × List ℕ)
number_in None = None
number_in (Some rest) = number rest

unfoldable pub spaced : List ℕ → Option (ℕ × List ℕ)
spaced text = number_in (behind 32 text)

-- A part that was read, and what was read behind it.
abbrev pub then : List ℕ → List ℕ × List ℕ → List ℕ × List ℕ
then part rest = (part ++ rest.0, rest.1)

-- The numbers that a text begins with, a space before each, as many as there is room for, and the text behind them.
unfoldable pub numbers : ℕ → List ℕ → List ℕ × List ℕ
numbers zero text = ([], text)
numbers (suc room) text = elim (spaced text) [ None ↦ ([], text) | Some r ↦ then (r.0 ∷ []) (numbers room r.1) ]
