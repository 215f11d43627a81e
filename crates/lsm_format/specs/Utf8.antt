-- Lossy decoding of UTF-8 (The Unicode Standard, chapter 3, sections 3.9 and 3.10, Table 3-7 and "U+FFFD Substitution of
-- Maximal Subparts").
use Rattle.std.specs.Prelude.{ℕ, zero, suc, Bool, true, false, ◌&&◌, List, [], ◌∷◌, ◌++◌, leb, eqb, length, take, drop, Option, None, Some}

-- A row of Table 3-7, "Well-Formed UTF-8 Byte Sequences": the range of the first byte, and the ranges of the bytes that
-- follow it.
pub record Sequence : Type 0 where
  pub first : ℕ × ℕ
  pub followers : List (ℕ × ℕ)

abbrev pub tail : ℕ × ℕ
tail = (0x80, 0xBF)

abbrev pub well_formed : List Sequence
well_formed =
    record { first = (0x00, 0x7F); followers = [] }
    ∷ record { first = (0xC2, 0xDF); followers = tail ∷ [] }
    ∷ record { first = (0xE0, 0xE0); followers = (0xA0, 0xBF) ∷ tail ∷ [] }
    ∷ record { first = (0xE1, 0xEC); followers = tail ∷ tail ∷ [] }
    ∷ record { first = (0xED, 0xED); followers = (0x80, 0x9F) ∷ tail ∷ [] }
    ∷ record { first = (0xEE, 0xEF); followers = tail ∷ tail ∷ [] }
    ∷ record { first = (0xF0, 0xF0); followers = (0x90, 0xBF) ∷ tail ∷ tail ∷ [] }
    ∷ record { first = (0xF1, 0xF3); followers = tail ∷ tail ∷ tail ∷ [] }
    ∷ record { first = (0xF4, 0xF4); followers = (0x80, 0x8F) ∷ tail ∷ tail ∷ [] }
    ∷ []

abbrev pub between : ℕ × ℕ → ℕ → Bool
between r b = leb r.0 b && leb b r.1

-- The row that a first byte begins, if it begins one. No byte begins two.
abbrev pub followers_in : List Sequence → ℕ → Option (List (ℕ × ℕ))
followers_in [] b = None
followers_in (row ∷ rows) b = elim (between row.first b) [ true ↦ Some row.followers | false ↦ followers_in rows b ]

-- How many of the bytes that follow lie in their ranges, one after another.
abbrev pub matched : List (ℕ × ℕ) → List ℕ → ℕ
matched [] bs = 0
matched (r ∷ rs) [] = 0
matched (r ∷ rs) (b ∷ bs) = elim (between r b) [ true ↦ suc (matched rs bs) | false ↦ 0 ]

-- What stands at a byte: a well-formed sequence, or the maximal subpart of an ill-formed one ("the longest code unit
-- subsequence starting at an unconvertible offset that is either the initial subsequence of a well-formed code unit
-- sequence, or a subsequence of length one"), each with the number of bytes after the first.
pub data Piece : Type 0 where
  sequence : ℕ → Piece
  subpart : ℕ → Piece

abbrev pub piece_by : Option (List (ℕ × ℕ)) → List ℕ → Piece
piece_by None bs = subpart 0
piece_by (Some rs) bs =
    elim (eqb (matched rs bs) (length rs)) [ true ↦ sequence (matched rs bs) | false ↦ subpart (matched rs bs) ]

unfoldable pub piece : ℕ → List ℕ → Piece
piece b bs = piece_by (followers_in well_formed b) bs

abbrev pub after : Piece → ℕ
after (sequence n) = n
after (subpart n) = n

-- "Ill-formed UTF-8 becomes EF BF BD (hex), one per maximal subpart": U+FFFD, in UTF-8.
abbrev pub replacement : List ℕ
replacement = 0xEF ∷ 0xBF ∷ 0xBD ∷ []

abbrev pub decoded : Piece → ℕ → List ℕ → List ℕ
decoded (sequence n) b bs = b ∷ take n bs
decoded (subpart n) b bs = replacement

-- At most n pieces of a list of bytes; a list has at most as many pieces as bytes.
unfoldable pub lossy_by : ℕ → List ℕ → List ℕ
lossy_by zero bs = []
lossy_by (suc n) [] = []
lossy_by (suc n) (b ∷ bs) = decoded (piece b bs) b bs ++ lossy_by n (drop (after (piece b bs)) bs)

unfoldable pub lossy : List ℕ → List ℕ
lossy bs = lossy_by (length bs) bs
