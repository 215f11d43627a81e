-- The words of an answer: 0 and its values, or a refusal's row.
use Rattle.std.specs.Prelude.{ℕ, ◌+◌, ◌-◌, List, [], ◌∷◌, ◌++◌, length, replicate, Option, None, Some}
use Rattle.lsm_format.specs.Answer.{Result, accepted, refused}
use Rattle.lsm_channel_colors.specs.Code.{Seen}
use Rattle.lsm_reader.specs.Opening.{Told}
use Rattle.lsm_words.specs.Description.{description_length, description_words}

-- How many words an answer has: of opening, of a channel's lookup, of a picture.
abbrev pub open_length : ℕ
open_length = 3 + description_length

abbrev pub channel_length : ℕ
channel_length = 8

abbrev pub picture_length : ℕ
picture_length = 5

-- a refusal's row: five words, with zeros after its values, then zeros up to the answer's length
abbrev pub padded : ℕ → List ℕ → List ℕ
padded n row = (row ++ replicate (5 - length row) 0) ++ replicate (n - 5) 0

-- 0, directories visited, words of the table, the description
abbrev pub open_words : Result Told → List ℕ
open_words (accepted t) = 0 ∷ t.visited ∷ t.words ∷ description_words t.description
open_words (refused row) = padded open_length row

-- whether there is a colour, then red, green, blue
unfoldable pub color_words : Option (List ℕ) → List ℕ
color_words None = 0 ∷ 0 ∷ 0 ∷ 0 ∷ []
color_words (Some rgb) = 1 ∷ rgb

-- whether there is a name, then its length
unfoldable pub name_words : Option ℕ → List ℕ
name_words None = 0 ∷ 0 ∷ []
name_words (Some n) = 1 ∷ n ∷ []

abbrev pub channel_words : Result Seen → List ℕ
channel_words (accepted s) = 0 ∷ (color_words s.color ++ (name_words s.name ++ 0 ∷ []))
channel_words (refused row) = padded channel_length row

-- 0, rows, columns, bytes written
abbrev pub picture_words : Result (ℕ × ℕ × ℕ) → List ℕ
picture_words (accepted s) = 0 ∷ s.0 ∷ s.1 ∷ s.2 ∷ 0 ∷ []
picture_words (refused row) = padded picture_length row
