-- What `lsm-list` prints of a file ("The small file G and its printout"). A line is a list of ASCII codes; each word is written
-- out beside its codes.
use Rattle.std.specs.Prelude.{ℕ, zero, suc, ◌+◌, ◌/◌, ◌%◌, true, false, cond, List, [], ◌∷◌, ◌++◌, leb, ltb, eqb, Float, length, Option, None, Some}
use Rattle.std.specs.Float.{nan, inf, fin, binary32}
use Rattle.std.specs.Float.Ieee.{to_bits}
use Rattle.lsm_format.specs.Answer.{Result, accepted, refused}
use Rattle.lsm_format.specs.Sizes.{Kind, u8, u16, i16, f32}
use Rattle.lsm_format.specs.Rectangle.{Dims}
use Rattle.lsm_format.specs.Calibration.{Calibration, uncalibrated, sized, ZStep, used, absent, placeholder, too_large, figure, digit}
use Rattle.lsm_format.specs.Channels.{Channel, channel_in}
use Rattle.lsm_format.specs.Open.{Description, Opened, open_file}

-- ---- numbers

-- A number in decimal, with no zero in front, and at most k digits.
unfoldable pub decimal_by : ℕ → ℕ → List ℕ
decimal_by zero n = []
decimal_by (suc k) n = elim (ltb n 10) [ true ↦ digit n ∷ [] | false ↦ decimal_by k (n / 10) ++ digit (n % 10) ∷ [] ]

-- No number has more digits than it counts, and 0 has one.
unfoldable pub decimal : ℕ → List ℕ
decimal n = decimal_by (suc n) n

-- "Hex letters are small."
abbrev pub hex_digit : ℕ → ℕ
hex_digit d = cond (ltb d 10) (48 + d) (87 + d)

-- The last k hex digits of a number.
unfoldable pub hex_digits : ℕ → ℕ → List ℕ
hex_digits zero n = []
hex_digits (suc k) n = hex_digits k (n / 16) ++ hex_digit (n % 16) ∷ []

-- Bytes in hex: two digits each.
unfoldable pub hex_bytes : List ℕ → List ℕ
hex_bytes [] = []
hex_bytes (b ∷ bs) = hex_digits 2 b ++ hex_bytes bs

-- A number with a space before it.
abbrev pub spaced : ℕ → List ℕ
spaced n = 32 ∷ decimal n

-- "or `-`"
abbrev pub dash : List ℕ
dash = 45 ∷ []

-- ---- the lines of a file that opens

-- "accepted"
abbrev pub accepted_line : List ℕ
accepted_line = 97 ∷ 99 ∷ 99 ∷ 101 ∷ 112 ∷ 116 ∷ 101 ∷ 100 ∷ []

-- "Dims are T C Z Y X.": `dims`
unfoldable pub dims_line : Dims → List ℕ
dims_line d = 100 ∷ 105 ∷ 109 ∷ 115 ∷ [] ++ spaced d.t ++ spaced d.c ++ spaced d.z ++ spaced d.y ++ spaced d.x

-- "Kind 0 to 3 is U8, U16, I16, F32."
abbrev pub kind_number : Kind → ℕ
kind_number u8 = 0
kind_number u16 = 1
kind_number i16 = 2
kind_number f32 = 3

-- `kind`
unfoldable pub kind_line : Kind → List ℕ
kind_line k = 107 ∷ 105 ∷ 110 ∷ 100 ∷ [] ++ spaced (kind_number k)

-- "Pixel is X Y Z as 8 hex digits of f32 bits, or `-`." No file gives a size that is no number.
unfoldable pub size_text : Float → List ℕ
size_text nan = dash
size_text (inf s) = hex_digits 8 (to_bits binary32 (inf s))
size_text (fin s m e) = hex_digits 8 (to_bits binary32 (fin s m e))

-- A Z step that isn't used is none.
abbrev pub step_text : ZStep → List ℕ
step_text (used z) = size_text z
step_text absent = dash
step_text (placeholder z) = dash
step_text (too_large z) = dash

abbrev pub sizes_text : Calibration → List ℕ
sizes_text uncalibrated = dash ++ 32 ∷ [] ++ dash ++ 32 ∷ [] ++ dash
sizes_text (sized x y z) = size_text x ++ 32 ∷ [] ++ size_text y ++ 32 ∷ [] ++ step_text z

-- `pixel` and a space
unfoldable pub pixel_line : Calibration → List ℕ
pixel_line k = 112 ∷ 105 ∷ 120 ∷ 101 ∷ 108 ∷ 32 ∷ [] ++ sizes_text k

-- `scenes`
unfoldable pub scenes_line : ℕ → List ℕ
scenes_line scenes = 115 ∷ 99 ∷ 101 ∷ 110 ∷ 101 ∷ 115 ∷ [] ++ spaced scenes

-- One scene is `image`, as "the stem is always `image`". "Several scenes are `image #1` upward."
unfoldable pub scene_line : ℕ → ℕ → List ℕ
scene_line scenes scene =
    cond (eqb scenes 1) (105 ∷ 109 ∷ 97 ∷ 103 ∷ 101 ∷ []) (105 ∷ 109 ∷ 97 ∷ 103 ∷ 101 ∷ 32 ∷ 35 ∷ [] ++ decimal (scene + 1))

-- `channels`
unfoldable pub channels_line : ℕ → List ℕ
channels_line channels = 99 ∷ 104 ∷ 97 ∷ 110 ∷ 110 ∷ 101 ∷ 108 ∷ 115 ∷ [] ++ spaced channels

-- "colour (6 hex digits or `-`)"
abbrev pub color_text : Option (List ℕ) → List ℕ
color_text None = dash
color_text (Some color) = hex_bytes color

-- "then `-` or `=` and the name's bytes in hex"
abbrev pub name_text : Option (List ℕ) → List ℕ
name_text None = dash
name_text (Some name) = 61 ∷ [] ++ hex_bytes name

-- "A channel is colour [..], then [..]"
unfoldable pub channel_line : Channel → List ℕ
channel_line c = color_text c.color ++ 32 ∷ [] ++ name_text c.name

-- `notes 0`, or "After `notes 1` comes a line of `placeholder` or `too-large`, a space and the figure."
abbrev pub no_note : List ℕ
no_note = 110 ∷ 111 ∷ 116 ∷ 101 ∷ 115 ∷ 32 ∷ 48 ∷ []

abbrev pub one_note : List ℕ
one_note = 110 ∷ 111 ∷ 116 ∷ 101 ∷ 115 ∷ 32 ∷ 49 ∷ []

abbrev pub placeholder_word : List ℕ
placeholder_word = 112 ∷ 108 ∷ 97 ∷ 99 ∷ 101 ∷ 104 ∷ 111 ∷ 108 ∷ 100 ∷ 101 ∷ 114 ∷ 32 ∷ []

abbrev pub large_word : List ℕ
large_word = 116 ∷ 111 ∷ 111 ∷ 45 ∷ 108 ∷ 97 ∷ 114 ∷ 103 ∷ 101 ∷ 32 ∷ []

abbrev pub step_notes : ZStep → List (List ℕ)
step_notes (used z) = no_note ∷ []
step_notes absent = no_note ∷ []
step_notes (placeholder z) = one_note ∷ (placeholder_word ++ figure z) ∷ []
step_notes (too_large z) = one_note ∷ (large_word ++ figure z) ∷ []

unfoldable pub note_lines : Calibration → List (List ℕ)
note_lines uncalibrated = no_note ∷ []
note_lines (sized x y z) = step_notes z

-- A line for each number below a count, upward.
unfoldable pub each : ℕ → (ℕ → List ℕ) → List (List ℕ)
each zero line = []
each (suc n) line = each n line ++ line n ∷ []

-- The lines, in the printout's order.
unfoldable pub head_lines : Description → List (List ℕ)
head_lines d =
    accepted_line ∷ dims_line d.dims ∷ kind_line d.kind ∷ pixel_line d.calibration ∷ scenes_line d.layout.scenes ∷ []

unfoldable pub accepted_lines : Description → (ℕ → Channel) → List (List ℕ)
accepted_lines d channel =
    head_lines d
    ++ each d.layout.scenes (scene_line d.layout.scenes)
    ++ channels_line d.dims.c ∷ []
    ++ each d.dims.c (λ c. channel_line (channel c))
    ++ note_lines d.calibration

-- ---- a refusal

unfoldable pub numbers_text : List ℕ → List ℕ
numbers_text [] = []
numbers_text (n ∷ ns) = spaced n ++ numbers_text ns

-- "A refusal is one line: `refused` and its numbers in the table's order, with spaces between."
unfoldable pub refused_line : List ℕ → List ℕ
refused_line row = 114 ∷ 101 ∷ 102 ∷ 117 ∷ 115 ∷ 101 ∷ 100 ∷ [] ++ numbers_text row

-- ---- the whole

-- The channels as the description and the file have them.
abbrev pub channels_of : List ℕ → Description → ℕ → Channel
channels_of f d = channel_in d.order f d.channel_block

abbrev pub lines : List ℕ → Result Opened → List (List ℕ)
lines f (accepted o) = accepted_lines o.description (channels_of f o.description)
lines f (refused row) = refused_line row ∷ []

-- The bytes of lines, each with its line end.
unfoldable pub text : List (List ℕ) → List ℕ
text [] = []
text (line ∷ lines) = line ++ 10 ∷ [] ++ text lines

-- "above 65,536 bytes it prints only `too long`"
abbrev pub most : ℕ
most = 65536

abbrev pub too_long_line : List ℕ
too_long_line = 116 ∷ 111 ∷ 111 ∷ 32 ∷ 108 ∷ 111 ∷ 110 ∷ 103 ∷ []

-- "the lister lends 3,072 and a table of 4,096 words". No name has more than 3,072 bytes, so every channel is looked up.
unfoldable pub printout : List ℕ → List ℕ
printout f = cond (leb (length f) most) (text (lines f (open_file f 4096))) (text (too_long_line ∷ []))
