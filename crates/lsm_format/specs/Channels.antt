-- Channel metadata: colours and names (lsm_channel_colors.rs; CZ-LSMINFO, the block at OffsetChannelColors).
use Rattle.std.specs.Prelude.{ℕ, zero, suc, ◌+◌, ◌*◌, true, false, List, [], ◌∷◌, leb, ltb, ℤ, pos, negsuc, length, take, drop, Option, None, Some}
use Rattle.lsm_format.specs.Answer.{Result, accepted, refused, bind, need, out_of_range}
use Rattle.lsm_format.specs.Ranges.{Ranges, nothing, at, both, over, in_file}
use Rattle.lsm_format.specs.Numbers.{Order, part_at, i32_at}
use Rattle.lsm_format.specs.Lent.{lend, filled}
use Rattle.lsm_format.specs.Utf8.{lossy}

-- ---- the two pointers

-- "At block + 12 stand the colour and name pointers, both i32 and counted from the block. If either can't be read, every channel
-- lacks both."
unfoldable pub pointers : Order → List ℕ → ℕ → Result (ℤ × ℤ)
pointers o f block =
    bind (part_at f (block + 12) 8) (λ _.
    bind (i32_at o f (block + 12)) (λ colors. bind (i32_at o f (block + 16)) (λ names. accepted (colors, names))))

-- ---- colours

-- "A channel's colour stands at block + pointer + 4 × channel. It needs all 4 bytes in the file; the first three are given, in file
-- order for both byte orders."
unfoldable pub color_at : List ℕ → ℕ → Option (List ℕ)
color_at f place = elim (leb (place + 4) (length f)) [ true ↦ Some (take 3 (drop place f)) | false ↦ None ]

-- "A pointer ≤ 0 means none of that sort."
unfoldable pub color : List ℕ → ℕ → ℤ → ℕ → Option (List ℕ)
color f block (pos zero) channel = None
color f block (pos (suc n)) channel = color_at f (block + suc n + 4 * channel)
color f block (negsuc n) channel = None

-- ---- names

-- A name's record: where its bytes start and how many they are. "A negative length, or a length word or name that passes the end of
-- the file, ends the names."
abbrev pub record_by : List ℕ → ℕ → Result ℤ → Option (ℕ × ℕ)
record_by f start (accepted (pos n)) = elim (leb (start + n) (length f)) [ true ↦ Some (start, n) | false ↦ None ]
record_by f start (accepted (negsuc n)) = None
record_by f start (refused row) = None

unfoldable pub name_record : Order → List ℕ → ℕ → Option (ℕ × ℕ)
name_record o f place = record_by f (place + 4) (i32_at o f place)

-- "Names follow one another, each after an i32 length": the record of the channel, from the place of the first.
unfoldable pub record_of : Order → List ℕ → ℕ → ℕ → Option (ℕ × ℕ)
record_of o f place zero = name_record o f place
record_of o f place (suc channel) = elim (name_record o f place) [ None ↦ None | Some r ↦ record_of o f (r.0 + r.1) channel ]

-- "Length 1024 is kept; 1025 leaves that name missing and goes on. Length 0 is a present, empty name."
abbrev pub kept : Option (ℕ × ℕ) → Option (ℕ × ℕ)
kept None = None
kept (Some r) = elim (leb r.1 1024) [ true ↦ Some r | false ↦ None ]

-- Where the bytes of a channel's name stand: their start, and how many they are. "A pointer ≤ 0 means none of that sort."
unfoldable pub name_span : Order → List ℕ → ℕ → ℤ → ℕ → Option (ℕ × ℕ)
name_span o f block (pos zero) channel = None
name_span o f block (pos (suc n)) channel = kept (record_of o f (block + suc n) channel)
name_span o f block (negsuc n) channel = None

-- A byte before what is kept of those after it; a zero before nothing is a trailing one.
abbrev pub unless_trailing : ℕ → List ℕ → List ℕ
unless_trailing zero [] = []
unless_trailing zero (b ∷ bs) = zero ∷ b ∷ bs
unless_trailing (suc n) bs = suc n ∷ bs

-- "Trailing zero bytes are dropped, inner ones kept."
abbrev pub trimmed : List ℕ → List ℕ
trimmed [] = []
trimmed (b ∷ bs) = unless_trailing b (trimmed bs)

-- The name: the text of the bytes that stand there.
abbrev pub text_in : List ℕ → Option (ℕ × ℕ) → Option (List ℕ)
text_in f None = None
text_in f (Some r) = Some (lossy (trimmed (take r.1 (drop r.0 f))))

unfoldable pub name : Order → List ℕ → ℕ → ℤ → ℕ → Option (List ℕ)
name o f block names channel = text_in f (name_span o f block names channel)

-- ---- a channel

pub record Channel : Type 0 where
  pub color : Option (List ℕ)
  pub name : Option (List ℕ)

abbrev pub channel_by : Order → List ℕ → ℕ → Result (ℤ × ℤ) → ℕ → Channel
channel_by o f block (accepted p) channel = record { color = color f block p.0 channel; name = name o f block p.1 channel }
channel_by o f block (refused row) channel = record { color = None; name = None }

-- The channel of a file with a channel block at a place, or with none.
unfoldable pub channel_in : Order → List ℕ → Option ℕ → ℕ → Channel
channel_in o f None channel = record { color = None; name = None }
channel_in o f (Some block) channel = channel_by o f block (pointers o f block) channel

-- ---- the lookup

-- The text that the lent memory must have room for: none where there is no name.
abbrev pub text_of : Option (List ℕ) → List ℕ
text_of None = []
text_of (Some text) = text

-- "Channel lookup (added) checks the channel, then the name buffer"; "for a channel lookup scene, t and z are 0".
unfoldable pub lookup : Order → List ℕ → Option ℕ → ℕ → ℕ → ℕ → Result Channel
lookup o f block channels channel room =
    bind (need (out_of_range 0 0 channel 0) (ltb channel channels)) (λ _.
    bind (lend (length (text_of (channel_in o f block channel).name)) room) (λ _. accepted (channel_in o f block channel)))

-- What the name buffer holds afterwards.
unfoldable pub lookup_memory : Order → List ℕ → Option ℕ → ℕ → ℕ → List ℕ → List ℕ
lookup_memory o f block channels channel lent =
    elim (ltb channel channels) [ true ↦ filled (text_of (channel_in o f block channel).name) lent | false ↦ lent ]

-- ---- what it reads

-- "the first three bytes of each colour given"
unfoldable pub color_at_ranges : List ℕ → ℕ → Ranges
color_at_ranges f place = elim (leb (place + 4) (length f)) [ true ↦ at place 3 | false ↦ nothing ]

unfoldable pub color_ranges : List ℕ → ℕ → ℤ → ℕ → Ranges
color_ranges f block (pos zero) channel = nothing
color_ranges f block (pos (suc n)) channel = color_at_ranges f (block + suc n + 4 * channel)
color_ranges f block (negsuc n) channel = nothing

-- "each name given with its trailing zeros"
abbrev pub text_ranges : Option (ℕ × ℕ) → Ranges
text_ranges None = nothing
text_ranges (Some r) = at r.0 r.1

-- "each length word reached that is wholly in the file"
unfoldable pub record_ranges : Order → List ℕ → ℕ → ℕ → Ranges
record_ranges o f place zero = both (in_file f place 4) (text_ranges (kept (name_record o f place)))
record_ranges o f place (suc channel) =
    both (in_file f place 4) (elim (name_record o f place) [ None ↦ nothing | Some r ↦ record_ranges o f (r.0 + r.1) channel ])

unfoldable pub name_ranges : Order → List ℕ → ℕ → ℤ → ℕ → Ranges
name_ranges o f block (pos zero) channel = nothing
name_ranges o f block (pos (suc n)) channel = record_ranges o f (block + suc n) channel
name_ranges o f block (negsuc n) channel = nothing

-- "in the channel block 12 to 19 where all eight are in the file", and what one channel's colour and name read
unfoldable pub channel_ranges : Order → List ℕ → Option ℕ → ℕ → Ranges
channel_ranges o f None channel = nothing
channel_ranges o f (Some block) channel =
    both (in_file f (block + 12) 8)
    (over (pointers o f block) (λ p. both (color_ranges f block p.0 channel) (name_ranges o f block p.1 channel)))

-- of every channel
unfoldable pub channels_ranges : Order → List ℕ → Option ℕ → ℕ → Ranges
channels_ranges o f block zero = nothing
channels_ranges o f block (suc channels) = both (channels_ranges o f block channels) (channel_ranges o f block channels)
