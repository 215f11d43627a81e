-- A channel as a lookup leaves it: its colour and its name's length in the answer, its name's bytes at the front of the lent memory.
use Rattle.std.specs.Prelude.{ℕ, List, take, Option, None, Some}
use Rattle.lsm_format.specs.Channels.{Channel}
use Rattle.lsm_channel_colors.specs.Code.{Seen}

abbrev pub first_of : Option ℕ → List ℕ → Option (List ℕ)
first_of None bytes = None
first_of (Some n) bytes = Some (take n bytes)

abbrev pub channel_of : Seen → List ℕ → Channel
channel_of s bytes = record { color = s.color; name = first_of s.name bytes }
