-- What the channel's types mean in the definitions' terms.
use Rattle.std.specs.Prelude.{ℕ, ◌≡◌, List, length, Option, None, Some}
use Rattle.lsm_format.specs.Answer.{Result, accepted, refused}
use Rattle.lsm_format.specs.Channels as Rule
use Rattle.lsm_format.specs.Channels.{lookup, lookup_memory}
use Rattle.lsm_format.specs.Numbers.{Order}
use Rattle.lsm_channel_colors.specs.declared.ChannelMeta.{ChannelMeta}

-- A channel as a caller sees it: its colour, and its name's length; the name's bytes are in the lent memory.
pub record Seen : Type 0 where
  pub color : Option (List ℕ)
  pub name : Option ℕ

abbrev pub meta_of : ChannelMeta → Seen
meta_of m = record { color = m.color; name = m.name }

-- The same of the definition's channel.
abbrev pub length_of : Option (List ℕ) → Option ℕ
length_of None = None
length_of (Some text) = Some (length text)

abbrev pub seen : Result Rule.Channel → Result Seen
seen (accepted c) = accepted (record { color = c.color; name = length_of c.name })
seen (refused row) = refused row

-- A lookup: the answer, and what the name buffer holds afterwards.
pub record Looked (o : Order) (f : List ℕ) (block : Option ℕ) (channels channel : ℕ) (before after : List ℕ) (answer : Result Seen) : Type 0 where
  pub answered : answer ≡ seen (lookup o f block channels channel (length before))
  pub memory : after ≡ lookup_memory o f block channels channel before
