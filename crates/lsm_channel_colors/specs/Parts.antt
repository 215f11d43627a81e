-- What the private functions answer, in the definitions' terms.
use Rattle.std.specs.Prelude.{ℕ, ◌≡◌, List, Option, option_map}
use Rattle.lsm_format.specs.Channels.{trimmed, channel_in}
use Rattle.lsm_format.specs.Numbers.{Order}
use Rattle.lsm_format.specs.Utf8.{lossy}
use Rattle.lsm_channel_colors.specs.declared.Stated.{Stated}

-- A channel's colour, and the bytes that its name is made of.
pub record Stating (o : Order) (f : List ℕ) (block : Option ℕ) (channel : ℕ) (s : Stated) : Type 0 where
  pub color : s.color ≡ (channel_in o f block channel).color
  pub text : option_map (λ name. lossy (trimmed name.now)) s.name ≡ (channel_in o f block channel).name
