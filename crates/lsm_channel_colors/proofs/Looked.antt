-- Laws of the lookup of a channel whose name has a text, which was decoded into the lent memory. Assumes nothing.
use Prim.Native.Nat.{ℕ, ◌-◌, ◌^◌, ◌<◌, min}
use mathlib.Core.Bool.{Bool, true, false}
use mathlib.Core.Path.{◌≡◌, refl}
use Rattle.std.specs.Prelude.{Option, Some}
use mathlib.Core.List.{List}
use borrow.Author.Tests.{leb-true, leb-false}
use lib.Dec.{leb}
use lib.ListN.{length}
use Rattle.lsm_format.specs.Answer.{accepted, refused, bind, too_short}
use Rattle.lsm_format.specs.Lent.{lend}
use Rattle.lsm_format.specs.Numbers.{Order}
use Rattle.lsm_format.specs.Channels.{channel_in, lookup}
use Rattle.lsm_format.proofs.Apart.{no_case}
use Rattle.lsm_format.proofs.Lent.{lend_room, lend_short}
use Rattle.lsm_format.proofs.Channels.{lookup_named}
use Rattle.lsm_channel_colors.specs.Code.{seen}

-- a text that has room is as long as was answered
lent_by : (needed room n : ℕ) (t : Bool) → leb needed room ≡ t → accepted n ≡ lend needed room → n ≡ needed
lent_by needed room n true t e =
    let f : lend needed room ≡ accepted needed = lend_room needed room (leb-true needed room t) in cc
lent_by needed room n false t e =
    let f : lend needed room ≡ refused (too_short (min needed (2 ^ 64 - 1))) = lend_short needed room (leb-false needed room t) in no_case cc

lent_length : (needed room n : ℕ) → accepted n ≡ lend needed room → n ≡ needed
lent_length needed room n e = lent_by needed room n (leb needed room) refl e

-- the length was answered; the text has no room
module _ (o : Order) (f : List ℕ) (block : Option ℕ) (channels channel room : ℕ) (text : List ℕ) (h : channel < channels)
    (named : (channel_in o f block channel).name ≡ Some text) where
  pub seen_named : (n : ℕ) → accepted n ≡ lend (length text) room →
      seen (lookup o f block channels channel room) ≡ accepted (record { color = (channel_in o f block channel).color; name = Some n })
  unfolding bind
  seen_named n e = rw (lookup_named o f block channels channel room text h named, ← e, named, lent_length (length text) room n e)

  pub seen_short : (row : List ℕ) → refused row ≡ lend (length text) room → seen (lookup o f block channels channel room) ≡ refused row
  unfolding bind
  seen_short row e = rw (lookup_named o f block channels channel room text h named, ← e)
