-- "An array [0; 3072] holds a decoded name at its worst expansion, three bytes for each of 1,024": so every channel is found, and
-- what the answer and the lent memory hold is the channel. Assumes nothing.
use Prim.Native.Nat.{ℕ, zero, suc, ◌+◌, ◌≤◌, ◌<◌}
use mathlib.Core.Path.{◌≡◌, refl, ap, ◌∙◌}
use mathlib.Core.Bool.{Bool, true, false}
use Rattle.std.specs.Prelude.{Option, None, Some}
use mathlib.Core.List.{List}
use native.Mathlib.Omega.{arith}
use borrow.Author.Tests.{lt-ltb, leb-true}
use lib.Dec.{leb}
use lib.IntN.{ℤ, pos, negsuc}
use lib.ListN.{length, take, drop}
use lib.Seq.{take_at}
use Rattle.lsm_format.specs.Answer.{Result, accepted, refused, bind}
use Rattle.lsm_format.specs.Numbers.{Order}
use Rattle.lsm_format.specs.Lent.{filled}
use Rattle.lsm_format.specs.Channels.{kept, name_span, text_in, name, record_of, channel_by, pointers, channel_in, text_of, lookup, lookup_memory}
use Rattle.lsm_format.proofs.Lent.{lend_room, filled_room}
use Rattle.printout_room.proofs.Texts.{text_length}
use Rattle.lsm_channel_colors.specs.Code.{length_of, seen}
use Rattle.std.proofs.lemmas.List.{take_min}
use Rattle.lsm_printout.proofs.Puts.{after}
use Rattle.lsm_printout.specs.Channel.{first_of}

-- ---- a name

-- a record, by whether it is short enough
abbrev given : Bool → ℕ × ℕ → Option (ℕ × ℕ)
given t r = elim t [ true ↦ Some r | false ↦ None ]

record_room : (f : List ℕ) (r : Option (ℕ × ℕ)) → length (text_of (text_in f (kept r))) ≤ 3072
record_room f None = omega arith
record_room f (Some r) = go (leb r.1 1024) refl
  where
    go : (t : Bool) → leb r.1 1024 ≡ t → length (text_of (text_in f (given t r))) ≤ 3072
    go true e = omega (arith, text_length (drop r.0 f) r.1, leb-true r.1 1024 e)
    go false e = omega arith

name_room : (o : Order) (f : List ℕ) (block : ℕ) (names : ℤ) (channel : ℕ) → length (text_of (name o f block names channel)) ≤ 3072
unfolding name name_span
name_room o f block (pos zero) channel = omega arith
name_room o f block (pos (suc n)) channel = record_room f (record_of o f (block + suc n) channel)
name_room o f block (negsuc n) channel = omega arith

pointed_room : (o : Order) (f : List ℕ) (block : ℕ) (p : Result (ℤ × ℤ)) (channel : ℕ) → length (text_of (channel_by o f block p channel).name) ≤ 3072
pointed_room o f block (accepted p) channel = name_room o f block p.1 channel
pointed_room o f block (refused row) channel = omega arith

pub channel_room : (o : Order) (f : List ℕ) (block : Option ℕ) (channel : ℕ) → length (text_of (channel_in o f block channel).name) ≤ 3072
unfolding channel_in
channel_room o f None channel = omega arith
channel_room o f (Some block) channel = pointed_room o f block (pointers o f block) channel

-- ---- the lookup

-- a channel that is there is found
pub lookup_found : (o : Order) (f : List ℕ) (block : Option ℕ) (channels channel room : ℕ) → channel < channels → 3072 ≤ room
    → lookup o f block channels channel room ≡ accepted (channel_in o f block channel)
unfolding lookup bind
lookup_found o f block channels channel room h k =
    let l : length (text_of (channel_in o f block channel).name) ≤ room = omega (arith, channel_room o f block channel) in
    rw (lt-ltb channel channels h, lend_room (length (text_of (channel_in o f block channel).name)) room l)

pub memory_found : (o : Order) (f : List ℕ) (block : Option ℕ) (channels channel : ℕ) (before : List ℕ) → channel < channels
    → lookup_memory o f block channels channel before ≡ filled (text_of (channel_in o f block channel).name) before
unfolding lookup_memory
memory_found o f block channels channel before h =
    ap (λ (t : Bool). elim t [ true ↦ filled (text_of (channel_in o f block channel).name) before | false ↦ before ]) (lt-ltb channel channels h)

-- the first bytes of memory that holds a text at its front
pub first_text : (t : Option (List ℕ)) (before : List ℕ) → length (text_of t) ≤ length before → first_of (length_of t) (filled (text_of t) before) ≡ t
first_text None before h = refl
first_text (Some t) before h = ap Some (ap (take (length t)) (filled_room t before h) ∙ take_at t (drop (length t) before) (length t) refl)

-- what is seen of a channel that is found
pub seen_found : (o : Order) (f : List ℕ) (block : Option ℕ) (channels channel room : ℕ) → channel < channels → 3072 ≤ room
    → seen (lookup o f block channels channel room)
    ≡ accepted (record { color = (channel_in o f block channel).color; name = length_of (channel_in o f block channel).name })
seen_found o f block channels channel room h k = ap seen (lookup_found o f block channels channel room h k)

-- so every channel is found, and its name is at the front of the memory
pub ruleset found = (seen_found, memory_found, first_text, channel_room)

-- the front of a name
pub ruleset named = (after, take_min)
