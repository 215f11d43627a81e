-- Demand 3: the two forms of the statement in specs/Blind.antt, proved for all files. Assumes nothing.
use Prim.Native.Nat.{ℕ, ◌≤◌}
use mathlib.Core.Path.{◌≡◌, refl, sym, ap, ◌∙◌}
use mathlib.Core.List.{List, [], ◌++◌}
use lib.ListN.{length, set, drop, length-set}
use lib.Seq.{get_or-set_other}
use Rattle.lsm_format.specs.Answer.{Result, accepted}
use Rattle.lsm_format.specs.Ranges.{Ranges, flat, Inside, Agree}
use Rattle.lsm_format.specs.Rectangle.{Rect, Coordinate}
use Rattle.lsm_format.specs.Open.{Opened, read, open_file, open_memory, table_by, open_ranges}
use Rattle.lsm_format.specs.Picture.{Samples, plane, region, into, buffer_by}
use Rattle.lsm_format.specs.Listed.{strips_ranges, channel_block_ranges, region_ranges, listed, listed_for}
use Rattle.lsm_format.proofs.Lent.{lend_fits, filled_room}
use Rattle.lsm_format.proofs.Accepting.{Accepting, accepting_bind, accepting_self, accepting_told}
use Rattle.lsm_format.proofs.Opened.{Fits, read_fits}
use Rattle.lsm_overwrite.specs.Blind.{Overwritten, Held, plane_of, region_of, lookup_of, lookup_left, OpensAlike, RegionAlike, SpareBytes, SpareSamples}
use Rattle.lsm_overwrite.proofs.TwoFiles.{agree, agree_self, over_given}
use Rattle.lsm_overwrite.proofs.Open.{read_law, open_law, open_memory_law}
use Rattle.lsm_overwrite.proofs.Channels.{lookup_listed, memory_listed}
use Rattle.lsm_overwrite.proofs.Picture.{plane_law, region_law, region_all}

-- ---- what is held of an opened file

open_read : (f : List ℕ) (room : ℕ) → Accepting (λ (x : Opened). (read f ≡ accepted x) × (length x.table ≤ room)) (open_file f room)
unfolding open_file Accepting
open_read f room =
    accepting_bind _ _ _ _ (accepting_self (read f)) (λ x e. accepting_bind _ _ _ _ (lend_fits (length x.table) room) (λ _ h. (e, h)))

held_read : (f : List ℕ) (h : Held f) → read f ≡ accepted h.opened
held_read f h = (accepting_told _ _ _ (open_read f (length h.lent)) h.gave).0

held_room : (f : List ℕ) (h : Held f) → length h.opened.table ≤ length h.lent
held_room f h = (accepting_told _ _ _ (open_read f (length h.lent)) h.gave).1

-- ---- each later call with what is held of a file answers as with the table alone, also on another file that agrees with it

module _ (f g : List ℕ) (len : length g ≡ length f) (opens : Agree f g (open_ranges f)) (x : Opened) (is : read f ≡ accepted x) where
  there : Fits x.description x.table
  there = accepting_told _ _ _ (read_fits f) is

  -- a rectangle's list is part of the whole one
  region_listed : Agree f g (strips_ranges f x.table) → (co : Coordinate) (r : Rect) →
      Agree f g (region_ranges x.description x.table f co r)
  region_listed strips co r = region_all f g len x.description x.table [] there co strips r

  module _ (h : Held g) where
    -- the files open alike, so the description is the same, and the table with some rest after it
    same : h.opened ≡ x
    same =
        let p : read g ≡ read f = read_law f g len opens in
        let q : read g ≡ accepted h.opened = held_read g h in
        cc

    same_table : open_memory g h.lent ≡ x.table ++ drop (length x.table) h.lent
    unfolding open_memory
    same_table =
        ap (λ (r : Result Opened). table_by r h.lent) (read_law f g len opens ∙ is)
        ∙ filled_room x.table h.lent (rw same at (held_room g h))

    plane_held : Agree f g (strips_ranges f x.table) → (co : Coordinate) →
        plane_of g h co ≡ plane x.description x.table f co
    plane_held strips co =
        rw (same_table, same) (plane_law f g len x.description x.table _ there co strips)

    region_held : (co : Coordinate) (r : Rect) → Agree f g (region_ranges x.description x.table f co r) →
        region_of g h co r ≡ region x.description x.table f co r
    region_held co r w = rw (same_table, same) (region_law f g len x.description x.table _ there co r w)

-- ---- the two forms

-- Both files' calls answer as f with its table alone: that of g by the list, that of f since a file agrees with itself.
module _ (f g : List ℕ) (len : length g ≡ length f) (opens : Agree f g (open_ranges f)) where
  opening_alike : OpensAlike f g
  opening_alike = record { open_answer = open_law f g len opens; open_leaves = open_memory_law f g len opens }

  region_same : (co : Coordinate) (r : Rect) (a : Held f) (b : Held g) →
      Agree f g (region_ranges a.opened.description a.opened.table f co r) → region_of g b co r ≡ region_of f a co r
  region_same co r a b w =
      let own = agree_self f (region_ranges a.opened.description a.opened.table f co r) in
      region_held f g len opens a.opened (held_read f a) b co r w
      ∙ sym (region_held f f refl (agree_self f (open_ranges f)) a.opened (held_read f a) a co r own)

  region_alike : (co : Coordinate) (r : Rect) →
      ((a : Held f) → Agree f g (region_ranges a.opened.description a.opened.table f co r)) → RegionAlike f g co r
  region_alike co r w =
      record {
        region_answer = λ a b room. ap (λ (s : Result Samples). into s room) (region_same co r a b (w a));
        region_leaves = λ a b buffer. ap (λ (s : Result Samples). buffer_by s buffer) (region_same co r a b (w a));
      }

  plane_same : (a : Held f) (b : Held g) → Agree f g (strips_ranges f a.opened.table) → (co : Coordinate) →
      plane_of g b co ≡ plane_of f a co
  plane_same a b strips co =
      let own = agree_self f (strips_ranges f a.opened.table) in
      plane_held f g len opens a.opened (held_read f a) b strips co
      ∙ sym (plane_held f f refl (agree_self f (open_ranges f)) a.opened (held_read f a) a own co)

  module _ (a : Held f) (b : Held g) (w : Agree f g (channel_block_ranges f a.opened.description)) (channel : ℕ) where
    lookup_same : (room : ℕ) → lookup_of g b channel room ≡ lookup_of f a channel room
    lookup_same room =
        rw (same f g len opens a.opened (held_read f a) b)
        (lookup_listed f g a.opened.description.order a.opened.description.channel_block len a.opened.description.dims.c channel w room)

    lookup_left_same : (buffer : List ℕ) → lookup_left g b channel buffer ≡ lookup_left f a channel buffer
    lookup_left_same buffer =
        rw (same f g len opens a.opened (held_read f a) b)
        (memory_listed f g a.opened.description.order a.opened.description.channel_block len a.opened.description.dims.c channel w buffer)

-- "answers alike before and after": opening, and every call of plane, region or channel lookup
pub blind : SpareBytes
unfolding listed
blind f g o =
    let w : Agree f g (listed f) = agree f g (listed f) o.same_listed in
    let rest : (a : Held f) → Agree f g (channel_block_ranges f a.opened.description) × Agree f g (strips_ranges f a.opened.table) =
    λ a. over_given f g (read f) _ a.opened (held_read f a) w.1 in
    let len = o.same_length in
    record {
      opening = opening_alike f g len w.0;
      plane_answer = λ a b co room. ap (λ (s : Result Samples). into s room) (plane_same f g len w.0 a b (rest a).1 co);
      plane_leaves = λ a b co buffer. ap (λ (s : Result Samples). buffer_by s buffer) (plane_same f g len w.0 a b (rest a).1 co);
      regions = λ co r.
          region_alike f g len w.0 co r (λ a. region_listed f g len w.0 a.opened (held_read f a) (rest a).1 co r);
      lookup_answer = λ a b channel room. lookup_same f g len w.0 a b (rest a).0 channel room;
      lookup_leaves = λ a b channel buffer. lookup_left_same f g len w.0 a b (rest a).0 channel buffer;
    }

-- "opening and that rectangle's call then answer alike"
pub blind_rectangle : SpareSamples
unfolding listed_for
blind_rectangle f g co r o =
    let w : Agree f g (listed_for f co r) = agree f g (listed_for f co r) o.same_listed in
    record {
      opening = opening_alike f g o.same_length w.0;
      rectangle = region_alike f g o.same_length w.0 co r (λ a. over_given f g (read f) _ a.opened (held_read f a) w.1);
    }

-- a byte that is not on the list may be overwritten
pub overwrite : (list : Ranges) (f : List ℕ) (p v : ℕ) → (Inside p (flat list) → ⊥) → Overwritten list f (set f p v)
overwrite list f p v spare =
    record {
      same_length = length-set f p v;
      same_listed = λ q i. get_or-set_other f p q v 0 (λ e. spare (rw e at i));
    }
