-- Two files of one length that agree on the bytes that channel lookups read: each lookup answers the same. Assumes nothing.
use Prim.Native.Nat.{ℕ, zero, suc, ◌+◌, ◌*◌, ◌≤◌, ◌<◌}
use native.Mathlib.Omega.{arith}
use mathlib.Core.Bool.{Bool, true, false}
use mathlib.Core.Path.{◌≡◌, refl, sym, ap, ◌∙◌}
use Rattle.std.specs.Prelude.{Option, None, Some}
use mathlib.Core.List.{List}
use lib.Dec.{leb, ltb}
use lib.IntN.{ℤ, pos, negsuc}
use lib.ListN.{length, take, drop}
use borrow.Author.Tests.{le-leb, leb-true, leb-false, ltb-true, ltb-false}
use Rattle.lsm_format.specs.Answer.{Result, accepted, refused, bind, out_of_range}
use Rattle.lsm_format.specs.Ranges.{at, both, over, in_file, On, Agree}
use Rattle.lsm_format.specs.Numbers.{Order, part_at, i32_at}
use Rattle.lsm_format.specs.Lent.{filled}
use Rattle.lsm_format.specs.Utf8.{lossy}
use Rattle.lsm_format.specs.Channels.{pointers, color_at, color, record_by, name_record, record_of, kept, name_span, trimmed, text_in, name, Channel, channel_by, channel_in, text_of, lookup, lookup_memory, color_at_ranges, color_ranges, text_ranges, record_ranges, name_ranges, channel_ranges, channels_ranges}
use Rattle.lsm_format.proofs.Accepting.{accepting_need}
use Rattle.lsm_format.proofs.Numbers.{part_past, part_there}
use Rattle.lsm_format.proofs.Channels.{color_past, names_end, names_go, kept_inside}
use Rattle.lsm_overwrite.proofs.TwoFiles.{in_file_at, part_law, part_listed, i32_law, i32_listed, bind_law, bind_accepting}

-- a colour that is in the file
color_listed : (f : List ℕ) (place : ℕ) → place + 4 ≤ length f → color_at_ranges f place ≡ at place 3
unfolding color_at_ranges
color_listed f place h = rw (le-leb (place + 4) (length f) h, color_at_ranges)

color_parts : (f : List ℕ) (place : ℕ) → place + 4 ≤ length f → Some (take 3 (drop place f)) ≡ color_at f place
unfolding color_at
color_parts f place h = rw (le-leb (place + 4) (length f) h, color_at)

-- of a record that was read, only the file's length decides
by_length : (f g : List ℕ) → length g ≡ length f → (start : ℕ) (r : Result ℤ) → record_by g start r ≡ record_by f start r
by_length f g len start (accepted (pos n)) = rw (len, record_by)
by_length f g len start (accepted (negsuc n)) = refl
by_length f g len start (refused row) = refl

-- what is read where the records go on
goes_ranges : (o : Order) (f : List ℕ) (place channel : ℕ) (r : ℕ × ℕ) → name_record o f place ≡ Some r →
    record_ranges o f place (suc channel) ≡ both (in_file f place 4) (record_ranges o f (r.0 + r.1) channel)
unfolding record_ranges
goes_ranges o f place channel r e = rw (e, record_ranges)

module _ (f g : List ℕ) (len : length g ≡ length f) where
  -- a part that both files have
  take_law : (p m : ℕ) → On f g p m → p + m ≤ length f → take m (drop p g) ≡ take m (drop p f)
  take_law p m h there =
      let e : part_at g p m ≡ part_at f p m = part_law f g len p m p m h (omega arith) in
      let a : part_at g p m ≡ accepted (take m (drop p g)) = part_there g p m (omega arith) in
      let b : part_at f p m ≡ accepted (take m (drop p f)) = part_there f p m there in
      cc

  -- ---- the two pointers

  pointers_by : (b : Bool) (o : Order) (block : ℕ) → leb (block + 12 + 8) (length f) ≡ b → Agree f g (in_file f (block + 12) 8) →
      pointers o g block ≡ pointers o f block
  unfolding pointers bind
  pointers_by true o block t a =
      let h : On f g (block + 12) 8 = rw (in_file_at f (block + 12) 8 (leb-true _ _ t)) at a in
      bind_law _ (part_listed f g len (block + 12) 8 a) (λ _.
      bind_law _ (i32_law f g len o (block + 12) 8 (block + 12) h (omega arith)) (λ colors.
      bind_law _ (i32_law f g len o (block + 12) 8 (block + 16) h (omega arith)) (λ names. refl)))
  pointers_by false o block t a =
      let past : length f < block + 12 + 8 = leb-false _ _ t in
      rw (part_past f (block + 12) 8 past, part_past g (block + 12) 8 (omega arith))

  pointers_law : (o : Order) (block : ℕ) → Agree f g (in_file f (block + 12) 8) → pointers o g block ≡ pointers o f block
  pointers_law o block a = pointers_by (leb (block + 12 + 8) (length f)) o block refl a

  -- ---- colours

  color_by : (b : Bool) (place : ℕ) → leb (place + 4) (length f) ≡ b → Agree f g (color_at_ranges f place) → color_at g place ≡ color_at f place
  color_by true place t a =
      let there : place + 4 ≤ length f = leb-true _ _ t in
      let h : On f g place 3 = rw (color_listed f place there) at a in
      sym (color_parts g place (omega arith)) ∙ ap Some (take_law place 3 h (omega arith)) ∙ color_parts f place there
  color_by false place t a =
      let past : length f < place + 4 = leb-false _ _ t in
      sym (color_past g place (omega arith)) ∙ color_past f place past

  color_law : (block : ℕ) (z : ℤ) (channel : ℕ) → Agree f g (color_ranges f block z channel) → color g block z channel ≡ color f block z channel
  unfolding color color_ranges
  color_law block (pos zero) channel a = refl
  color_law block (pos (suc n)) channel a =
      color_by (leb (block + suc n + 4 * channel + 4) (length f)) (block + suc n + 4 * channel) refl a
  color_law block (negsuc n) channel a = refl

  -- ---- names

  record_law : (o : Order) (place : ℕ) → Agree f g (in_file f place 4) → name_record o g place ≡ name_record o f place
  unfolding name_record
  record_law o place a = rw (i32_listed f g len o place a) (by_length f g len (place + 4) (i32_at o f place))

  -- the record of the channel, and that its name is listed
  next_by : (r : Option (ℕ × ℕ)) (o : Order) (channel place : ℕ) → name_record o f place ≡ r → Agree f g (in_file f place 4) →
      Agree f g (record_ranges o f place (suc channel)) →
      ((next : ℕ) → Agree f g (record_ranges o f next channel) →
      (record_of o g next channel ≡ record_of o f next channel) × Agree f g (text_ranges (kept (record_of o f next channel)))) →
      (record_of o g place (suc channel) ≡ record_of o f place (suc channel)) × Agree f g (text_ranges (kept (record_of o f place (suc channel))))
  next_by None o channel place e w a next =
      let q : name_record o g place ≡ None = record_law o place w ∙ e in
      (names_end o g place channel q ∙ sym (names_end o f place channel e), rw (names_end o f place channel e) tt)
  next_by (Some r) o channel place e w a next =
      let q : name_record o g place ≡ Some r = record_law o place w ∙ e in
      let n = next (r.0 + r.1) (rw (goes_ranges o f place channel r e) at a).1 in
      (names_go o g place channel r q ∙ n.0 ∙ sym (names_go o f place channel r e), rw (names_go o f place channel r e) n.1)

  channel_record : (o : Order) (channel place : ℕ) → Agree f g (record_ranges o f place channel) →
      (record_of o g place channel ≡ record_of o f place channel) × Agree f g (text_ranges (kept (record_of o f place channel)))
  unfolding record_of record_ranges
  channel_record o zero place a = (record_law o place a.0, a.1)
  channel_record o (suc channel) place a = next_by (name_record o f place) o channel place refl a.0 a (channel_record o channel)

  -- a name that is in the file
  text_law : (r : Option (ℕ × ℕ)) → ((s n : ℕ) → r ≡ Some (s, n) → s + n ≤ length f) → Agree f g (text_ranges r) → text_in g r ≡ text_in f r
  text_law None i a = refl
  text_law (Some r) i a = ap (λ (bs : List ℕ). Some (lossy (trimmed bs))) (take_law r.0 r.1 a (i r.0 r.1 refl))

  name_law : (o : Order) (block : ℕ) (z : ℤ) (channel : ℕ) → Agree f g (name_ranges o f block z channel) → name o g block z channel ≡ name o f block z channel
  unfolding name name_span name_ranges
  name_law o block (pos zero) channel a = refl
  name_law o block (pos (suc n)) channel a =
      let w = channel_record o channel (block + suc n) a in
      rw w.0 (text_law (kept (record_of o f (block + suc n) channel)) (kept_inside o f channel (block + suc n)) w.1)
  name_law o block (negsuc n) channel a = refl

  -- ---- a channel and its lookup

  by_law : (o : Order) (block channel : ℕ) (p : Result (ℤ × ℤ)) →
      Agree f g (over p (λ p. both (color_ranges f block p.0 channel) (name_ranges o f block p.1 channel))) →
      channel_by o g block p channel ≡ channel_by o f block p channel
  unfolding over
  by_law o block channel (accepted p) a = rw (color_law block p.0 channel a.0, name_law o block p.1 channel a.1)
  by_law o block channel (refused row) a = refl

  channel_law : (o : Order) (block : Option ℕ) (channel : ℕ) → Agree f g (channel_ranges o f block channel) →
      channel_in o g block channel ≡ channel_in o f block channel
  unfolding channel_in channel_ranges
  channel_law o None channel a = refl
  channel_law o (Some block) channel a = rw (pointers_law o block a.0) (by_law o block channel (pointers o f block) a.1)

  memory_law : (o : Order) (block : Option ℕ) (channels channel : ℕ) (lent : List ℕ) → Agree f g (channel_ranges o f block channel) →
      lookup_memory o g block channels channel lent ≡ lookup_memory o f block channels channel lent
  unfolding lookup_memory
  memory_law o block channels channel lent a =
      ap (λ (c : Channel). elim (ltb channel channels) [ true ↦ filled (text_of c.name) lent | false ↦ lent ]) (channel_law o block channel a)

-- ---- every channel: what is listed of all is listed of each

module _ (f g : List ℕ) (o : Order) (block : Option ℕ) where
  one_by : (b : Bool) (channels channel : ℕ) → ltb channel channels ≡ b → channel < suc channels →
      (channel < channels → Agree f g (channel_ranges o f block channel)) → Agree f g (channel_ranges o f block channels) →
      Agree f g (channel_ranges o f block channel)
  one_by true channels channel t h before last = before (ltb-true channel channels t)
  one_by false channels channel t h before last =
      let e : channel ≡ channels = omega (arith, ltb-false channel channels t) in rw e last

  channels_law : (channels channel : ℕ) → channel < channels → Agree f g (channels_ranges o f block channels) →
      Agree f g (channel_ranges o f block channel)
  unfolding channels_ranges
  channels_law zero channel h a = absurd (omega arith)
  channels_law (suc channels) channel h a =
      one_by (ltb channel channels) channels channel refl h (λ k. channels_law channels channel k a.0) a.1

  -- the lookup of any channel, where all that there are are listed: one that isn't there is refused unread
  module _ (len : length g ≡ length f) (channels channel : ℕ) (w : Agree f g (channels_ranges o f block channels)) where
    pub lookup_listed : (room : ℕ) → lookup o g block channels channel room ≡ lookup o f block channels channel room
    unfolding lookup
    lookup_listed room =
        bind_accepting _ _ refl (accepting_need (out_of_range 0 0 channel 0) (ltb channel channels)) (λ _ t.
        rw (channel_law f g len o block channel (channels_law channels channel (ltb-true channel channels t) w)))

    memory_by : (b : Bool) (lent : List ℕ) → ltb channel channels ≡ b →
        lookup_memory o g block channels channel lent ≡ lookup_memory o f block channels channel lent
    unfolding lookup_memory
    memory_by true lent t = memory_law f g len o block channels channel lent (channels_law channels channel (ltb-true channel channels t) w)
    memory_by false lent t = rw (t, lookup_memory)

    pub memory_listed : (lent : List ℕ) → lookup_memory o g block channels channel lent ≡ lookup_memory o f block channels channel lent
    memory_listed lent = memory_by (ltb channel channels) lent refl
