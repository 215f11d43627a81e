-- Demand 3, its second half: the three parts of the statement in specs/Exact.antt, proved for all descriptions, tables and files. The weight
-- lies in `exact_samples`: what region's checks tell of the strips (`RegionAccepted`) says that every sample of the rectangle is in them, and
-- there the bytes by their places are those of the joined strips. Assumes nothing.
use Prim.Native.Nat.{ℕ, zero, suc, ◌+◌, ◌-◌, ◌*◌, ◌^◌, ◌≤◌, ◌<◌, min}
use native.Mathlib.Nat.{zero-add, add-zero, suc-mul, mul-le-mul_right, not-suc-le-zero}
use native.Mathlib.Omega.{arith}
use mathlib.Core.Path.{◌≡◌, refl, sym, ap, ap₂, subst, ◌∙◌}
use mathlib.Core.Bool.{Bool, true, false, not, ◌&&◌}
use mathlib.Core.Logic.{inl, inr}
use Rattle.std.specs.Prelude.{Option, None, Some}
use mathlib.Core.List.{List, [], ◌∷◌, ◌++◌}
use lib.Dec.{leb, ltb, eqb}
use lib.ListN.{length, get_or, take, drop}
use borrow.Author.Tests.{lt-ltb, le-leb, leb-true, leb-false}
use Rattle.lsm_format.specs.Answer.{Result, accepted, refused, bind, need, given, decode, oversized_allocation, scene_out_of_range}
use Rattle.lsm_format.specs.Words.{word}
use Rattle.lsm_format.specs.Sizes.{Kind, sample_size, picture_limit, picture_bytes, picture_size, unlimited_size}
use Rattle.lsm_format.specs.Rectangle.{Dims, Rect, Coordinate, no_picture, coordinates, within, rectangle, is_empty}
use Rattle.lsm_format.specs.Scenes.{page_of}
use Rattle.lsm_format.specs.Lent.{lend}
use Rattle.lsm_format.specs.Open.{Description}
use Rattle.lsm_format.specs.Picture.{Strips, Samples, offset_of, count_of, total, stored, lies, inside, in_turn, span, bytes, to_little, each_sample, pixel_samples, has_page, strips_on, channel_strips, scene_there, coordinate_there, joined_size, plane_strips, plane_from, sample_place, stored_picture, channel_picture, samples_in, whole_picture, plane, whole_rows, window_end, row_strips, window_strips, strips_by, region_strips, filled_strips, region_from, region, into}
use Rattle.lsm_format.proofs.Lent.{lend_room, lend_short}
use Rattle.lsm_format.proofs.Scenes.{page_some}
use Rattle.lsm_format.proofs.Picture.{held, picture, bytes_add, bytes_moved, bytes_length, bytes_at_lem, bytes_run, place_in, place_past, inside_head, coordinate_channel, rectangle_within, channel_page, channel_room}
use Rattle.lsm_format.proofs.Region.{RegionAccepted, accepted_by_plane, region_accepted, samples_at, samples_length, size_samples, empty_then, plane_from_then, region_from_then, plane_then, region_then, rectangle_accepted}
use Rattle.lsm_format.proofs.Apart.{no_case}
use Rattle.lsm_overwrite.specs.Exact.{named_strips, strip_bytes, joined_strips, named_place, bytes_from, picture_sample, There, Exact, Accepted, Inside, EachRectangle, EachPlane, EveryInside}

-- ---- the joined strips

joined_head : (f t : List ℕ) (i n : ℕ) → offset_of t i + count_of t i ≤ length f
    → bytes (stored f t i (suc n)) 0 (count_of t i) ≡ take (count_of t i) (drop (offset_of t i) f)
unfolding stored
joined_head f t i n o =
    bytes_run (stored f t i (suc n)) 0 (count_of t i) f (offset_of t i) (λ b h. rw (zero-add, place_in t i (suc n) b (omega arith) h)) o

joined_rest : (f t : List ℕ) (i n : ℕ)
    → bytes (stored f t i (suc n)) (0 + count_of t i) (total t (i + 1) n) ≡ bytes (stored f t (i + 1) n) 0 (total t (i + 1) n)
unfolding stored
joined_rest f t i n =
    let z : suc n - 1 ≡ n = omega arith in
    bytes_moved _ _ _ 0 (total t (i + 1) n)
    (λ m u. rw (zero-add, zero-add) (ap (held f) (rw z at (place_past t i (suc n) m (omega arith)))))

-- the bytes by their places are the strips' bytes, joined
pub joined_is : (f t : List ℕ) (i n : ℕ) → inside t (length f) i n ≡ true → bytes (stored f t i n) 0 (total t i n) ≡ strip_bytes f t i n
unfolding strip_bytes total bytes span
joined_is f t i zero w = refl
joined_is f t i (suc n) w =
    let z : suc n - 1 ≡ n = omega arith in
    let h = inside_head t (length f) i (suc n) (omega arith) w in
    bytes_add (stored f t i (suc n)) 0 (count_of t i) (total t (i + 1) n)
    ∙ ap₂ (λ (a b : List ℕ). a ++ b) (joined_head f t i n h.0) (joined_rest f t i n ∙ joined_is f t (i + 1) n (rw z at h.1))

joined_length : (f t : List ℕ) (i n : ℕ) → inside t (length f) i n ≡ true → length (strip_bytes f t i n) ≡ total t i n
joined_length f t i n w = ap length (sym (joined_is f t i n w)) ∙ bytes_length (stored f t i n) 0 (total t i n)

joined_byte : (f t : List ℕ) (i n k : ℕ) → inside t (length f) i n ≡ true → k < total t i n → stored f t i n k ≡ get_or (strip_bytes f t i n) k 0
joined_byte f t i n k w h =
    ap (stored f t i n) (sym (zero-add k)) ∙ sym (bytes_at_lem (stored f t i n) 0 (total t i n) k h) ∙ ap (λ (l : List ℕ). get_or l k 0) (joined_is f t i n w)

-- bytes that are all in the strips
joined_part : (f t : List ℕ) (i n at s : ℕ) → inside t (length f) i n ≡ true → at + s ≤ total t i n
    → bytes (stored f t i n) at s ≡ take s (drop at (strip_bytes f t i n))
joined_part f t i n at s w h =
    bytes_run (stored f t i n) at s (strip_bytes f t i n) at (λ b l. joined_byte f t i n (at + b) w (omega arith)) (rw (joined_length f t i n w) h)

-- each of the strips lies in the file
inside_each : (t : List ℕ) (len n i k : ℕ) → inside t len i n ≡ true → k < n → offset_of t (i + k) + count_of t (i + k) ≤ len
inside_each t len zero i k w h = absurd (not-suc-le-zero h)
inside_each t len (suc n) i zero w h = rw add-zero (inside_head t len i (suc n) (omega arith) w).0
inside_each t len (suc n) i (suc k) w h =
    let z : suc n - 1 ≡ n = omega arith in
    let q : i + suc k ≡ i + 1 + k = omega arith in
    rw q (inside_each t len n (i + 1) k (rw z at (inside_head t len i (suc n) (omega arith) w).1) (omega arith))

-- ---- samples

-- sample i, j of an answer, by its bytes
answer_sample : (l : List ℕ) (w h s i j : ℕ) → length l ≡ h * w * s → i < h → j < w → bytes_from l ((i * w + j) * s) s ≡ picture (held l) w s i j
unfolding picture
answer_sample l w h s i j e hi hj =
    let u : suc (i * w + j) ≤ h * w = omega (arith, suc-mul i w, mul-le-mul_right w hi) in
    let v : (i * w + j) * s + s ≤ length l = omega (arith, suc-mul (i * w + j) s, mul-le-mul_right s u) in
    sym (bytes_run (held l) ((i * w + j) * s) s l ((i * w + j) * s) (λ b k. refl) v)

-- a sample of the rectangle ends where the rectangle does, or before
pub sample_end : (d : Description) (s : Strips) (r : Rect) (row column : ℕ) → row < r.y + r.h → column < r.x + r.w
    → sample_place d s row column + sample_size d.kind ≤ window_end d s r
sample_end d s r row column u v =
    let m : ℕ = pixel_samples d in
    let pixel : ℕ = row * d.dims.x + column in
    let last : ℕ = (r.y + r.h - 1) * d.dims.x + (r.x + r.w - 1) in
    let rows : row ≤ r.y + r.h - 1 = omega arith in
    let pixels : pixel ≤ last = omega (arith, mul-le-mul_right d.dims.x rows) in
    let samples : pixel * m + s.sample ≤ last * m + s.sample = omega (arith, mul-le-mul_right m pixels) in
    omega (arith, mul-le-mul_right (sample_size d.kind) samples)

-- the strips that a check handed over are those that the caller named
strips_named : (d : Description) (words : ℕ) (co : Coordinate) (s : Strips) → channel_strips d words co ≡ accepted s → s ≡ named_strips d co
strips_named d words co s e =
    channel_page d words co s e
    (λ page p there q. sym q ∙ ap (λ (k : ℕ). strips_on d k co.c) (page_some d.layout co page p).1)

-- A sample of a rectangle, of strips that are accepted for it.
module _ (d : Description) (t f : List ℕ) (co : Coordinate) (s : Strips) (r : Rect) (y : 0 < r.h → 0 < r.w → RegionAccepted d t (length f) co s r)
    (i j : ℕ) (hi : i < r.h) (hj : j < r.w) where
  named : s ≡ named_strips d co
  named = strips_named d (length t) co s (y (omega arith) (omega arith)).channel

  -- so the named strips are accepted
  named_accepted : RegionAccepted d t (length f) co (named_strips d co) r
  named_accepted = subst (λ (k : Strips). RegionAccepted d t (length f) co k r) named (y (omega arith) (omega arith))

  -- and the sample ends in them
  sample_reached : named_place d co (r.y + i) (r.x + j) + sample_size d.kind ≤ total t (named_strips d co).first (named_strips d co).count
  sample_reached = omega (arith, sample_end d (named_strips d co) r (r.y + i) (r.x + j) (omega arith) (omega arith), named_accepted.reach)

  sample_there : co.c < d.dims.c → There d t f co (r.y + i) (r.x + j)
  unfolding joined_strips
  sample_there h =
      let n = named_strips d co in
      record {
        in_table = channel_room d (length t) co n named_accepted.channel h;
        in_file = λ m l. inside_each t (length f) n.count n.first m named_accepted.within l;
        in_strips = rw (joined_length f t n.first n.count named_accepted.within) sample_reached;
      }

  sample_same : channel_picture d t f s (r.y + i) (r.x + j) ≡ picture_sample d t f co (r.y + i) (r.x + j)
  unfolding channel_picture each_sample stored_picture picture_sample joined_strips
  sample_same =
      let n = named_strips d co in
      ap (λ (k : Strips). channel_picture d t f k (r.y + i) (r.x + j)) named
      ∙ ap (to_little d.order)
      (joined_part f t n.first n.count (named_place d co (r.y + i) (r.x + j)) (sample_size d.kind) named_accepted.within sample_reached)

-- the samples of accepted strips; an empty rectangle asks nothing of them
exact_samples : (d : Description) (t f : List ℕ) (co : Coordinate) (s : Strips) (r : Rect) → co.c < d.dims.c
    → (0 < r.h → 0 < r.w → RegionAccepted d t (length f) co s r) → (a : Samples) → samples_in d t f r s ≡ a
    → Exact d t f co r a.rows a.columns a.bytes
unfolding samples_in
exact_samples d t f co s r h y a e =
    let size : length (samples_in d t f r s).bytes ≡ r.h * r.w * sample_size d.kind =
    samples_length d t f s r ∙ size_samples r.w r.h (sample_size d.kind) in
    subst (λ (b : Samples). Exact d t f co r b.rows b.columns b.bytes) e
    (record {
      high = refl;
      wide = refl;
      sample = λ i j hi hj.
          answer_sample (samples_in d t f r s).bytes r.w r.h (sample_size d.kind) i j size hi hj
          ∙ samples_at d t f s r i j hi hj
          ∙ sample_same d t f co s r y i j hi hj;
      there = λ i j hi hj. sample_there d t f co s r y i j hi hj h;
      size = size;
    })

-- ---- the statement

pub each_rectangle : EachRectangle
each_rectangle d t f co r a e =
    region_then d t f co r a e
    (λ s p w.
    region_from_then d t (length f) co r s p
    (λ u v e₁ e₂ i q.
    exact_samples d t f co s r (coordinate_channel d co u e₁) (λ h k. empty_then r i (λ z. absurd (omega arith)) (λ z. absurd (omega arith))) a w)
    (λ u v e₁ e₂ i k.
    let l = rectangle_within d.dims r v e₂ in
    let there = coordinate_channel d co u e₁ in
    exact_samples d t f co s r there (λ high wide. region_accepted d t (length f) co r there l.0 l.1 wide high s k) a w))

pub each_plane : EachPlane
each_plane d t f co a e =
    plane_then d t f co a e
    (λ s p w.
    plane_from_then d t (length f) co s p
    (λ u e₁ k.
    let there = coordinate_channel d co u e₁ in
    exact_samples d t f co s (whole_picture d) there
    (λ high wide. accepted_by_plane d t (length f) co (whole_picture d) there (omega arith) (omega arith) wide high s k) a w))

-- ---- accepted, or refused with 7 only

-- Whatever this rule refuses with has a number from 1 to 6.
abbrev pub Low : List ℕ → Type 0
Low row = (0 < get_or row 0 0) × (get_or row 0 0 < 7)

unfoldable pub Lower : {A : Type 0} → Result A → Type 0
Lower (accepted a) = Unit {0}
Lower (refused row) = Low row

pub lower_bind : {A B : Type 0} (m : Result A) (k : A → Result B) → Lower m → ((a : A) → Lower (k a)) → Lower (bind m k)
unfolding Lower bind
lower_bind (accepted a) k u h = h a
lower_bind (refused row) k u h = u

lower_need : (row : List ℕ) (b : Bool) → Low row → Lower (need row b)
unfolding Lower
lower_need row true h = tt
lower_need row false h = h

lower_given : {A : Type 0} (row : List ℕ) (o : Option A) → Low row → Lower (given row o)
unfolding Lower
lower_given row (Some a) h = tt
lower_given row None h = h

coordinate_lower : (d : Description) (co : Coordinate) → Lower (coordinate_there d co)
unfolding coordinate_there scene_there coordinates
coordinate_lower d co =
    lower_bind _ _ (lower_need (scene_out_of_range co.scene d.layout.scenes) (ltb co.scene d.layout.scenes) (omega arith))
    (λ _. lower_need (no_picture co) (ltb co.t d.dims.t && ltb co.c d.dims.c && ltb co.z d.dims.z) (omega arith))

size_lower : (w h : ℕ) (k : Kind) → Lower (picture_size w h k)
unfolding picture_size unlimited_size Lower
size_lower w h k =
    lower_bind _ _ (lower_given (oversized_allocation (2 ^ 64 - 1) picture_limit) (word (picture_bytes w h k)) (omega arith))
    (λ n. lower_bind _ _ (lower_need (oversized_allocation n picture_limit) (leb n picture_limit) (omega arith)) (λ _. tt))

joined_lower : (d : Description) (size : ℕ) → Lower (joined_size d size)
unfolding joined_size
joined_lower d size = lower_given (oversized_allocation (2 ^ 64 - 1) picture_limit) (word (pixel_samples d * size)) (omega arith)

channel_lower : (d : Description) (words : ℕ) (co : Coordinate) → Lower (channel_strips d words co)
unfolding channel_strips Lower
channel_lower d words co =
    lower_bind _ _ (lower_given (no_picture co) (page_of d.layout co) (omega arith))
    (λ page. lower_bind _ _ (lower_need (no_picture co) (has_page d words page) (omega arith)) (λ _. tt))

turn_lower : (t : List ℕ) (len i n left : ℕ) → Lower (in_turn decode decode t len i n left)
unfolding in_turn
turn_lower t len i zero left = lower_need decode (eqb left 0) (omega arith)
turn_lower t len i (suc n) left =
    lower_bind _ _ (lower_need decode (lies t len i) (omega arith))
    (λ _. lower_bind _ _ (lower_need decode (leb (count_of t i) left) (omega arith)) (λ _. turn_lower t len (i + 1) n (left - count_of t i)))

module _ (d : Description) (t : List ℕ) (len : ℕ) (co : Coordinate) where
  strips_lower : Lower (plane_strips d t len co)
  unfolding plane_strips Lower
  strips_lower =
      lower_bind _ _ (size_lower d.dims.x d.dims.y d.kind)
      (λ size.
      lower_bind _ _ (joined_lower d size)
      (λ all.
      lower_bind _ _ (channel_lower d (length t) co)
      (λ s. lower_bind _ _ (turn_lower t len s.first s.count all) (λ _. tt))))

  region_strips_lower : (r : Rect) (b : Bool) → Lower (strips_by b d t len co r)
  unfolding window_strips row_strips Lower
  region_strips_lower r true =
      lower_bind _ _ (size_lower r.w r.h d.kind)
      (λ _.
      lower_bind _ _ (channel_lower d (length t) co)
      (λ s.
      lower_bind _ _ (lower_need decode (inside t len s.first s.count) (omega arith))
      (λ _. lower_bind _ _ (lower_need decode (leb (window_end d s r) (total t s.first s.count)) (omega arith)) (λ _. tt))))
  region_strips_lower r false = strips_lower

  filled_lower : (r : Rect) (b : Bool) → Lower (filled_strips b d t len co r)
  unfolding region_strips Lower
  filled_lower r true = tt
  filled_lower r false = region_strips_lower r (not d.interleaved && whole_rows d t)

module _ (d : Description) (t f : List ℕ) (co : Coordinate) where
  pub plane_lower : Lower (plane d t f co)
  unfolding plane plane_from Lower
  plane_lower = lower_bind _ _ (lower_bind _ _ (coordinate_lower d co) (λ _. strips_lower d t (length f) co)) (λ s. tt)

  pub region_lower : (r : Rect) → Lower (region d t f co r)
  unfolding region region_from rectangle Lower
  region_lower r =
      lower_bind _ _
      (lower_bind _ _ (coordinate_lower d co)
      (λ _.
      lower_bind _ _ (lower_need decode (within r.x r.w d.dims.x && within r.y r.h d.dims.y) (omega arith))
      (λ _. filled_lower d t (length f) co r (is_empty r))))
      (λ s. tt)

-- so 7 is the buffer's
accepted_then : {C : Type 0} (m : Result Samples) (room : ℕ) → Lower m → Accepted (into m room) → ((a : Samples) → m ≡ accepted a → C) → C
unfolding into bind Lower
accepted_then (accepted a) room u e go = go a refl
accepted_then (refused row) room u (inl e) go = let p = e.1 in no_case cc
accepted_then (refused row) room u (inr e) go =
    let p = e.1 in
    let q : row ≡ 7 ∷ e.0 ∷ [] = cc in
    absurd (omega (arith, u.1, ap (λ (l : List ℕ). get_or l 0 0) q))

pub accepted_into : (m : Result Samples) (room : ℕ) (a : Samples) → m ≡ accepted a → Accepted (into m room)
unfolding into bind
accepted_into m room a e = rw e (by (leb (length a.bytes) room) refl)
  where
    by : (b : Bool) → leb (length a.bytes) room ≡ b → Accepted (bind (lend (length a.bytes) room) (λ _. accepted a))
    by true h = inl (a, rw (lend_room (length a.bytes) room (leb-true _ _ h)))
    by false h = inr (min (length a.bytes) (2 ^ 64 - 1), rw (lend_short (length a.bytes) room (leb-false _ _ h)))

inside_accepted : (d : Dims) (r : Rect) → Inside d r → rectangle d r ≡ accepted tt
unfolding rectangle
inside_accepted d r i =
    rw (lt-ltb (r.x + r.w) (2 ^ 64) i.right.0, le-leb (r.x + r.w) d.x i.right.1, lt-ltb (r.y + r.h) (2 ^ 64) i.bottom.0, le-leb (r.y + r.h) d.y i.bottom.1)

pub every_inside : EveryInside
every_inside d t f co r room room' p i =
    accepted_then (plane d t f co) room (plane_lower d t f co) p
    (λ s e. rectangle_accepted d t f co r s tt e (inside_accepted d.dims r i) (λ a k. accepted_into _ room' a k))
