-- Laws of region: where it is decided as plane is, and that its answer is then a part of plane's. Assumes nothing.
use Prim.Native.Nat.{ℕ, zero, suc, ◌+◌, ◌-◌, ◌*◌, ◌%◌, ◌^◌, ◌<◌, ◌≤◌}
use native.Mathlib.Nat.{zero-mul, one-mul, add-mul, suc-mul, mul_comm, mul_assoc, mul-le-mul, mul-le-mul_right, div-add-mod', not-suc-le-zero}
use native.Mathlib.Omega.{arith}
use mathlib.Core.Path.{◌≡◌, refl, sym, ap, ◌∙◌}
use mathlib.Core.Bool.{Bool, true, false, not, ◌&&◌, ◌||◌}
use Rattle.std.specs.Prelude.{Some}
use mathlib.Core.List.{List}
use lib.Dec.{leb, ltb, eqb}
use lib.ListN.{length, length-reverse}
use borrow.Author.Tests.{eqb-true, eqb-false, ltb-true, leb-true, le-leb, not-true}
use Rattle.lsm_format.specs.Answer.{Result, accepted, refused, bind, need, decode}
use Rattle.lsm_format.specs.Numbers.{Order, little, big}
use Rattle.lsm_format.specs.Sizes.{Kind, sample_size, picture_limit, picture_bytes, picture_size}
use Rattle.lsm_format.specs.Rectangle.{Rect, Coordinate, rectangle, is_empty}
use Rattle.lsm_format.specs.Scenes.{pages, page_of}
use Rattle.lsm_format.specs.Open.{Description}
use Rattle.lsm_format.specs.Picture.{Strips, Samples, count_of, total, inside, stored, to_little, each_sample, pixel_samples, has_page, strips_on, channel_strips, coordinate_there, plane_strips, plane_from, sample_place, stored_picture, channel_picture, samples_in, whole_picture, plane, row_bytes, whole_strips, rows_in, whole_channel, whole_rows_of, whole_channels, whole_page, whole_pages, whole_rows, window_end, row_strips, window_strips, strips_by, region_strips, no_strips, filled_strips, region_from, region}
use Rattle.lsm_format.proofs.Picture.{held, picture, Even, bytes_length, window_length, window_at, bind_then, need_true, size_is, size_fits, joined_size_fits, coordinate_channel, rectangle_within, channel_page, channel_own, turn_total, strips_nowhere, plane_accepted}
use Rattle.lsm_format.proofs.Accepting.{both_hold}
use Rattle.lsm_format.proofs.Apart.{no_case}

-- ---- numbers of a rectangle

-- a row after the other, or a column after the other
pub size_rows : (w h s : ℕ) → w * h * s ≡ h * (w * s)
size_rows w h s = ap (λ (k : ℕ). k * s) (mul_comm w h) ∙ mul_assoc h w s

pub size_samples : (w h s : ℕ) → w * h * s ≡ h * w * s
size_samples w h s = ap (λ (k : ℕ). k * s) (mul_comm w h)

-- a rectangle is not above what it is part of
pub size_part : (w h wide high : ℕ) (k : Kind) → w ≤ wide → h ≤ high → picture_bytes w h k ≤ picture_bytes wide high k
size_part w h wide high k a b = mul-le-mul_right (sample_size k) (mul-le-mul a b)

-- ---- whole rows

whole_total : (row : ℕ) (t : List ℕ) (i n : ℕ) → whole_strips row t i n ≡ true → total t i n ≡ rows_in row t i n * row
unfolding total whole_strips rows_in
whole_total row t i zero w = rw zero-mul
whole_total row t i (suc n) w =
    let b = both_hold (eqb (count_of t i % row) 0) (whole_strips row t (i + 1) n) w in
    let m : count_of t i % row ≡ 0 = eqb-true _ _ b.0 in
    rw (whole_total row t (i + 1) n b.1, add-mul) (omega (arith, div-add-mod' (count_of t i) row, m))

-- strips of whole rows that are the picture's height hold the picture's bytes
pub whole_bytes : (d : Description) (t : List ℕ) (s : Strips) → whole_channel d t s ≡ true
    → total t s.first s.count ≡ d.dims.y * row_bytes d
unfolding whole_channel whole_rows_of
whole_bytes d t s w =
    let b = both_hold (whole_strips (row_bytes d) t s.first s.count) (eqb (rows_in (row_bytes d) t s.first s.count) d.dims.y) w in
    whole_total (row_bytes d) t s.first s.count b.0 ∙ ap (λ (k : ℕ). k * row_bytes d) (eqb-true _ _ b.1)

-- what the whole-row test tells where it says yes: rows have bytes and fit the machine, and all pages hold whole rows
pub record WholeRows (d : Description) (t : List ℕ) : Type 0 where
  pub some : 0 < row_bytes d
  pub fits : row_bytes d < 2 ^ 64
  pub all : whole_pages d t (pages d.layout) ≡ true

pub whole_rows_lem : (d : Description) (t : List ℕ) → whole_rows d t ≡ true → WholeRows d t
unfolding whole_rows
whole_rows_lem d t e =
    let all = whole_pages d t (pages d.layout) in
    let few = ltb (pages d.layout) (2 ^ 64) in
    let a = both_hold (not (eqb (row_bytes d) 0)) (ltb (row_bytes d) (2 ^ 64) && (few && all)) e in
    let b = both_hold (ltb (row_bytes d) (2 ^ 64)) (few && all) a.1 in
    let n = eqb-false (row_bytes d) 0 (not-true _ a.0) in
    record { some = omega arith; fits = ltb-true _ _ b.0; all = (both_hold few all b.1).1 }

-- the last of the numbers below suc m, or one before it
pub below : {C : Type 0} (k m : ℕ) → k < suc m → (k < m → C) → (k ≡ m → C) → C
below {C} k m l before last = by (eqb k m) refl
  where
    by : (b : Bool) → eqb k m ≡ b → C
    by true e = last (eqb-true k m e)
    by false e = let n = eqb-false k m e in before (omega arith)

-- a test of all numbers below m tells of each of them
all_tell : (all one : ℕ → Bool) → ((m : ℕ) → all (suc m) ≡ (all m && one m)) → (k m : ℕ) → k < m → all m ≡ true → one k ≡ true
all_tell all one step k zero l h = absurd (not-suc-le-zero l)
all_tell all one step k (suc m) l h =
    let b = both_hold (all m) (one m) (sym (step m) ∙ h) in
    below k m l (λ u. all_tell all one step k m u b.0) (λ e. ap one e ∙ b.1)

-- where the test says yes, each channel of each of its pages holds the picture's rows
whole_tested : (d : Description) (t : List ℕ) (page c : ℕ) → whole_rows d t ≡ true → page < pages d.layout → c < d.dims.c
    → whole_channel d t (strips_on d page c) ≡ true
unfolding whole_pages whole_channels
whole_tested d t page c e l h =
    let one = all_tell (whole_pages d t) (whole_page d t) (λ k. refl) page (pages d.layout) l (whole_rows_lem d t e).all in
    let channels = (both_hold (has_page d (length t) page) (whole_channels d t page d.dims.c) one).1 in
    all_tell (whole_channels d t page) (λ k. whole_channel d t (strips_on d page k)) (λ k. refl) c d.dims.c h channels

-- a sample of the picture ends where the strips do that make it, or before
sample_inside : (d : Description) (s : Strips) (row column : ℕ) → row < d.dims.y → column < d.dims.x → s.sample < pixel_samples d
    → sample_place d s row column + sample_size d.kind ≤ pixel_samples d * picture_bytes d.dims.x d.dims.y d.kind
sample_inside d s row column a b c =
    let m : ℕ = pixel_samples d in
    let size : ℕ = sample_size d.kind in
    let pixel : ℕ = row * d.dims.x + column in
    let pixels : suc pixel ≤ d.dims.y * d.dims.x = omega (arith, suc-mul row d.dims.x, mul-le-mul_right d.dims.x a) in
    let samples : suc (pixel * m + s.sample) ≤ d.dims.y * d.dims.x * m = omega (arith, suc-mul pixel m, mul-le-mul_right m pixels) in
    let all : d.dims.y * d.dims.x * m * size ≡ m * (d.dims.x * d.dims.y * size) =
    rw (mul_comm d.dims.y d.dims.x, mul_comm (d.dims.x * d.dims.y) m, mul_assoc) in
    omega (arith, suc-mul (pixel * m + s.sample) size, mul-le-mul_right size samples, all)

-- and so does a rectangle in the picture
pub end_inside : (d : Description) (s : Strips) (r : Rect) → r.x + r.w ≤ d.dims.x → r.y + r.h ≤ d.dims.y → 0 < r.w → 0 < r.h
    → s.sample < pixel_samples d → window_end d s r ≤ pixel_samples d * picture_bytes d.dims.x d.dims.y d.kind
end_inside d s r a b w h c = sample_inside d s (r.y + r.h - 1) (r.x + r.w - 1) (omega arith) (omega arith) c

-- a row of the picture has no more bytes than all of them
line_inside : (d : Description) → 0 < d.dims.y
    → d.dims.x * (pixel_samples d * sample_size d.kind) ≤ pixel_samples d * picture_bytes d.dims.x d.dims.y d.kind
line_inside d h =
    let m : ℕ = pixel_samples d in
    let size : ℕ = sample_size d.kind in
    let line : ℕ = d.dims.x * (m * size) in
    let one : 1 ≤ d.dims.y = h in
    let all : d.dims.y * line ≡ m * (d.dims.x * d.dims.y * size) =
    rw (← mul_assoc, mul_comm d.dims.y d.dims.x, ← mul_assoc, mul_comm (d.dims.x * d.dims.y) m, mul_assoc) in
    omega (arith, mul-le-mul_right line one, all)

-- a channel with strips of its own has one sample of a pixel there
planar_one : (d : Description) → d.interleaved ≡ false → pixel_samples d ≡ 1
planar_one d e = rw e

-- whole rows decide where the test says yes of a planar picture
by_rows : (d : Description) (t : List ℕ) → (not d.interleaved && whole_rows d t) ≡ true → (d.interleaved ≡ false) × (whole_rows d t ≡ true)
by_rows d t e = let b = both_hold (not d.interleaved) (whole_rows d t) e in (not-true d.interleaved b.0, b.1)

-- ---- region's strips

-- what region's checks tell of the strips that they accept
pub record RegionAccepted (d : Description) (t : List ℕ) (len : ℕ) (co : Coordinate) (s : Strips) (r : Rect) : Type 0 where
  pub channel : channel_strips d (length t) co ≡ accepted s
  pub within : inside t len s.first s.count ≡ true
  pub reach : window_end d s r ≤ total t s.first s.count
  pub small : picture_bytes r.w r.h d.kind ≤ picture_limit
  pub row : d.dims.x * (pixel_samples d * sample_size d.kind) < 2 ^ 64

-- A rectangle that has samples, in the picture of a channel that there is.
module _ (d : Description) (t : List ℕ) (len : ℕ) (co : Coordinate) (r : Rect) (there : co.c < d.dims.c) (wide : r.x + r.w ≤ d.dims.x) (high : r.y + r.h ≤ d.dims.y)
    (columns : 0 < r.w) (rows : 0 < r.h) where
  -- by plane's checks
  pub accepted_by_plane : (s : Strips) → plane_strips d t len co ≡ accepted s → RegionAccepted d t len co s r
  accepted_by_plane s e =
      let p = plane_accepted d t len co s e in
      let own = channel_own d (length t) co s p.channel there in
      record {
        channel = p.channel;
        within = p.within;
        reach = omega (arith, end_inside d s r wide high columns rows own, p.summed);
        small = omega (arith, size_part r.w r.h d.dims.x d.dims.y d.kind (omega arith) (omega arith), p.small);
        row = omega (arith, line_inside d (omega arith), p.fits);
      }

  -- where all strips hold whole rows
  accepted_by_rows : (s : Strips) → d.interleaved ≡ false → whole_rows d t ≡ true → window_strips d t len co r ≡ accepted s → RegionAccepted d t len co s r
  unfolding window_strips row_strips
  accepted_by_rows s planar w e =
      bind_then (picture_size r.w r.h d.kind) _ s e
      (λ n e₁ e₂.
      bind_then (channel_strips d (length t) co) _ s e₂
      (λ p e₃ e₄.
      bind_then (need decode (inside t len p.first p.count)) _ s e₄
      (λ u e₅ e₆.
      bind_then (need decode (leb (window_end d p r) (total t p.first p.count))) _ s e₆
      (λ v e₇ e₈.
      let q : p ≡ s = cc in
      let z = size_is r.w r.h d.kind n e₁ in
      record {
        channel = rw q at e₃;
        within = rw q at (need_true _ (inside t len p.first p.count) u e₅);
        reach = rw q at (leb-true (window_end d p r) (total t p.first p.count) (need_true _ (leb (window_end d p r) (total t p.first p.count)) v e₇));
        small = rw (sym z.0) z.1;
        row = rw (planar_one d planar, one-mul) (whole_rows_lem d t w).fits;
      }))))

  accepted_by : (s : Strips) (b : Bool) → (not d.interleaved && whole_rows d t) ≡ b → strips_by b d t len co r ≡ accepted s → RegionAccepted d t len co s r
  accepted_by s true w e = let b = by_rows d t w in accepted_by_rows s b.0 b.1 e
  accepted_by s false w e = accepted_by_plane s e

  pub region_accepted : (s : Strips) → region_strips d t len co r ≡ accepted s → RegionAccepted d t len co s r
  unfolding region_strips
  region_accepted s e = accepted_by s (not d.interleaved && whole_rows d t) refl e

  -- The picture isn't oversized.
  module _ (size : ℕ) (e : picture_size d.dims.x d.dims.y d.kind ≡ accepted size) where
    part_size : picture_size r.w r.h d.kind ≡ accepted (picture_bytes r.w r.h d.kind)
    part_size =
        let z = size_is d.dims.x d.dims.y d.kind size e in
        size_fits r.w r.h d.kind (omega (arith, size_part r.w r.h d.dims.x d.dims.y d.kind (omega arith) (omega arith), z.0, z.1))

    -- the strips of this many bytes make the picture
    module _ (fits : pixel_samples d * size < 2 ^ 64) where
      -- strips that make the picture hold every rectangle of it
      reaches : (s : Strips) → total t s.first s.count ≡ pixel_samples d * size → channel_strips d (length t) co ≡ accepted s
          → leb (window_end d s r) (total t s.first s.count) ≡ true
      reaches s q h =
          let z = size_is d.dims.x d.dims.y d.kind size e in
          let held : window_end d s r ≤ pixel_samples d * size = rw z.0 (end_inside d s r wide high columns rows (channel_own d (length t) co s h there)) in
          le-leb (window_end d s r) (total t s.first s.count) (omega (arith, held, q))

      -- the two ways to judge strips that make the picture
      judged_alike : (s : Strips) → total t s.first s.count ≡ pixel_samples d * size → channel_strips d (length t) co ≡ accepted s
          → window_strips d t len co r ≡ plane_strips d t len co
      unfolding window_strips row_strips plane_strips bind
      judged_alike s q h =
          rw (part_size, e, joined_size_fits d size fits, h, reaches s q h, turn_total decode decode t len s.first s.count (pixel_samples d * size) q)

    -- those of a page of the test do
    tested_made : d.interleaved ≡ false → whole_rows d t ≡ true → ((page : ℕ) → page_of d.layout co ≡ Some page → page < pages d.layout)
        → (s : Strips) → channel_strips d (length t) co ≡ accepted s → total t s.first s.count ≡ pixel_samples d * size
    tested_made planar w tested s h =
        channel_page d (length t) co s h
        (λ page p at q.
        let z = size_is d.dims.x d.dims.y d.kind size e in
        let whole : whole_channel d t s ≡ true = rw q at (whole_tested d t page co.c w (tested page p) there) in
        rw (planar_one d planar, one-mul) (whole_bytes d t s whole ∙ sym (size_rows d.dims.x d.dims.y (sample_size d.kind)) ∙ sym z.0))

    planar_fits : d.interleaved ≡ false → pixel_samples d * size < 2 ^ 64
    planar_fits planar = rw (planar_one d planar, one-mul) (omega (arith, (size_is d.dims.x d.dims.y d.kind size e).1))

    tested_by : (m : Result Strips) → channel_strips d (length t) co ≡ m → d.interleaved ≡ false → whole_rows d t ≡ true
        → ((page : ℕ) → page_of d.layout co ≡ Some page → page < pages d.layout) → window_strips d t len co r ≡ plane_strips d t len co
    unfolding window_strips row_strips bind
    tested_by (accepted s) h planar w tested = judged_alike (planar_fits planar) s (tested_made planar w tested s h) h
    tested_by (refused row) h planar w tested =
        rw (part_size, h) (strips_nowhere d t len co size (pixel_samples d * size) e (joined_size_fits d size (planar_fits planar)) row h)

    region_by_lem : (b : Bool) → (not d.interleaved && whole_rows d t) ≡ b → ((page : ℕ) → page_of d.layout co ≡ Some page → page < pages d.layout)
        → strips_by b d t len co r ≡ plane_strips d t len co
    region_by_lem true w tested = let b = by_rows d t w in tested_by (channel_strips d (length t) co) refl b.0 b.1 tested
    region_by_lem false w tested = refl

    -- a rectangle of a page of the test is decided by plane's checks
    pub region_plane : ((page : ℕ) → page_of d.layout co ≡ Some page → page < pages d.layout) → region_strips d t len co r ≡ plane_strips d t len co
    unfolding region_strips
    region_plane tested = region_by_lem (not d.interleaved && whole_rows d t) refl tested

  -- an accepted picture's rectangles are accepted, whatever its page
  inside_by : (s : Strips) (b : Bool) → plane_strips d t len co ≡ accepted s → strips_by b d t len co r ≡ accepted s
  inside_by s true e =
      let p = plane_accepted d t len co s e in
      judged_alike (picture_bytes d.dims.x d.dims.y d.kind) p.size p.fits s p.summed p.channel ∙ e
  inside_by s false e = e

  strips_inside : (s : Strips) → plane_strips d t len co ≡ accepted s → region_strips d t len co r ≡ accepted s
  unfolding region_strips
  strips_inside s e = inside_by s (not d.interleaved && whole_rows d t) e

-- ---- samples

-- every sample has the kind's bytes
pub stored_length : (d : Description) (t f : List ℕ) (s : Strips) (row column : ℕ) → length (stored_picture d t f s row column) ≡ sample_size d.kind
unfolding stored_picture
stored_length d t f s row column = bytes_length (stored f t s.first s.count) (sample_place d s row column) (sample_size d.kind)

pub channel_even : (d : Description) (t f : List ℕ) (s : Strips) (r : Rect) → Even (channel_picture d t f s) (sample_size d.kind) r
unfolding channel_picture each_sample
channel_even d t f s r i j li ui lj uj = by d.order
  where
    by : (o : Order) → length (to_little o (stored_picture d t f s i j)) ≡ sample_size d.kind
    by little = stored_length d t f s i j
    by big = length-reverse (stored_picture d t f s i j) ∙ stored_length d t f s i j

-- sample order, for all widths: looked at as a picture as wide as the rectangle, the answer is the channel's picture moved by x, y
pub samples_at : (d : Description) (t f : List ℕ) (s : Strips) (r : Rect) (i j : ℕ) → i < r.h → j < r.w
    → picture (held (samples_in d t f r s).bytes) r.w (sample_size d.kind) i j ≡ channel_picture d t f s (r.y + i) (r.x + j)
unfolding samples_in
samples_at d t f s r i j hi hj = window_at (channel_picture d t f s) (sample_size d.kind) r (channel_even d t f s r) i j hi hj

pub samples_length : (d : Description) (t f : List ℕ) (s : Strips) (r : Rect) → length (samples_in d t f r s).bytes ≡ picture_bytes r.w r.h d.kind
unfolding samples_in
samples_length d t f s r =
    window_length (channel_picture d t f s) (sample_size d.kind) r (channel_even d t f s r) ∙ sym (size_rows r.w r.h (sample_size d.kind))

-- ---- what is accepted

-- an empty rectangle has no columns or no rows
pub empty_then : {C : Type 0} (r : Rect) → is_empty r ≡ true → (r.w ≡ 0 → C) → (r.h ≡ 0 → C) → C
empty_then {C} r e narrow flat = by (eqb r.w 0) refl e
  where
    by : (b : Bool) → eqb r.w 0 ≡ b → (b || eqb r.h 0) ≡ true → C
    by true w h = narrow (eqb-true _ _ w)
    by false w h = flat (eqb-true _ _ h)

-- one that isn't empty has columns and rows
pub not_empty : (r : Rect) → is_empty r ≡ false → (0 < r.w) × (0 < r.h)
not_empty r e = by (eqb r.w 0) (eqb r.h 0) refl refl e
  where
    by : (a b : Bool) → eqb r.w 0 ≡ a → eqb r.h 0 ≡ b → (a || b) ≡ false → (0 < r.w) × (0 < r.h)
    by true b p q e = no_case cc
    by false true p q e = no_case cc
    by false false p q e = let n = eqb-false r.w 0 p in let m = eqb-false r.h 0 q in (omega arith, omega arith)

module _ (d : Description) (t : List ℕ) (len : ℕ) (co : Coordinate) where
  -- the strips that plane accepted
  pub plane_from_then : {C : Type 0} (s : Strips) → plane_from d t len co ≡ accepted s
      → ((u : Unit {0}) → coordinate_there d co ≡ accepted u → plane_strips d t len co ≡ accepted s → C) → C
  unfolding plane_from
  plane_from_then s e go = bind_then (coordinate_there d co) _ s e go

  -- those that region accepted: of a rectangle in the picture, which is empty or has strips
  module _ (r : Rect) where
    filled_then : {C : Type 0} (s : Strips) (b : Bool) → is_empty r ≡ b → filled_strips b d t len co r ≡ accepted s
        → (is_empty r ≡ true → no_strips ≡ s → C) → (is_empty r ≡ false → region_strips d t len co r ≡ accepted s → C) → C
    filled_then s true b e empty full = let q : no_strips ≡ s = cc in empty b q
    filled_then s false b e empty full = full b e

    pub region_from_then : {C : Type 0} (s : Strips) → region_from d t len co r ≡ accepted s
        → ((u v : Unit {0}) → coordinate_there d co ≡ accepted u → rectangle d.dims r ≡ accepted v → is_empty r ≡ true → no_strips ≡ s → C)
        → ((u v : Unit {0}) → coordinate_there d co ≡ accepted u → rectangle d.dims r ≡ accepted v → is_empty r ≡ false → region_strips d t len co r ≡ accepted s → C)
        → C
    unfolding region_from
    region_from_then s e empty full =
        bind_then (coordinate_there d co) _ s e
        (λ u e₁ e₂.
        bind_then (rectangle d.dims r) _ s e₂
        (λ v e₃ e₄. filled_then s (is_empty r) refl e₄ (empty u v e₁ e₃) (full u v e₁ e₃)))

    -- a rectangle inside an accepted picture is accepted
    filled_inside : {C : Type 0} (v : Unit {0}) (s : Strips) (b : Bool) → co.c < d.dims.c → is_empty r ≡ b → rectangle d.dims r ≡ accepted v
        → plane_strips d t len co ≡ accepted s → ((a : Strips) → filled_strips b d t len co r ≡ accepted a → C) → C
    filled_inside v s true there i h p go = go no_strips refl
    filled_inside v s false there i h p go =
        let w = rectangle_within d.dims r v h in
        let n = not_empty r i in
        go s (strips_inside d t len co r there w.0 w.1 n.0 n.1 s p)

    pub rectangle_from : {C : Type 0} (s : Strips) (v : Unit {0}) → plane_from d t len co ≡ accepted s → rectangle d.dims r ≡ accepted v
        → ((a : Strips) → region_from d t len co r ≡ accepted a → C) → C
    unfolding region_from bind
    rectangle_from s v e h go = plane_from_then s e (λ u k p. filled_inside v s (is_empty r) (coordinate_channel d co u k) refl h p (λ a q. go a (rw (k, h) q)))

module _ (d : Description) (t f : List ℕ) (co : Coordinate) where
  -- what plane and region gave: samples of the strips that they are read from
  pub plane_then : {C : Type 0} (a : Samples) → plane d t f co ≡ accepted a
      → ((s : Strips) → plane_from d t (length f) co ≡ accepted s → samples_in d t f (whole_picture d) s ≡ a → C) → C
  unfolding plane
  plane_then a e go =
      bind_then (plane_from d t (length f) co) _ a e
      (λ s e₁ e₂. let q : samples_in d t f (whole_picture d) s ≡ a = cc in go s e₁ q)

  module _ (r : Rect) where
    pub region_then : {C : Type 0} (a : Samples) → region d t f co r ≡ accepted a
        → ((s : Strips) → region_from d t (length f) co r ≡ accepted s → samples_in d t f r s ≡ a → C) → C
    unfolding region
    region_then a e go =
        bind_then (region_from d t (length f) co r) _ a e
        (λ s e₁ e₂. let q : samples_in d t f r s ≡ a = cc in go s e₁ q)

    pub rectangle_accepted : {C : Type 0} (a : Samples) (v : Unit {0}) → plane d t f co ≡ accepted a → rectangle d.dims r ≡ accepted v
        → ((b : Samples) → region d t f co r ≡ accepted b → C) → C
    unfolding region bind
    rectangle_accepted a v e h go =
        plane_then a e (λ s p q. rectangle_from d t (length f) co r s v p h (λ b k. go (samples_in d t f r b) (rw k)))
