-- Laws of what is given: what makes a rectangle ready to be copied, and what is left in the sample buffer. Assumes nothing.
use Prim.Native.Nat.{ℕ, suc, ◌+◌, ◌-◌, ◌*◌, ◌/◌, ◌^◌, ◌<◌, ◌≤◌}
use native.Mathlib.Nat.{add-mul, suc-mul, zero-mul, mul-zero, mul_assoc, lt_of_not-le, mul_comm, mul-le-mul_right, min-eq_left}
use native.Mathlib.Omega.{arith}
use Rattle.std.proofs.Common.{Fits, w64}
use Rattle.std.proofs.Math.Nat.{mul-div_cancel}
use mathlib.Core.Path.{◌≡◌, refl, sym, ap, subst, ◌∙◌}
use mathlib.Core.Bool.{true}
use mathlib.Core.List.{List, [], ◌∷◌, ◌++◌, reverse}
use lib.ListN.{length, get_or, drop}
use Rattle.lsm_format.specs.Answer.{accepted, refused, bind, too_short}
use Rattle.lsm_format.specs.Numbers.{Order, little, big}
use Rattle.lsm_format.specs.Open.{Description}
use Rattle.lsm_format.specs.Rectangle.{Rect, Coordinate, is_empty}
use Rattle.lsm_format.specs.Sizes.{sample_size, picture_bytes}
use Rattle.lsm_format.specs.Picture.{Strips, Samples, stored, inside, span, bytes, each_sample, to_little, window, pixel_samples, channel_strips, sample_place, stored_picture, channel_picture, samples_in, into, whole_picture, plane_from, no_strips, region_from}
use Rattle.lsm_format.proofs.Lent.{lend_room, lend_short, filled_room, filled_short}
use Rattle.lsm_format.proofs.Picture.{held, span_cong, span_shift, bytes_cong, window_cong, window_each, plane_accepted, coordinate_channel, rectangle_within, channel_room, channel_own}
use Rattle.lsm_format.proofs.Sizes.{sample_size_pos}
use Rattle.lsm_format.proofs.Region.{RegionAccepted, size_samples, accepted_by_plane, region_accepted, stored_length, empty_then, not_empty, samples_length, plane_from_then, region_from_then}
use Rattle.lsm_region.specs.Code.{Pictured}
use Rattle.lsm_region.specs.Ready.{Ready}
use Rattle.lsm_strips.specs.Strips.{strips_at}
use Rattle.lsm_strips.proofs.Pairs.{place_at, inside_at, total_at}
use Rattle.lsm_region.specs.declared.copier.Rows.{Rows}
use Rattle.lsm_region.specs.Rows.{stored_in, spaced, rows_of, RowsIn}
use Rattle.lsm_region.proofs.Filling.{flip_one}

no_bytes : (l : List ℕ) → length l ≡ 0 → l ≡ []
no_bytes [] e = refl
no_bytes (b ∷ l) e = absurd (omega arith)

-- ---- copying

positive : (a b : ℕ) → 0 < a * b → (0 < a) × (0 < b)
positive a b h = (pos_left a b h, pos_left b a (rw (mul_comm b a) h))
  where
    pos_left : (a b : ℕ) → 0 < a * b → 0 < a
    pos_left a b h = lt_of_not-le (λ l. (let z : a ≡ 0 = omega arith in let e : a * b ≡ 0 = ap (λ (k : ℕ). k * b) z ∙ zero-mul b in omega arith))

-- the rows of a rectangle, with m samples of a pixel, of `size` bytes each
abbrev pub rows_for : Description → Strips → Rect → ℕ → ℕ → Rows
rows_for d s r m size =
    record { row = d.dims.x * (m * size); y = r.y; h = r.h; start = r.x * (m * size) + s.sample * size; count = r.w; step = m * size }

-- the numbers of a rectangle that has samples fit the machine
pub record Fitting (d : Description) (s : Strips) (r : Rect) (m size : ℕ) : Type 0 where
  pub step : Fits w64 (m * size)
  pub before : Fits w64 (r.x * (m * size))
  pub own : Fits w64 (s.sample * size)
  pub start : Fits w64 (r.x * (m * size) + s.sample * size)

pub fitting : {d : Description} {t : List ℕ} {len : ℕ} {s : Strips} {r : Rect} {m size : ℕ}
    → Ready d t len s r → 0 < picture_bytes r.w r.h d.kind → m ≡ pixel_samples d → sample_size d.kind ≡ size → Fitting d s r m size
fitting {d} {t} {len} {s} {r} {m} {size} y h many z =
    let p = positive (r.w * r.h) (sample_size d.kind) h in
    let q = positive r.w r.h p.0 in
    let step : ℕ = m * size in
    let line : d.dims.x * step < 2 ^ 64 = rw (many, ← z) (y.line q.0 q.1) in
    let own : s.sample ≤ m = rw many (omega (arith, y.own q.0 q.1)) in
    let column : suc r.x ≤ d.dims.x = omega (arith, y.across) in
    let end : r.x * step + s.sample * size < 2 ^ 64 = omega (arith, suc-mul r.x step, mul-le-mul_right step column, mul-le-mul_right size own) in
    let one : 1 ≤ d.dims.x = omega arith in
    record {
      step = record { fits = omega (arith, mul-le-mul_right step one) };
      before = record { fits = omega arith };
      own = record { fits = omega arith };
      start = record { fits = end };
    }

-- where a sample stands, by rows, pixels and samples
place_split : (i w c m o size : ℕ) → ((i * w + c) * m + o) * size ≡ i * (w * (m * size)) + (c * (m * size) + o * size)
place_split i w c m o size = rw (add-mul, mul_assoc, add-mul, mul_assoc) (omega arith)

-- sample q of a rectangle's row i
place_in_row : (d : Description) (s : Strips) (r : Rect) (i q : ℕ)
    → sample_place d s i (r.x + q)
    ≡ i * (d.dims.x * (pixel_samples d * sample_size d.kind)) + (r.x * (pixel_samples d * sample_size d.kind) + s.sample * sample_size d.kind)
    + q * (pixel_samples d * sample_size d.kind)
place_in_row d s r i q =
    place_split i d.dims.x (r.x + q) (pixel_samples d) s.sample (sample_size d.kind)
    ∙ omega (arith, add-mul r.x q (pixel_samples d * sample_size d.kind))

-- the rows of a rectangle that has samples
pub ready_rows : {d : Description} {t : List ℕ} {len : ℕ} {s : Strips} {r : Rect} {strips : List (List ℕ)} {m size : ℕ}
    → Ready d t len s r → 0 < picture_bytes r.w r.h d.kind → m ≡ pixel_samples d → sample_size d.kind ≡ size → strips ≡ strips_at t s.first s.count
    → RowsIn size len strips (rows_for d s r m size)
ready_rows {d} {t} {len} {s} {r} y h many z these =
    let b : ℕ = sample_size d.kind in
    let p = positive (r.w * r.h) b h in
    let q = positive r.w r.h p.0 in
    let step : ℕ = pixel_samples d * b in
    let own = y.own q.0 q.1 in
    let one : 1 ≤ pixel_samples d = omega arith in
    let column : r.x + r.w - 1 ≡ r.x + (r.w - 1) = omega arith in
    rw (many, ← z, these)
    (record {
      some = (p.1, q.0);
      apart = omega (arith, mul-le-mul_right b one);
      across = mul-le-mul_right step (omega (arith, y.across));
      held = rw total_at (omega (arith, rw column at (y.held q.0 q.1), place_in_row d s r (r.y + r.h - 1) (r.w - 1)));
      within = rw inside_at y.within;
    })

-- ---- the samples, in either order

one_byte : (o : Order) (sample : List ℕ) → length sample ≡ 1 → sample ≡ to_little o sample
one_byte little sample e = refl
one_byte big sample e = flip_one sample e

-- what `gather` leaves of these strips, with samples of this size
module _ (d : Description) (t f : List ℕ) (s : Strips) (r : Rect) (l : List ℕ) (strips : List (List ℕ)) (m size : ℕ) (left : l ≡ rows_of size f strips (rows_for d s r m size))
    (many : m ≡ pixel_samples d) (z : sample_size d.kind ≡ size) (these : strips ≡ strips_at t s.first s.count) where
  row_gathered : (i : ℕ) → spaced (stored_in f (strips_at t s.first s.count)) (i * (d.dims.x * (pixel_samples d * sample_size d.kind)) + (r.x * (pixel_samples d * sample_size d.kind) + s.sample * sample_size d.kind))
      (pixel_samples d * sample_size d.kind) (sample_size d.kind) r.w ≡ span r.x r.w (stored_picture d t f s i)
  unfolding stored stored_picture
  row_gathered i =
      let x : r.x + 0 ≡ r.x = omega arith in
      span_cong 0 r.w _ (λ q. stored_picture d t f s i (r.x + q))
      (λ q lo hi.
      ap (λ (k : ℕ). bytes (stored_in f (strips_at t s.first s.count)) k (sample_size d.kind)) (sym (place_in_row d s r i q))
      ∙ bytes_cong (stored_in f (strips_at t s.first s.count)) (stored f t s.first s.count) (sample_place d s i (r.x + q)) (sample_size d.kind)
      (λ k lk uk. ap (λ (p : ℕ). get_or f p 0) (place_at t s.first s.count k)))
      ∙ sym (rw x at (span_shift r.x 0 r.w (stored_picture d t f s i)))

  gathered : l ≡ window (stored_picture d t f s) r
  unfolding window
  gathered = (rw (many, ← z, these) at left) ∙ span_cong r.y r.h _ _ (λ i lo hi. row_gathered i)

  -- the picture, each sample in this order
  abbrev ordered : Order → List ℕ
  ordered o = window (each_sample (to_little o) (stored_picture d t f s)) r

  pub from_little : d.order ≡ little → l ≡ window (channel_picture d t f s) r
  unfolding channel_picture each_sample
  from_little o = gathered ∙ ap ordered (sym o)

  -- a sample of one byte has no order
  pub from_one : size ≤ 1 → l ≡ window (channel_picture d t f s) r
  unfolding channel_picture each_sample
  from_one o =
      let one : sample_size d.kind ≡ 1 = omega (arith, sample_size_pos d.kind) in
      gathered
      ∙ window_cong (stored_picture d t f s) _ r (λ i j li ui lj uj. one_byte d.order _ (stored_length d t f s i j ∙ one))

  pub from_big : length l ≡ picture_bytes r.w r.h d.kind → d.order ≡ big → (out : List ℕ)
      → out ≡ span 0 (length l / size) (λ q. reverse (bytes (held l) (q * size) size)) → out ≡ window (channel_picture d t f s) r
  unfolding channel_picture
  from_big len o out turned =
      let p : 0 < size = rw z at (sample_size_pos d.kind) in
      let count : length l / size ≡ r.h * r.w = rw (len, z, size_samples) (mul-div_cancel (r.h * r.w) p) in
      turned ∙ rw (count, ← z) (ap (λ (g : List ℕ). span 0 (r.h * r.w) (λ q. reverse (bytes (held g) (q * sample_size d.kind) (sample_size d.kind)))) gathered)
      ∙ window_each reverse (stored_picture d t f s) (sample_size d.kind) r (λ i j li ui lj uj. stored_length d t f s i j)
      ∙ ap ordered (sym o)

-- ---- the sample buffer

pub pictured_short : (a : Samples) (lent : List ℕ) (size : ℕ) → length a.bytes ≡ size → size < 2 ^ 64 → length lent < size
    → Pictured (accepted a) lent lent (refused (too_short size))
unfolding into bind
pictured_short a lent size e fits h =
    let u : length lent < length a.bytes = omega arith in
    let m : size ≤ 2 ^ 64 - 1 = omega arith in
    record {
      answered = rw (lend_short (length a.bytes) (length lent) u, e, min-eq_left m);
      memory = sym (filled_short a.bytes lent u);
    }

pub pictured_read : (a : Samples) (lent : List ℕ) (size : ℕ) → length a.bytes ≡ size → size ≤ length lent
    → Pictured (accepted a) lent (a.bytes ++ drop size lent) (accepted (a.rows, a.columns, size))
unfolding into bind
pictured_read a lent size e h =
    let u : length a.bytes ≤ length lent = omega arith in
    record {
      answered = rw (lend_room (length a.bytes) (length lent) u, e);
      memory = rw (← e) (sym (filled_room a.bytes lent u));
    }

-- the samples of a rectangle, of n bytes each: no room; room; none
module _ (d : Description) (t f : List ℕ) (s : Strips) (r : Rect) (lent : List ℕ) (n : ℕ) (e : n ≡ sample_size d.kind) where
  sized : length (samples_in d t f r s).bytes ≡ r.w * r.h * n
  sized = samples_length d t f s r ∙ sym (ap (λ (k : ℕ). r.w * r.h * k) e)

  pub given_short : picture_bytes r.w r.h d.kind < 2 ^ 64 → length lent < r.w * r.h * n
      → Pictured (accepted (samples_in d t f r s)) lent lent (refused (too_short (r.w * r.h * n)))
  given_short fits h = pictured_short (samples_in d t f r s) lent (r.w * r.h * n) sized (rw e fits) h

  pub given_read : (out : List ℕ) → r.w * r.h * n ≤ length lent → out ≡ window (channel_picture d t f s) r
      → Pictured (accepted (samples_in d t f r s)) lent (out ++ drop (r.w * r.h * n) lent) (accepted (r.h, r.w, r.w * r.h * n))
  unfolding samples_in
  given_read out h q = rw q (pictured_read (samples_in d t f r s) lent (r.w * r.h * n) sized h)

  pub given_none : r.w * r.h * n ≡ 0 → Pictured (accepted (samples_in d t f r s)) lent lent (accepted (r.h, r.w, r.w * r.h * n))
  unfolding samples_in
  given_none z =
      let p = given_read [] (omega arith) (sym (no_bytes (window (channel_picture d t f s) r) (sized ∙ z))) in
      subst (λ (k : ℕ). Pictured (accepted (samples_in d t f r s)) lent (drop k lent) (accepted (r.h, r.w, r.w * r.h * n))) z p

-- ---- what the checks accept can be copied

module _ (d : Description) (t : List ℕ) (len : ℕ) (co : Coordinate) (s : Strips) where
  -- a rectangle that has samples
  ready_by : (r : Rect) → co.c < d.dims.c → r.x + r.w ≤ d.dims.x → (0 < r.w → 0 < r.h → RegionAccepted d t len co s r)
      → channel_strips d (length t) co ≡ accepted s → inside t len s.first s.count ≡ true → picture_bytes r.w r.h d.kind < 2 ^ 64 → Ready d t len s r
  ready_by r there across y channel within size =
      record {
        words = channel_room d (length t) co s channel there;
        across = across;
        size = size;
        own = λ k l. channel_own d (length t) co s channel there;
        line = λ k l. (y k l).row;
        held = λ k l. (y k l).reach;
        within = within;
      }

  pub ready_whole : accepted s ≡ plane_from d t len co → Ready d t len s (whole_picture d)
  ready_whole e =
      plane_from_then d t len co s (sym e)
      (λ u e₁ e₂.
      let p = plane_accepted d t len co s e₂ in
      let there = coordinate_channel d co u e₁ in
      ready_by (whole_picture d) there (omega arith) (λ k l. accepted_by_plane d t len co (whole_picture d) there (omega arith) (omega arith) k l s e₂) p.channel p.within
      (omega (arith, p.small)))

  -- an empty rectangle has no samples, and is read from no strips
  empty_bytes : (r : Rect) → is_empty r ≡ true → picture_bytes r.w r.h d.kind ≡ 0
  empty_bytes r e =
      let b : ℕ = sample_size d.kind in
      empty_then r e (λ z. ap (λ (k : ℕ). k * r.h * b) z ∙ ap (λ (k : ℕ). k * b) (zero-mul r.h) ∙ zero-mul b)
      (λ z. ap (λ (k : ℕ). r.w * k * b) z ∙ ap (λ (k : ℕ). k * b) (mul-zero r.w) ∙ zero-mul b)

  ready_empty : (r : Rect) → r.x + r.w ≤ d.dims.x → is_empty r ≡ true → Ready d t len no_strips r
  unfolding inside
  ready_empty r a e =
      let none : 0 < r.w → 0 < r.h → ⊥ = λ k l. empty_then r e (λ z. omega arith) (λ z. omega arith) in
      record {
        words = omega arith;
        across = a;
        size = omega (arith, empty_bytes r e);
        own = λ k l. absurd (none k l);
        line = λ k l. absurd (none k l);
        held = λ k l. absurd (none k l);
        within = refl;
      }

  pub ready_part : (r : Rect) → accepted s ≡ region_from d t len co r → Ready d t len s r
  ready_part r e =
      region_from_then d t len co r s (sym e)
      (λ u v e₁ e₂ i q. subst (λ (k : Strips). Ready d t len k r) q (ready_empty r (rectangle_within d.dims r v e₂).0 i))
      (λ u v e₁ e₂ i h.
      let w = rectangle_within d.dims r v e₂ in
      let n = not_empty r i in
      let there = coordinate_channel d co u e₁ in
      let y = region_accepted d t len co r there w.0 w.1 n.0 n.1 s h in
      ready_by r there w.0 (λ k l. y) y.channel y.within (omega (arith, y.small)))
