-- Laws of a channel's strips, a case each: where they stand in the table, and what the whole-row test says of all of them. Assumes nothing.
use Prim.Native.Nat.{ℕ, zero, suc, ◌+◌, ◌-◌, ◌*◌, ◌/◌, ◌^◌, ◌<◌, ◌≤◌}
use native.Mathlib.Nat.{not-suc-le-zero, zero-mul, mul-zero, mul-one, suc-mul, add-mul, mul_assoc, add-zero, zero-add, mul-le-mul, mul-le-mul_right, le-div_iff_mul-le, div-lt_iff_lt-mul}
use native.Mathlib.Omega.{arith}
use mathlib.Core.Path.{◌≡◌, refl, sym, ap, ap₂, ◌∙◌}
use mathlib.Core.Bool.{Bool, true, false, not, ◌&&◌, and-false, and-true, cond}
use Rattle.std.specs.Prelude.{Option, None, Some, Result as Answered, Ok, Err}
use Rattle.std.specs.Result.{is_ok}
use Rattle.std.proofs.Common.{Fits, w64}
use mathlib.Core.List.{List, [], ◌∷◌, ◌++◌}
use lib.Dec.{eqb, ltb, leb}
use lib.ListN.{length}
use borrow.Author.Tests.{eq-eqb, ne_eqb, ltb-true, ltb-false, lt-ltb, le-ltb, le-leb, lt-leb, leb-false}
use Rattle.std.specs.List.{list_all, range_with_len}
use Rattle.std.proofs.lemmas.List.Folds.{list_all-append}
use Rattle.lsm_format.specs.Answer.{Result, accepted, refused, bind, given, decode}
use Rattle.lsm_format.specs.Code.{answer_of}
use Rattle.lsm_format.specs.declared.error.Refusal.{Refusal}
use Rattle.lsm_format.specs.Sizes.{sample_size, picture_size}
use Rattle.lsm_format.specs.Words.{word}
use Rattle.lsm_format.specs.Rectangle.{Rect, Coordinate, no_picture}
use Rattle.lsm_format.specs.Scenes.{pages, pages_expected, page_of}
use Rattle.lsm_format.specs.Open.{Description, component_planes}
use Rattle.lsm_format.specs.Picture.{Strips, strips_per_page, plane_of, own_sample, page_in, has_page, strips_on, channel_strips, row_bytes, whole_rows_of, whole_channel, whole_channels, whole_page, whole_pages, whole_rows, inside, total, window_end, plane_strips, row_strips, window_strips, strips_by, region_strips, samples_together}
use Rattle.lsm_format.proofs.Words.{word_some, word_none}
use Rattle.lsm_format.proofs.Picture.{page_there, page_missing, plane_less, given_some, channel_nowhere, channel_missing, channel_at, channel_page}
use Rattle.lsm_format.proofs.Region.{below, region_plane, whole_rows_lem}
use Rattle.lsm_format.proofs.Sizes.{sample_size_pos}
use Rattle.lsm_format.proofs.Apart.{no_case}
use Rattle.lsm_strips.specs.Parts.{Lying, past_test, start_of}
use Rattle.lsm_strips.specs.Strips.{strips_at, whole_in}
use Rattle.std.specs.Simd.{first_chunks}
use Rattle.lsm_strips.proofs.Pairs.{whole_at, parts_at}

given_none : (r : List ℕ) (o : Option ℕ) (row : List ℕ) → given r o ≡ refused row → o ≡ None
given_none r None row e = refl
given_none r (Some a) row e = no_case cc

-- ---- the first strip of a page

page_by : (strips words page : ℕ) (b : Bool) → ltb page (words / 2 / strips) ≡ b → 0 < strips → b ≡ leb (2 * ((page + 1) * strips)) words
page_by strips words page true e h =
    let l : page + 1 ≤ words / 2 / strips = omega (arith, ltb-true page (words / 2 / strips) e) in
    let m = (le-div_iff_mul-le {k = strips} {x = page + 1} {y = words / 2} h).0 l in
    let n = (le-div_iff_mul-le {k = 2} {x = (page + 1) * strips} {y = words} (omega arith)).0 m in
    sym (le-leb (2 * ((page + 1) * strips)) words (omega arith))
page_by strips words page false e h =
    let l : words / 2 / strips < page + 1 = omega (arith, ltb-false page (words / 2 / strips) e) in
    let m = (div-lt_iff_lt-mul {k = strips} {x = words / 2} {y = page + 1} h).0 l in
    let n = (div-lt_iff_lt-mul {k = 2} {x = words} {y = (page + 1) * strips} (omega arith)).0 m in
    sym (lt-leb (2 * ((page + 1) * strips)) words (omega arith))

-- tested by quotients, which don't overflow
page_test : (strips words page : ℕ) → (strips ≡ 0 → ⊥) → ltb page (words / 2 / strips) ≡ page_in strips words page
page_test strips words page h = rw (ne_eqb strips 0 h) (page_by strips words page (ltb page (words / 2 / strips)) refl (omega arith))

module _ (d : Description) (words page : ℕ) where
  start_not : has_page d words page ≡ false → start_of d words page ≡ None
  unfolding start_of
  start_not h = rw h

  -- a page's strips overflow: no table is so long
  pub start_lost : words < 2 ^ 64 → word (strips_per_page d) ≡ None → start_of d words page ≡ None
  start_lost h w = start_not (page_missing d words page (omega (arith, word_none _ w)))

  module _ (strips : ℕ) (w : word (strips_per_page d) ≡ Some strips) where
    page_is : page_in strips words page ≡ has_page d words page
    page_is = rw (word_some _ _ w).0

    pub start_empty : strips ≡ 0 → start_of d words page ≡ None
    start_empty e = start_not (sym page_is ∙ rw (eq-eqb strips 0 e))

    pub start_past : (strips ≡ 0 → ⊥) → words / 2 / strips ≤ page → start_of d words page ≡ None
    start_past n h = start_not (sym page_is ∙ sym (page_test strips words page n) ∙ le-ltb page (words / 2 / strips) h)

    pub start_there : (strips ≡ 0 → ⊥) → page < words / 2 / strips
        → (2 * (page * strips + strips) ≤ words) × (start_of d words page ≡ Some (page * strips))
    unfolding start_of
    start_there n h =
        let t : has_page d words page ≡ true = sym page_is ∙ sym (page_test strips words page n) ∙ lt-ltb page (words / 2 / strips) h in
        (rw (word_some _ _ w).0 (page_there d words page t).1, rw (t, (word_some _ _ w).0))

  start_by : (start : ℕ) (b : Bool) → has_page d words page ≡ b → cond b (Some (page * strips_per_page d)) None ≡ Some start
      → (b ≡ true) × (start ≡ page * strips_per_page d)
  start_by start true h e = (refl, cc)
  start_by start false h e = no_case cc

  -- what it tells of the page
  pub start_tells : (start : ℕ) → start_of d words page ≡ Some start
      → (has_page d words page ≡ true) × (start ≡ page * strips_per_page d) × (2 * (start + strips_per_page d) ≤ words)
  unfolding start_of
  start_tells start e =
      let b = start_by start (has_page d words page) refl e in
      (b.0, b.1, rw b.1 (page_there d words page b.0).1)

  some_by : (n m : ℕ) → (not (eqb (n * m) 0) && leb (2 * ((page + 1) * (n * m))) words) ≡ true → 0 < m
  some_by n zero h = let z : ◌≡◌ {A = Bool} false true = rw (mul-zero n) at h in no_case cc
  some_by n (suc m) h = omega arith

  pub start_some : (start : ℕ) → start_of d words page ≡ Some start → 0 < d.strips_per_channel
  start_some start e = some_by (component_planes d.interleaved d.dims.c) d.strips_per_channel (start_tells start e).0

  none_by : (b : Bool) → cond b (Some (page * strips_per_page d)) None ≡ None → b ≡ false
  none_by true e = no_case cc
  none_by false e = refl

  pub start_missing : start_of d words page ≡ None → has_page d words page ≡ false
  unfolding start_of
  start_missing e = none_by (has_page d words page) e

module _ (d : Description) (words : ℕ) (co : Coordinate) where
  pub channel_none : page_of d.layout co ≡ None → channel_strips d words co ≡ refused (no_picture co)
  channel_none e = sym (channel_nowhere d words co e)

  pub channel_gone : (page : ℕ) → page_of d.layout co ≡ Some page → start_of d words page ≡ None → channel_strips d words co ≡ refused (no_picture co)
  channel_gone page e s = sym (channel_missing d words co page e (start_missing d words page s))

  pub channel_found : (page start : ℕ) → page_of d.layout co ≡ Some page → start_of d words page ≡ Some start
      → channel_strips d words co
      ≡ accepted (record { first = start + plane_of d.interleaved co.c * d.strips_per_channel; count = d.strips_per_channel; sample = own_sample d.interleaved co.c })
  channel_found page start e s =
      let t = start_tells d words page start s in
      rw t.1 (sym (channel_at d words co page e t.0))

-- a channel's strips are in its page
pub channel_fits : (d : Description) (words start c : ℕ) → c < d.dims.c → 2 * (start + strips_per_page d) ≤ words
    → 2 * (start + plane_of d.interleaved c * d.strips_per_channel + d.strips_per_channel) ≤ words
channel_fits d words start c h l =
    let plane : ℕ = plane_of d.interleaved c in
    omega (arith, suc-mul plane d.strips_per_channel, mul-le-mul_right d.strips_per_channel (plane_less d.interleaved c d.dims.c h))

-- ---- the page asked for

module _ (d : Description) (co : Coordinate) where
  pub past_nowhere : page_of d.layout co ≡ None → past_test d co ≡ false
  unfolding past_test
  past_nowhere e = rw e

  module _ (page : ℕ) (e : page_of d.layout co ≡ Some page) where
    pub past_there : (n : ℕ) → pages_expected d.layout ≡ accepted n → past_test d co ≡ leb n page
    unfolding past_test pages_expected
    past_there n w = rw e (ap (λ (k : ℕ). leb k page) (sym (word_some _ _ (given_some decode (word (pages d.layout)) n w)).0))

    -- pages that overflow are more than any number
    pub past_over : (row : List ℕ) → pages_expected d.layout ≡ refused row → page < 2 ^ 64 → past_test d co ≡ false
    unfolding past_test pages_expected
    past_over row w h = rw e (lt-leb (pages d.layout) page (omega (arith, word_none _ (given_none decode (word (pages d.layout)) row w))))

  -- one that isn't past the test is one of its pages
  pub past_not : past_test d co ≡ false → (page : ℕ) → page_of d.layout co ≡ Some page → page < pages d.layout
  unfolding past_test
  past_not h page e = leb-false (pages d.layout) page (rw e at h)

-- ---- whole rows

range_more : (a n : ℕ) → range_with_len a (suc n) ≡ range_with_len a n ++ (a + n) ∷ []
range_more a zero = ap (λ (k : ℕ). k ∷ []) (sym (add-zero a))
range_more a (suc n) =
    let e : a + 1 + n ≡ a + suc n = omega arith in
    ap (λ (l : List ℕ). a ∷ l) (range_more (a + 1) n ∙ ap (λ (k : ℕ). range_with_len (a + 1) n ++ k ∷ []) e)

-- a test of all numbers below m
module _ (all one : ℕ → Bool) (step : (m : ℕ) → all (suc m) ≡ (all m && one m)) where
  all_hold : all 0 ≡ true → (m : ℕ) → ((k : ℕ) → k < m → one k ≡ true) → all m ≡ true
  all_hold z zero h = z
  all_hold z (suc m) h = step m ∙ ap₂ (λ (a b : Bool). a && b) (all_hold z m (λ k l. h k (omega arith))) (h m (omega arith))

  one_fails : (k m : ℕ) → k < m → one k ≡ false → all m ≡ false
  one_fails k zero l h = absurd (not-suc-le-zero l)
  one_fails k (suc m) l h =
      step m ∙ below k m l (λ u. ap (λ (b : Bool). b && one m) (one_fails k m u h))
      (λ e. ap (λ (b : Bool). all m && b) (ap one (sym e) ∙ h) ∙ and-false (all m))

  all_listed : all 0 ≡ true → (m : ℕ) → list_all one (range_with_len 0 m) ≡ all m
  all_listed z zero = sym z
  all_listed z (suc m) =
      ap (list_all one) (range_more 0 m) ∙ list_all-append one (range_with_len 0 m) ((0 + m) ∷ [])
      ∙ rw (zero-add, and-true, all_listed z m) (sym (step m))

-- a page that the table lacks
pub whole_lost : (d : Description) (t : List ℕ) (page : ℕ) → start_of d (length t) page ≡ None → whole_page d t page ≡ false
whole_lost d t page e = ap (λ (b : Bool). b && whole_channels d t page d.dims.c) (start_missing d (length t) page e)

-- the channels of a page that the table has, with strips of their own
module _ (d : Description) (t : List ℕ) (page row : ℕ) (planar : d.interleaved ≡ false) (w : row ≡ row_bytes d) where
  channel_is : (k : ℕ)
      → whole_in row (strips_at t (page * strips_per_page d + k * d.strips_per_channel) d.strips_per_channel) d.dims.y ≡ whole_channel d t (strips_on d page k)
  unfolding whole_channel
  channel_is k =
      whole_at row t (page * strips_per_page d + k * d.strips_per_channel) d.strips_per_channel d.dims.y
      ∙ rw w (ap (λ (b : Bool). whole_rows_of (row_bytes d) t (page * strips_per_page d + plane_of b k * d.strips_per_channel) d.strips_per_channel d.dims.y) (sym planar))

  channels_listed : (m : ℕ) → list_all (λ k. whole_channel d t (strips_on d page k)) (range_with_len 0 m) ≡ whole_channels d t page m
  unfolding whole_channels
  channels_listed m = all_listed (whole_channels d t page) (λ k. whole_channel d t (strips_on d page k)) (λ k. refl) refl m

  pub page_whole : (start : ℕ) → start_of d (length t) page ≡ Some start
      → list_all (λ strips. whole_in row strips d.dims.y) (first_chunks d.strips_per_channel d.dims.c (strips_at t start (d.dims.c * d.strips_per_channel))) ≡ whole_page d t page
  page_whole start s =
      let u = start_tells d (length t) page start s in
      let z : start ≡ page * strips_per_page d + 0 * d.strips_per_channel = u.1 ∙ omega (arith, zero-mul d.strips_per_channel) in
      rw (z, u.0)
      (parts_at (λ strips. whole_in row strips d.dims.y) t (page * strips_per_page d) d.strips_per_channel 0 d.dims.c
      ∙ ap (λ test. list_all test (range_with_len 0 d.dims.c)) (λ i k. channel_is k i) ∙ channels_listed d.dims.c)

pub pages_listed : (d : Description) (t : List ℕ) (m : ℕ) → list_all (whole_page d t) (range_with_len 0 m) ≡ whole_pages d t m
unfolding whole_pages
pages_listed d t m = all_listed (whole_pages d t) (whole_page d t) (λ k. refl) refl m

-- the test over all pages: a row that overflows; one of no bytes; pages that overflow; by the pages
module _ (d : Description) (t : List ℕ) where
  pub whole_wide : word (row_bytes d) ≡ None → whole_rows d t ≡ false
  unfolding whole_rows
  whole_wide e =
      ap (λ (b : Bool). not (eqb (row_bytes d) 0) && (b && (ltb (pages d.layout) (2 ^ 64) && whole_pages d t (pages d.layout))))
      (le-ltb (row_bytes d) (2 ^ 64) (word_none _ e))
      ∙ and-false (not (eqb (row_bytes d) 0))

  module _ (row : ℕ) (w : word (row_bytes d) ≡ Some row) where
    pub whole_empty : row ≡ 0 → whole_rows d t ≡ false
    unfolding whole_rows
    whole_empty e = rw (eq-eqb (row_bytes d) 0 (sym (word_some _ _ w).0 ∙ e))

    row_there : (row ≡ 0 → ⊥) → whole_rows d t ≡ (ltb (pages d.layout) (2 ^ 64) && whole_pages d t (pages d.layout))
    unfolding whole_rows
    row_there h = rw (ne_eqb (row_bytes d) 0 (λ z. h ((word_some _ _ w).0 ∙ z)), lt-ltb (row_bytes d) (2 ^ 64) (word_some _ _ w).1)

    pub whole_many : (row ≡ 0 → ⊥) → (refusal : List ℕ) → pages_expected d.layout ≡ refused refusal → whole_rows d t ≡ false
    unfolding pages_expected
    whole_many h refusal e = row_there h ∙ rw (le-ltb (pages d.layout) (2 ^ 64) (word_none _ (given_none decode (word (pages d.layout)) refusal e)))

    pub whole_by : (row ≡ 0 → ⊥) → (n : ℕ) → pages_expected d.layout ≡ accepted n → whole_rows d t ≡ whole_pages d t n
    unfolding pages_expected
    whole_by h n e =
        let p = word_some _ _ (given_some decode (word (pages d.layout)) n e) in
        row_there h ∙ rw (lt-ltb (pages d.layout) (2 ^ 64) p.1, p.0)

-- ---- region's checks by plane's, or by the whole-row test

-- where the last byte of a rectangle stands in strips of a channel's own
abbrev pub last_byte : Description → Rect → ℕ
last_byte d r = (r.y + r.h - 1) * (d.dims.x * sample_size d.kind) + ((r.x + r.w) * sample_size d.kind - 1)

-- a size that is answered is that of a picture which isn't oversized
sized : (a : Answered ℕ Refusal) (m : Result ℕ) → answer_of a ≡ m → is_ok a ≡ true → (n : ℕ) × (m ≡ accepted n)
sized (Ok n) m e h = (n, sym e)
sized (Err r) m e h = no_case cc

module _ (d : Description) (t : List ℕ) (len : ℕ) (co : Coordinate) (r : Rect) where
  pub region_by_plane : (a : Answered ℕ Refusal) → answer_of a ≡ picture_size d.dims.x d.dims.y d.kind → is_ok a ≡ true → past_test d co ≡ false
      → Lying d r → co.c < d.dims.c → region_strips d t len co r ≡ plane_strips d t len co
  region_by_plane a e h p l k =
      let s = sized a (picture_size d.dims.x d.dims.y d.kind) e h in
      region_plane d t len co r k l.across l.down l.columns l.rows s.0 s.1 (past_not d co p)

  pub region_interleaved : d.interleaved ≡ true → region_strips d t len co r ≡ plane_strips d t len co
  unfolding region_strips
  region_interleaved e = rw e

  pub region_broken : whole_rows d t ≡ false → region_strips d t len co r ≡ plane_strips d t len co
  unfolding region_strips
  region_broken e = ap (λ (b : Bool). strips_by b d t len co r) (ap (λ (b : Bool). not d.interleaved && b) e ∙ and-false (not d.interleaved))

  pub region_whole : d.interleaved ≡ false → whole_rows d t ≡ true → region_strips d t len co r ≡ window_strips d t len co r
  unfolding region_strips
  region_whole p e = ap (λ (b : Bool). strips_by b d t len co r) (ap₂ {C = Bool} (λ (a b : Bool). not a && b) p e)

  -- where a rectangle ends in strips of the channel's own
  pub planar_end : (s : Strips) → d.interleaved ≡ false → channel_strips d (length t) co ≡ accepted s → 0 < r.w
      → window_end d s r ≡ (r.y + r.h - 1) * (d.dims.x * sample_size d.kind) + (r.x + r.w) * sample_size d.kind
  planar_end s p h w =
      channel_page d (length t) co s h
      (λ page e there q.
      let last : ℕ = r.y + r.h - 1 in
      let size : ℕ = sample_size d.kind in
      let column : ℕ = r.x + r.w - 1 in
      let own : s.sample ≡ 0 = ap (λ (k : Strips). k.sample) (sym q) ∙ ap (λ (b : Bool). own_sample b co.c) p in
      let one : samples_together d.interleaved d.dims.c ≡ 1 = ap (λ (b : Bool). samples_together b d.dims.c) p in
      let next : r.x + r.w ≡ suc column = omega arith in
      let part : (r.x + r.w) * size ≡ column * size + size = ap (λ (k : ℕ). k * size) next ∙ suc-mul column size in
      ap₂ {C = ℕ} (λ (m o : ℕ). ((last * d.dims.x + column) * m + o) * size + size) one own
      ∙ rw (mul-one, add-zero, add-mul, mul_assoc) (omega (arith, part)))

  -- where the whole-row test says yes: the strips lie in the file, and reach to the rectangle's end, or not
  module _ (n : ℕ) (s : Strips) (planar : d.interleaved ≡ false) (some : 0 < r.w) (e : picture_size r.w r.h d.kind ≡ accepted n) (h : channel_strips d (length t) co ≡ accepted s) where
    pub window_reached : inside t len s.first s.count ≡ true → last_byte d r < total t s.first s.count → accepted s ≡ window_strips d t len co r
    unfolding window_strips row_strips bind
    window_reached i l = rw (e, h, i, le-leb (window_end d s r) (total t s.first s.count) (omega (arith, planar_end s planar h some)))

    pub window_short : inside t len s.first s.count ≡ true → total t s.first s.count ≤ last_byte d r → refused decode ≡ window_strips d t len co r
    unfolding window_strips row_strips bind
    window_short i l =
        let columns : 1 ≤ r.x + r.w = omega arith in
        let one : 1 * 1 ≤ (r.x + r.w) * sample_size d.kind = mul-le-mul columns (sample_size_pos d.kind) in
        rw (e, h, i, lt-leb (window_end d s r) (total t s.first s.count) (omega (arith, planar_end s planar h some, one)))

    pub window_outside : inside t len s.first s.count ≡ false → refused decode ≡ window_strips d t len co r
    unfolding window_strips row_strips bind
    window_outside i = rw (e, h, i)

-- the numbers of a rectangle where the whole-row test says yes
pub record Reckoned (d : Description) (r : Rect) : Type 0 where
  pub some : 0 < row_bytes d
  pub row : row_bytes d < 2 ^ 64
  pub part : (r.x + r.w) * sample_size d.kind < 2 ^ 64
  pub one : 0 < (r.x + r.w) * sample_size d.kind

pub reckoned : (d : Description) (t : List ℕ) (r : Rect) → whole_rows d t ≡ true → Lying d r → Reckoned d r
reckoned d t r w l =
    let h = whole_rows_lem d t w in
    let n : 1 ≤ r.x + r.w = omega (arith, l.columns) in
    let m : 1 * 1 ≤ (r.x + r.w) * sample_size d.kind = mul-le-mul n (sample_size_pos d.kind) in
    record {
      some = h.some;
      row = h.fits;
      part = omega (arith, h.fits, mul-le-mul_right (sample_size d.kind) l.across);
      one = omega arith;
    }

module _ (d : Description) (t : List ℕ) (r : Rect) (w : whole_rows d t ≡ true) (l : Lying d r) (size : ℕ) (z : size ≡ sample_size d.kind) where
  pub part_fits : Fits w64 ((r.x + r.w) * size)
  part_fits = record { fits = rw z (reckoned d t r w l).part }

  pub row_fits : Fits w64 (d.dims.x * size)
  row_fits = record { fits = rw z (reckoned d t r w l).row }
