-- Plane and region of an opened file look at no word past its table: whatever else the lent memory holds, and however long it is, they
-- answer as with the table alone. Assumes nothing.
use Prim.Native.Nat.{ℕ, zero, suc, ◌+◌, ◌-◌, ◌*◌, ◌^◌, ◌≤◌, ◌<◌}
use native.Mathlib.Nat.{add-mul, one-mul, suc-mul, mul-le-mul_right}
use native.Mathlib.Omega.{arith}
use mathlib.Core.Bool.{Bool, true, false, not, ◌&&◌}
use Rattle.std.specs.Prelude.{Some}
use mathlib.Core.Path.{◌≡◌, refl, sym, ap, ap₂, subst, ◌∙◌}
use mathlib.Core.List.{List, ◌++◌}
use lib.Dec.{leb, ltb, eqb}
use lib.ListN.{length, length-append, get_or-append}
use borrow.Author.Tests.{le-leb, ltb-true, ltb-false}
use Rattle.lsm_format.specs.Answer.{accepted, need, decode}
use Rattle.lsm_format.specs.Rectangle.{Rect, Coordinate, no_picture, coordinates, is_empty}
use Rattle.lsm_format.specs.Scenes.{pages, page_of}
use Rattle.lsm_format.specs.Open.{Description}
use Rattle.lsm_format.specs.Picture.{Strips, offset_of, count_of, total, place, inside, in_turn, strips_per_page, plane_of, has_page, strips_on, channel_strips, coordinate_there, plane_strips, plane_from, whole_picture, row_bytes, whole_strips, rows_in, whole_channel, whole_rows_of, whole_channels, whole_pages, whole_rows, window_end, row_strips, window_strips, strips_by, region_strips, filled_strips, region_from}
use Rattle.lsm_format.proofs.Scenes.{page_some}
use Rattle.lsm_format.proofs.Accepting.{Accepting, accepting_bind, accepting_then, accepting_need, accepting_given, accepting_map, accepting_told, both_hold}
use Rattle.lsm_format.proofs.Opened.{Fits}
use Rattle.lsm_format.proofs.Picture.{place_in, place_past, plane_less, plane_accepted, rectangle_within}
use Rattle.lsm_format.proofs.Region.{accepted_by_plane, region_accepted, empty_then, not_empty, plane_from_then, region_from_then}
use Rattle.lsm_overwrite.proofs.TwoFiles.{bind_law, bind_accepting}

-- a byte past the first of some strips
pub place_later : (t : List ℕ) (i n k : ℕ) → count_of t i ≤ k → place t i (suc n) k ≡ place t (i + 1) n (k - count_of t i)
place_later t i n k h =
    let q : count_of t i + (k - count_of t i) ≡ k = omega arith in
    let z : suc n - 1 ≡ n = omega arith in
    rw (q, z) at (place_past t i (suc n) (k - count_of t i) (omega arith))

-- ---- the strips of one channel

module _ (table rest : List ℕ) where
  -- the n strips from strip i on are in the table
  abbrev pub Has : ℕ → ℕ → Type 0
  Has i n = (i + n) * 2 ≤ length table

  offset_own : (i n : ℕ) → Has i (suc n) → offset_of (table ++ rest) i ≡ offset_of table i
  offset_own i n h = get_or-append table rest 0 (2 * i) (omega arith)

  count_own : (i n : ℕ) → Has i (suc n) → count_of (table ++ rest) i ≡ count_of table i
  count_own i n h = get_or-append table rest 0 (2 * i + 1) (omega arith)

  total_own : (n i : ℕ) → Has i n → total (table ++ rest) i n ≡ total table i n
  unfolding total
  total_own zero i h = refl
  total_own (suc n) i h = rw (count_own i n h, total_own n (i + 1) (omega arith))

  inside_own : (len n i : ℕ) → Has i n → inside (table ++ rest) len i n ≡ inside table len i n
  unfolding inside
  inside_own len zero i h = refl
  inside_own len (suc n) i h = rw (offset_own i n h, count_own i n h, inside_own len n (i + 1) (omega arith))

  turn_own : (outside miscounted : List ℕ) (len n i left : ℕ) → Has i n →
      in_turn outside miscounted (table ++ rest) len i n left ≡ in_turn outside miscounted table len i n left
  unfolding in_turn
  turn_own outside miscounted len zero i left h = refl
  turn_own outside miscounted len (suc n) i left h =
      rw (offset_own i n h, count_own i n h, turn_own outside miscounted len n (i + 1) (left - count_of table i) (omega arith))

  strips_own : (row n i : ℕ) → Has i n → whole_strips row (table ++ rest) i n ≡ whole_strips row table i n
  unfolding whole_strips
  strips_own row zero i h = refl
  strips_own row (suc n) i h = rw (count_own i n h, strips_own row n (i + 1) (omega arith))

  rows_own : (row n i : ℕ) → Has i n → rows_in row (table ++ rest) i n ≡ rows_in row table i n
  unfolding rows_in
  rows_own row zero i h = refl
  rows_own row (suc n) i h = rw (count_own i n h, rows_own row n (i + 1) (omega arith))

  place_by_lem : (b : Bool) (n i k : ℕ) → ltb k (count_of table i) ≡ b → Has i (suc n) →
      place (table ++ rest) (i + 1) n (k - count_of table i) ≡ place table (i + 1) n (k - count_of table i) →
      place (table ++ rest) i (suc n) k ≡ place table i (suc n) k
  place_by_lem true n i k t h e =
      let l : k < count_of table i = ltb-true _ _ t in
      place_in (table ++ rest) i (suc n) k (omega arith) (rw (count_own i n h) l) ∙ rw (offset_own i n h) (sym (place_in table i (suc n) k (omega arith) l))
  place_by_lem false n i k t h e =
      let l : count_of table i ≤ k = ltb-false _ _ t in
      place_later (table ++ rest) i n k (rw (count_own i n h) l) ∙ rw (count_own i n h) (e ∙ sym (place_later table i n k l))

  pub place_own : (n i k : ℕ) → Has i n → place (table ++ rest) i n k ≡ place table i n k
  unfolding place
  place_own zero i k h = refl
  place_own (suc n) i k h =
      place_by_lem (ltb k (count_of table i)) n i k refl h (place_own n (i + 1) (k - count_of table i) (omega arith))

-- ---- the pages of an opened file

module _ (d : Description) (table rest : List ℕ) (fits : Fits d table) where
  -- t, c and z are each below their dimension
  abbrev Below : Coordinate → Type 0
  Below co = (co.t < d.dims.t) × (co.c < d.dims.c) × (co.z < d.dims.z)

  -- a page of a scene, and a channel's strips of a page
  page_less : (co : Coordinate) (page : ℕ) → Below co → page_of d.layout co ≡ Some page → page < pages d.layout
  page_less co page h e =
      let l = d.layout in
      let p = page_some l co page e in
      let before = co.scene * l.t + co.t in
      let scene : suc co.scene * l.t ≤ l.scenes * l.t = mul-le-mul_right l.t p.0 in
      let point : suc before ≤ l.scenes * l.t = omega (arith, suc-mul co.scene l.t, fits.long, h.0) in
      let below : suc before * l.depth ≤ pages l = mul-le-mul_right l.depth point in
      omega (arith, suc-mul before l.depth, fits.deep, h.2, p.1)

  page_has : (page : ℕ) → page < pages d.layout → (page + 1) * strips_per_page d * 2 ≤ length table
  page_has page h =
      let below : (page + 1) * strips_per_page d ≤ pages d.layout * strips_per_page d =
      mul-le-mul_right (strips_per_page d) (omega arith) in
      omega (arith, fits.words)

  strips_has : (page c : ℕ) → page < pages d.layout → c < d.dims.c →
      Has table rest (strips_on d page c).first (strips_on d page c).count
  strips_has page c h k =
      let plane : ℕ = plane_of d.interleaved c in
      let below : suc plane * d.strips_per_channel ≤ strips_per_page d = mul-le-mul_right d.strips_per_channel (plane_less d.interleaved c d.dims.c k) in
      omega (arith, page_has page h, suc-mul plane d.strips_per_channel, add-mul page 1 (strips_per_page d), one-mul (strips_per_page d))

  has_page_own : (page : ℕ) → page < pages d.layout → has_page d (length (table ++ rest)) page ≡ has_page d (length table) page
  has_page_own page h =
      let there : 2 * ((page + 1) * strips_per_page d) ≤ length table = omega (arith, page_has page h) in
      let more : 2 * ((page + 1) * strips_per_page d) ≤ length (table ++ rest) = rw length-append (omega arith) in
      ap (λ (b : Bool). not (eqb (strips_per_page d) 0) && b) (le-leb _ _ more ∙ sym (le-leb _ _ there))

  -- ---- whole rows

  channel_own : (s : Strips) → Has table rest s.first s.count → whole_channel d (table ++ rest) s ≡ whole_channel d table s
  unfolding whole_channel whole_rows_of
  channel_own s h = rw (strips_own table rest (row_bytes d) s.count s.first h, rows_own table rest (row_bytes d) s.count s.first h)

  channels_own : (page n : ℕ) → page < pages d.layout → n ≤ d.dims.c →
      whole_channels d (table ++ rest) page n ≡ whole_channels d table page n
  unfolding whole_channels
  channels_own page zero h k = refl
  channels_own page (suc n) h k =
      ap₂ {C = Bool} ◌&&◌ (channels_own page n h (omega arith)) (channel_own (strips_on d page n) (strips_has page n h k))

  pages_own : (n : ℕ) → n ≤ pages d.layout → whole_pages d (table ++ rest) n ≡ whole_pages d table n
  unfolding whole_pages
  pages_own zero h = refl
  pages_own (suc n) h =
      ap₂ {C = Bool} ◌&&◌ (pages_own n (omega arith)) (ap₂ {C = Bool} ◌&&◌ (has_page_own n h) (channels_own n d.dims.c h (omega arith)))

  rows_alike : whole_rows d (table ++ rest) ≡ whole_rows d table
  unfolding whole_rows
  rows_alike =
      ap (λ (b : Bool). not (eqb (row_bytes d) 0) && (ltb (row_bytes d) (2 ^ 64) && (ltb (pages d.layout) (2 ^ 64) && b)))
      (pages_own (pages d.layout) (omega arith))

  -- ---- the strips that plane and region go to, at a coordinate that there is

  module _ (len : ℕ) (co : Coordinate) (below : Below co) where
    channel_strips_own : channel_strips d (length (table ++ rest)) co ≡ channel_strips d (length table) co
    unfolding channel_strips
    channel_strips_own =
        bind_accepting _ _ refl (accepting_given (no_picture co) (page_of d.layout co)) (λ page e.
        bind_law _ (ap (need (no_picture co)) (has_page_own page (page_less co page below e))) (λ _. refl))

    channel_strips_has : Accepting (λ (s : Strips). Has table rest s.first s.count) (channel_strips d (length table) co)
    unfolding channel_strips Accepting
    channel_strips_has =
        accepting_bind _ _ _ _ (accepting_given (no_picture co) (page_of d.layout co)) (λ page e.
        accepting_then _ _ _ (λ _. strips_has page co.c (page_less co page below e) below.1))

    pub plane_own : plane_strips d (table ++ rest) len co ≡ plane_strips d table len co
    unfolding plane_strips
    plane_own =
        bind_law _ refl (λ size.
        bind_law _ refl (λ all.
        bind_accepting _ _ channel_strips_own channel_strips_has (λ s h.
        bind_law _ (turn_own table rest decode decode len s.count s.first all h) (λ _. refl))))

    region_by_own : (b : Bool) (r : Rect) → strips_by b d (table ++ rest) len co r ≡ strips_by b d table len co r
    unfolding window_strips row_strips
    region_by_own true r =
        bind_law _ refl (λ _.
        bind_accepting _ _ channel_strips_own channel_strips_has (λ s h.
        bind_law _ (ap (need decode) (inside_own table rest len s.count s.first h)) (λ _.
        bind_law _ (ap (λ (n : ℕ). need decode (leb (window_end d s r) n)) (total_own table rest s.count s.first h)) (λ _. refl))))
    region_by_own false r = plane_own

    filled_own : (b : Bool) (r : Rect) → filled_strips b d (table ++ rest) len co r ≡ filled_strips b d table len co r
    unfolding region_strips
    filled_own true r = refl
    filled_own false r = rw rows_alike (region_by_own (not d.interleaved && whole_rows d table) r)

    strips_told : (s : Strips) → channel_strips d (length table) co ≡ accepted s → Has table rest s.first s.count
    strips_told s e = accepting_told _ _ s channel_strips_has e

  -- the strips that are accepted for a rectangle are in the table and in the file, and hold its samples
  pub record Within (len : ℕ) (r : Rect) (s : Strips) : Type 0 where
    pub has : Has table rest s.first s.count
    pub in_file : inside table len s.first s.count ≡ true
    pub reach : 0 < r.w → 0 < r.h → window_end d s r ≤ total table s.first s.count

  -- "t, c, z": a coordinate that is accepted is there
  coordinate_there_lem : (co : Coordinate) → Accepting (λ (u : Unit {0}). Below co) (coordinate_there d co)
  unfolding coordinate_there coordinates
  coordinate_there_lem co =
      accepting_then _ _ _ (λ _.
      accepting_map _ _ _ (λ _ e.
      let h = both_hold (ltb co.t d.dims.t && ltb co.c d.dims.c) (ltb co.z d.dims.z) e in
      let k = both_hold (ltb co.t d.dims.t) (ltb co.c d.dims.c) h.0 in
      (ltb-true _ _ k.0, ltb-true _ _ k.1, ltb-true _ _ h.1))
      (accepting_need (no_picture co) (ltb co.t d.dims.t && ltb co.c d.dims.c && ltb co.z d.dims.z)))

  module _ (len : ℕ) (co : Coordinate) where
    pub plane_from_own : plane_from d (table ++ rest) len co ≡ plane_from d table len co
    unfolding plane_from
    plane_from_own = bind_accepting _ _ refl (coordinate_there_lem co) (λ _ h. plane_own len co h)

    pub region_from_own : (r : Rect) → region_from d (table ++ rest) len co r ≡ region_from d table len co r
    unfolding region_from
    region_from_own r =
        bind_accepting _ _ refl (coordinate_there_lem co) (λ _ h. bind_law _ refl (λ _. filled_own len co h (is_empty r) r))

    pub plane_within : (s : Strips) → plane_from d table len co ≡ accepted s → Within len (whole_picture d) s
    plane_within s e =
        plane_from_then d table len co s e
        (λ u k p.
        let a = plane_accepted d table len co s p in
        let h = accepting_told _ _ u (coordinate_there_lem co) k in
        record {
          has = strips_told len co h s a.channel;
          in_file = a.within;
          reach = λ wide high. (accepted_by_plane d table len co (whole_picture d) h.1 (omega arith) (omega arith) wide high s p).reach;
        })

    pub region_within : (r : Rect) (s : Strips) → region_from d table len co r ≡ accepted s → Within len r s
    unfolding inside
    region_within r s e =
        region_from_then d table len co r s e
        (λ u v k p i q.
        subst (λ (n : Strips). Within len r n) q
        (record { has = omega arith; in_file = refl; reach = λ a b. empty_then r i (λ z. absurd (omega arith)) (λ z. absurd (omega arith)) }))
        (λ u v k p i m.
        let l = rectangle_within d.dims r v p in
        let n = not_empty r i in
        let h = accepting_told _ _ u (coordinate_there_lem co) k in
        let a = region_accepted d table len co r h.1 l.0 l.1 n.0 n.1 s m in
        record { has = strips_told len co h s a.channel; in_file = a.within; reach = λ _ _. a.reach })
