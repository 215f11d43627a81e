-- Two files of one length, and one table with anything after it: plane and region answer the same where the files agree on the strips,
-- and region also where they agree only on the places of the rectangle's samples. Assumes nothing.
use Prim.Native.Nat.{ℕ, zero, suc, ◌+◌, ◌-◌, ◌*◌, ◌≤◌, ◌<◌}
use native.Mathlib.Nat.{suc-add, not-suc-le-zero}
use native.Mathlib.Omega.{arith}
use mathlib.Core.Bool.{Bool, true, false}
use mathlib.Core.Path.{◌≡◌, refl, ap, ap₂}
use mathlib.Core.List.{List, [], ◌∷◌, ◌++◌}
use lib.Dec.{leb, ltb}
use lib.ListN.{length, get_or-eq_default}
use borrow.Author.Tests.{leb-true, ltb-true, ltb-false}
use Rattle.lsm_format.specs.Answer.{accepted}
use Rattle.lsm_format.specs.Ranges.{Ranges, On, Agree}
use Rattle.lsm_format.specs.Rectangle.{Rect, Coordinate}
use Rattle.lsm_format.specs.Open.{Description}
use Rattle.lsm_format.specs.Picture.{Strips, offset_of, count_of, total, place, stored, inside, span, bytes, to_little, each_sample, window, stored_picture, channel_picture, samples_in, whole_picture, plane, window_end, region_from, region}
use Rattle.lsm_format.specs.Listed.{strips_ranges, span_ranges, sample_ranges, window_ranges, region_ranges}
use Rattle.lsm_format.proofs.Accepting.{accepting_self, both_hold}
use Rattle.lsm_format.proofs.Open.{double}
use Rattle.lsm_format.proofs.Opened.{Fits}
use Rattle.lsm_format.proofs.Picture.{place_in}
use Rattle.lsm_overwrite.proofs.TwoFiles.{bind_told, over_told, over_accepting, in_file_at}
use Rattle.lsm_overwrite.proofs.Exact.{sample_end}
use Rattle.lsm_overwrite.proofs.Table.{place_later, Has, place_own, plane_from_own, region_from_own, plane_within, region_within}

module _ (f g : List ℕ) where
  -- ---- what stands at places one after another

  span_law : (a n : ℕ) (s s' : ℕ → List ℕ) (r : ℕ → Ranges) → ((k : ℕ) → Agree f g (r k) → s' k ≡ s k) → Agree f g (span_ranges a n r) →
      span a n s' ≡ span a n s
  unfolding span span_ranges
  span_law a zero s s' r h w = refl
  span_law a (suc n) s s' r h w = ap₂ {C = List ℕ} ◌++◌ (h a w.0) (span_law (suc a) n s s' r h w.1)

  span_all : (a n : ℕ) (r : ℕ → Ranges) → ((k : ℕ) → a ≤ k → k < a + n → Agree f g (r k)) → Agree f g (span_ranges a n r)
  unfolding span_ranges
  span_all a zero r h = tt
  span_all a (suc n) r h = (h a (omega arith) (omega arith), span_all (suc a) n r (λ k l u. h k (omega arith) (omega arith)))

  -- the samples of a rectangle, by their places
  samples_law : (d : Description) (table rest : List ℕ) (r : Rect) (s : Strips) → Has table rest s.first s.count →
      Agree f g (window_ranges d table r s) → samples_in d (table ++ rest) g r s ≡ samples_in d table f r s
  unfolding samples_in window window_ranges sample_ranges channel_picture each_sample stored_picture bytes stored
  samples_law d table rest r s h w =
      ap (λ (bs : List ℕ). record { rows = r.h; columns = r.w; bytes = bs })
      (span_law _ _ _ _ _ (λ row.
      span_law _ _ _ _ _ (λ column u.
      ap (to_little d.order)
      (span_law _ _ _ _ _ (λ k on.
      ap (λ (b : ℕ). b ∷ []) (rw (place_own table rest s.count s.first k h) (on _ (omega arith)))) u))) w)

  -- ---- what is listed of all strips is listed of each place in those of a channel

  strip_law : (table : List ℕ) (i : ℕ) → Agree f g (strips_ranges f table) → offset_of table i + count_of table i ≤ length f →
      On f g (offset_of table i) (count_of table i)
  unfolding strips_ranges
  strip_law [] i w h = λ p q. absurd (omega arith)
  strip_law (offset ∷ []) i w h = λ p q. absurd (omega (arith, get_or-eq_default (offset ∷ []) 0 {n = 2 * i + 1} (omega arith)))
  strip_law (offset ∷ count ∷ words) zero w h = rw (in_file_at f offset count h) at w.0
  strip_law (offset ∷ count ∷ words) (suc i) w h = rw (double i, suc-add, suc-add) (strip_law words i w.1 (rw (double i, suc-add, suc-add) at h))

  module _ (table : List ℕ) (strips : Agree f g (strips_ranges f table)) where
    place_by_lem : (b : Bool) (n i k : ℕ) → ltb k (count_of table i) ≡ b → leb (offset_of table i + count_of table i) (length f) ≡ true →
        (count_of table i ≤ k → On f g (place table (i + 1) n (k - count_of table i)) 1) → On f g (place table i (suc n) k) 1
    place_by_lem true n i k u l later =
        rw (place_in table i (suc n) k (omega arith) (ltb-true _ _ u)) (λ p q. strip_law table i strips (leb-true _ _ l) p (omega (arith, ltb-true k (count_of table i) u)))
    place_by_lem false n i k u l later =
        let h : count_of table i ≤ k = ltb-false _ _ u in
        rw (place_later table i n k h) (later h)

    -- a byte of the joined strips
    place_law : (n i k : ℕ) → inside table (length f) i n ≡ true → k < total table i n → On f g (place table i n k) 1
    unfolding place inside total
    place_law zero i k t u = absurd (not-suc-le-zero u)
    place_law (suc n) i k t u =
        let h = both_hold (leb (offset_of table i + count_of table i) (length f)) (inside table (length f) (i + 1) n) t in
        place_by_lem (ltb k (count_of table i)) n i k refl h.0 (λ l. place_law n (i + 1) (k - count_of table i) h.1 (omega arith))

    -- those of a rectangle, where the strips hold its samples
    window_all : (d : Description) (r : Rect) (s : Strips) → inside table (length f) s.first s.count ≡ true →
        (0 < r.w → 0 < r.h → window_end d s r ≤ total table s.first s.count) → Agree f g (window_ranges d table r s)
    unfolding window_ranges sample_ranges
    window_all d r s t reach =
        span_all _ _ _ (λ row a u. span_all _ _ _ (λ column b v. span_all _ _ _ (λ k _ l.
        place_law s.count s.first k t (omega (arith, sample_end d s r row column u v, reach (omega arith) (omega arith))))))

  -- ---- plane and region

  module _ (len : length g ≡ length f) (d : Description) (table rest : List ℕ) (fits : Fits d table) (co : Coordinate) where
    -- on the strips
    module _ (strips : Agree f g (strips_ranges f table)) where
      pub plane_law : plane d (table ++ rest) g co ≡ plane d table f co
      unfolding plane
      plane_law =
          bind_told _ (rw len (plane_from_own d table rest fits (length f) co)) (λ s e.
          let w = plane_within d table rest fits (length f) co s e in
          ap accepted (samples_law d table rest (whole_picture d) s w.has (window_all table strips d (whole_picture d) s w.in_file w.reach)))

      -- the list of a rectangle is part of the whole one
      pub region_all : (r : Rect) → Agree f g (region_ranges d table f co r)
      unfolding region_ranges
      region_all r =
          over_accepting f g _ _ _ (accepting_self (region_from d table (length f) co r)) (λ s e.
          let w = region_within d table rest fits (length f) co r s e in
          window_all table strips d r s w.in_file w.reach)

    -- on the rectangle's own places
    pub region_law : (r : Rect) → Agree f g (region_ranges d table f co r) → region d (table ++ rest) g co r ≡ region d table f co r
    unfolding region region_ranges
    region_law r w =
        over_told f g _ _ _ (rw len (region_from_own d table rest fits (length f) co r)) (accepting_self (region_from d table (length f) co r)) w
        (λ s e u. ap accepted (samples_law d table rest r s (region_within d table rest fits (length f) co r s e).has u))
