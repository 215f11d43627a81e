-- Laws of pictures in strips and of their rectangles. Assumes nothing.
use Prim.Native.Nat.{ℕ, zero, suc, ◌+◌, ◌-◌, ◌*◌, ◌^◌, ◌<◌, ◌≤◌}
use native.Mathlib.Nat.{add-zero, zero-add, add-suc, suc-add, add-mul, suc-mul, zero-mul, mul_assoc, mul-le-mul_right, add-sub_cancel_left, not-suc-le-zero}
use native.Mathlib.Numerals.{add-one}
use native.Mathlib.Omega.{arith}
use mathlib.Core.Path.{◌≡◌, refl, sym, ap, ◌∙◌}
use mathlib.Core.Bool.{Bool, true, false, not, ◌&&◌, and-false}
use Rattle.std.specs.Prelude.{Option, None, Some}
use mathlib.Core.List.{List, [], ◌∷◌, ◌++◌, append_assoc, append-nil}
use lib.Dec.{leb, ltb, eqb}
use lib.ListN.{length, get_or, take, drop, length-append, get_or-append}
use lib.Seq.{drop-cons, get_or-append-add, ext_get_or}
use borrow.Author.Tests.{eq-eqb, lt-ltb, le-ltb, le-leb, lt-leb, leb-true, leb-false, ltb-true, eqb-true, eqb-false, not-true}
use Rattle.lsm_format.specs.Answer.{Result, accepted, refused, bind, need, given, decode, oversized_allocation}
use Rattle.lsm_format.specs.Words.{word}
use Rattle.lsm_format.specs.Sizes.{Kind, picture_limit, picture_bytes, unlimited_size, picture_size}
use Rattle.lsm_format.specs.Rectangle.{Dims, Rect, Coordinate, no_picture, coordinates, within, rectangle}
use Rattle.lsm_format.specs.Scenes.{page_of}
use Rattle.lsm_format.specs.Open.{Description, component_planes}
use Rattle.lsm_format.specs.Picture.{Picture, Strips, offset_of, count_of, total, place, lies, inside, in_turn, span, bytes, each_sample, window, strips_per_page, plane_of, samples_together, own_sample, pixel_samples, has_page, strips_on, channel_strips, scene_there, coordinate_there, joined_size, plane_strips}
use Rattle.lsm_format.proofs.Words.{word_fits, word_some}
use Rattle.lsm_format.proofs.Accepting.{both_hold}
use Rattle.lsm_format.proofs.Apart.{no_case}

-- ---- parts joined

pub span_add : (a m n : ℕ) (g : ℕ → List ℕ) → span a (m + n) g ≡ span a m g ++ span (a + m) n g
unfolding span
span_add a zero n g = rw (zero-add, add-zero)
span_add a (suc m) n g = rw (suc-add, span_add (suc a) m n g, append_assoc, suc-add, add-suc)

pub span_cong : (a n : ℕ) (g g' : ℕ → List ℕ) → ((k : ℕ) → a ≤ k → k < a + n → g k ≡ g' k) → span a n g ≡ span a n g'
unfolding span
span_cong a zero g g' e = refl
span_cong a (suc n) g g' e =
    rw (e a (omega arith) (omega arith), span_cong (suc a) n g g' (λ k l u. e k (omega arith) (omega arith)))

pub span_shift : (a b n : ℕ) (g : ℕ → List ℕ) → span (a + b) n g ≡ span b n (λ k. g (a + k))
unfolding span
span_shift a b zero g = refl
span_shift a b (suc n) g = rw (← add-suc, span_shift a (suc b) n g)

pub span_snoc : (a n : ℕ) (g : ℕ → List ℕ) → span a (n + 1) g ≡ span a n g ++ g (a + n)
unfolding span
span_snoc a n g = rw (span_add a n 1 g, append-nil)

pub span_length : (a n s : ℕ) (g : ℕ → List ℕ) → ((k : ℕ) → a ≤ k → k < a + n → length (g k) ≡ s) → length (span a n g) ≡ n * s
unfolding span
span_length a zero s g e = rw zero-mul
span_length a (suc n) s g e =
    rw (length-append, e a (omega arith) (omega arith), span_length (suc a) n s g (λ k l u. e k (omega arith) (omega arith)), suc-mul)
    (omega arith)

-- byte b of part i, where every part has s bytes
pub span_at : (a n s : ℕ) (g : ℕ → List ℕ) → ((k : ℕ) → a ≤ k → k < a + n → length (g k) ≡ s)
    → (i b : ℕ) → i < n → b < s → get_or (span a n g) (i * s + b) 0 ≡ get_or (g (a + i)) b 0
unfolding span
span_at a zero s g e i b hi hb = absurd (not-suc-le-zero hi)
span_at a (suc n) s g e zero b hi hb =
    let l : length (g a) ≡ s = e a (omega arith) (omega arith) in
    let u : b < length (g a) = omega arith in
    rw (zero-mul, zero-add, add-zero, get_or-append (g a) (span (suc a) n g) 0 b)
span_at a (suc n) s g e (suc i) b hi hb =
    let l : length (g a) ≡ s = e a (omega arith) (omega arith) in
    let q : suc i * s + b ≡ length (g a) + (i * s + b) = rw suc-mul (omega arith) in
    rw (q, get_or-append-add, span_at (suc a) n s g (λ k lo u. e k (omega arith) (omega arith)) i b (omega arith) hb, suc-add, add-suc)

-- ---- bytes one after the other

pub bytes_add : (f : ℕ → ℕ) (a m n : ℕ) → bytes f a (m + n) ≡ bytes f a m ++ bytes f (a + m) n
unfolding bytes
bytes_add f a m n = span_add a m n (λ k. f k ∷ [])

pub bytes_cong : (f f' : ℕ → ℕ) (a n : ℕ) → ((k : ℕ) → a ≤ k → k < a + n → f k ≡ f' k) → bytes f a n ≡ bytes f' a n
unfolding bytes
bytes_cong f f' a n e = span_cong a n (λ k. f k ∷ []) (λ k. f' k ∷ []) (λ k l u. ap (λ x. x ∷ []) (e k l u))

pub bytes_shift : (f : ℕ → ℕ) (a b n : ℕ) → bytes f (a + b) n ≡ bytes (λ k. f (a + k)) b n
unfolding bytes
bytes_shift f a b n = span_shift a b n (λ k. f k ∷ [])

-- two runs of bytes that are alike one by one
pub bytes_moved : (f g : ℕ → ℕ) (a b n : ℕ) → ((m : ℕ) → m < n → f (a + m) ≡ g (b + m)) → bytes f a n ≡ bytes g b n
bytes_moved f g a b n e =
    ap (λ (k : ℕ). bytes f k n) (sym (add-zero a)) ∙ bytes_shift f a 0 n
    ∙ bytes_cong (λ k. f (a + k)) (λ k. g (b + k)) 0 n (λ k l u. e k (omega arith))
    ∙ sym (ap (λ (k : ℕ). bytes g k n) (sym (add-zero b)) ∙ bytes_shift g b 0 n)

pub bytes_length : (f : ℕ → ℕ) (a n : ℕ) → length (bytes f a n) ≡ n
unfolding bytes
bytes_length f a n = span_length a n 1 (λ k. f k ∷ []) (λ k l u. refl) ∙ omega arith

pub bytes_at_lem : (f : ℕ → ℕ) (a n b : ℕ) → b < n → get_or (bytes f a n) b 0 ≡ f (a + b)
unfolding bytes
bytes_at_lem f a n b h =
    let q : b ≡ b * 1 + 0 = omega arith in
    ap (λ (k : ℕ). get_or (bytes f a n) k 0) q ∙ span_at a n 1 (λ k. f k ∷ []) (λ k l u. refl) b 0 h (omega arith)

-- samples of s bytes that stand one after the other are one run of bytes
pub tile : (f : ℕ → ℕ) (o a n s : ℕ) → span a n (λ c. bytes f ((o + c) * s) s) ≡ bytes f ((o + a) * s) (n * s)
unfolding span bytes
tile f o a zero s = rw zero-mul
tile f o a (suc n) s =
    let q : (o + suc a) * s ≡ (o + a) * s + s = rw (add-suc, suc-mul) in
    let z : suc n * s ≡ s + n * s = rw suc-mul (omega arith) in
    rw (tile f o (suc a) n s, q, z) (sym (bytes_add f ((o + a) * s) s (n * s)))

-- a run of bytes that stand in a list one after the other
pub bytes_run : (f : ℕ → ℕ) (a n : ℕ) (l : List ℕ) (q : ℕ) → ((b : ℕ) → b < n → f (a + b) ≡ get_or l (q + b) 0) → q + n ≤ length l
    → bytes f a n ≡ take n (drop q l)
unfolding bytes span
bytes_run f a zero l q e h = refl
bytes_run f a (suc n) l q e h =
    let u : q < length l = omega arith in
    let z : f a ≡ get_or l q 0 = rw (add-zero, add-zero) at (e 0 (omega arith)) in
    rw (drop-cons l q 0, z, bytes_run f (suc a) n l (suc q) (λ b hb. rw (suc-add, suc-add, ← add-suc, ← add-suc) (e (suc b) (omega arith))) (omega arith))

-- ---- pictures and their rectangles

-- byte k of a list
abbrev pub held : List ℕ → ℕ → ℕ
held l k = get_or l k 0

-- Bytes as a picture of the given width, with s bytes to a sample: "Samples lie row by row".
unfoldable pub picture : (ℕ → ℕ) → ℕ → ℕ → Picture
picture f width s row column = bytes f ((row * width + column) * s) s

pub picture_length_lem : (f : ℕ → ℕ) (width s row column : ℕ) → length (picture f width s row column) ≡ s
unfolding picture
picture_length_lem f width s row column = bytes_length f ((row * width + column) * s) s

-- the rectangle of a picture that is stored row by row: a run of bytes for each row
pub window_rows : (f : ℕ → ℕ) (width s : ℕ) (r : Rect)
    → window (picture f width s) r ≡ span r.y r.h (λ i. bytes f (i * (width * s) + r.x * s) (r.w * s))
unfolding window picture
window_rows f width s r =
    span_cong r.y r.h (λ i. span r.x r.w (λ c. bytes f ((i * width + c) * s) s)) (λ i. bytes f (i * (width * s) + r.x * s) (r.w * s))
    (λ i l u.
    let q : (i * width + r.x) * s ≡ i * (width * s) + r.x * s = rw (add-mul, mul_assoc) in
    tile f (i * width) r.x r.w s ∙ ap (λ (k : ℕ). bytes f k (r.w * s)) q)

-- every sample of the rectangle has s bytes
abbrev pub Even : Picture → ℕ → Rect → Type 0
Even p s r = (i j : ℕ) → r.y ≤ i → i < r.y + r.h → r.x ≤ j → j < r.x + r.w → length (p i j) ≡ s

pub row_length : (p : Picture) (s : ℕ) (r : Rect) → Even p s r
    → (i : ℕ) → r.y ≤ i → i < r.y + r.h → length (span r.x r.w (p i)) ≡ r.w * s
row_length p s r e i l u = span_length r.x r.w s (p i) (λ c lc uc. e i c l u lc uc)

pub window_length : (p : Picture) (s : ℕ) (r : Rect) → Even p s r → length (window p r) ≡ r.h * (r.w * s)
unfolding window
window_length p s r e = span_length r.y r.h (r.w * s) (λ i. span r.x r.w (p i)) (row_length p s r e)

-- "the one at i, j of an answer w columns wide stands at (i × w + j) × sample size": the answer, looked at as a picture of width w, is
-- the picture moved by x, y
pub window_at : (p : Picture) (s : ℕ) (r : Rect) → Even p s r → (i j : ℕ) → i < r.h → j < r.w
    → picture (held (window p r)) r.w s i j ≡ p (r.y + i) (r.x + j)
unfolding window picture
window_at p s r e i j hi hj =
    let f : ℕ → ℕ = λ k. get_or (window p r) k 0 in
    let l : length (p (r.y + i) (r.x + j)) ≡ s = e (r.y + i) (r.x + j) (omega arith) (omega arith) (omega arith) (omega arith) in
    let fits : suc j * s ≤ r.w * s = mul-le-mul_right s hj in
    ext_get_or 0 (bytes f ((i * r.w + j) * s) s) (p (r.y + i) (r.x + j)) (bytes_length f ((i * r.w + j) * s) s ∙ sym l)
    (λ b hb.
    let hb' : b < s = rw bytes_length at hb in
    let q : (i * r.w + j) * s + b ≡ i * (r.w * s) + (j * s + b) = rw (add-mul, mul_assoc) (omega arith) in
    let u : j * s + b < r.w * s = omega (arith, suc-mul j s) in
    bytes_at_lem f ((i * r.w + j) * s) s b hb' ∙ ap f q
    ∙ span_at r.y r.h (r.w * s) (λ i. span r.x r.w (p i)) (row_length p s r e) i (j * s + b) hi u
    ∙ span_at r.x r.w s (p (r.y + i)) (λ c lc uc. e (r.y + i) c (omega arith) (omega arith) lc uc) j b hj hb')

-- pictures that agree on the rectangle have one window
pub window_cong : (p q : Picture) (r : Rect) → ((i j : ℕ) → r.y ≤ i → i < r.y + r.h → r.x ≤ j → j < r.x + r.w → p i j ≡ q i j)
    → window p r ≡ window q r
unfolding window
window_cong p q r e =
    span_cong r.y r.h (λ i. span r.x r.w (p i)) (λ i. span r.x r.w (q i))
    (λ i l u. span_cong r.x r.w (p i) (q i) (λ j lc uc. e i j l u lc uc))

-- a rectangle of a picture that is moved by x, y
pub window_moved : (p : Picture) (x y : ℕ) (r : Rect)
    → window (λ i j. p (y + i) (x + j)) r ≡ window p (record { x = x + r.x; y = y + r.y; w = r.w; h = r.h })
unfolding window
window_moved p x y r =
    sym (span_shift y r.y r.h (λ i. span (x + r.x) r.w (p i))
    ∙ span_cong r.y r.h (λ i. span (x + r.x) r.w (p (y + i))) (λ i. span r.x r.w (λ j. p (y + i) (x + j)))
    (λ i l u. span_shift x r.x r.w (p (y + i))))

-- ---- samples changed one by one

span_last : (n : ℕ) (g : ℕ → List ℕ) → span 0 (suc n) g ≡ span 0 n g ++ g n
span_last n g = rw (← add-one, span_snoc 0 n g, zero-add)

pub span_grid : (w h : ℕ) (g : ℕ → List ℕ) → span 0 (h * w) g ≡ span 0 h (λ i. span 0 w (λ j. g (i * w + j)))
unfolding span
span_grid w zero g = rw zero-mul
span_grid w (suc h) g =
    let q : suc h * w ≡ h * w + w = suc-mul h w in
    let u : 0 + h * w ≡ h * w + 0 = omega arith in
    let v : span (0 + h * w) w g ≡ span 0 w (λ j. g (h * w + j)) = rw u (span_shift (h * w) 0 w g) in
    let t : span 0 (h * w + w) g ≡ span 0 (h * w) g ++ span 0 w (λ j. g (h * w + j)) = rw (span_add 0 (h * w) w g, v) in
    rw (q, t, span_grid w h g) (sym (span_last h (λ i. span 0 w (λ j. g (i * w + j)))))

-- changed in place, sample after sample, a window is the window of the changed picture
pub window_each : (φ : List ℕ → List ℕ) (p : Picture) (s : ℕ) (r : Rect) → Even p s r
    → span 0 (r.h * r.w) (λ q. φ (bytes (held (window p r)) (q * s) s)) ≡ window (each_sample φ p) r
unfolding each_sample window picture
window_each φ p s r e =
    let z : r.x + 0 ≡ r.x = omega arith in
    let z' : r.y + 0 ≡ r.y = omega arith in
    span_grid r.w r.h (λ q. φ (bytes (held (window p r)) (q * s) s))
    ∙ window_cong _ (λ i j. φ (p (r.y + i) (r.x + j))) (record { x = 0; y = 0; w = r.w; h = r.h })
    (λ i j l u lc uc. ap φ (window_at p s r e i j (omega arith) (omega arith)))
    ∙ window_moved (λ i j. φ (p i j)) r.x r.y (record { x = 0; y = 0; w = r.w; h = r.h })
    ∙ rw (z, z')

-- ---- places in the strips

pub place_in : (t : List ℕ) (i n k : ℕ) → 0 < n → k < count_of t i → place t i n k ≡ offset_of t i + k
unfolding place
place_in t i zero k h u = absurd (not-suc-le-zero h)
place_in t i (suc n) k h u = rw (lt-ltb k (count_of t i) u, place)

pub place_past : (t : List ℕ) (i n k : ℕ) → 0 < n → place t i n (count_of t i + k) ≡ place t (i + 1) (n - 1) k
unfolding place
place_past t i zero k h = absurd (not-suc-le-zero h)
place_past t i (suc n) k h =
    let q : suc n - 1 ≡ n = omega arith in
    rw (q, le-ltb (count_of t i + k) (count_of t i) (omega arith), place, add-sub_cancel_left)

pub total_step : (t : List ℕ) (i n : ℕ) → 0 < n → total t i n ≡ count_of t i + total t (i + 1) (n - 1)
unfolding total
total_step t i zero h = absurd (not-suc-le-zero h)
total_step t i (suc n) h =
    let q : suc n - 1 ≡ n = omega arith in
    rw q

pub total_none : (t : List ℕ) (i : ℕ) → total t i 0 ≡ 0
unfolding total
total_none t i = refl

-- while bytes are left there is a strip
pub total_some : (t : List ℕ) (i n k : ℕ) → k < total t i n → 0 < n
unfolding total
total_some t i zero k h = absurd (not-suc-le-zero h)
total_some t i (suc n) k h = omega arith

-- ---- strips within the file

pub inside_none : (t : List ℕ) (len i : ℕ) → inside t len i 0 ≡ true
unfolding inside
inside_none t len i = refl

pub inside_past : (t : List ℕ) (len i n : ℕ) → 0 < n → len < offset_of t i + count_of t i → inside t len i n ≡ false
unfolding inside
inside_past t len i zero h u = absurd (not-suc-le-zero h)
inside_past t len i (suc n) h u = rw (lt-leb (offset_of t i + count_of t i) len u)

pub inside_next : (t : List ℕ) (len i n : ℕ) → 0 < n → offset_of t i + count_of t i ≤ len → inside t len i n ≡ inside t len (i + 1) (n - 1)
unfolding inside
inside_next t len i zero h u = absurd (not-suc-le-zero h)
inside_next t len i (suc n) h u =
    let q : suc n - 1 ≡ n = omega arith in
    rw (le-leb (offset_of t i + count_of t i) len u, q)

-- what strips within the file tell of the first of them
head_by : (t : List ℕ) (len i n : ℕ) (b : Bool) → leb (offset_of t i + count_of t i) len ≡ b → 0 < n → inside t len i n ≡ true
    → (offset_of t i + count_of t i ≤ len) × (inside t len (i + 1) (n - 1) ≡ true)
head_by t len i n true l h e = let u = leb-true _ _ l in (u, sym (inside_next t len i n h u) ∙ e)
head_by t len i n false l h e =
    let z : ◌≡◌ {A = Bool} false true = sym (inside_past t len i n h (leb-false _ _ l)) ∙ e in
    no_case cc

pub inside_head : (t : List ℕ) (len i n : ℕ) → 0 < n → inside t len i n ≡ true
    → (offset_of t i + count_of t i ≤ len) × (inside t len (i + 1) (n - 1) ≡ true)
inside_head t len i n h e = head_by t len i n (leb (offset_of t i + count_of t i) len) refl h e

-- ---- strips in turn

module _ (outside miscounted t : List ℕ) (len : ℕ) where
  pub turn_none : (i n left : ℕ) → n ≤ 0 → in_turn outside miscounted t len i n left ≡ need miscounted (eqb left 0)
  unfolding in_turn
  turn_none i zero left h = refl
  turn_none i (suc n) left h = absurd (not-suc-le-zero h)

  pub turn_outside : (i n left : ℕ) → 0 < n → lies t len i ≡ false → in_turn outside miscounted t len i n left ≡ refused outside
  unfolding in_turn bind
  turn_outside i zero left h l = absurd (not-suc-le-zero h)
  turn_outside i (suc n) left h l = rw l

  pub turn_over : (i n left : ℕ) → 0 < n → lies t len i ≡ true → left < count_of t i → in_turn outside miscounted t len i n left ≡ refused miscounted
  unfolding in_turn bind
  turn_over i zero left h l u = absurd (not-suc-le-zero h)
  turn_over i (suc n) left h l u = rw (l, lt-leb (count_of t i) left u)

  pub turn_next : (i n left : ℕ) → 0 < n → lies t len i ≡ true → count_of t i ≤ left
      → in_turn outside miscounted t len i n left ≡ in_turn outside miscounted t len (i + 1) (n - 1) (left - count_of t i)
  unfolding in_turn bind
  turn_next i zero left h l u = absurd (not-suc-le-zero h)
  turn_next i (suc n) left h l u =
      let q : suc n - 1 ≡ n = omega arith in
      rw (l, le-leb (count_of t i) left u, q)

  -- strips of which nothing is left over and nothing is missing are refused only where one lies outside
  pub turn_total : (i n left : ℕ) → total t i n ≡ left → in_turn outside miscounted t len i n left ≡ need outside (inside t len i n)
  unfolding total inside
  turn_total i zero left e = turn_none i 0 left (omega arith) ∙ rw (eq-eqb left 0 (sym e))
  turn_total i (suc n) left e = by (lies t len i) refl (turn_total (i + 1) n (left - count_of t i) (omega arith))
    where
      by : (b : Bool) → lies t len i ≡ b → in_turn outside miscounted t len (i + 1) n (left - count_of t i) ≡ need outside (inside t len (i + 1) n)
          → in_turn outside miscounted t len i (suc n) left ≡ need outside (b && inside t len (i + 1) n)
      by true l rest =
          let z : suc n - 1 ≡ n = omega arith in
          turn_next i (suc n) left (omega arith) l (omega arith) ∙ rw z rest
      by false l rest = turn_outside i (suc n) left (omega arith) l

-- ---- a rule's steps, from its answer

pub given_some : {A : Type 0} (row : List ℕ) (o : Option A) (a : A) → given row o ≡ accepted a → o ≡ Some a
given_some row (Some b) a e = cc
given_some row None a e = no_case cc

pub need_true : (row : List ℕ) (b : Bool) (u : Unit {0}) → need row b ≡ accepted u → b ≡ true
need_true row true u e = refl
need_true row false u e = no_case cc

pub bind_then : {A B C : Type 0} (m : Result A) (k : A → Result B) (b : B) → bind m k ≡ accepted b
    → ((a : A) → m ≡ accepted a → k a ≡ accepted b → C) → C
unfolding bind
bind_then (accepted a) k b e go = go a refl e
bind_then (refused row) k b e go = no_case cc

-- ---- sizes

module _ (w h : ℕ) (k : Kind) where
  pub size_fits : picture_bytes w h k ≤ picture_limit → picture_size w h k ≡ accepted (picture_bytes w h k)
  unfolding picture_size unlimited_size bind
  size_fits l =
      let f : word (picture_bytes w h k) ≡ Some (picture_bytes w h k) = word_fits (omega arith) in
      rw (f, le-leb (picture_bytes w h k) picture_limit l)

  pub size_is : (n : ℕ) → picture_size w h k ≡ accepted n → (n ≡ picture_bytes w h k) × (n ≤ picture_limit)
  unfolding picture_size unlimited_size
  size_is n e =
      bind_then (unlimited_size w h k) _ n e
      (λ a e₁ e₂.
      bind_then (need (oversized_allocation a picture_limit) (leb a picture_limit)) _ n e₂
      (λ u e₃ e₄.
      let q : a ≡ n = cc in
      let v = word_some (picture_bytes w h k) a (given_some _ (word (picture_bytes w h k)) a e₁) in
      let l = leb-true a picture_limit (need_true _ (leb a picture_limit) u e₃) in
      (sym q ∙ v.0, omega arith)))

-- the bytes of the strips that channels share
module _ (d : Description) (size : ℕ) where
  pub joined_size_fits : pixel_samples d * size < 2 ^ 64 → joined_size d size ≡ accepted (pixel_samples d * size)
  unfolding joined_size
  joined_size_fits h = rw (word_fits h)

  pub joined_size_is : (n : ℕ) → joined_size d size ≡ accepted n → (n ≡ pixel_samples d * size) × (n < 2 ^ 64)
  unfolding joined_size
  joined_size_is n e =
      let w = word_some (pixel_samples d * size) n (given_some _ (word (pixel_samples d * size)) n e) in
      (w.0, rw w.0 w.1)

-- ---- coordinates and rectangles that are accepted

pub coordinate_channel : (d : Description) (co : Coordinate) (u : Unit {0}) → coordinate_there d co ≡ accepted u → co.c < d.dims.c
unfolding coordinate_there coordinates
coordinate_channel d co u e =
    bind_then (scene_there d co.scene) _ u e
    (λ a e₁ e₂.
    let b = need_true _ (ltb co.t d.dims.t && ltb co.c d.dims.c && ltb co.z d.dims.z) u e₂ in
    ltb-true co.c d.dims.c
    (both_hold (ltb co.t d.dims.t) (ltb co.c d.dims.c) (both_hold (ltb co.t d.dims.t && ltb co.c d.dims.c) (ltb co.z d.dims.z) b).0).1)

pub rectangle_within : (d : Dims) (r : Rect) (u : Unit {0}) → rectangle d r ≡ accepted u → (r.x + r.w ≤ d.x) × (r.y + r.h ≤ d.y)
unfolding rectangle
rectangle_within d r u e =
    let b = both_hold (within r.x r.w d.x) (within r.y r.h d.y) (need_true _ _ u e) in (
      leb-true _ _ (both_hold (ltb (r.x + r.w) (2 ^ 64)) (leb (r.x + r.w) d.x) b.0).1,
      leb-true _ _ (both_hold (ltb (r.y + r.h) (2 ^ 64)) (leb (r.y + r.h) d.y) b.1).1,
    )

pub rectangle_ends : (d : Dims) (r : Rect) (u : Unit {0}) → rectangle d r ≡ accepted u → (r.x + r.w < 2 ^ 64) × (r.y + r.h < 2 ^ 64)
unfolding rectangle
rectangle_ends d r u e =
    let b = both_hold (within r.x r.w d.x) (within r.y r.h d.y) (need_true _ _ u e) in (
      ltb-true _ _ (both_hold (ltb (r.x + r.w) (2 ^ 64)) (leb (r.x + r.w) d.x) b.0).0,
      ltb-true _ _ (both_hold (ltb (r.y + r.h) (2 ^ 64)) (leb (r.y + r.h) d.y) b.1).0,
    )

-- ---- pages

-- a page that the table has
pub page_there : (d : Description) (words page : ℕ) → has_page d words page ≡ true
    → (0 < strips_per_page d) × (2 * (page * strips_per_page d + strips_per_page d) ≤ words)
page_there d words page e =
    let b = both_hold (not (eqb (strips_per_page d) 0)) (leb (2 * ((page + 1) * strips_per_page d)) words) e in
    let q : (page + 1) * strips_per_page d ≡ page * strips_per_page d + strips_per_page d = rw (add-one, suc-mul) in
    let n = eqb-false (strips_per_page d) 0 (not-true _ b.0) in
    let l : 2 * ((page + 1) * strips_per_page d) ≤ words = leb-true _ _ b.1 in
    (omega arith, rw q at l)

pub page_missing : (d : Description) (words page : ℕ) → words < strips_per_page d → has_page d words page ≡ false
page_missing d words page h =
    let q : (page + 1) * strips_per_page d ≡ page * strips_per_page d + strips_per_page d = rw (add-one, suc-mul) in
    ap (λ (b : Bool). not (eqb (strips_per_page d) 0) && b) (lt-leb (2 * ((page + 1) * strips_per_page d)) words (omega arith))
    ∙ and-false (not (eqb (strips_per_page d) 0))

-- the component plane that has a channel is one of the page's, and the channel's sample one of a pixel's there
pub plane_less : (b : Bool) (c n : ℕ) → c < n → plane_of b c < component_planes b n
plane_less true c n h = omega arith
plane_less false c n h = h

pub own_less : (b : Bool) (c n : ℕ) → c < n → own_sample b c < samples_together b n
own_less true c n h = h
own_less false c n h = omega arith

-- a channel's strips are in the page
pub channel_in_lem : (d : Description) (words page c : ℕ) → c < d.dims.c → 2 * (page * strips_per_page d + strips_per_page d) ≤ words
    → 2 * ((strips_on d page c).first + (strips_on d page c).count) ≤ words
channel_in_lem d words page c h l =
    let plane : ℕ = plane_of d.interleaved c in
    omega (arith, suc-mul plane d.strips_per_channel, mul-le-mul_right d.strips_per_channel (plane_less d.interleaved c d.dims.c h))

module _ (d : Description) (words : ℕ) (co : Coordinate) where
  pub channel_nowhere : page_of d.layout co ≡ None → refused (no_picture co) ≡ channel_strips d words co
  unfolding channel_strips bind
  channel_nowhere e = rw (e, channel_strips, bind)

  pub channel_missing : (page : ℕ) → page_of d.layout co ≡ Some page → has_page d words page ≡ false
      → refused (no_picture co) ≡ channel_strips d words co
  unfolding channel_strips bind
  channel_missing page e h = rw (e, channel_strips, bind) (rw (h, bind))

  pub channel_at : (page : ℕ) → page_of d.layout co ≡ Some page → has_page d words page ≡ true
      → accepted (strips_on d page co.c) ≡ channel_strips d words co
  unfolding channel_strips bind
  channel_at page e h = rw (e, channel_strips, bind) (rw (h, bind))

  -- the strips that are there are those of the channel of a page that the table has
  pub channel_page : {C : Type 0} (s : Strips) → channel_strips d words co ≡ accepted s
      → ((page : ℕ) → page_of d.layout co ≡ Some page → has_page d words page ≡ true → strips_on d page co.c ≡ s → C) → C
  unfolding channel_strips
  channel_page s e go =
      bind_then (given (no_picture co) (page_of d.layout co)) _ s e
      (λ page e₁ e₂.
      bind_then (need (no_picture co) (has_page d words page)) _ s e₂
      (λ u e₃ e₄.
      let q : strips_on d page co.c ≡ s = cc in
      go page (given_some _ (page_of d.layout co) page e₁) (need_true _ (has_page d words page) u e₃) q))

  pub channel_room : (s : Strips) → channel_strips d words co ≡ accepted s → co.c < d.dims.c → 2 * (s.first + s.count) ≤ words
  channel_room s e h =
      channel_page s e
      (λ page p there q. rw (sym q) (channel_in_lem d words page co.c h (page_there d words page there).1))

  -- and its sample is one of a pixel's there
  pub channel_own : (s : Strips) → channel_strips d words co ≡ accepted s → co.c < d.dims.c → s.sample < pixel_samples d
  channel_own s e h = channel_page s e (λ page p there q. rw (sym q) (own_less d.interleaved co.c d.dims.c h))

-- ---- plane's strips

module _ (d : Description) (t : List ℕ) (len : ℕ) (co : Coordinate) where
  pub strips_oversized : (row : List ℕ) → picture_size d.dims.x d.dims.y d.kind ≡ refused row
      → refused row ≡ plane_strips d t len co
  unfolding plane_strips bind
  strips_oversized row e = rw e

  module _ (size all : ℕ) (e : picture_size d.dims.x d.dims.y d.kind ≡ accepted size) (a : joined_size d size ≡ accepted all) where
    pub strips_nowhere : (row : List ℕ) → channel_strips d (length t) co ≡ refused row → refused row ≡ plane_strips d t len co
    unfolding plane_strips bind
    strips_nowhere row h = rw (e, a, h)

    pub strips_judged : (s : Strips) → channel_strips d (length t) co ≡ accepted s
        → plane_strips d t len co ≡ bind (in_turn decode decode t len s.first s.count all) (λ _. accepted s)
    unfolding plane_strips bind
    strips_judged s h = rw (e, a, h)

-- what strips in turn tell where they are accepted
pub turn_accepted : (outside miscounted t : List ℕ) (len i n left : ℕ) (u : Unit {0}) → in_turn outside miscounted t len i n left ≡ accepted u
    → (inside t len i n ≡ true) × (total t i n ≡ left)
unfolding in_turn inside total
turn_accepted outside miscounted t len i zero left u e = (refl, sym (eqb-true left 0 (need_true miscounted (eqb left 0) u e)))
turn_accepted outside miscounted t len i (suc n) left u e =
    bind_then (need outside (lies t len i)) _ u e
    (λ a e₁ e₂.
    bind_then (need miscounted (leb (count_of t i) left)) _ u e₂
    (λ b e₃ e₄.
    let rest = turn_accepted outside miscounted t len (i + 1) n (left - count_of t i) u e₄ in
    let l : count_of t i ≤ left = leb-true _ _ (need_true miscounted (leb (count_of t i) left) b e₃) in
    (rw (need_true outside (lies t len i) a e₁) rest.0, omega (arith, rest.1))))

-- what plane's checks tell of the strips that they accept
pub record PlaneAccepted (d : Description) (t : List ℕ) (len : ℕ) (co : Coordinate) (s : Strips) : Type 0 where
  pub size : picture_size d.dims.x d.dims.y d.kind ≡ accepted (picture_bytes d.dims.x d.dims.y d.kind)
  pub small : picture_bytes d.dims.x d.dims.y d.kind ≤ picture_limit
  pub channel : channel_strips d (length t) co ≡ accepted s
  pub within : inside t len s.first s.count ≡ true
  pub fits : pixel_samples d * picture_bytes d.dims.x d.dims.y d.kind < 2 ^ 64
  pub summed : total t s.first s.count ≡ pixel_samples d * picture_bytes d.dims.x d.dims.y d.kind

pub plane_accepted : (d : Description) (t : List ℕ) (len : ℕ) (co : Coordinate) (s : Strips) → plane_strips d t len co ≡ accepted s
    → PlaneAccepted d t len co s
unfolding plane_strips
plane_accepted d t len co s e =
    bind_then (picture_size d.dims.x d.dims.y d.kind) _ s e
    (λ n e₁ e₂.
    bind_then (joined_size d n) _ s e₂
    (λ all e₃ e₄.
    bind_then (channel_strips d (length t) co) _ s e₄
    (λ p e₅ e₆.
    bind_then (in_turn decode decode t len p.first p.count all) _ s e₆
    (λ u e₇ e₈.
    let q : p ≡ s = cc in
    let z = size_is d.dims.x d.dims.y d.kind n e₁ in
    let j = joined_size_is d n all e₃ in
    let turned = turn_accepted decode decode t len p.first p.count all u e₇ in
    record {
      size = rw (sym z.0) e₁;
      small = rw (sym z.0) z.1;
      channel = rw q at e₅;
      within = rw q at turned.0;
      fits = rw (sym z.0, sym j.0) j.1;
      summed = rw (sym z.0, sym j.0, sym q) turned.1;
    }))))
