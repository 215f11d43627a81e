-- Laws of rows copied from strips. Assumes nothing.
use Prim.Native.Nat.{ℕ, zero, suc, ◌+◌, ◌-◌, ◌*◌, ◌/◌, ◌<◌, ◌≤◌}
use native.Mathlib.Nat.{add-zero, zero-add, add_assoc, add-mul, suc-mul, zero-mul, one-mul, mul_assoc, mul-le-mul_right, le-div_iff_mul-le, add-sub_cancel_left}
use native.Mathlib.Omega.{arith}
use mathlib.Core.Path.{◌≡◌, refl, sym, ap, ap₂, ◌∙◌}
use mathlib.Core.Bool.{true}
use mathlib.Core.List.{List, [], ◌∷◌, ◌++◌, append-nil, append_assoc}
use borrow.Rule.Slice.PartMut.{put_mid}
use borrow.Author.Tests.{lt-ltb, leb-true}
use lib.ListN.{length, get_or, take, drop, length-drop}
use lib.Seq.{take_all, take_at, length-take-le, get_or-take, get_or-drop}
use Rattle.std.proofs.lemmas.List.{at_drop_more}
use Rattle.std.proofs.lemmas.Slice.{take-put_mid}
use Rattle.lsm_format.specs.Picture.{span, bytes}
use Rattle.lsm_format.proofs.Accepting.{both_hold}
use Rattle.lsm_format.proofs.Picture.{held, span_add, span_cong, span_shift, span_length, span_grid, bytes_add, bytes_moved, bytes_length, bytes_run}
use Rattle.lsm_strips.specs.Strips.{offset_in, count_in, total_in, place_in, all_lie, Stands}
use Rattle.lsm_strips.proofs.Walking.{stands_start, stands_next}
use Rattle.lsm_region.specs.declared.copier.Rows.{Rows}
use Rattle.lsm_region.specs.Rows.{stored_in, spaced, RowsIn}
use Rattle.lsm_region.proofs.Filling.{part_in, part_step}

-- ---- a run of bytes

-- a strip of strips that lie in the file
pub lies_here : (len : ℕ) (ss : List (List ℕ)) (i : ℕ) → all_lie len (drop i ss) ≡ true → i < length ss
    → offset_in (get_or ss i []) + count_in (get_or ss i []) ≤ len
lies_here len ss i w h = leb-true _ _ (both_hold _ _ (sym (at_drop_more (all_lie len) ss i [] h) ∙ w)).0

place_here : (ss : List (List ℕ)) (i k : ℕ) → i < length ss → k < count_in (get_or ss i []) → place_in (drop i ss) k ≡ offset_in (get_or ss i []) + k
place_here ss i k h u = at_drop_more (λ (l : List (List ℕ)). place_in l k) ss i [] h ∙ rw (lt-ltb k (count_in (get_or ss i [])) u, place_in)

module _ {all : List (List ℕ)} {k : ℕ} (f : List ℕ) (ss : List (List ℕ)) (i d m : ℕ) (st : Stands all k (drop i ss) d) (h : i < length ss)
    (within : offset_in (get_or ss i []) + count_in (get_or ss i []) ≤ length f) (fits : d + m ≤ count_in (get_or ss i [])) where
  -- bytes of the strip where the walk stands
  run_here : bytes (stored_in f all) k m ≡ take m (drop (offset_in (get_or ss i []) + d) f)
  run_here =
      bytes_run (stored_in f all) k m f (offset_in (get_or ss i []) + d)
      (λ b hb.
      ap (λ (p : ℕ). get_or f p 0) (st.moved b ∙ place_here ss i (d + b) h (omega arith) ∙ sym (add_assoc (offset_in (get_or ss i [])) d b)))
      (omega arith)

-- m bytes more are copied
pub run_step : {all : List (List ℕ)} (f : List ℕ) (ss : List (List ℕ)) (i d m k a : ℕ) (out ys : List ℕ) → Stands all (k + a) (drop i ss) d → i < length ss
    → all_lie (length f) all ≡ true → d + m ≤ count_in (get_or ss i []) → a + m ≤ length out
    → ys ≡ take (offset_in (get_or ss i []) + d + m - (offset_in (get_or ss i []) + d)) (drop (offset_in (get_or ss i []) + d) f)
    → take a out ≡ bytes (stored_in f all) k a → take (a + m) (put_mid a (a + m - a) out ys) ≡ bytes (stored_in f all) k (a + m)
run_step {all} f ss i d m k a out ys st h within fits room copied so_far =
    let lies = lies_here (length f) ss i (st.within (length f) within) h in
    let r : bytes (stored_in f all) (k + a) m ≡ ys = run_here f ss i d m st h lies fits ∙ sym (rw add-sub_cancel_left at copied) in
    let z : length ys ≡ m = ap length (sym r) ∙ bytes_length _ (k + a) m in
    rw (take-put_mid a (a + m - a) out ys (a + m) (omega arith) (omega arith), so_far, bytes_add, r)

pub run_done : (g : ℕ → ℕ) (k : ℕ) {out : List ℕ} {a n : ℕ} → take a out ≡ bytes g k a → a ≡ n → length out ≡ n → out ≡ bytes g k n
run_done g k {out} {a} {n} so_far q e =
    sym (take_all a out (omega arith)) ∙ so_far ∙ ap (bytes g k) q

-- ---- where the walk stands

pub stands_then : {a b c : List (List ℕ)} {k d e : ℕ} → Stands a k b d → Stands b d c e → Stands a k c e
stands_then s r = record {
  moved = λ m. s.moved m ∙ r.moved m;
  whole = omega (arith, s.whole, r.whole);
  within = λ len h. r.within len (s.within len h);
}

pub stands_on : {a b : List (List ℕ)} {k d : ℕ} (n : ℕ) → Stands a k b d → Stands a (k + n) b (d + n)
stands_on {a} {b} {k} {d} n s = record {
  moved = λ m. rw (add_assoc k n m, add_assoc d n m) (s.moved (n + m));
  whole = omega (arith, s.whole);
  within = s.within;
}

pub stands_as : {a b : List (List ℕ)} {k k' d d' : ℕ} → k ≡ k' → d ≡ d' → Stands a k b d → Stands a k' b d'
stands_as p q s = rw (sym p, sym q) s

-- the strips after one that is copied to its end
pub stands_past : {all : List (List ℕ)} (ss : List (List ℕ)) {i d : ℕ} (m k a : ℕ) → Stands all (k + a) (drop i ss) d → i < length ss → d + m ≡ count_in (get_or ss i [])
    → Stands all (k + (a + m)) (drop (i + 1) ss) 0
stands_past ss {i} {d} m k a st h e =
    stands_next ss i 0 (stands_as (add_assoc k a m) (sym (add-zero (d + m))) (stands_on m st)) h (omega arith)

-- bytes that are left from there on
pub stands_left : {a b : List (List ℕ)} {k d : ℕ} (n : ℕ) → Stands a k b d → k + n ≤ total_in a → d + n ≤ total_in b
stands_left n s h = omega (arith, s.whole)

-- the bytes from there on are those of the whole
pub stands_bytes : {a b : List (List ℕ)} {k d : ℕ} (f : List ℕ) (n : ℕ) → Stands a k b d → bytes (stored_in f b) d n ≡ bytes (stored_in f a) k n
stands_bytes {a} {b} {k} {d} f n s = sym (bytes_moved _ _ k d n (λ m h. ap (held f) (s.moved m)))

-- ---- samples that are spaced out

module _ (g : ℕ → ℕ) (step s : ℕ) where
  pub spaced_length : (a n : ℕ) → length (spaced g a step s n) ≡ n * s
  spaced_length a n = span_length 0 n s _ (λ k l u. bytes_length g (a + k * step) s)

  -- some, and then the others
  pub spaced_add : (a m n : ℕ) → spaced g a step s (m + n) ≡ spaced g a step s m ++ spaced g (a + m * step) step s n
  spaced_add a m n =
      let z : 0 + m ≡ m + 0 = omega arith in
      span_add 0 m n (λ q. bytes g (a + q * step) s)
      ∙ ap (λ (l : List ℕ). spaced g a step s m ++ l)
      (rw z (span_shift m 0 n (λ q. bytes g (a + q * step) s))
      ∙ span_cong 0 n (λ q. bytes g (a + (m + q) * step) s) (λ q. bytes g (a + m * step + q * step) s)
      (λ q l u. ap (λ (k : ℕ). bytes g k s) (rw (add-mul, ← add_assoc))))

  pub spaced_one : (a : ℕ) → spaced g a step s 1 ≡ bytes g a s
  unfolding span
  spaced_one a = rw (zero-mul, add-zero, append-nil)

-- samples that stand one after the other are one run of bytes
pub spaced_tight : (g : ℕ → ℕ) (a s n : ℕ) → spaced g a s s n ≡ bytes g a (n * s)
unfolding span bytes
spaced_tight g a s zero = rw zero-mul
spaced_tight g a s (suc n) =
    let z : suc n ≡ n + 1 = omega arith in
    let q : n * s + s ≡ suc n * s = sym (suc-mul n s) in
    ap (spaced g a s s) z ∙ spaced_add g s s a n 1 ∙ ap₂ {C = List ℕ} ◌++◌ (spaced_tight g a s n) (spaced_one g s s (a + n * s))
    ∙ sym (bytes_add g a (n * s) s) ∙ ap (bytes g a) q

-- one sample at the front of what n have room for
pub put_one : (g : ℕ → ℕ) (a step s n : ℕ) (out ys : List ℕ) → length out ≡ n * s → 0 < n → ys ≡ bytes g a (length (take s out))
    → ys ++ drop s out ≡ spaced g a step s 1 ++ drop (1 * s) out
put_one g a step s n out ys room some e =
    let one : 1 ≤ n = some in
    let fits : s ≤ length out = omega (arith, mul-le-mul_right s one) in
    ap₂ {C = List ℕ} ◌++◌ (e ∙ ap (bytes g a) (length-take-le s out fits) ∙ sym (spaced_one g step s a)) (ap (λ (k : ℕ). drop k out) (sym (one-mul s)))

-- sample q of n is put behind those before it
pub pick_step : (from out ys : List ℕ) (step s n q : ℕ) → (n - 1) * step + s ≤ length from → length out ≡ n * s → q < n
    → ys ≡ take (q * step + s - q * step) (drop (q * step) from) → take (q * s) out ≡ spaced (held from) 0 step s q
    → take ((q + 1) * s) (put_mid (q * s) (q * s + s - q * s) out ys) ≡ spaced (held from) 0 step s (q + 1)
pick_step from out ys step s n q there room h copied so_far =
    let last : q ≤ n - 1 = omega arith in
    let fits : q * step + s ≤ length from = omega (arith, mul-le-mul_right step last) in
    let sample : ys ≡ bytes (held from) (q * step) s = (rw add-sub_cancel_left at copied) ∙ sym (bytes_run (held from) (q * step) s from (q * step) (λ b u. refl) fits) in
    part_step (λ i. bytes (held from) (0 + i * step) s) 0 q s out ys (omega (arith, part_in n s q h)) (ap length sample ∙ bytes_length (held from) (q * step) s)
    (rw (zero-add, zero-add) sample) so_far

-- they end where n samples end
pub tight_reach : (step s n : ℕ) → step ≡ s → 0 < n → (n - 1) * step + s ≡ n * s
tight_reach step s n e h =
    let q : n ≡ suc (n - 1) = omega arith in
    rw e (sym (ap (λ (k : ℕ). k * s) q ∙ suc-mul (n - 1) s))

-- ---- samples that a strip has whole

module _ (f : List ℕ) (ss : List (List ℕ)) (into step s n : ℕ) (some : 0 < s) (apart : s ≤ step) (first : into < count_in (get_or ss 0 [])) (within : all_lie (length f) ss ≡ true) where
  there : 0 < length ss
  there = by ss first
    where
      by : (l : List (List ℕ)) → into < count_in (get_or l 0 []) → 0 < length l
      by [] h = absurd (omega arith)
      by (a ∷ l) h = omega arith

  abbrev pub left : ℕ
  left = count_in (get_or ss 0 []) - into

  -- of n samples the last ends in the strip
  pub last_fits : s ≤ left → n ≤ (left - s) / step + 1 → (n - 1) * step + s ≤ left
  last_fits l h =
      let q : n - 1 ≤ (left - s) / step = omega arith in
      let p : 0 < step = omega arith in
      let m = (le-div_iff_mul-le {k = step} {x = n - 1} {y = left - s} p).0 q in
      omega arith

  -- where the cursor stands in the file
  abbrev pub from : ℕ
  from = offset_in (get_or ss 0 []) + into

  pub spaced_here : (n - 1) * step + s ≤ left → spaced (held (take (from + left - from) (drop from f))) 0 step s n ≡ spaced (stored_in f ss) into step s n
  spaced_here fits =
      rw add-sub_cancel_left
      (span_cong 0 n _ _
      (λ q l u.
      let r : q ≤ n - 1 = omega arith in
      let here : q * step + s ≤ left = omega (arith, mul-le-mul_right step r) in
      bytes_moved (held (take left (drop from f))) (stored_in f ss) (0 + q * step) (into + q * step) s
      (λ m h.
      let k : 0 + q * step + m < left = omega arith in
      let w : into + q * step + m < count_in (get_or ss 0 []) = omega arith in
      let at : from + (0 + q * step + m) ≡ offset_in (get_or ss 0 []) + (into + q * step + m) = omega arith in
      get_or-take left (drop from f) (0 + q * step + m) 0 k ∙ get_or-drop from f (0 + q * step + m) 0
      ∙ ap (held f) (at ∙ sym (place_here ss 0 (into + q * step + m) there w)))))

-- samples from there on are those of the whole
pub stands_spaced : {a b : List (List ℕ)} {k d : ℕ} (f : List ℕ) (step s n : ℕ) → Stands a k b d
    → spaced (stored_in f b) d step s n ≡ spaced (stored_in f a) k step s n
stands_spaced f step s n st = span_cong 0 n _ _ (λ q l u. stands_bytes f s (stands_on (q * step) st))

-- ---- n samples, of which so many are there

module _ (s n done : ℕ) (out : List ℕ) (room : length out ≡ n * s) (l : done ≤ n) where
  done_in : n * s ≡ done * s + (n - done) * s
  done_in = let q : n ≡ done + (n - done) = omega arith in ap (λ (k : ℕ). k * s) q ∙ add-mul done (n - done) s

  -- the room that is left
  pub rest_length : length (take (length out - done * s) (drop (done * s) out)) ≡ (n - done) * s
  rest_length =
      let e : length (drop (done * s) out) ≡ (n - done) * s = length-drop (done * s) out ∙ omega (arith, done_in) in
      ap length (take_all (length out - done * s) (drop (done * s) out) (omega (arith, done_in))) ∙ e

  -- more of them are put there, and what was behind them
  pub more_put : (g : ℕ → ℕ) (a step here k : ℕ) (new rest : List ℕ) → take (done * s) out ≡ spaced g a step s done → new ≡ spaced g (a + done * step) step s here
      → take ((done + here) * s) (put_mid (done * s) k out (new ++ rest)) ≡ spaced g a step s (done + here)
  more_put g a step here k new rest so_far e =
      let first : List ℕ = take (done * s) out in
      let behind : List ℕ = drop k (drop (done * s) out) in
      let all : first ++ new ≡ spaced g a step s (done + here) = ap₂ {C = List ℕ} (λ (x y : List ℕ). x ++ y) so_far e ∙ sym (spaced_add g step s a done here) in
      let size : length (first ++ new) ≡ (done + here) * s = ap length all ∙ spaced_length g step s a (done + here) in
      ap (take ((done + here) * s)) (ap (λ (x : List ℕ). first ++ x) (append_assoc new rest behind) ∙ sym (append_assoc first new (rest ++ behind)))
      ∙ take_at (first ++ new) (rest ++ behind) ((done + here) * s) size ∙ all

-- the walk begins with no sample done
pub samples_start : (strips : List (List ℕ)) (into step : ℕ) → Stands strips (into + 0 * step) strips (0 * step + into)
samples_start strips into step = rw (zero-mul, add-zero, zero-add) (stands_start strips into)

-- it goes on after the samples that are put
pub samples_next : {a b : List (List ℕ)} {d : ℕ} (k step done here : ℕ) → Stands a (k + done * step) b d → Stands a (k + (done + here) * step) b (here * step + d)
samples_next {d = d} k step done here st =
    let p : k + done * step + here * step ≡ k + (done + here) * step = omega (arith, add-mul done here step) in
    let q : d + here * step ≡ here * step + d = omega arith in
    stands_as p q (stands_on (here * step) st)

-- the samples that are left, from where the walk stands after those that are done
pub left_reach : {a b : List (List ℕ)} {d : ℕ} (k step s n done : ℕ) → Stands a (k + done * step) b d → done < n → k + (n - 1) * step + s ≤ total_in a
    → d + (n - done - 1) * step + s ≤ total_in b
left_reach k step s n done st l h =
    let q : n - 1 ≡ done + (n - done - 1) = omega arith in
    let e : (n - 1) * step ≡ done * step + (n - done - 1) * step = ap (λ (j : ℕ). j * step) q ∙ add-mul done (n - done - 1) step in
    omega (arith, e, stands_left ((n - done - 1) * step + s) st (omega (arith, e)))

-- ---- the rows of a rectangle

pub row_in : {size len : ℕ} {strips : List (List ℕ)} {r : Rows} (i : ℕ) → RowsIn size len strips r → i < r.h
    → (r.y + i) * r.row + r.start + (r.count - 1) * r.step + size ≤ total_in strips
row_in {r = r} i w l =
    let u : r.y + i ≤ r.y + r.h - 1 = omega arith in
    omega (arith, mul-le-mul_right r.row u, w.held)

-- the samples of a row are all there
pub row_left : {a b : List (List ℕ)} {k d : ℕ} (m s : ℕ) → Stands a k b d → k + m + s ≤ total_in a → d + m + s ≤ total_in b
row_left m s st h = omega (arith, st.whole)

pub row_next : (y i row start : ℕ) → (y + i) * row + start + row ≡ (y + (i + 1)) * row + start
row_next y i row start =
    let e : y + (i + 1) ≡ suc (y + i) = omega arith in
    rw (e, suc-mul) (omega arith)

pub row_first : (y row start : ℕ) → y * row + start ≡ (y + 0) * row + start
row_first y row start = rw add-zero

pub row_after : (into row : ℕ) → into + row ≡ 1 * row + into
row_after into row = rw one-mul (omega arith)

-- the samples of rows that are wanted whole follow one another
pub rows_run : (g : ℕ → ℕ) (size : ℕ) (r : Rows) → r.count * r.step ≡ r.row
    → spaced g (r.y * r.row + r.start) r.step size (r.h * r.count) ≡ span r.y r.h (λ i. spaced g (i * r.row + r.start) r.step size r.count)
rows_run g size r e =
    let z : r.y + 0 ≡ r.y = omega arith in
    span_grid r.count r.h (λ q. bytes g (r.y * r.row + r.start + q * r.step) size)
    ∙ span_cong 0 r.h _ (λ i. spaced g ((r.y + i) * r.row + r.start) r.step size r.count)
    (λ i l u.
    span_cong 0 r.count _ _
    (λ j k v.
    let a : (i * r.count + j) * r.step ≡ i * r.row + j * r.step = rw (add-mul, mul_assoc, e) in
    ap (λ (k : ℕ). bytes g k size) (omega (arith, a, add-mul r.y i r.row))))
    ∙ sym (rw z at (span_shift r.y 0 r.h (λ i. spaced g (i * r.row + r.start) r.step size r.count)))

-- and are all there
pub rows_held : {size len : ℕ} {strips : List (List ℕ)} {r : Rows} → RowsIn size len strips r → r.count * r.step ≡ r.row → 0 < r.h
    → r.y * r.row + r.start + (r.h * r.count - 1) * r.step + size ≤ total_in strips
rows_held {size} {r = r} w e l =
    let last : ℕ = r.h - 1 in
    let n : ℕ = r.count - 1 in
    let q : r.h ≡ suc last = omega arith in
    let p : r.count ≡ suc n = omega (arith, w.some.1) in
    let m : r.h * r.count ≡ last * r.count + r.count = ap (λ (k : ℕ). k * r.count) q ∙ suc-mul last r.count in
    let c : r.h * r.count - 1 ≡ last * r.count + n = omega arith in
    let v : (r.h * r.count - 1) * r.step ≡ last * r.row + n * r.step = rw (c, add-mul, mul_assoc, e) in
    let u : r.y + r.h - 1 ≡ r.y + last = omega arith in
    omega (arith, v, w.held, ap (λ (k : ℕ). k * r.row) u, add-mul r.y last r.row)
