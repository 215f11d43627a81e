-- Laws of the powers of ten and of the digits of a quotient. Assumes nothing.
use Prim.Native.Nat.{ℕ, zero, suc, ◌+◌, ◌-◌, ◌*◌, ◌/◌, ◌%◌, ◌^◌, ◌≤◌, ◌<◌, compare, Ordering}
use mathlib.Core.Path.{◌≡◌, refl, sym, ap, ◌∙◌}
use mathlib.Core.Bool.{Bool, true, false, true≢false}
use native.Mathlib.Nat.{div-eq-sub-div, mod-eq-sub-mod, div-eq_of_lt, mod-eq_of_lt, div-lt_iff_lt-mul, div-add-mod', mod-lt, add-mul, mul_comm, mul_assoc, mul-one, pow-suc, mul-pos, mul-le-mul_right, mul-lt-mul_of_pos_left, lt_of_mul-lt-mul_right, lt_of_lt_of_le, lt_trans, le_trans}
use native.Mathlib.Numerals.{add-one}
use native.Mathlib.Omega.{arith}
use lib.Arith.{digits_div, digits_mod}
use lib.Dec.{leb, is_le, compare_is_eq, lit<, lit≤}
use lib.Ieee.{nearest}
use lib.Pow.{shl_lt, pow_mono, pow_pos}
use borrow.Author.Tests.{le-leb, lt-leb, leb-true, leb-false, eq-eqb, ne_eqb}
use lib.IntN.{pos, ◌-ℤ◌}
use Rattle.lsm_format.specs.Calibration.{tens_above, tens_below, hundredfold, figure_text, figure_by}
use Rattle.figure.specs.Wide.{room, Scaled, Near, figure_of}

-- ---- a power and its factor

-- A factor before the power is one in it.
factor_in : (b a n : ℕ) → b * a * b ^ n ≡ a * b ^ suc n
factor_in b a n = ap (λ (z : ℕ). z * b ^ n) (mul_comm b a) ∙ mul_assoc a b (b ^ n) ∙ ap (λ (z : ℕ). a * z) (mul_comm b (b ^ n) ∙ sym (pow-suc b n))

-- A number with its power, and the factor once more.
pub once_more : (b n i v r : ℕ) → v ≡ n * b ^ i → r ≡ b * v → r ≡ n * b ^ (i + 1)
once_more b n i v r h e =
    e ∙ ap (λ (z : ℕ). b * z) h ∙ sym (mul_assoc b n (b ^ i)) ∙ factor_in b n i ∙ ap (λ (z : ℕ). n * b ^ z) (sym (add-one i))

-- ---- a mantissa of 24 bits, doubled

-- It is below 2 ^ 277.
doubled_small : (n k v : ℕ) → n < 2 ^ 24 → k < 254 → v ≡ n * 2 ^ k → v < 2 ^ 277
doubled_small n k v hn hk e = rw e (lt_of_lt_of_le (shl_lt 24 k hn) (pow_mono {i = 24 + k} {j = 277} (omega arith)))

-- So ten times as much has room.
pub doubled_fits : (n k v : ℕ) → n < 2 ^ 24 → k < 254 → v ≡ n * 2 ^ k → 10 * v < room
unfolding room
doubled_fits n k v hn hk e = lt_trans (mul-lt-mul_of_pos_left {k = 10} (doubled_small n k v hn hk e) (lit< tt)) (lit< tt)

-- ---- one question of `tens_above` and of `tens_below`

-- num is at least ten times den: one ten, and those of ten times den.
above_yes : (n num den : ℕ) → leb (10 * den) num ≡ true → tens_above (suc n) num den ≡ suc (tens_above n num (10 * den))
unfolding tens_above
above_yes n num den h = ap (λ (b : Bool). elim b [ true ↦ suc (tens_above n num (10 * den)) | false ↦ 0 ]) h

-- It is not: no ten.
above_no : (n num den : ℕ) → leb (10 * den) num ≡ false → tens_above n num den ≡ 0
unfolding tens_above
above_no zero num den h = refl
above_no (suc n) num den h = ap (λ (b : Bool). elim b [ true ↦ suc (tens_above n num (10 * den)) | false ↦ 0 ]) h

-- num is at least den: no ten.
below_yes : (n num den : ℕ) → leb den num ≡ true → tens_below n num den ≡ 0
unfolding tens_below
below_yes zero num den h = refl
below_yes (suc n) num den h = ap (λ (b : Bool). elim b [ true ↦ 0 | false ↦ suc (tens_below n (10 * num) den) ]) h

-- It is below den: one ten, and those of ten times num.
below_no : (n num den : ℕ) → leb den num ≡ false → tens_below (suc n) num den ≡ suc (tens_below n (10 * num) den)
unfolding tens_below
below_no n num den h = ap (λ (b : Bool). elim b [ true ↦ 0 | false ↦ suc (tens_below n (10 * num) den) ]) h

-- ---- the loops: what was counted and what is still to be asked make up what the definition counts

-- One question less is left.
fewer : (left count : ℕ) → count < left → left - count ≡ suc (left - (count + 1))
fewer left count h = omega arith

-- num is at least ten times den.
pub above_go : (wanted left count num den : ℕ) → count < left → leb (10 * den) num ≡ true
    → wanted ≡ count + tens_above (left - count) num den → wanted ≡ count + 1 + tens_above (left - (count + 1)) num (10 * den)
above_go wanted left count num den l h e =
    let p = ap (λ (n : ℕ). tens_above n num den) (fewer left count l) ∙ above_yes (left - (count + 1)) num den h in omega (arith, e, p)

-- It is not.
pub above_stop : (wanted left count num den : ℕ) → leb (10 * den) num ≡ false → wanted ≡ count + tens_above (left - count) num den → count ≡ wanted
above_stop wanted left count num den h e = let p = above_no (left - count) num den h in omega (arith, e, p)

-- No question is left.
pub above_end : (wanted left count num den : ℕ) → count ≡ left → wanted ≡ count + tens_above (left - count) num den → left ≡ wanted
unfolding tens_above
above_end wanted left count num den h e =
    let z : left - count ≡ 0 = omega arith in let p = ap (λ (n : ℕ). tens_above n num den) z in omega (arith, e, p)

-- num is below den.
pub below_go : (wanted left count num den : ℕ) → count < left → leb den num ≡ false
    → wanted ≡ count + tens_below (left - count) num den → wanted ≡ count + 1 + tens_below (left - (count + 1)) (10 * num) den
below_go wanted left count num den l h e =
    let p = ap (λ (n : ℕ). tens_below n num den) (fewer left count l) ∙ below_no (left - (count + 1)) num den h in omega (arith, e, p)

-- It is at least den.
pub below_stop : (wanted left count num den : ℕ) → leb den num ≡ true → wanted ≡ count + tens_below (left - count) num den → count ≡ wanted
below_stop wanted left count num den h e = let p = below_yes (left - count) num den h in omega (arith, e, p)

-- No question is left.
pub below_end : (wanted left count num den : ℕ) → count ≡ left → wanted ≡ count + tens_below (left - count) num den → left ≡ wanted
unfolding tens_below
below_end wanted left count num den h e =
    let z : left - count ≡ 0 = omega arith in let p = ap (λ (n : ℕ). tens_below n num den) z in omega (arith, e, p)

-- What the two loops cite.
pub ruleset tens = (once_more, above_go, above_stop, above_end, below_go, below_stop, below_end)

-- ---- a digit by repeated subtraction

-- Less than ten times den holds it fewer than ten times.
pub digit_below : (num den : ℕ) → num < 10 * den → num / den < 10
digit_below num den h = let p : 0 < den = omega arith in (div-lt_iff_lt-mul p).1 h

-- den goes once more into what holds it, and not at all into what is smaller.
pub ruleset divided = (div-eq-sub-div, mod-eq-sub-mod, div-eq_of_lt, mod-eq_of_lt, digit_below)

-- ---- three digits, and the rounding of the last

-- A rest is smaller than den, so that ten times it has one digit again.
pub rest_below : (num den : ℕ) → 0 < den → num % den < den
rest_below num den p = mod-lt num p

-- Three digits, each of ten times what the one before left.
three : (num den : ℕ) → 0 < den →
    100 * num ≡ (100 * (num / den) + 10 * (10 * (num % den) / den) + 10 * (10 * (num % den) % den) / den) * den + 10 * (10 * (num % den) % den) % den
three num den p =
    let u = 10 * (num % den) in
    let v = 10 * (u % den) in
    let x : num / den * den + num % den ≡ num = div-add-mod' num den in
    let y : u / den * den + u % den ≡ u = div-add-mod' u den in
    let z : v / den * den + v % den ≡ v = div-add-mod' v den in
    let h : (100 * (num / den) + 10 * (u / den) + v / den) * den ≡ 100 * (num / den * den) + 10 * (u / den * den) + v / den * den =
    add-mul (100 * (num / den) + 10 * (u / den)) (v / den) den
    ∙ ap (λ (k : ℕ). k + v / den * den) (add-mul (100 * (num / den)) (10 * (u / den)) den
    ∙ ap (λ (k : ℕ). k + 10 * (u / den) * den) (mul_assoc 100 (num / den) den)
    ∙ ap (λ (k : ℕ). 100 * (num / den * den) + k) (mul_assoc 10 (u / den) den)) in
    omega arith

pub three_digits : (num den : ℕ) → 0 < den → 100 * num / den ≡ 100 * (num / den) + 10 * (10 * (num % den) / den) + 10 * (10 * (num % den) % den) / den
three_digits num den p = ap (λ (n : ℕ). n / den) (three num den p) ∙ digits_div _ (mod-lt _ p)

pub three_rest : (num den : ℕ) → 0 < den → 100 * num % den ≡ 10 * (10 * (num % den) % den) % den
three_rest num den p = ap (λ (n : ℕ). n % den) (three num den p) ∙ digits_mod _ (mod-lt _ p)

-- What an order says of `compare`.
order_lt : (o : Ordering) → is_le o ≡ true → compare_is_eq o ≡ false → o ≡ Ordering.lt
order_lt Ordering.lt h k = refl
order_lt Ordering.eq h k = absurd (true≢false k)
order_lt Ordering.gt h k = absurd (true≢false (sym h))

order_eq : (o : Ordering) → compare_is_eq o ≡ true → o ≡ Ordering.eq
order_eq Ordering.lt h = absurd (true≢false (sym h))
order_eq Ordering.eq h = refl
order_eq Ordering.gt h = absurd (true≢false (sym h))

order_gt : (o : Ordering) → is_le o ≡ false → o ≡ Ordering.gt
order_gt Ordering.lt h = absurd (true≢false h)
order_gt Ordering.eq h = absurd (true≢false h)
order_gt Ordering.gt h = refl

module _ (num den : ℕ) where
  -- Less than half is left.
  pub round_down : 100 * num % den * 2 < den → hundredfold num den ≡ 100 * num / den
  round_down h =
      let r = 100 * num % den * 2 in
      let a : r ≤ den = omega arith in
      let n : r ≡ den → ⊥ = omega arith in
      ap (nearest (100 * num / den)) (order_lt (compare r den) (le-leb r den a) (ne_eqb r den n))

  -- Half is left: to the even one.
  pub round_half : 100 * num % den * 2 ≡ den → hundredfold num den ≡ 100 * num / den + 100 * num / den % 2
  round_half h = let r = 100 * num % den * 2 in ap (nearest (100 * num / den)) (order_eq (compare r den) (eq-eqb r den h))

  -- More than half is left.
  pub round_up : den < 100 * num % den * 2 → hundredfold num den ≡ 100 * num / den + 1
  round_up h =
      let r = 100 * num % den * 2 in
      ap (nearest (100 * num / den)) (order_gt (compare r den) (lt-leb r den h)) ∙ sym (add-one (100 * num / den))

-- ---- where the tens stop

-- Where it is known what a question said.
asked : {X : Type 0} (t : Bool) → (t ≡ true → X) → (t ≡ false → X) → X
asked true f g = f refl
asked false f g = g refl

-- den with the tens that fit in num is no larger than num.
above_le : (n num den : ℕ) → den ≤ num → den * 10 ^ tens_above n num den ≤ num
unfolding tens_above
above_le zero num den h = omega (arith, mul-one den)
above_le (suc n) num den h =
    asked (leb (10 * den) num)
    (λ e. rw (above_yes n num den e, ← factor_in 10 den (tens_above n num (10 * den))) (above_le n num (10 * den) (leb-true (10 * den) num e)))
    (λ e. rw (above_no (suc n) num den e) (omega (arith, mul-one den)))

-- Ten times as much is larger, unless the questions ran out.
above_lt : (n num den : ℕ) → num < den * 10 ^ n → num < 10 * (den * 10 ^ tens_above n num den)
unfolding tens_above
above_lt zero num den h = omega (arith, mul-one den)
above_lt (suc n) num den h =
    asked (leb (10 * den) num)
    (λ e. rw (above_yes n num den e, ← factor_in 10 den (tens_above n num (10 * den))) (above_lt n num (10 * den) (rw (← factor_in 10 den n) at h)))
    (λ e. rw (above_no (suc n) num den e) (let l : num < 10 * den = leb-false (10 * den) num e in omega (arith, mul-one den)))

-- num with its tens is below ten times den.
below_lt : (n num den : ℕ) → num < 10 * den → num * 10 ^ tens_below n num den < 10 * den
unfolding tens_below
below_lt zero num den h = omega (arith, mul-one num)
below_lt (suc n) num den h =
    asked (leb den num)
    (λ e. rw (below_yes (suc n) num den e) (omega (arith, mul-one num)))
    (λ e. rw (below_no n num den e, ← factor_in 10 num (tens_below n (10 * num) den)) (below_lt n (10 * num) den (let l : num < den = leb-false den num e in omega arith)))

-- And it is at least den, unless the questions ran out.
below_le : (n num den : ℕ) → den ≤ num * 10 ^ n → den ≤ num * 10 ^ tens_below n num den
unfolding tens_below
below_le zero num den h = h
below_le (suc n) num den h =
    asked (leb den num)
    (λ e. rw (below_yes (suc n) num den e) (let l : den ≤ num = leb-true den num e in omega (arith, mul-one num)))
    (λ e. rw (below_no n num den e, ← factor_in 10 num (tens_below n (10 * num) den)) (below_le n (10 * num) den (rw (← factor_in 10 num n) at h)))

-- The fraction with its tens is from 1 to below 10.
pub between : (num den top a bottom b : ℕ) → Near num den → Scaled (tens_above 64 num den) den 64 bottom a → Scaled (tens_below 64 num den) num 64 top b
    → (bottom ≤ top) × (top < 10 * bottom) × (10 * bottom < room)
between num den top a bottom b near up low =
    let B : bottom ≡ den * 10 ^ tens_above 64 num den = up.scaled ∙ ap (λ (z : ℕ). den * 10 ^ z) up.right in
    let C : top ≡ num * 10 ^ tens_below 64 num den = low.scaled ∙ ap (λ (z : ℕ). num * 10 ^ z) low.right in
    asked (leb den num)
    (λ e.
    let l : den ≤ num = leb-true den num e in
    let z : top ≡ num = C ∙ ap (λ (z : ℕ). num * 10 ^ z) (below_yes 64 num den e) ∙ mul-one num in
    let x : bottom ≤ num = rw B (above_le 64 num den l) in
    let y : num < 10 * bottom = rw B (above_lt 64 num den near.below_tens) in
    (omega arith, omega arith, omega (arith, near.num_room)))
    (λ e.
    let l : num < den = leb-false den num e in
    let k : num < 10 * den = omega arith in
    let z : bottom ≡ den = B ∙ ap (λ (z : ℕ). den * 10 ^ z) (above_no 64 num den (lt-leb (10 * den) num k)) ∙ mul-one den in
    let x : den ≤ top = rw C (below_le 64 num den near.above_tens) in
    let y : top < 10 * den = rw C (below_lt 64 num den k) in
    (omega arith, omega arith, omega (arith, near.den_room)))

-- A pattern's fraction is near 1, as 64 powers of ten go.
pub near : (m k v : ℕ) → 0 < m → m < 2 ^ 24 → k < 254 → v ≡ 1 * 2 ^ 149 → Near (m * 2 ^ k) v
near m k v p h l f =
    let u = m * 2 ^ k in
    let s : u < 2 ^ 277 = doubled_small m k u h l refl in
    let o : 1 ≤ u = mul-pos p (pow_pos k) in
    record {
      num_room = doubled_fits m k u h l refl;
      den_room = doubled_fits 1 149 v (lit< tt) (lit< tt) f;
      below_tens = rw f (lt_of_lt_of_le s (lit≤ {m = 2 ^ 277} {n = 1 * 2 ^ 149 * 10 ^ 64} tt));
      above_tens = rw f (le_trans (lit≤ {m = 1 * 2 ^ 149} {n = 1 * 10 ^ 64} tt) (mul-le-mul_right (10 ^ 64) o));
    }

-- The same of a pattern above 0 whose field is 0.
pub near_small : (b v : ℕ) → (b ≡ 0 → ⊥) → b / 2 ^ 23 ≡ 0 → v ≡ 1 * 2 ^ 149 → Near (b % 2 ^ 23) v
near_small b v n z f =
    let p : 0 < b % 2 ^ 23 = omega arith in
    let l : b % 2 ^ 23 < 2 ^ 24 = omega arith in
    rw (mul-one (b % 2 ^ 23)) at (near (b % 2 ^ 23) 0 v p l (lit< tt) f)

-- The figure of a fraction from its tens and its three digits; the check finds it alone.
pub figure_by_lem : (num den top a bottom b q : ℕ) → Scaled (tens_above 64 num den) den 64 bottom a → Scaled (tens_below 64 num den) num 64 top b → q ≡ hundredfold top bottom
    → figure_text q (pos a -ℤ pos b) ≡ figure_of num den
figure_by_lem num den top a bottom b q up low e =
    ap (λ (z : ℕ). figure_text z (pos a -ℤ pos b)) (e ∙ ap (λ (z : ℕ). hundredfold z bottom) low.scaled ∙ ap (λ (z : ℕ). hundredfold (num * 10 ^ b) z) up.scaled)
    ∙ ap (λ (z : ℕ). figure_by z b num den) up.right
    ∙ ap (λ (z : ℕ). figure_by (tens_above 64 num den) z num den) low.right
