-- Laws of a figure as one of a fraction: equal fractions have one figure, and a pattern's value is such a fraction. Assumes nothing.
use Prim.Native.Nat.{ℕ, zero, suc, ◌+◌, ◌-◌, ◌*◌, ◌/◌, ◌%◌, ◌^◌, ◌≤◌, ◌<◌}
use mathlib.Core.Path.{◌≡◌, refl, sym, ap, ◌∙◌}
use mathlib.Core.Bool.{Bool, true, false, cond}
use mathlib.Core.List.{[]}
use native.Mathlib.Nat.{mul_comm, mul_assoc, mul_left_comm, mul-mul-mul_comm, mul-pos, mul-le-mul_right, le_of_mul-le-mul_right, le_trans, lt_of_lt_of_le, le_of_eq, pow-le-pow_right, mod-eq_of_lt}
use native.Mathlib.Omega.{arith}
use lib.Dec.{T, leb, eqb, lit<}
use lib.IntN.{pos, ◌-ℤ◌}
use lib.Pow.{pow_pos}
use lib.Ieee.{Float, nan, inf, fin, binary32, of_bits, of_fields, odd, hid, top}
use lib.Ieee.Exact.{HasValue, odd_sign}
use lib.Ieee.Nearest.{closest_same}
use lib.Ieee.Positive.{num, den, den_pos, positive, positive_of_value, value→cross}
use borrow.Author.Tests.{le-leb, lt-leb, leb-true, leb-false, ne_eqb}
use Rattle.lsm_format.specs.Calibration.{tens_above, tens_below, hundredfold, figure_text, figure_by, figure}
use Rattle.figure.specs.Wide.{figure_of}

-- ---- equal fractions

-- Two tests of which each implies the other.
both : (s t : Bool) → (s ≡ true → t ≡ true) → (t ≡ true → s ≡ true) → s ≡ t
both true t f g = sym (f refl)
both false true f g = g refl
both false false f g = refl

-- a / b reaches 1 where c / d does.
reach : (a b c d : ℕ) → 0 < b → a * d ≡ c * b → b ≤ a → d ≤ c
reach a b c d B e h = le_of_mul-le-mul_right (le_trans (le_of_eq (mul_comm d b)) (le_trans (mul-le-mul_right d h) (le_of_eq e))) B

-- The same as a test.
leb_same : (a b c d : ℕ) → 0 < b → 0 < d → a * d ≡ c * b → leb b a ≡ leb d c
leb_same a b c d B D e =
    both (leb b a) (leb d c) (λ h. le-leb d c (reach a b c d B e (leb-true b a h))) (λ h. le-leb b a (reach c d a b D (sym e) (leb-true d c h)))

-- The fractions stay equal where both are divided by ten, and where both are multiplied.
by_ten : (a b c d : ℕ) → a * d ≡ c * b → a * (10 * d) ≡ c * (10 * b)
by_ten a b c d e = mul_left_comm a 10 d ∙ ap (λ (z : ℕ). 10 * z) e ∙ mul_left_comm 10 c b

ten_times : (a b c d : ℕ) → a * d ≡ c * b → 10 * a * d ≡ 10 * c * b
ten_times a b c d e = mul_assoc 10 a d ∙ ap (λ (z : ℕ). 10 * z) e ∙ sym (mul_assoc 10 c b)

ten_pos : (n : ℕ) → 0 < n → 0 < 10 * n
ten_pos n h = omega arith

-- Equal fractions have the same tens above 1.
above_same : (n a b c d : ℕ) → 0 < b → 0 < d → a * d ≡ c * b → tens_above n a b ≡ tens_above n c d
unfolding tens_above
above_same zero a b c d B D e = refl
above_same (suc n) a b c d B D e =
    let f : a * (10 * d) ≡ c * (10 * b) = by_ten a b c d e in
    ap (λ (t : Bool). elim t [ true ↦ suc (tens_above n a (10 * b)) | false ↦ 0 ]) (leb_same a (10 * b) c (10 * d) (ten_pos b B) (ten_pos d D) f)
    ∙ ap (λ (r : ℕ). elim (leb (10 * d) c) [ true ↦ suc r | false ↦ 0 ]) (above_same n a (10 * b) c (10 * d) (ten_pos b B) (ten_pos d D) f)

-- And below 1.
below_same : (n a b c d : ℕ) → 0 < b → 0 < d → a * d ≡ c * b → tens_below n a b ≡ tens_below n c d
unfolding tens_below
below_same zero a b c d B D e = refl
below_same (suc n) a b c d B D e =
    ap (λ (t : Bool). elim t [ true ↦ 0 | false ↦ suc (tens_below n (10 * a) b) ]) (leb_same a b c d B D e)
    ∙ ap (λ (r : ℕ). elim (leb d c) [ true ↦ 0 | false ↦ suc r ]) (below_same n (10 * a) b (10 * c) d B D (ten_times a b c d e))

-- And the same three digits.
hundredfold_same : (a b c d p q : ℕ) → 0 < b → 0 < d → 0 < q → a * d ≡ c * b → hundredfold (a * p) (b * q) ≡ hundredfold (c * p) (d * q)
hundredfold_same a b c d p q B D Q e =
    closest_same (100 * (a * p)) (b * q) (100 * (c * p)) (d * q) (mul-pos B Q) (mul-pos D Q)
    (mul_assoc 100 (a * p) (d * q)
    ∙ ap (λ (z : ℕ). 100 * z) (mul-mul-mul_comm a p d q ∙ ap (λ (z : ℕ). z * (p * q)) e ∙ sym (mul-mul-mul_comm c p b q))
    ∙ sym (mul_assoc 100 (c * p) (b * q)))

-- A power of ten is above 0.
ten_pow_pos : (n : ℕ) → 0 < 10 ^ n
ten_pow_pos n = lt_of_lt_of_le (lit< {m = 0} {n = 1} tt) (pow-le-pow_right {n = 10} (lit< tt) {i = 0} {j = n} (omega arith))

-- So they have one figure.
pub figure_same : (a b c d : ℕ) → 0 < b → 0 < d → a * d ≡ c * b → figure_of a b ≡ figure_of c d
figure_same a b c d B D e =
    let A : tens_above 64 a b ≡ tens_above 64 c d = above_same 64 a b c d B D e in
    let L : tens_below 64 a b ≡ tens_below 64 c d = below_same 64 a b c d B D e in
    let p = tens_below 64 c d in
    let q = tens_above 64 c d in
    ap (λ (z : ℕ). figure_by z (tens_below 64 a b) a b) A
    ∙ ap (λ (z : ℕ). figure_by q z a b) L
    ∙ ap (λ (z : ℕ). figure_text z (pos q -ℤ pos p)) (hundredfold_same a b c d (10 ^ p) (10 ^ q) B D (ten_pow_pos q) e)

-- ---- a value's figure

-- A value above 0 has the figure of its own fraction.
figure_positive : (x : Float) → T (positive x) → figure x ≡ figure_of (num x) (den x)
unfolding figure
figure_positive nan p = absurd p
figure_positive (inf s) p = absurd p
figure_positive (fin true m e) p = absurd p
figure_positive (fin false zero e) p = absurd p
figure_positive (fin false (suc m) e) p = refl

-- And of any fraction that it equals.
figure_value : (x : Float) (a c : ℕ) → HasValue x false a c → 0 < a → 0 < c → figure x ≡ figure_of a c
figure_value x a c h A C = figure_positive x (positive_of_value x a c h A) ∙ figure_same (num x) (den x) a c (den_pos x) C (value→cross x a c h)

-- A choice of two values with no figure.
figure_cond : (b : Bool) (x y : Float) → figure x ≡ [] → figure y ≡ [] → figure (cond b x y) ≡ []
figure_cond true x y p q = p
figure_cond false x y p q = q

-- A value with the sign set.
figure_odd : (d q k l : ℕ) → figure (odd d true q k l) ≡ []
unfolding figure odd
figure_odd d zero k l = refl
figure_odd d (suc q) k l = refl

-- No figure below 0.
figure_negative : (x t : ℕ) → figure (of_fields binary32 true x t) ≡ []
unfolding figure of_fields
figure_negative zero t = figure_odd 24 t 0 149
figure_negative (suc x) t =
    figure_cond (eqb (suc x) 255) (cond (eqb t 0) (inf true) nan) (odd 24 true (2 ^ 23 + t) x 149) (figure_cond (eqb t 0) (inf true) nan refl refl) (figure_odd 24 (2 ^ 23 + t) x 149)

-- None of what is not finite.
figure_ones : (s : Bool) (t : ℕ) → figure (of_fields binary32 s 255 t) ≡ []
unfolding figure of_fields
figure_ones s t = figure_cond (eqb t 0) (inf s) nan refl refl

-- ---- a pattern's figure

-- The pattern 0.
pub figure_zero : (b : ℕ) → b ≡ 0 → figure (of_bits binary32 b) ≡ []
unfolding figure of_bits of_fields odd
figure_zero b e = ap (λ (z : ℕ). figure (of_bits binary32 z)) e

-- From the infinity on: not finite, or the sign is set.
pub figure_none : (b : ℕ) → 0x7f80_0000 ≤ b → b < 2 ^ 32 → figure (of_bits binary32 b) ≡ []
unfolding of_bits
figure_none b h f = go (leb (top binary32) b) refl
  where
    go : (s : Bool) → leb (top binary32) b ≡ s → figure (of_fields binary32 s (b % top binary32 / hid binary32) (b % hid binary32)) ≡ []
    go true e = figure_negative (b % top binary32 / hid binary32) (b % hid binary32)
    go false e =
        let l : b < 2 ^ 31 = leb-false (2 ^ 31) b e in
        let x : b % 2 ^ 31 / 2 ^ 23 ≡ 255 = omega arith in
        ap (λ (z : ℕ). figure (of_fields binary32 false z (b % hid binary32))) x ∙ figure_ones false (b % hid binary32)

-- The fields of a pattern below 2 ^ 31.
fields : (b : ℕ) → b < 2 ^ 31 → of_bits binary32 b ≡ of_fields binary32 false (b / 2 ^ 23) (b % 2 ^ 23)
unfolding of_bits
fields b h =
    ap (λ (s : Bool). of_fields binary32 s (b % 2 ^ 31 / 2 ^ 23) (b % 2 ^ 23)) (lt-leb (2 ^ 31) b h)
    ∙ ap (λ (z : ℕ). of_fields binary32 false (z / 2 ^ 23) (b % 2 ^ 23)) (mod-eq_of_lt h)

-- A field of 0: no leading bit.
pub figure_tiny : (b u v : ℕ) → (b ≡ 0 → ⊥) → b < 2 ^ 31 → b / 2 ^ 23 ≡ 0 → u ≡ b % 2 ^ 23 * 2 ^ 0 → v ≡ 1 * 2 ^ 149 → figure_of u v ≡ figure (of_bits binary32 b)
unfolding of_fields
figure_tiny b u v n h z e f =
    let m = b % 2 ^ 23 in
    let p : 0 < m = omega arith in
    ap (λ (w : ℕ). figure_of w v) e
    ∙ ap (λ (w : ℕ). figure_of (m * 2 ^ 0) w) f
    ∙ sym (figure_value (odd 24 false m 0 149) (m * 2 ^ 0) (2 ^ 149) (odd_sign 24 false m 0 149) (mul-pos p (pow_pos 0)) (pow_pos 149))
    ∙ ap (λ (w : ℕ). figure (of_fields binary32 false w m)) (sym z)
    ∙ ap figure (sym (fields b h))

-- Another field: a leading bit, and one doubling less than the field.
pub figure_normal : (b u v : ℕ) → b < 0x7f80_0000 → (b / 2 ^ 23 ≡ 0 → ⊥) → u ≡ (2 ^ 23 + b % 2 ^ 23) * 2 ^ (b / 2 ^ 23 - 1) → v ≡ 1 * 2 ^ 149
    → figure_of u v ≡ figure (of_bits binary32 b)
unfolding of_fields
figure_normal b u v h n e f =
    let m = 2 ^ 23 + b % 2 ^ 23 in
    let k = b / 2 ^ 23 - 1 in
    let p : 0 < m = omega arith in
    let s : b / 2 ^ 23 ≡ suc k = omega arith in
    let o : suc k ≡ 255 → ⊥ = omega arith in
    ap (λ (w : ℕ). figure_of w v) e
    ∙ ap (λ (w : ℕ). figure_of (m * 2 ^ k) w) f
    ∙ sym (figure_value (odd 24 false m k 149) (m * 2 ^ k) (2 ^ 149) (odd_sign 24 false m k 149) (mul-pos p (pow_pos k)) (pow_pos 149))
    ∙ ap (λ (t : Bool). figure (cond t (cond (eqb (b % 2 ^ 23) 0) (inf false) nan) (odd 24 false m k 149))) (sym (ne_eqb (suc k) 255 o))
    ∙ ap (λ (w : ℕ). figure (of_fields binary32 false w (b % 2 ^ 23))) (sym s)
    ∙ ap figure (sym (fields b (omega arith)))
