-- The f32 pattern of what a double's pattern stands for, by the double's fields as shifts and masks give them. Assumes nothing.
use mathlib.Core.Path.{◌≡◌, refl, sym, ap, ◌∙◌}
use mathlib.Core.Logic.{◌⊎◌, inl, inr}
use Prim.Native.Nat.{ℕ, zero, suc, ◌+◌, ◌-◌, ◌*◌, ◌/◌, ◌%◌, ◌^◌, ◌≤◌, ◌<◌, min, compare}
use native.Mathlib.Nat.{le_refl, le_trans, le_of_eq, lt_of_lt_of_le, add-le-add, add_comm, zero-add, mul_assoc}
use native.Mathlib.Nat.{min-eq_left, min-le_right}
use native.Mathlib.Omega.{arith}
use mathlib.Core.Bool.{Bool, true, false, not, cond}
use lib.Dec.{T, leb, eqb, leb→le, nleb→lt, lit≤}
use lib.Pow.{pow-add, pow_pos, pow_mono, shr_lt, field}
use lib.Bits.{bit_and, and_mask, mask_lt}
use lib.Ieee.{Float, nan, inf, fin, binary32, binary64, up, down, odd, round, of_fields, of_bits, to_bits}
use lib.Ieee.Fits.{down_pos, nearest-le}
use lib.Ieee.Exact.{HasValue, odd_sign}
use lib.Ieee.Nearest.{closest}
use lib.Ieee.Scale.{round_same}
use borrow.Author.Tests.{ne_eqb}
use Rattle.lsm_format.specs.Calibration.{narrow}
use Rattle.narrowing.proofs.Halves.{closest_far}
use Rattle.narrowing.proofs.Pattern.{less_or_not, to_bits_round}

-- ---- a finite double

-- what narrows is the value, however it is written
narrow_value : (v : Float) (s : Bool) (a c : ℕ) → 0 < c → HasValue v s a c → narrow v ≡ round binary32 s a c
unfolding narrow
narrow_value nan s a c C h = absurd h
narrow_value (inf t) s a c C h = absurd h
narrow_value (fin t m e) s a c C h =
    ap (λ (b : Bool). round binary32 b (m * up e) (down e)) h.0
    ∙ round_same binary32 s (m * up e) (down e) a c (down_pos e) C h.1

-- of m * 2 ^ k of a double's smallest values, without the sign: 29 of 53 digits go, and more below the smallest normal f32
abbrev pub sized : ℕ → ℕ → ℕ
sized k m = min ((k - 896) * 2 ^ 23 + closest m (2 ^ (29 + (896 - k)))) 0x7f80_0000

narrow_odd : (s : Bool) (k m : ℕ) → m < 2 ^ 53 → (896 < k → 2 ^ 52 ≤ m)
    → to_bits binary32 (narrow (odd 53 s m k 1074)) ≡ cond s (2 ^ 31) 0 + sized k m
narrow_odd s k m h lead =
    ap (to_bits binary32) (narrow_value (odd 53 s m k 1074) s (m * 2 ^ k) (2 ^ 1074) (pow_pos 1074) (odd_sign 53 s m k 1074))
    ∙ to_bits_round binary32 s (m * 2 ^ k) (2 ^ 1074) m (29 + (896 - k)) (k - 896) (pow_pos 1074) same
    (lt_of_lt_of_le h (pow_mono many)) (full (less_or_not 896 k))
  where
    -- both are m times one power of two
    same : m * 2 ^ k * 2 ^ 149 * 2 ^ (29 + (896 - k)) ≡ m * 2 ^ (k - 896) * 2 ^ 1074
    same =
        let d = 29 + (896 - k) in
        let e : k + 149 + d ≡ k - 896 + 1074 = omega arith in
        ap (λ (x : ℕ). x * 2 ^ d) (mul_assoc m (2 ^ k) (2 ^ 149) ∙ ap (λ (x : ℕ). m * x) (sym (pow-add 2 k 149)))
        ∙ mul_assoc m (2 ^ (k + 149)) (2 ^ d)
        ∙ ap (λ (x : ℕ). m * x) (sym (pow-add 2 (k + 149) d) ∙ ap (λ (x : ℕ). 2 ^ x) e ∙ pow-add 2 (k - 896) 1074)
        ∙ sym (mul_assoc m (2 ^ (k - 896)) (2 ^ 1074))

    many : 53 ≤ 24 + (29 + (896 - k))
    many = omega arith

    full : (896 < k) ⊎ (k ≤ 896) → (k - 896 ≡ 0) ⊎ (2 ^ (23 + (29 + (896 - k))) ≤ m)
    full (inl l) = let e : 23 + (29 + (896 - k)) ≡ 52 = omega arith in inr (rw e (lead l))
    full (inr l) = inl (omega arith)

-- by a double's fields: a field of 0 has no leading digit, and counts as a field of 1
abbrev pub pattern : ℕ → ℕ → ℕ
pattern zero t = sized 0 t
pattern (suc x) t = sized x (2 ^ 52 + t)

-- the f32 pattern of what a double's fields stand for
abbrev pub written : Bool → ℕ → ℕ → ℕ
written s x t = to_bits binary32 (narrow (of_fields binary64 s x t))

fields : (s : Bool) (x t : ℕ) → x < 2047 → t < 2 ^ 52 → written s x t ≡ cond s (2 ^ 31) 0 + pattern x t
unfolding of_fields
fields s zero t X h = narrow_odd s 0 t (omega arith) (λ l. absurd (omega arith))
fields s (suc x) t X h =
    let n : suc x ≡ 2047 → ⊥ = omega arith in
    let v : Float = odd 53 s (2 ^ 52 + t) x 1074 in
    ap (λ (b : Bool). to_bits binary32 (narrow (cond b (cond (eqb t 0) (inf s) nan) v))) (ne_eqb (suc x) 2047 n)
    ∙ narrow_odd s x (2 ^ 52 + t) (omega arith) (λ l. omega arith)

unsigned : (x t : ℕ) → x < 2047 → t < 2 ^ 52 → written false x t ≡ pattern x t
unsigned x t X h = fields false x t X h ∙ zero-add (pattern x t)

-- ---- the code's cases of a finite double

-- a subnormal double is less than half of the smallest f32
pub pattern_subnormal : (x t : ℕ) → x ≡ 0 → t < 2 ^ 52 → 0 ≡ pattern x t
pattern_subnormal zero t e h = rw (closest_far t 925 (omega arith) (lit≤ tt))
pattern_subnormal (suc x) t e h = absurd (omega arith)

few : (m d : ℕ) → m < 2 ^ 53 → 30 ≤ d → closest m (2 ^ d) ≤ 0x7f80_0000
few m d h l =
    le_trans (nearest-le (m / 2 ^ d) (compare (m % 2 ^ d * 2) (2 ^ d)))
    (lt_of_lt_of_le (shr_lt 23 d (lt_of_lt_of_le h (pow_mono (add-le-add (le_refl 23) l)))) (lit≤ tt))

-- below the smallest normal f32
pub pattern_low : (x t : ℕ) → 0 < x → x < 897 → t < 2 ^ 52 → closest (t + 2 ^ 52) (2 ^ (926 - x)) ≡ pattern x t
pattern_low zero t p l h = absurd (omega arith)
pattern_low (suc x) t p l h =
    let d : 926 - suc x ≡ 29 + (896 - x) = omega arith in
    let z : (x - 896) * 2 ^ 23 ≡ 0 = omega arith in
    rw (d, add_comm t (2 ^ 52), z, zero-add)
    (sym (min-eq_left (few (2 ^ 52 + t) (29 + (896 - x)) (omega arith) (omega arith))))

-- from the smallest normal f32 on: the field beside what is kept
pattern_high : (x t : ℕ) → 897 ≤ x → x < 2047 → pattern x t ≡ min ((x - 897) * 2 ^ 23 + closest (t + 2 ^ 52) (2 ^ 29)) 0x7f80_0000
pattern_high zero t l k = absurd (omega arith)
pattern_high (suc x) t l k =
    let d : 29 + (896 - x) ≡ 29 = omega arith in
    let z : suc x - 897 ≡ x - 896 = omega arith in
    rw (d, z, add_comm t (2 ^ 52))

pub written_high : (x t : ℕ) → 897 ≤ x → x < 2047 → t < 2 ^ 52
    → to_bits binary32 (narrow (of_fields binary64 false x t)) ≡ min ((x - 897) * 2 ^ 23 + closest (t + 2 ^ 52) (2 ^ 29)) 0x7f80_0000
written_high x t l k h = unsigned x t k h ∙ pattern_high x t l k

-- what `magnitude` ensures, of a number that is the pattern
pub answer : (x t r : ℕ) → x < 2047 → t < 2 ^ 52 → r ≡ pattern x t → (r ≡ written false x t) × (r ≤ 0x7f80_0000)
answer x t r X h e = (e ∙ sym (unsigned x t X h), le_trans (le_of_eq e) (bounded x))
  where
    bounded : (x : ℕ) → pattern x t ≤ 0x7f80_0000
    bounded zero = min-le_right _ _
    bounded (suc x) = min-le_right _ _

-- ---- the highest field

infinity : (s : Bool) → written s 2047 0 ≡ cond s (2 ^ 31) 0 + 0x7f80_0000
unfolding to_bits narrow of_fields
infinity s = refl

not_a_number : (s : Bool) (t : ℕ) → (t ≡ 0 → ⊥) → written s 2047 t ≡ 0x7fc0_0000
unfolding to_bits narrow of_fields
not_a_number s t q = ap (λ (b : Bool). to_bits binary32 (narrow (cond b (inf s) nan))) (ne_eqb t 0 q)

-- ---- a whole pattern

module _ (b : ℕ) where
  abbrev exponent : ℕ
  exponent = bit_and (b / 2 ^ 52) 0x7ff

  abbrev fraction : ℕ
  fraction = bit_and b 0xf_ffff_ffff_ffff

  -- the narrowed pattern, by the fields as shifts and masks give them
  by_fields : to_bits binary32 (narrow (of_bits binary64 b)) ≡ written (leb (2 ^ 63) b) exponent fraction
  unfolding of_bits
  by_fields =
      ap (λ (x : ℕ). written (leb (2 ^ 63) b) x (b % 2 ^ 52)) (field b 11 52 ∙ sym (and_mask (b / 2 ^ 52) 11))
      ∙ ap (λ (t : ℕ). written (leb (2 ^ 63) b) exponent t) (sym (and_mask b 52))

  -- the sign's bit, moved from 63 to 31
  sign_moved : b < 2 ^ 64 → b / 2 ^ 63 * 2 ^ 31 ≡ cond (leb (2 ^ 63) b) (2 ^ 31) 0
  sign_moved h = go (leb (2 ^ 63) b) (leb→le (2 ^ 63) b) (nleb→lt (2 ^ 63) b)
    where
      go : (t : Bool) → (T t → 2 ^ 63 ≤ b) → (T (not t) → b < 2 ^ 63) → b / 2 ^ 63 * 2 ^ 31 ≡ cond t (2 ^ 31) 0
      go true l k = let g = l tt in omega arith
      go false l k = let g = k tt in omega arith

  pub of_finite : b < 2 ^ 64 → (exponent ≡ 2047 → ⊥)
      → b / 2 ^ 63 * 2 ^ 31 + written false exponent fraction ≡ to_bits binary32 (narrow (of_bits binary64 b))
  of_finite h q =
      let X : exponent < 2047 = omega (arith, mask_lt (b / 2 ^ 52) 11) in
      rw (sign_moved h, unsigned exponent fraction X (mask_lt b 52))
      (sym (by_fields ∙ fields (leb (2 ^ 63) b) exponent fraction X (mask_lt b 52)))

  pub of_infinity : b < 2 ^ 64 → exponent ≡ 2047 → fraction ≡ 0
      → b / 2 ^ 63 * 2 ^ 31 + 0x7f80_0000 ≡ to_bits binary32 (narrow (of_bits binary64 b))
  of_infinity h x t = rw (sign_moved h) (sym (by_fields ∙ rw (x, t) (infinity (leb (2 ^ 63) b))))

  pub of_nan : exponent ≡ 2047 → (fraction ≡ 0 → ⊥) → 0x7fc0_0000 ≡ to_bits binary32 (narrow (of_bits binary64 b))
  of_nan x t = sym (by_fields ∙ rw x (not_a_number (leb (2 ^ 63) b) fraction t))
