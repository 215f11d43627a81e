-- A fraction to the nearest whole number, by the three ways that twice the remainder can compare with the divisor, and these
-- numbers as shifts and masks give them. Assumes nothing.
use mathlib.Core.Path.{◌≡◌, refl, sym, ap, ◌∙◌, subst}
use Prim.Native.Nat.{ℕ, suc, ◌+◌, ◌-◌, ◌*◌, ◌/◌, ◌%◌, ◌^◌, ◌≤◌, ◌<◌, suc-le-suc}
use Prim.Native.Nat.{compare, Ordering}
use native.Mathlib.Nat.{div-eq_of_lt, mod-eq_of_lt, mod-lt, one-mul, le_trans, lt_of_lt_of_le, div-le_self}
use native.Mathlib.Omega.{arith}
use mathlib.Core.Bool.{not}
use lib.Dec.{T, is_le, compare_is_eq, eqb, leb→le, nleb→lt, eqb→eq, eqb_refl, lit<, lit≤}
use lib.Pow.{pow_pos, pow_mono, shl_exact}
use lib.Bits.{bit_and, and_mask}
use lib.Ieee.{nearest}
use lib.Ieee.Fits.{nearest-le}
use lib.Ieee.Nearest.{closest}

-- ---- `nearest` by the order of a and b

module _ (a b q : ℕ) where
  -- below: the quotient
  nearest_lt : a < b → nearest q (compare a b) ≡ q
  nearest_lt h = go (compare a b) (eqb→eq a b) (nleb→lt a b)
    where
      go : (o : Ordering) → (T (compare_is_eq o) → a ≡ b) → (T (not (is_le o)) → b < a) → nearest q o ≡ q
      go Ordering.lt e k = refl
      go Ordering.eq e k = let p = e tt in absurd (omega arith)
      go Ordering.gt e k = let p = k tt in absurd (omega arith)

  -- above: the next number
  nearest_gt : b < a → nearest q (compare a b) ≡ suc q
  nearest_gt h = go (compare a b) (leb→le a b)
    where
      go : (o : Ordering) → (T (is_le o) → a ≤ b) → nearest q o ≡ suc q
      go Ordering.lt k = let p = k tt in absurd (omega arith)
      go Ordering.eq k = let p = k tt in absurd (omega arith)
      go Ordering.gt k = refl

  -- level: the even one of the two
  nearest_eq : a ≡ b → nearest q (compare a b) ≡ q + q % 2
  nearest_eq h = go (compare a b) (subst (λ (x : ℕ). T (eqb a x)) h (eqb_refl a))
    where
      go : (o : Ordering) → T (compare_is_eq o) → nearest q o ≡ q + q % 2
      go Ordering.lt t = absurd t
      go Ordering.eq t = refl
      go Ordering.gt t = absurd t

-- ---- m / u to the nearest whole number

pub closest_down : (m u : ℕ) → m % u * 2 < u → closest m u ≡ m / u
closest_down m u h = nearest_lt (m % u * 2) u (m / u) h

pub closest_up : (m u : ℕ) → u < m % u * 2 → closest m u ≡ suc (m / u)
closest_up m u h = nearest_gt (m % u * 2) u (m / u) h

pub closest_tie : (m u : ℕ) → m % u * 2 ≡ u → closest m u ≡ m / u + bit_and (m / u) 1
closest_tie m u h = nearest_eq (m % u * 2) u (m / u) h ∙ ap (λ (y : ℕ). m / u + y) (sym (and_mask (m / u) 1))

-- rounding adds one at most
pub closest_le : (m u : ℕ) → closest m u ≤ suc m
closest_le m u = le_trans (nearest-le (m / u) (compare (m % u * 2) u)) (suc-le-suc (div-le_self m u))

-- all 53 digits of a double are less than a half where more than 53 go
pub closest_far : (m d : ℕ) → m < 2 ^ 53 → 54 ≤ d → closest m (2 ^ d) ≡ 0
closest_far m d h l =
    let k : m * 2 < 2 ^ 54 = omega arith in
    let s : m * 2 < 2 ^ d = lt_of_lt_of_le k (pow_mono l) in
    let b : m < 2 ^ d = omega arith in
    closest_down m (2 ^ d) (rw (mod-eq_of_lt b) s) ∙ div-eq_of_lt b

-- ---- as shifts and masks give them

-- a bit moved up
pub unit_is : (d : ℕ) → d ≤ 54 → (1 * 2 ^ d) % 2 ^ 64 ≡ 2 ^ d
unit_is d l = shl_exact 1 d 64 (lit< tt) (omega arith) ∙ one-mul (2 ^ d)

-- twice what a mask of d bits keeps
pub twice_is : (m d : ℕ) → d ≤ 54 → (bit_and m ((1 * 2 ^ d) % 2 ^ 64 - 1) * 2 ^ 1) % 2 ^ 64 ≡ m % 2 ^ d * 2
twice_is m d l =
    let a : m % 2 ^ d < 2 ^ 54 = lt_of_lt_of_le (mod-lt m (pow_pos d)) (pow_mono l) in
    ap (λ (x : ℕ). (bit_and m (x - 1) * 2) % 2 ^ 64) (unit_is d l)
    ∙ ap (λ (x : ℕ). (x * 2) % 2 ^ 64) (and_mask m d)
    ∙ shl_exact 54 1 64 a (lit≤ tt)
