-- The product by a million and its narrowing: where they are no NaN, and that the pattern written is read as the micrometres.
-- Assumes nothing.
use mathlib.Core.Path.{◌≡◌, refl, sym, ap, ◌∙◌, subst}
use Prim.Native.Nat.{ℕ, zero, suc, ◌+◌, ◌*◌, ◌^◌, ◌≤◌, ◌<◌}
use mathlib.Core.Bool.{Bool, true, false, not, cond, false≢true}
use lib.Dec.{T, ltb}
use lib.Bits.{bit_and, and_mask}
use lib.Ieee.{Float, nan, inf, fin, Format, binary32, binary64, prec, emax, low, unlike, up, down}
use lib.Ieee.{odd, units, round, mul, fits, is_nan, nan_bits, of_bits, to_bits}
use lib.Ieee.Bits.{of_bits-to_bits, nan_bits_is, nan_bits_above}
use lib.Ieee.Fits.{round-fits, mul-fits, nan-fits, inf-fits}
use borrow.Author.Tests.{lt-ltb, le-ltb}
use Rattle.lsm_format.specs.Calibration.{million, narrow, micrometres}

-- ---- no NaN

abbrev pub Number : Float → Type 0
Number v = T (not (is_nan v))

odd_number : (d : ℕ) (s : Bool) (q k l : ℕ) → Number (odd d s q k l)
unfolding odd is_nan
odd_number d s zero k l = tt
odd_number d s (suc q) k l = tt

units_number : (f : Format) (s : Bool) (q k : ℕ) → Number (units f s q k)
unfolding units
units_number f s q k = go (ltb (q * 2 ^ k) (2 ^ (low f + suc (emax f))))
  where
    go : (b : Bool) → Number (cond b (odd (suc (prec f)) s q k (low f)) (inf s))
    go true = odd_number (suc (prec f)) s q k (low f)
    go false = unfold is_nan in tt

-- what is rounded is a number
round_number : (f : Format) (s : Bool) (num den : ℕ) → Number (round f s num den)
unfolding round
round_number f s num den = units_number f s _ _

-- a million is not 0, so an infinity times it is an infinity
mul_number : (v : Float) → Number v → Number (mul binary64 v million)
unfolding mul is_nan
mul_number nan h = h
mul_number (inf s) h = tt
mul_number (fin s m e) h = round_number binary64 (unlike s false) (m * up e * (15625 * 2 ^ 6)) (down e * 1)

is_nan_lem : (v : Float) → is_nan v ≡ true → v ≡ nan
unfolding is_nan
is_nan_lem nan h = refl
is_nan_lem (inf s) h = absurd (false≢true h)
is_nan_lem (fin s m e) h = absurd (false≢true h)

narrow_number : (v : Float) → Number v → Number (narrow v)
unfolding narrow is_nan
narrow_number nan h = h
narrow_number (inf s) h = tt
narrow_number (fin s m e) h = round_number binary32 s (m * up e) (down e)

pub narrow_fits : (v : Float) → T (fits binary32 (narrow v))
unfolding narrow
narrow_fits nan = nan-fits binary32
narrow_fits (inf s) = inf-fits binary32 s
narrow_fits (fin s m e) = round-fits binary32 s (m * up e) (down e)

-- ---- NaNs among the patterns

-- without its sign's bit a NaN's pattern is above the infinity's
tested : (b : ℕ) → nan_bits binary64 b ≡ ltb 0x7ff0_0000_0000_0000 (bit_and b 0x7fff_ffff_ffff_ffff)
tested b = nan_bits_above binary64 b ∙ ap (ltb 0x7ff0_0000_0000_0000) (sym (and_mask b 63))

pub pattern_nan : (b : ℕ) → 0x7ff0_0000_0000_0000 < bit_and b 0x7fff_ffff_ffff_ffff → of_bits binary64 b ≡ nan
pattern_nan b h = is_nan_lem (of_bits binary64 b) (sym (nan_bits_is binary64 b) ∙ tested b ∙ lt-ltb _ _ h)

pub refused : (b : ℕ) → 0x7ff0_0000_0000_0000 < bit_and b 0x7fff_ffff_ffff_ffff → micrometres b ≡ nan
unfolding micrometres narrow mul
refused b h = ap (λ (v : Float). narrow (mul binary64 v million)) (pattern_nan b h)

pub taken : (b : ℕ) → bit_and b 0x7fff_ffff_ffff_ffff ≤ 0x7ff0_0000_0000_0000 → T (not (nan_bits binary64 b))
taken b h = subst (λ (t : Bool). T (not t)) (sym (tested b ∙ le-ltb _ _ h)) tt

-- ---- the product, and what it is narrowed to

-- a million, by its pattern as the code's constant has it
factor : of_bits binary64 0x412e_8480_0000_0000 ≡ million
unfolding of_bits
factor = refl

abbrev pub product : ℕ → Float
product b = mul binary64 (of_bits binary64 b) (of_bits binary64 0x412e_8480_0000_0000)

-- the pattern that is written for the product narrowed
abbrev pub pattern : ℕ → ℕ
pattern b = to_bits binary32 (narrow (of_bits binary64 (to_bits binary64 (product b))))

pub product_number : (b : ℕ) → T (not (nan_bits binary64 b)) → Number (product b)
product_number b h = rw factor (mul_number (of_bits binary64 b) (rw (nan_bits_is binary64 b) at h))

by_product : (b : ℕ) → micrometres b ≡ narrow (product b)
unfolding micrometres
by_product b = ap (λ (v : Float). narrow (mul binary64 (of_bits binary64 b) v)) (sym factor)

-- a product that is a NaN
pub product_nan : (b : ℕ) → is_nan (product b) ≡ true → micrometres b ≡ nan
unfolding narrow
product_nan b h = by_product b ∙ ap narrow (is_nan_lem (product b) h)

pub narrowed : (b r : ℕ) → r ≡ pattern b → of_bits binary32 r ≡ micrometres b
narrowed b r e =
    let p = product b in
    let q : of_bits binary64 (to_bits binary64 p) ≡ p = of_bits-to_bits binary64 p (mul-fits binary64 _ _) in
    ap (of_bits binary32) (e ∙ ap (λ (v : Float). to_bits binary32 (narrow v)) q)
    ∙ of_bits-to_bits binary32 (narrow p) (narrow_fits p)
    ∙ sym (by_product b)

-- and one that is none
pub narrowed_number : (b : ℕ) → is_nan (product b) ≡ false → T (not (nan_bits binary32 (pattern b)))
narrowed_number b h = rw (nan_bits_is binary32 (pattern b), narrowed b (pattern b) refl, by_product b) (narrow_number (product b) (rw h tt))

-- what is no NaN has no NaN's pattern written
pub written_number : (b r : ℕ) → T (not (nan_bits binary64 b)) → r ≡ pattern b → T (not (nan_bits binary32 r))
unfolding micrometres
written_number b r h e =
    let v = of_bits binary64 b in
    rw (nan_bits_is binary32 r, narrowed b r e)
    (narrow_number (mul binary64 v million) (mul_number v (rw (nan_bits_is binary64 b) at h)))

-- what is no NaN has no NaN's micrometres
pub micrometres_number : (b : ℕ) → Number (of_bits binary64 b) → Number (micrometres b)
unfolding micrometres
micrometres_number b h = narrow_number (mul binary64 (of_bits binary64 b) million) (mul_number (of_bits binary64 b) h)
