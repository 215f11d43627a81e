-- Laws of the tests on a voxel size, of the Z step by its place, and of the whole calibration. Assumes nothing.
use mathlib.Core.Path.{◌≡◌, refl, sym, ap, subst}
use Prim.Native.Nat.{ℕ}
use mathlib.Core.Bool.{Bool, true, false, true≢false, ◌&&◌}
use lib.Ieee.{Float, nan, inf, fin, binary32, binary64, of_bits, to_bits, fits, is_nan, lt, le}
use lib.Ieee.Bits.{of_bits-to_bits}
use lib.Dec.{T}
use Rattle.std.specs.Float.{float_is_finite}
use Rattle.lsm_format.specs.Calibration.{uncalibrated, sized, calibration, above_nought, nought, micrometres, figure}
use Rattle.lsm_format.specs.Calibration.{used, absent, placeholder, too_large, z_step, step_by, smallest_step, largest_step}
use Rattle.narrowing.proofs.Product.{Number, micrometres_number}

-- ---- the code's constants, by their patterns

nought_wide : of_bits binary64 0 ≡ nought
unfolding of_bits
nought_wide = refl

nought_is : of_bits binary32 0 ≡ nought
unfolding of_bits
nought_is = refl

largest_is : of_bits binary32 0x447a_0000 ≡ largest_step
unfolding of_bits
largest_is = refl

-- ---- X and Y

pub above_is : (b : ℕ) → lt (of_bits binary64 0) (of_bits binary64 b) ≡ above_nought b
above_is b = rw nought_wide

-- ---- the Z step

module _ (z : Float) where
  pub step_endless : float_is_finite z ≡ false → absent ≡ z_step z
  unfolding z_step float_is_finite
  step_endless h = go z h
    where
      go : (v : Float) → float_is_finite v ≡ false → absent ≡ z_step v
      go nan h = refl
      go (inf s) h = refl
      go (fin s m e) h = absurd (true≢false h)

  pub step_below : le z (of_bits binary32 0) ≡ true → absent ≡ z_step z
  unfolding z_step
  step_below h = go z (rw nought_is at h)
    where
      go : (v : Float) → le v nought ≡ true → absent ≡ z_step v
      go nan h = refl
      go (inf s) h = refl
      go (fin s m e) h = rw h

  module _ (f : float_is_finite z ≡ true) (h : le z (of_bits binary32 0) ≡ false) where
    step_above : z_step z ≡ step_by false (lt z smallest_step) (lt largest_step z) z
    unfolding z_step float_is_finite
    step_above = go z f (rw nought_is at h)
      where
        go : (v : Float) → float_is_finite v ≡ true → le v nought ≡ false → z_step v ≡ step_by false (lt v smallest_step) (lt largest_step v) v
        go nan f h = absurd (true≢false (sym f))
        go (inf s) f h = absurd (true≢false (sym f))
        go (fin s m e) f h = rw h

    pub step_placeholder : lt z (of_bits binary32 0x3586_37bd) ≡ true → placeholder z ≡ z_step z
    step_placeholder t = rw (step_above, t)

    pub step_large : lt z (of_bits binary32 0x3586_37bd) ≡ false → lt (of_bits binary32 0x447a_0000) z ≡ true → too_large z ≡ z_step z
    step_large t u = rw (step_above, t, rw largest_is at u)

    pub step_used : lt z (of_bits binary32 0x3586_37bd) ≡ false → lt (of_bits binary32 0x447a_0000) z ≡ false → used z ≡ z_step z
    step_used t u = rw (step_above, t, rw largest_is at u)

-- a step that is no number
pub step_nan : absent ≡ z_step nan
unfolding z_step
step_nan = refl

-- ---- the figure of any f32

pub figure_bits : (z : Float) → fits binary32 z ≡ true → figure (of_bits binary32 (to_bits binary32 z)) ≡ figure z
figure_bits z h = ap figure (of_bits-to_bits binary32 z (subst T (sym h) tt))

-- ---- the whole

-- a size above 0 is no NaN, and neither are its micrometres
pub above_number : (b : ℕ) → above_nought b ≡ true → nan ≡ micrometres b → ⊥
unfolding lt is_nan
above_number b h e = subst Number (sym e) (micrometres_number b (go (of_bits binary64 b) h))
  where
    go : (v : Float) → lt nought v ≡ true → Number v
    go nan h = true≢false (sym h)
    go (inf s) h = tt
    go (fin s m e) h = tt

module _ (x y z : ℕ) where
  pub no_x : above_nought x ≡ false → uncalibrated ≡ calibration x y z
  unfolding calibration
  no_x h = rw (h, calibration)

  pub no_y : above_nought y ≡ false → uncalibrated ≡ calibration x y z
  unfolding calibration
  no_y k = go (above_nought x)
    where
      go : (t : Bool) → uncalibrated ≡ elim (t && above_nought y) [ true ↦ sized (micrometres x) (micrometres y) (z_step (micrometres z)) | false ↦ uncalibrated ]
      go true = rw k
      go false = refl

  -- which is never so
  pub nan_x : above_nought x ≡ true → nan ≡ micrometres x → uncalibrated ≡ calibration x y z
  nan_x h e = absurd (above_number x h e)

  pub nan_y : above_nought y ≡ true → nan ≡ micrometres y → uncalibrated ≡ calibration x y z
  nan_y h e = absurd (above_number y h e)

  pub sized_is : above_nought x ≡ true → above_nought y ≡ true → sized (micrometres x) (micrometres y) (z_step (micrometres z)) ≡ calibration x y z
  unfolding calibration
  sized_is h k = rw (h, k, calibration)
