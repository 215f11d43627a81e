-- The words that opening leaves for the caller, read back, are the description of the opened file. Assumes nothing.
use Prim.Native.Nat.{ℕ}
use mathlib.Core.Path.{◌≡◌, refl, subst}
use mathlib.Core.Bool.{Bool, true, false, not, ◌&&◌}
use mathlib.Core.List.{List}
use lib.Dec.{T, leb}
use lib.ListN.{drop}
use lib.Ieee.{Float, nan, inf, fin, binary32, fits, is_nan, lt, le}
use Rattle.lsm_format.specs.Answer.{accepted}
use Rattle.lsm_format.specs.Numbers.{Order}
use Rattle.lsm_format.specs.Sizes.{Kind}
use Rattle.lsm_format.specs.Calibration.{z_step, nought, smallest_step, largest_step, micrometres, above_nought, calibration}
use Rattle.lsm_format.specs.Calibration.{uncalibrated, sized}
use Rattle.lsm_format.specs.Calibration as Rule
use Rattle.lsm_format.specs.CzInfo.{CzInfo, voxels, from, cz_info}
use Rattle.lsm_format.specs.Directory.{Directory}
use Rattle.lsm_format.specs.Open.{Description, Walk, Opened, describe, describe_walk, read, open_file}
use Rattle.lsm_format.proofs.Accepting.{Accepting, accepting_bind, accepting_then}
use Rattle.narrowing.proofs.Product.{narrow_fits}
use Rattle.calibration.proofs.Steps.{above_number}
use Rattle.lsm_reader.specs.Opening.{told_of}
use Rattle.lsm_words.specs.Description.{described_by}
use Rattle.lsm_words.proofs.Back.{Number, NumberStep, NumberSize, read_back}
use Rattle.lsm_words.specs.Answers.{open_words}

-- ---- what opening gives

micrometres_fits : (bits : ℕ) → T (fits binary32 (micrometres bits))
unfolding micrometres
micrometres_fits bits = narrow_fits _

no_nan : (x : Float) → (nan ≡ x → ⊥) → T (not (is_nan x))
unfolding is_nan
no_nan nan h = absurd (h refl)
no_nan (inf s) h = tt
no_nan (fin s m e) h = tt

pixel_number : (bits : ℕ) → above_nought bits ≡ true → Number (micrometres bits)
pixel_number bits h =
    record { narrow = micrometres_fits bits; number = no_nan (micrometres bits) (above_number bits h) }

step_number : (z : Float) → T (fits binary32 z) → NumberStep (z_step z)
unfolding z_step is_nan
step_number nan h = tt
step_number (inf s) h = tt
step_number (fin s m e) h = go (le (fin s m e) nought) (lt (fin s m e) smallest_step) (lt largest_step (fin s m e))
  where
    go : (a b c : Bool) → NumberStep (Rule.step_by a b c (fin s m e))
    go true b c = tt
    go false true c = record { narrow = h; number = tt }
    go false false true = record { narrow = h; number = tt }
    go false false false = record { narrow = h; number = tt }

calibration_number : (x y z : ℕ) → NumberSize (calibration x y z)
unfolding calibration
calibration_number x y z = go (above_nought x) (above_nought y) refl refl
  where
    go : (a b : Bool) → above_nought x ≡ a → above_nought y ≡ b →
        NumberSize (elim (a && b) [ true ↦ sized (micrometres x) (micrometres y) (z_step (micrometres z)) | false ↦ uncalibrated ])
    go true true p q = (pixel_number x p, pixel_number y q, step_number (micrometres z) (micrometres_fits z))
    go true false p q = tt
    go false b p q = tt

abbrev NumberInfo : CzInfo → Type 0
NumberInfo i = NumberSize i.calibration

abbrev NumberDescription : Description → Type 0
NumberDescription d = NumberSize d.calibration

abbrev NumberOpened : Opened → Type 0
NumberOpened r = NumberDescription r.description

module _ (o : Order) (f : List ℕ) where
  voxels_number : (block : ℕ) → Accepting NumberSize (voxels o f block)
  unfolding voxels Accepting
  voxels_number block =
      accepting_then NumberSize _ _ (λ x. accepting_then NumberSize _ _ (λ y. accepting_then NumberSize _ _ (λ z. calibration_number x y z)))

  from_number : (block : ℕ) (t : Bool) → Accepting NumberSize (from t (voxels o f block) uncalibrated)
  unfolding Accepting
  from_number block true = voxels_number block
  from_number block false = tt

  info_number : (block declared : ℕ) → Accepting NumberInfo (cz_info o f block declared)
  unfolding cz_info Accepting
  info_number block declared =
      accepting_then NumberInfo _ _ (λ n.
      accepting_then NumberInfo _ _ (λ d.
      accepting_then NumberInfo _ _ (λ _.
      accepting_bind NumberSize NumberInfo _ _ (from_number block (leb 64 n)) (λ s h.
      accepting_then NumberInfo _ _ (λ colors. accepting_then NumberInfo _ _ (λ pm. h))))))

  describe_number : (k : Kind) (p : Directory) (pages : ℕ) (i : CzInfo) → NumberInfo i → Accepting NumberDescription (describe o k p pages i)
  unfolding describe Accepting
  describe_number k p pages i h = accepting_then NumberDescription _ _ (λ _. accepting_then NumberDescription _ _ (λ l. h))

  walk_number : (w : Walk) → Accepting NumberDescription (describe_walk o f w)
  unfolding describe_walk
  walk_number w =
      accepting_then NumberDescription _ _ (λ p.
      accepting_then NumberDescription _ _ (λ _.
      accepting_then NumberDescription _ _ (λ k.
      accepting_then NumberDescription _ _ (λ cz.
      accepting_bind NumberInfo NumberDescription _ _ (info_number cz.0 cz.1) (λ i h. describe_number k p _ i h)))))

read_number : (f : List ℕ) → Accepting NumberOpened (read f)
unfolding read Accepting
read_number f =
    accepting_then NumberOpened _ _ (λ _.
    accepting_then NumberOpened _ _ (λ o.
    accepting_then NumberOpened _ _ (λ w. accepting_bind NumberDescription NumberOpened _ _ (walk_number o f w) (λ d h. h))))

open_number : (f : List ℕ) (room : ℕ) → Accepting NumberOpened (open_file f room)
unfolding open_file Accepting
open_number f room = accepting_bind NumberOpened NumberOpened _ _ (read_number f) (λ r h. accepting_then NumberOpened _ _ (λ _. h))

-- the words that opening leaves for the caller are the description of the opened file
pub opened_back : (f : List ℕ) (room : ℕ) (r : Opened) → open_file f room ≡ accepted r →
    described_by (drop 3 (open_words (told_of (open_file f room)))) ≡ accepted r.description
unfolding Accepting
opened_back f room r e = rw e (read_back r.description (subst (Accepting NumberOpened) e (open_number f room)))
