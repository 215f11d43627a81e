-- Voxel sizes, the Z step and the figure of its note (calibration.rs; the voxel part of lsm_cz_info.rs; CZ-LSMINFO,
-- VoxelSizeX, VoxelSizeY, VoxelSizeZ). Values are those of IEEE 754, as lib.Ieee has them, on exact numbers.
use Prim.Native.Nat.{ℕ, zero, suc, ◌+◌, ◌*◌, ◌/◌, ◌%◌, ◌^◌, compare}
use Rattle.std.specs.Prelude.{Bool, true, false, ◌&&◌, List, [], ◌∷◌, ◌++◌, leb, eqb, ℤ, pos, negsuc, ◌-ℤ◌, Float}
use Rattle.std.proofs.Math.IntN.{suc_ℤ}
use Rattle.std.specs.Float.{nan, inf, fin, binary32, binary64}
use Rattle.std.specs.Float.Ieee.{of_bits, mul, round, lt, le, nearest, up, down}

-- ---- metres to micrometres

-- "each is multiplied by 1e6 in f64": 1e6 is 15625 * 2 ^ 6, a value of the format.
abbrev pub million : Float
million = fin false 15625 (pos 6)

-- "then narrowed to f32, nearest with halves to even"
unfoldable pub narrow : Float → Float
narrow nan = nan
narrow (inf s) = inf s
narrow (fin s m e) = round binary32 s (m * up e) (down e)

-- The micrometres that the 64-bit pattern of a voxel size stands for.
unfoldable pub micrometres : ℕ → Float
micrometres bits = narrow (mul binary64 (of_bits binary64 bits) million)

-- ---- the note's figure

-- How many times a value num / den can be divided by ten and still be at least 1; asked at most n times.
unfoldable pub tens_above : ℕ → ℕ → ℕ → ℕ
tens_above zero num den = 0
tens_above (suc n) num den = elim (leb (10 * den) num) [ true ↦ suc (tens_above n num (10 * den)) | false ↦ 0 ]

-- How many times it must be multiplied by ten to be at least 1; asked at most n times.
unfoldable pub tens_below : ℕ → ℕ → ℕ → ℕ
tens_below zero num den = 0
tens_below (suc n) num den = elim (leb den num) [ true ↦ 0 | false ↦ suc (tens_below n (10 * num) den) ]

-- "The note's figure is the exact value rounded to three digits, halves to the even digit": num / den hundredfold, to the
-- nearest whole number.
abbrev pub hundredfold : ℕ → ℕ → ℕ
hundredfold num den = nearest (100 * num / den) (compare (100 * num % den * 2) den)

-- The digits of a number, as text.
abbrev pub digit : ℕ → ℕ
digit n = 48 + n

-- The digits of a number below 100, with no zero in front.
abbrev pub two_digits : ℕ → List ℕ
two_digits n = elim (leb 10 n) [ true ↦ digit (n / 10) ∷ digit (n % 10) ∷ [] | false ↦ digit n ∷ [] ]

-- "trailing zeros and a bare point dropped": of 100 to 999, the digits with a point after the first.
abbrev pub mantissa : ℕ → List ℕ
mantissa q =
    elim (eqb (q % 100) 0) [
      | true ↦ digit (q / 100) ∷ []
      | false ↦ elim (eqb (q % 10) 0) [
        | true ↦ digit (q / 100) ∷ 46 ∷ digit (q / 10 % 10) ∷ []
        | false ↦ digit (q / 100) ∷ 46 ∷ digit (q / 10 % 10) ∷ digit (q % 10) ∷ []
      ]
    ]

-- The exponent as the Rust prints it: no plus, no zero in front.
abbrev pub exponent_text : ℤ → List ℕ
exponent_text (pos n) = two_digits n
exponent_text (negsuc n) = 45 ∷ two_digits (suc n)

-- Three digits that round up to 1000 are 100 of the next power.
abbrev pub figure_text : ℕ → ℤ → List ℕ
figure_text q p =
    elim (eqb q 1000) [ true ↦ mantissa 100 ++ 101 ∷ exponent_text (suc_ℤ p) | false ↦ mantissa q ++ 101 ∷ exponent_text p ]

-- The figure of a value num / den that is tens powers of ten above 1, or below it.
abbrev pub figure_by : ℕ → ℕ → ℕ → ℕ → List ℕ
figure_by above below num den = figure_text (hundredfold (num * 10 ^ below) (den * 10 ^ above)) (pos above -ℤ pos below)

-- The figure of a value above 0; no note is about another. No f32 is 64 powers of ten from 1.
unfoldable pub figure : Float → List ℕ
figure nan = []
figure (inf s) = []
figure (fin true m e) = []
figure (fin false zero e) = []
figure (fin false (suc m) e) =
    figure_by (tens_above 64 (suc m * up e) (down e)) (tens_below 64 (suc m * up e) (down e)) (suc m * up e) (down e)

-- ---- the Z step

-- What a Z step becomes: it is used; there is none and no note; there is none and a note says why, with the step's figure.
pub data ZStep : Type 0 where
  used : Float → ZStep
  absent : ZStep
  placeholder : Float → ZStep
  too_large : Float → ZStep

abbrev pub nought : Float
nought = fin false 0 (pos 0)

-- "below 1e-6 as f32 (bits hex 358637bd)", "above 1000"; "both ends are used"
abbrev pub smallest_step : Float
smallest_step = of_bits binary32 0x358637bd

abbrev pub largest_step : Float
largest_step = fin false 125 (pos 3)

-- A finite step by its place: not above 0, below the smallest, above the largest, or between.
abbrev pub step_by : Bool → Bool → Bool → Float → ZStep
step_by true below above z = absent
step_by false true above z = placeholder z
step_by false false true z = too_large z
step_by false false false z = used z

-- "Z, once narrowed: not finite or ≤ 0, none and no note", and so on
unfoldable pub z_step : Float → ZStep
z_step nan = absent
z_step (inf s) = absent
z_step (fin s m e) = step_by (le (fin s m e) nought) (lt (fin s m e) smallest_step) (lt largest_step (fin s m e)) (fin s m e)

-- ---- the whole

-- No pixel size; or the pixel sizes of X and Y with what Z became.
pub data Calibration : Type 0 where
  uncalibrated : Calibration
  sized : Float → Float → ZStep → Calibration

abbrev pub above_nought : ℕ → Bool
above_nought bits = lt nought (of_bits binary64 bits)

-- "X or Y not above 0 in the file (NaN included) gives no pixel size and no note. An X or Y that turns infinite or 0 after
-- that is kept."
unfoldable pub calibration : ℕ → ℕ → ℕ → Calibration
calibration x y z =
    elim (above_nought x && above_nought y) [
      | true ↦ sized (micrometres x) (micrometres y) (z_step (micrometres z))
      | false ↦ uncalibrated
    ]
