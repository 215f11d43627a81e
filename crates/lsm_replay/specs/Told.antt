-- An answer as the lists have it.
use Rattle.std.specs.Prelude.{ℕ, ℤ, List, [], ◌∷◌, Option, None, Some, Float, to_bits}
use Rattle.std.specs.Float.{binary32}
use Rattle.std.specs.Int.{w32, cast_unsigned}
use Rattle.lsm_format.specs.Answer.{Result, accepted, refused}
use Rattle.lsm_format.specs.Numbers.{big, value_of}
use Rattle.lsm_format.specs.Calibration.{figure}
use Rattle.calibration.specs.declared.ZStep.{ZStep}
use Rattle.calibration.specs.declared.ZStep.TheVariants.{Used, Absent, Placeholder, TooLarge}
use Rattle.calibration.specs.declared.Calibration.{Calibration}
use Rattle.lsm_cz_info.specs.declared.CzInfo.{CzInfo}

-- 0 and what was accepted, or a refusal's number and values.
abbrev pub told : Result ℕ → List ℕ
told (accepted n) = 0 ∷ n ∷ []
told (refused row) = row

-- A size in micrometres: the 32 bits of the float, as a number. A NaN's are 7fc00000.
abbrev pub size_told : Float → ℕ
size_told um = to_bits binary32 um

-- A figure's letters as the bytes of one number, the first letter the highest byte; 0 where there are none.
abbrev pub letters_told : List ℕ → ℕ
letters_told letters = value_of big letters

-- A Z step: 0 and its size where it is used; 1 where there is none; 2 for a placeholder and 3 for one that is too large, each with the
-- letters of its note's figure.
abbrev pub step_told : ZStep → List ℕ
step_told (Used um) = 0 ∷ size_told um ∷ []
step_told Absent = 1 ∷ []
step_told (Placeholder um) = 2 ∷ letters_told (figure um) ∷ []
step_told (TooLarge um) = 3 ∷ letters_told (figure um) ∷ []

-- A calibration: 0 where there is no pixel size; otherwise 1, the pixel size's x and y, and the Z step.
abbrev pub calibration_told : Option Calibration → List ℕ
calibration_told None = 0 ∷ []
calibration_told (Some c) = 1 ∷ size_told c.x ∷ size_told c.y ∷ step_told c.z

-- An i32: the u32 of the same bits.
abbrev pub signed_told : ℤ → ℕ
signed_told n = cast_unsigned w32 n

-- The place of a channel block; 2 ^ 32, past every i32, where there is none.
abbrev pub place_told : Option ℕ → ℕ
place_told None = 0x100000000
place_told (Some at) = at

-- A block's contents: 0, the dimensions x, y, z, channels and time, the positions and tiles, the channel block's place, and the
-- calibration.
abbrev pub info_told : CzInfo → List ℕ
info_told i =
    0 ∷ i.dim_x ∷ i.dim_y ∷ i.dim_z ∷ i.dim_channels ∷ i.dim_time ∷ signed_told i.dim_p ∷ signed_told i.dim_m
    ∷ place_told i.channel_colors_offset ∷ calibration_told i.calibration
