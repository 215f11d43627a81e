-- What the calibration's types mean in the definitions' terms.
use Rattle.std.specs.Prelude.{ℕ, List, [], Option, None, Some}
use Rattle.lsm_format.specs.Calibration as Rule
use Rattle.lsm_format.specs.Calibration.{used, absent, placeholder, too_large, uncalibrated, sized, figure}
use Rattle.calibration.specs.declared.ZStep.{ZStep}
use Rattle.calibration.specs.declared.ZStep.TheVariants.{Used, Absent, Placeholder, TooLarge}
use Rattle.calibration.specs.declared.Calibration.{Calibration}

abbrev pub step_of : ZStep → Rule.ZStep
step_of (Used z) = used z
step_of Absent = absent
step_of (Placeholder z) = placeholder z
step_of (TooLarge z) = too_large z

abbrev pub calibration_of : Option Calibration → Rule.Calibration
calibration_of None = uncalibrated
calibration_of (Some c) = sized c.x c.y (step_of c.z)

-- The figure of the note that a step gives; none where it gives no note.
abbrev pub note_text : ZStep → List ℕ
note_text (Used z) = []
note_text Absent = []
note_text (Placeholder z) = figure z
note_text (TooLarge z) = figure z
