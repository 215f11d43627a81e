-- A calibration as five words: whether a pixel size is stated; X and Y as f32 bits; what became of the Z step; its f32 bits.
use Rattle.std.specs.Prelude.{ℕ, zero, suc, ◌^◌, not, List, [], ◌∷◌, ltb, Float}
use Rattle.std.specs.Float.{binary32}
use Rattle.std.specs.Float.Ieee.{of_bits, to_bits, nan_bits}
use Rattle.lsm_format.specs.Answer.{Result, accepted, refused, bind, need, decode}
use Rattle.lsm_format.specs.Calibration.{ZStep, used, absent, placeholder, too_large, Calibration, uncalibrated, sized}

-- ---- on the way out: what is absent is 0

abbrev pub float_word : Float → ℕ
float_word x = to_bits binary32 x

unfoldable pub step_words : ZStep → List ℕ
step_words (used z) = 0 ∷ float_word z ∷ []
step_words absent = 1 ∷ 0 ∷ []
step_words (placeholder z) = 2 ∷ float_word z ∷ []
step_words (too_large z) = 3 ∷ float_word z ∷ []

unfoldable pub size_words : Calibration → List ℕ
size_words uncalibrated = 0 ∷ 0 ∷ 0 ∷ 0 ∷ 0 ∷ []
size_words (sized x y z) = 1 ∷ float_word x ∷ float_word y ∷ step_words z

-- ---- on the way in: words that are no calibration are refused with 2, and words of what is absent are not looked at

-- one of several by its number, from 0 on
unfoldable pub chosen : {A : Type 0} → List (Result A) → ℕ → Result A
chosen [] n = refused decode
chosen (a ∷ rest) zero = a
chosen (a ∷ rest) (suc n) = chosen rest n

-- a pattern of 32 bits that is no NaN's
unfoldable pub float_by : ℕ → Result Float
float_by n =
    bind (need decode (ltb n (2 ^ 32))) (λ _. bind (need decode (not (nan_bits binary32 n))) (λ _. accepted (of_bits binary32 n)))

-- what became of the step, and its bits
unfoldable pub step_by : ℕ → ℕ → Result ZStep
step_by n bits =
    chosen
    (bind (float_by bits) (λ z. accepted (used z))
    ∷ accepted absent
    ∷ bind (float_by bits) (λ z. accepted (placeholder z))
    ∷ bind (float_by bits) (λ z. accepted (too_large z))
    ∷ [])
    n

-- X, Y, and the two words of the step
unfoldable pub sized_by : ℕ → ℕ → ℕ → ℕ → Result Calibration
sized_by x y step bits = bind (float_by x) (λ a. bind (float_by y) (λ b. bind (step_by step bits) (λ z. accepted (sized a b z))))

-- whether a size is stated, and its words
unfoldable pub size_by : ℕ → ℕ → ℕ → ℕ → ℕ → Result Calibration
size_by n x y step bits = chosen (accepted uncalibrated ∷ sized_by x y step bits ∷ []) n
