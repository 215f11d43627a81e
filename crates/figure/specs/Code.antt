-- What the code's types mean in the definitions' terms.
use Rattle.std.specs.Prelude.{ℕ, List, [], Option, None, Some}
use Rattle.arrayvec.specs.ArrayVec.{ArrayVec}
use Rattle.figure.specs.Wide.{value}
use Rattle.figure.specs.declared.wide.Wide.{Wide}

abbrev pub number_of : Wide → ℕ
number_of w = value w.limbs

-- The letters of the figure that there may be: none where there is no figure.
abbrev pub letters_of : Option (ArrayVec ℕ) → List ℕ
letters_of None = []
letters_of (Some figure) = figure.items
