-- What an answer means in the definitions' terms.
use Rattle.std.specs.Prelude.{Float, Option, None, Some}
use Rattle.std.specs.Float.{nan}

-- The number that there may be; where there is none, a NaN.
abbrev pub float_of : Option Float → Float
float_of None = nan
float_of (Some x) = x
