-- What the types of values mean in the definitions' terms. A strip array is kept by its place, and means the values there.
use Rattle.std.specs.Prelude.{ℕ, ◌-◌, List}
use Rattle.lsm_format.specs.Numbers.{Order, little, big}
use Rattle.lsm_format.specs.Directory as Rule
use Rattle.lsm_values.specs.Values.{values}
use Rattle.lsm_values.specs.declared.Values.{Values}
use Rattle.lsm_values.specs.declared.Width.{Width}
use Rattle.lsm_values.specs.declared.Width.TheVariants.{One, Two, Four}
use Rattle.lsm_values.specs.declared.Array.{Array}

abbrev pub bytes_of : Width → ℕ
bytes_of One = 1
bytes_of Two = 2
bytes_of Four = 4

-- which of a number's bytes has its sign: that of the highest worth
abbrev pub sign_place : Width → Order → ℕ
sign_place w little = bytes_of w - 1
sign_place w big = 0

-- the values of an entry
abbrev pub entry_of : Values → Rule.Values
entry_of v = record { place = v.place; type = v.ty; count = v.count }

abbrev pub values_of : Order → List ℕ → Array → List ℕ
values_of o f a = values a.count (bytes_of a.width) o f a.place
