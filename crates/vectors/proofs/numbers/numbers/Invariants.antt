-- The numbers so far, and then those that are left.
use Rattle.std.proofs.Common.{◌≡◌, ◌-◌}
use Rattle.arrayvec.specs.ArrayVec.{array_vec_len}
use Rattle.vectors.specs.Numbers as Numbers
use Rattle.vectors.specs.Numbers.{then}
use Rattle.vectors.proofs.numbers.numbers.Given as goal

abbrev pub invariant-loop-rest : goal.invariant-loop-rest
invariant-loop-rest g l = Numbers.numbers g.row.N l.text ≡ then l.lent.items (Numbers.numbers (g.row.N - array_vec_len l.lent) l.rest)

abbrev pub decreases-loop-rest : goal.decreases-loop-rest
decreases-loop-rest g l = g.row.N - array_vec_len l.lent
