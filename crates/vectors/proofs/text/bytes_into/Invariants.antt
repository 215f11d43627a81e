-- The bytes so far, and then those that are left.
use Rattle.std.proofs.Common.{◌≡◌, ◌-◌}
use Rattle.arrayvec.specs.ArrayVec.{array_vec_len}
use Rattle.vectors.specs.Numbers.{then}
use Rattle.vectors.specs.Lines as Lines
use Rattle.vectors.proofs.text.bytes_into.Given as goal

abbrev pub invariant-loop-run : goal.invariant-loop-run
invariant-loop-run g l = Lines.bytes g.row.N l.text ≡ then l.lent.items (Lines.bytes (g.row.N - array_vec_len l.lent) l.rest)

abbrev pub decreases-loop-run : goal.decreases-loop-run
decreases-loop-run g l = g.row.N - array_vec_len l.lent
