use mathlib.Core.Path.{◌≡◌}
use lib.ListN.{drop}
use Rattle.lsm_strips.specs.Strips.{turn_in}
use Rattle.lsm_strips.proofs.strips.strips_in_turn.Given as goal

-- the answer for all strips and all bytes is the answer for those that are left
abbrev pub invariant-loop-offset : goal.invariant-loop-offset
invariant-loop-offset l = turn_in l.len l.strips l.size ≡ turn_in l.len (drop l.offset-index l.strips) l.left
