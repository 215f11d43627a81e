use mathlib.Core.Path.{◌≡◌}
use lib.ListN.{drop}
use Rattle.lsm_strips.specs.Strips.{whole_in}
use Rattle.lsm_strips.proofs.strips.strips_of_rows.Given as goal

-- the answer for all strips and all rows is the answer for those that are left
abbrev pub invariant-loop-count : goal.invariant-loop-count
invariant-loop-count l = whole_in l.row l.strips l.height ≡ whole_in l.row (drop l.count-index l.strips) l.left
