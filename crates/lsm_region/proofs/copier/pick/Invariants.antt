use Prim.Native.Nat.{◌*◌}
use mathlib.Core.Path.{◌≡◌}
use lib.ListN.{get_or, take}
use Rattle.lsm_region.specs.Rows.{spaced}
use Rattle.lsm_region.proofs.copier.pick.Given as goal

-- q samples are there
abbrev pub invariant-loop-q : goal.invariant-loop-q
invariant-loop-q g l = take (l.q * g.row.S) l.out ≡ spaced (λ k. get_or l.from k 0) 0 l.step g.row.S l.q
