use Prim.Native.Nat.{◌*◌}
use mathlib.Core.Path.{◌≡◌}
use mathlib.Core.List.{reverse}
use lib.ListN.{take, drop}
use Rattle.lsm_format.specs.Picture.{span, bytes}
use Rattle.lsm_format.proofs.Picture.{held}
use Rattle.lsm_region.proofs.copier.turn.Given as goal

-- the samples before q are turned, and those from q on are as they were
abbrev pub invariant-loop-q : goal.invariant-loop-q
invariant-loop-q g l =
    (drop (l.q * g.row.S) l.out ≡ drop (l.q * g.row.S) l.initial.out) × (take (l.q * g.row.S) l.out ≡ span 0 l.q (λ i. reverse (bytes (held l.initial.out) (i * g.row.S) g.row.S)))
