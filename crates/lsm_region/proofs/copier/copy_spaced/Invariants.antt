use Prim.Native.Nat.{◌+◌, ◌-◌, ◌*◌, ◌≤◌}
use mathlib.Core.Path.{◌≡◌}
use lib.ListN.{take}
use Rattle.lsm_strips.specs.Strips.{Stands}
use Rattle.lsm_region.specs.Rows.{stored_in, spaced}
use Rattle.lsm_region.proofs.copier.copy_spaced.Given as goal

-- `done` samples are there, and the cursor is `ahead` samples before the next one
abbrev pub invariant-loop-done : goal.invariant-loop-done
invariant-loop-done g l =
    (l.done ≤ l.n) × Stands l.initial.cur.strips.now (l.initial.cur.into + l.done * l.step) l.cur.strips.now (l.ahead * l.step + l.cur.into)
    × (take (l.done * g.row.S) l.out ≡ spaced (stored_in l.file l.initial.cur.strips.now) l.initial.cur.into l.step g.row.S l.done)

-- at least one sample is copied each time
abbrev pub decreases-loop-done : goal.decreases-loop-done
decreases-loop-done g l = l.n - l.done
