use Prim.Native.Nat.{◌+◌, ◌*◌}
use lib.ListN.{drop}
use Rattle.lsm_strips.specs.Strips.{Stands}
use Rattle.lsm_strips.proofs.walk.Cursor.pass.Given as goal

-- the place looked for is so many rows and bytes past the start of the strips that are left
abbrev pub invariant-loop-i : goal.invariant-loop-i
invariant-loop-i l =
    Stands l.self.strips.now (l.rows * l.row + l.self.into) (drop l.i l.self.strips.now) (l.ahead * l.row + l.into)
