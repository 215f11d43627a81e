use Prim.Native.Nat.{◌+◌, ◌*◌}
use mathlib.Core.Path.{◌≡◌}
use lib.ListN.{take}
use Rattle.lsm_format.specs.Picture.{span}
use Rattle.lsm_strips.specs.Strips.{Stands}
use Rattle.lsm_region.specs.Rows.{stored_in, spaced}
use Rattle.lsm_region.proofs.copier.copy_rows.Given as goal

-- i rows are there, and the cursor is `ahead` rows before the next one
abbrev pub invariant-loop-i : goal.invariant-loop-i
invariant-loop-i g l =
    Stands l.strips ((l.rows.y + l.i) * l.rows.row + l.rows.start) l.cur.strips.now (l.ahead * l.rows.row + l.cur.into)
    × (take (l.i * (l.rows.count * g.row.S)) l.out ≡ span l.rows.y l.i (λ k. spaced (stored_in l.file l.strips) (k * l.rows.row + l.rows.start) l.rows.step g.row.S l.rows.count))
