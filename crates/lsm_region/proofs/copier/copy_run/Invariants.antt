use Prim.Native.Nat.{◌+◌, ◌≤◌, ◌<◌}
use mathlib.Core.Path.{◌≡◌}
use mathlib.Core.List.{[]}
use lib.ListN.{length, get_or, take, drop}
use Rattle.lsm_format.specs.Picture.{bytes}
use Rattle.lsm_strips.specs.Strips.{count_in, Stands}
use Rattle.lsm_region.specs.Rows.{stored_in}
use Rattle.lsm_region.proofs.copier.copy_run.Given as goal

-- `at` bytes are copied, and the next one is `into` bytes past the start of the first of the strips that are left
abbrev pub invariant-loop-offset : goal.invariant-loop-offset
invariant-loop-offset l =
    (l.at ≤ length l.out) × (l.offset-index < length l.cur.strips.now → l.into ≤ count_in (get_or l.cur.strips.now l.offset-index [])) × Stands l.cur.strips.now (l.cur.into + l.at) (drop l.offset-index l.cur.strips.now) l.into
    × (take l.at l.out ≡ bytes (stored_in l.file l.cur.strips.now) l.cur.into l.at)
