use mathlib.Core.Path.{◌≡◌}
use lib.ListN.{take}
use Rattle.lsm_region.proofs.copier.copy_bytes.Given as goal

-- the first i bytes are copied
abbrev pub invariant-loop-i : goal.invariant-loop-i
invariant-loop-i l = take l.i l.to ≡ take l.i l.from
