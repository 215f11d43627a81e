use mathlib.Core.Path.{◌≡◌}
use lib.ListN.{take}
use Rattle.utf8.proofs.copy_piece.Given as goal

-- the first i bytes are copied
abbrev pub invariant-loop-i : goal.invariant-loop-i
invariant-loop-i l = take l.i l.out ≡ take l.i l.text
