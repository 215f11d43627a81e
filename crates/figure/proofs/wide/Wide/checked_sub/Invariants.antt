-- `figure::wide::Wide::checked_sub` meets its contract. The loop's invariant: with the limbs of `other` that were passed given back, the
-- number is what it was; and what the limbs passed stand for is below the next one's weight. Assumes nothing.
use Prim.Native.Nat.{◌+◌}
use mathlib.Core.Path.{◌≡◌}
use Rattle.std.specs.Int.{from_bool}
use Rattle.figure.specs.Wide.{room}
use Rattle.figure.specs.Code.{number_of}
use Rattle.figure.proofs.Limbs.{restored, small}
use Rattle.figure.proofs.wide.Wide.checked_sub.Given as goal

abbrev pub invariant-loop-i : goal.invariant-loop-i
invariant-loop-i l = record {
  sum : restored l.limb-items l.other.limbs l.i (from_bool l.borrow) ≡ number_of l.fn.self + room;
  fits : small l.limb-items l.i;
}
