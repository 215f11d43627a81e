-- `figure::divided` meets its contract. The loop's invariant: what `den` was taken from and what is left have one remainder, and the
-- quotient is what was counted and that of what is left. The measure is what is left. Assumes nothing.
use Prim.Native.Nat.{◌+◌, ◌/◌, ◌%◌}
use mathlib.Core.Path.{◌≡◌}
use Rattle.figure.specs.Code.{number_of}
use Rattle.figure.proofs.divided.Given as goal

abbrev pub invariant-loop-less : goal.invariant-loop-less
invariant-loop-less l = record {
  quotient : l.digits + number_of l.rest / number_of l.den ≡ number_of l.initial.rest / number_of l.den;
  same : number_of l.rest % number_of l.den ≡ number_of l.initial.rest % number_of l.den;
}

abbrev pub decreases-loop-less : goal.decreases-loop-less
decreases-loop-less l = number_of l.rest
