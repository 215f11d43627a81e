-- `figure::wide::Wide::doubled` meets its contract. The loop's invariant: `w` is the number doubled as often as was counted. Assumes nothing.
use Prim.Native.Nat.{◌*◌, ◌^◌}
use mathlib.Core.Path.{◌≡◌}
use Rattle.figure.specs.Code.{number_of}
use Rattle.figure.proofs.wide.Wide.doubled.Given as goal

abbrev pub invariant-loop : goal.invariant-loop
invariant-loop l = number_of l.w ≡ number_of l.initial.w * 2 ^ l.counter
