-- `figure::below` meets its contract. The loop's invariant: the tens counted and those that the definition still counts from there make up
-- its whole count, and `number` is `num` with the tens counted. Ten times a `number` below `den` has room, since ten times `den` has. Each
-- question is one of `tens_below`: `below_go`, `below_stop`, `below_end`. Assumes nothing.
use Prim.Native.Nat.{◌+◌, ◌-◌, ◌*◌, ◌^◌}
use mathlib.Core.Path.{◌≡◌}
use Rattle.lsm_format.specs.Calibration.{tens_below}
use Rattle.figure.specs.Code.{number_of}
use Rattle.figure.proofs.below.Given as goal

abbrev pub invariant-loop-count : goal.invariant-loop-count
invariant-loop-count l = record {
  asked : tens_below l.left (number_of l.fn.num) (number_of l.den) ≡ l.count + tens_below (l.left - l.count) (number_of l.number) (number_of l.den);
  scaled : number_of l.number ≡ number_of l.fn.num * 10 ^ l.count;
}
