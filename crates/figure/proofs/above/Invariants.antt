-- `figure::above` meets its contract. The loop's invariant: the tens counted and those that the definition still counts from there make up
-- its whole count, and `number` is `den` with the tens counted; ten times it has room, since it is no more than `num`, which has. Each question
-- is one of `tens_above`: `above_go`, `above_stop`, `above_end`. Assumes nothing.
use Prim.Native.Nat.{◌+◌, ◌-◌, ◌*◌, ◌^◌, ◌<◌}
use mathlib.Core.Path.{◌≡◌}
use Rattle.lsm_format.specs.Calibration.{tens_above}
use Rattle.figure.specs.Code.{number_of}
use Rattle.figure.specs.Wide.{room}
use Rattle.figure.proofs.above.Given as goal

abbrev pub invariant-loop-count : goal.invariant-loop-count
invariant-loop-count l = record {
  asked : tens_above l.left (number_of l.num) (number_of l.fn.den) ≡ l.count + tens_above (l.left - l.count) (number_of l.num) (number_of l.number);
  scaled : number_of l.number ≡ number_of l.fn.den * 10 ^ l.count;
  next_room : 10 * number_of l.number < room;
}
