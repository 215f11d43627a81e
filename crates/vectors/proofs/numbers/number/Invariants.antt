-- The value so far and what is left come to the number.
use Rattle.std.proofs.Common.{◌≡◌, length, Some}
use Rattle.vectors.specs.Numbers.{digits, number}
use Rattle.vectors.proofs.numbers.number.Given as goal

abbrev pub invariant-loop-b : goal.invariant-loop-b
invariant-loop-b l = number l.text ≡ Some (digits l.value l.rest)

abbrev pub decreases-loop-b : goal.decreases-loop-b
decreases-loop-b l = length l.rest
