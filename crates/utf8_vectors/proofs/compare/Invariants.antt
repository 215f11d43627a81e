-- No more lines than bytes passed were counted, and no more differ than were counted.
use Rattle.std.proofs.Common.{◌+◌, ◌≤◌, length}
use Rattle.utf8_vectors.proofs.compare.Given as goal

abbrev pub invariant-loop-rest : goal.invariant-loop-rest
invariant-loop-rest l = record {
  lines : l.tally.cases + length l.rest ≤ length l.list;
  differ : l.tally.differ ≤ l.tally.cases;
}

abbrev pub decreases-loop-rest : goal.decreases-loop-rest
decreases-loop-rest l = length l.rest
