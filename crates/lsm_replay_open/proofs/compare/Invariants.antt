-- No more lines were counted than the list gave, and each of a function's is one of the C function's; and no more
-- differ than were counted.
use Rattle.std.proofs.Common.{◌≡◌, ◌+◌, ◌≤◌, length}
use Rattle.lsm_replay_open.proofs.compare.Given as goal

abbrev pub invariant-loop-line : goal.invariant-loop-line
invariant-loop-line l = record {
  lines : l.openings.cases + l.lookups.cases + l.described.cases + length l.lines.text.now ≤ length l.text;
  opened : l.opened.cases ≡ l.openings.cases;
  found : l.found.cases ≡ l.lookups.cases;
  openings_differ : l.openings.differ ≤ l.openings.cases;
  lookups_differ : l.lookups.differ ≤ l.lookups.cases;
  opened_differ : l.opened.differ ≤ l.opened.cases;
  found_differ : l.found.differ ≤ l.found.cases;
  described_differ : l.described.differ ≤ l.described.cases;
}

abbrev pub decreases-loop-line : goal.decreases-loop-line
decreases-loop-line l = length l.lines.text.now
