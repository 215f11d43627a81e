-- No more lines were counted than the list gave, and each of a function's is one of the C function's; and no more
-- differ than were counted.
use Rattle.std.proofs.Common.{◌≡◌, ◌+◌, ◌≤◌, length}
use Rattle.lsm_replay_pictures.proofs.compare.Given as goal

abbrev pub invariant-loop-line : goal.invariant-loop-line
invariant-loop-line l = record {
  lines : l.planes.cases + l.rectangles.cases + l.handed.cases + length l.lines.text.now ≤ length l.text;
  pictured : l.pictured.cases ≡ l.planes.cases;
  windowed : l.windowed.cases ≡ l.rectangles.cases;
  planes_differ : l.planes.differ ≤ l.planes.cases;
  rectangles_differ : l.rectangles.differ ≤ l.rectangles.cases;
  pictured_differ : l.pictured.differ ≤ l.pictured.cases;
  windowed_differ : l.windowed.differ ≤ l.windowed.cases;
  handed_differ : l.handed.differ ≤ l.handed.cases;
}

abbrev pub decreases-loop-line : goal.decreases-loop-line
decreases-loop-line l = length l.lines.text.now
