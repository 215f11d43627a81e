-- No more lines were counted than the list gave, and no more differ than were counted.
use Rattle.std.proofs.Common.{◌+◌, ◌≤◌, length}
use Rattle.lsm_replay.proofs.compare.Given as goal

abbrev pub invariant-loop-line : goal.invariant-loop-line
invariant-loop-line l = record {
  lines : l.plain.cases + l.voxels.cases + l.blocks.cases + length l.lines.text.now ≤ length l.text;
  plain : l.plain.differ ≤ l.plain.cases;
  voxels : l.voxels.differ ≤ l.voxels.cases;
  blocks : l.blocks.differ ≤ l.blocks.cases;
}

abbrev pub decreases-loop-line : goal.decreases-loop-line
decreases-loop-line l = length l.lines.text.now
