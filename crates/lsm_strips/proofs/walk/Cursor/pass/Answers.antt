-- `lsm_strips::walk::Cursor::pass` meets its contract. The weight lies in `stands_over`: the rows that begin in a strip are counted off with it.
-- Assumes nothing.
use Rattle.lsm_strips.proofs.Walking.{stands_over}
use Rattle.lsm_strips.proofs.walk.Cursor.pass.Goals as goal

pub loop-i-preserved : goal.loop-i-preserved
loop-i-preserved c = stands_over _ _ _ _ _ c.requires c.loop-i-test.true c.if-count-into.false c.loop-i.invariant c.if-ahead-here.false
