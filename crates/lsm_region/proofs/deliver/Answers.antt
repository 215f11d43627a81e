-- `lsm_region::deliver` meets its contract: too little room, no samples, or samples filled in. Assumes nothing.
use Rattle.lsm_region.proofs.Answering.{given_short, given_read, given_none}
use Rattle.lsm_region.proofs.deliver.Goals as goal

pub returns-then-out-size : goal.returns-then-out-size
returns-then-out-size c = given_short _ _ _ _ _ _ _ c.size_bytes.ensures c.requires.size c.if-out-size.true

pub returns-then-size-eq0 : goal.returns-then-size-eq0
returns-then-size-eq0 c = given_none _ _ _ _ _ _ _ c.size_bytes.ensures c.if-size-eq0.true

pub returns : goal.returns
returns c = given_read _ _ _ _ _ _ _ c.size_bytes.ensures _ c.if-out-size.false c.fill.ensures
