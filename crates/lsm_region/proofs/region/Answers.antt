-- `lsm_region::region` meets its contract: what its checks accept can be copied. Assumes nothing.
use Rattle.lsm_region.proofs.Answering.{ready_part}
use Rattle.lsm_region.proofs.region.Goals as goal

pub deliver-requires : goal.deliver-requires
deliver-requires c = ready_part _ _ _ _ _ _ c.in_ok-run.ensures
