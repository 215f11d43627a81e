-- `lsm_region::plane` meets its contract: what its checks accept can be copied. Assumes nothing.
use Rattle.lsm_region.proofs.Answering.{ready_whole}
use Rattle.lsm_region.proofs.plane.Goals as goal

pub deliver-requires : goal.deliver-requires
deliver-requires c = ready_whole _ _ _ _ _ c.in_ok-run.ensures
