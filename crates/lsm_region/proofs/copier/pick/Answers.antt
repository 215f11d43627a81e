-- `lsm_region::copier::pick` meets its contract: sample after sample (`pick_step`). Assumes nothing.
use native.Mathlib.Nat.{zero-mul}
use mathlib.Core.Path.{refl, ◌∙◌}
use Rattle.lsm_format.specs.Picture.{span}
use Rattle.lsm_region.proofs.Copying.{pick_step}
use Rattle.lsm_region.proofs.copier.pick.Goals as goal

pub loop-q-init : goal.loop-q-init
unfolding span
loop-q-init g c = rw zero-mul refl

pub loop-q-preserved : goal.loop-q-preserved
loop-q-preserved g c = pick_step _ _ _ _ _ _ _ c.requires.there (c.loop-q.auto.out ∙ c.requires.out_len) c.loop-q-test.true (c.copy_from_slice-in-loop-q.ensures.after ∙ c.copy_from_slice.ensures.after) c.loop-q.invariant
