-- `lsm_region::copier::turn` meets its contract: the samples before q are turned, and those from q on are as they were. Assumes nothing.
use native.Mathlib.Nat.{zero-mul}
use mathlib.Core.Path.{refl, sym, ap, ◌∙◌}
use mathlib.Core.List.{reverse}
use Rattle.lsm_format.specs.Picture.{span}
use Rattle.lsm_region.proofs.Filling.{turn_step}
use Rattle.lsm_region.proofs.copier.turn.Goals as goal

pub loop-q-init : goal.loop-q-init
unfolding span
loop-q-init g c = (refl, rw zero-mul)

pub loop-q-preserved : goal.loop-q-preserved
loop-q-preserved g c =
    let turned = c.copy_from_slice-in-loop-q.ensures.after ∙ c.reverse.ensures.after ∙ ap reverse c.copy_from_slice.ensures.after in
    let t = turn_step _ _ _ _ _ _ c.loop-q.auto.out (sym c.requires.whole) c.loop-q-test.true c.loop-q.invariant.0 turned c.loop-q.invariant.1 in
    (t.1, t.0)
