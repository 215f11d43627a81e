-- `lsm_region::copier::copy_run` meets its contract: what a strip has past the cursor is copied, as far as there is room. Assumes nothing.
use native.Mathlib.Omega.{arith}
use native.Mathlib.Nat.{add-zero}
use mathlib.Core.Path.{refl, sym}
use Rattle.lsm_strips.proofs.Walking.{stands_start}
use Rattle.lsm_format.specs.Picture.{bytes, span}
use Rattle.lsm_region.proofs.Copying.{run_step, run_done, stands_as, stands_past}
use Rattle.lsm_region.proofs.copier.copy_run.Goals as goal

pub loop-offset-init : goal.loop-offset-init
unfolding bytes span
loop-offset-init c = (omega arith, (λ h. omega (arith, c.requires.first)), stands_as (sym (add-zero _)) refl (stands_start _ _), refl)

pub returns-then-at-out : goal.returns-then-at-out
returns-then-at-out c =
    let held = c.loop-offset.invariant in
    run_done _ _ (run_step _ _ _ _ c.min-m.result _ _ _ _ held.2 c.loop-offset-test.true c.requires.within (omega (arith, c.min-m.ensures)) (omega (arith, c.min-m.ensures)) c.copy_bytes.ensures held.3)
    (omega (arith, c.if-at-out.true)) (omega arith)

pub loop-offset-preserved : goal.loop-offset-preserved
loop-offset-preserved c =
    let held = c.loop-offset.invariant in (
      omega arith,
      (λ h. omega arith),
      stands_past _ c.min-m.result _ _ held.2 c.loop-offset-test.true (omega (arith, c.min-m.ensures, c.if-at-out.false)),
      run_step _ _ _ _ _ _ _ _ _ held.2 c.loop-offset-test.true c.requires.within (omega (arith, c.min-m.ensures)) (omega (arith, c.min-m.ensures)) c.copy_bytes.ensures held.3,
    )
