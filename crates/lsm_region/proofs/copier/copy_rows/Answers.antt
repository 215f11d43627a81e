-- `lsm_region::copier::copy_rows` meets its contract: i rows are there, and the cursor is `ahead` rows before the next one. Assumes nothing.
use native.Mathlib.Omega.{arith}
use Prim.Native.Nat.{◌+◌, ◌*◌, ◌≤◌}
use native.Mathlib.Nat.{zero-mul}
use mathlib.Core.Path.{refl, ap, ◌∙◌}
use lib.ListN.{length}
use Rattle.lsm_format.specs.Picture.{span}
use Rattle.lsm_strips.proofs.Walking.{stands_start}
use Rattle.lsm_region.specs.Rows.{stored_in, spaced}
use Rattle.lsm_region.proofs.Filling.{part_in, part_step}
use Rattle.lsm_region.proofs.Copying.{stands_then, stands_on, stands_as, stands_spaced, spaced_length, row_in, row_left, row_next, row_first, row_after}
use Rattle.lsm_region.proofs.copier.copy_rows.Goals as goal

pub loop-i-init : goal.loop-i-init
unfolding span
loop-i-init g c = (stands_as (row_first _ _ _) refl (stands_start _ _), rw zero-mul)

pub copy_samples-requires-clause-reach : goal.copy_samples-requires-clause-reach
copy_samples-requires-clause-reach g c =
    let there = stands_then c.loop-i.invariant.0 (rw c.unwrap-cur.ensures at c.seek.ensures).stands in
    row_left _ _ there (row_in c.loop-i.i c.requires.rows_in c.loop-i-test.true)

pub loop-i-preserved : goal.loop-i-preserved
loop-i-preserved g c =
    let rows = c.args.rows in
    let part = rows.count * g.row.S in
    let fits : c.loop-i.i * part + part ≤ length c.loop-i.out = omega (arith, part_in rows.h part c.loop-i.i c.loop-i-test.true, c.loop-i.auto.out, c.requires.out_len) in
    let there = stands_then c.loop-i.invariant.0 (rw c.unwrap-cur.ensures at c.seek.ensures).stands in
    let copied = c.copy_samples.ensures ∙ stands_spaced c.args.file.now rows.step g.row.S rows.count there in (
      stands_as (row_next _ _ _ _) (row_after _ _) (stands_on rows.row there),
      part_step (λ k. spaced (stored_in c.args.file.now c.args.strips.now) (k * rows.row + rows.start) rows.step g.row.S rows.count) _ _ _ _ _ fits (ap length copied ∙ spaced_length _ _ _ _ _) copied c.loop-i.invariant.1,
    )
