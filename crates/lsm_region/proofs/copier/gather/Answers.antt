-- `lsm_region::copier::gather` meets its contract. The samples of whole rows follow one another (`rows_run`), from where the cursor stands after
-- the rows above them. Assumes nothing.
use native.Mathlib.Omega.{arith}
use Prim.Native.Nat.{◌*◌}
use mathlib.Core.Path.{◌≡◌, ◌∙◌}
use Rattle.lsm_region.proofs.Copying.{stands_spaced, row_left, rows_run, rows_held}
use Rattle.lsm_region.proofs.copier.gather.Goals as goal

pub copy_samples-requires-clause-reach : goal.copy_samples-requires-clause-reach
copy_samples-requires-clause-reach g c =
    let whole : c.args.rows.count * c.args.rows.step ≡ c.args.rows.row = omega (arith, c.requires.rows_in.across, c.if-rows.false) in
    row_left _ _ (rw c.unwrap-top.ensures at c.seek.ensures).stands (rows_held c.requires.rows_in whole c.requires.some)

pub returns : goal.returns
returns g c =
    let whole : c.args.rows.count * c.args.rows.step ≡ c.args.rows.row = omega (arith, c.requires.rows_in.across, c.if-rows.false) in
    c.copy_samples.ensures ∙ stands_spaced c.args.file.now c.args.rows.step g.row.S _ (rw c.unwrap-top.ensures at c.seek.ensures).stands ∙ rows_run _ _ c.args.rows whole
