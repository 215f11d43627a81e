-- `lsm_region::copier::copy_here` meets its contract: a sample that reaches into the next strip (`put_one`), or those that the strip has whole
-- (`spaced_here`). Assumes nothing.
use native.Mathlib.Omega.{arith}
use Prim.Native.Nat.{◌*◌}
use mathlib.Core.Path.{ap, ◌∙◌}
use mathlib.Core.List.{◌++◌}
use lib.ListN.{drop}
use Rattle.lsm_region.proofs.Copying.{put_one, last_fits, spaced_here}
use Rattle.lsm_region.proofs.copier.copy_here.Goals as goal

pub returns-then-left-clause-put : goal.returns-then-left-clause-put
returns-then-left-clause-put g c = put_one _ _ _ _ _ _ _ c.requires.out_len c.requires.some.1 c.copy_run.ensures

pub returns-clause-put : goal.returns-clause-put
returns-clause-put g c =
    let fits = last_fits c.args.file.now c.args.cur.strips.now c.args.cur.into c.args.step g.row.S c.min-here.result c.requires.some.0 c.requires.apart c.requires.first c.requires.within (omega (arith, c.if-left.false)) (omega (arith, c.min-here.ensures)) in
    let here = spaced_here c.args.file.now c.args.cur.strips.now c.args.cur.into c.args.step g.row.S c.min-here.result c.requires.some.0 c.requires.apart c.requires.first c.requires.within fits in
    ap (λ l. l ++ drop (c.min-here.result * g.row.S) c.args.out.now) (c.pick.ensures ∙ here)
