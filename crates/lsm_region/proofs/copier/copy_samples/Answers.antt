-- `lsm_region::copier::copy_samples` meets its contract: samples that stand one after the other are one run of bytes (`spaced_tight`). Assumes
-- nothing.
use native.Mathlib.Omega.{arith}
use mathlib.Core.Path.{sym, ap, ◌∙◌}
use Rattle.lsm_format.specs.Picture.{bytes}
use Rattle.lsm_region.specs.Rows.{stored_in, spaced}
use Rattle.lsm_region.proofs.Copying.{spaced_tight, tight_reach}
use Rattle.lsm_region.proofs.copier.copy_samples.Goals as goal

pub copy_run-requires-clause-held : goal.copy_run-requires-clause-held
copy_run-requires-clause-held g c = omega (arith, c.requires.reach, c.requires.out_len, tight_reach c.args.step g.row.S c.args.n c.if-step.true c.requires.some.1)

pub returns-then-step : goal.returns-then-step
returns-then-step g c =
    let f = stored_in c.args.file.now c.args.cur.strips.now in
    c.copy_run.ensures ∙ ap (bytes f c.args.cur.into) c.requires.out_len ∙ sym (spaced_tight f c.args.cur.into g.row.S c.args.n)
    ∙ ap (λ step. spaced f c.args.cur.into step g.row.S c.args.n) (sym c.if-step.true)
