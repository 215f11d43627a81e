-- The turn of a number: its top bit joins those before it. That a sign byte has it takes that every byte of the file is one (`type_inv`).
use mathlib.Core.Path.{◌∙◌}
use Rattle.lsm_format.specs.Code.{order_of}
use Rattle.lsm_values.proofs.Signs.{signs_next, signs_over}
use Rattle.lsm_values.proofs.top_bit_among.Goals as goal

pub loop-i-preserved : goal.loop-i-preserved
loop-i-preserved c =
    rw (c.max-top.ensures, c.bytes-step.ensures.0, c.sign_place-sign.ensures.0)
    (signs_next c.args.buf.now c.args.n c.args.width (order_of c.args.e) c.args.place c.loop-i.i (λ k. (c.type_inv.buf k).fits) c.loop-i.top c.requires c.loop-i-test.true
    ∙ c.loop-i.invariant)

pub returns : goal.returns
returns c =
    signs_over c.args.buf.now c.args.n c.args.width (order_of c.args.e) c.args.place c.loop-i.i c.loop-i.top c.loop-i-test.false ∙ c.loop-i.invariant
