-- `lsm_region::copier::fill_samples` meets its contract. The weight lies in Answering: gathered rows are the window of the stored picture, as it is
-- for one byte and for little-endian samples, and turned around for big-endian ones. Assumes nothing.
use native.Mathlib.Omega.{arith}
use mathlib.Core.Path.{ap}
use Rattle.lsm_format.specs.Code.{order_of}
use Rattle.lsm_region.proofs.Answering.{fitting, ready_rows, from_one, from_little, from_big}
use Rattle.lsm_region.proofs.copier.fill_samples.Goals as goal

pub overflow_mul-step : goal.overflow_mul-step
overflow_mul-step g c = (fitting c.requires.ready (rw c.requires.out_len at c.requires.some) c.pixel_samples-step.ensures c.requires.size).step

pub overflow_mul-rows-2 : goal.overflow_mul-rows-2
overflow_mul-rows-2 g c = (fitting c.requires.ready (rw c.requires.out_len at c.requires.some) c.pixel_samples-step.ensures c.requires.size).before

pub overflow_mul-rows-3 : goal.overflow_mul-rows-3
overflow_mul-rows-3 g c = (fitting c.requires.ready (rw c.requires.out_len at c.requires.some) c.pixel_samples-step.ensures c.requires.size).own

pub overflow_add-rows : goal.overflow_add-rows
overflow_add-rows g c = (fitting c.requires.ready (rw c.requires.out_len at c.requires.some) c.pixel_samples-step.ensures c.requires.size).start

pub gather-requires-clause-rows_in : goal.gather-requires-clause-rows_in
gather-requires-clause-rows_in g c =
    ready_rows c.requires.ready (rw c.requires.out_len at c.requires.some) c.pixel_samples-step.ensures c.requires.size (rw c.unwrap.ensures at c.of.ensures).1

pub returns-then-this-gt1 : goal.returns-then-this-gt1
returns-then-this-gt1 g c =
    from_big _ _ _ _ _ _ _ _ _ c.gather.ensures c.pixel_samples-step.ensures c.requires.size (rw c.unwrap.ensures at c.of.ensures).1 (omega (arith, c.requires.out_len)) (ap order_of c.in-Big.is) _ c.turn.ensures

pub returns-else-this-gt1 : goal.returns-else-this-gt1
returns-else-this-gt1 g c =
    from_one _ _ _ _ _ _ _ _ _ c.gather.ensures c.pixel_samples-step.ensures c.requires.size (rw c.unwrap.ensures at c.of.ensures).1 (omega (arith, c.if-this-gt1.false))

pub returns-in_default : goal.returns-in_default
returns-in_default g c =
    from_little _ _ _ _ _ _ _ _ _ c.gather.ensures c.pixel_samples-step.ensures c.requires.size (rw c.unwrap.ensures at c.of.ensures).1 (ap order_of c.in_default.is)
