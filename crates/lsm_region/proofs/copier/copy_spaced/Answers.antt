-- `lsm_region::copier::copy_spaced` meets its contract: `done` samples are there, and the cursor is `ahead` samples before the next one.
-- Assumes nothing.
use native.Mathlib.Omega.{arith}
use native.Mathlib.Nat.{zero-mul}
use Prim.Native.Nat.{◌+◌, ◌-◌, ◌*◌}
use mathlib.Core.Path.{refl, ap, ◌∙◌}
use lib.ListN.{length, take}
use borrow.Rule.Slice.PartMut.{put_mid}
use Rattle.lsm_format.specs.Picture.{span}
use Rattle.lsm_region.proofs.Copying.{stands_then, stands_spaced, rest_length, more_put, samples_start, samples_next, left_reach}
use Rattle.lsm_region.proofs.copier.copy_spaced.Goals as goal

pub loop-done-init : goal.loop-done-init
unfolding span
loop-done-init g c = (omega arith, samples_start _ _ _, rw zero-mul refl)

pub copy_here-ahead-requires-clause-out_len : goal.copy_here-ahead-requires-clause-out_len
copy_here-ahead-requires-clause-out_len g c = rest_length _ _ _ _ (c.loop-done.auto.out ∙ c.requires.out_len) c.loop-done.invariant.0

pub copy_here-ahead-requires-clause-reach : goal.copy_here-ahead-requires-clause-reach
copy_here-ahead-requires-clause-reach g c =
    let there = stands_then c.loop-done.invariant.1 (rw c.unwrap-cur.ensures at c.seek.ensures).stands in
    left_reach _ _ _ _ c.loop-done.done there c.loop-done-test.true c.requires.reach

pub loop-done-preserved : goal.loop-done-preserved
loop-done-preserved g c =
    let there = stands_then c.loop-done.invariant.1 (rw c.unwrap-cur.ensures at c.seek.ensures).stands in
    let new = stands_spaced c.args.file.now c.args.step g.row.S c.copy_here-ahead.result there in (
      omega (arith, c.copy_here-ahead.ensures.count),
      samples_next _ _ _ _ there,
      ap (λ l. take ((c.loop-done.done + c.copy_here-ahead.result) * g.row.S) (put_mid (c.loop-done.done * g.row.S) (length c.loop-done.out - c.loop-done.done * g.row.S) c.loop-done.out l)) c.copy_here-ahead.ensures.put
          ∙ more_put _ _ _ _ (c.loop-done.auto.out ∙ c.requires.out_len) c.loop-done.invariant.0 _ _ _ _ _ _ _ c.loop-done.invariant.2 new,
    )
