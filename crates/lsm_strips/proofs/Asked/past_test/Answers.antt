-- `lsm_strips::Asked::past_test` meets its contract: pages that overflow are more than any page's number. Assumes nothing.
use native.Mathlib.Omega.{arith}
use mathlib.Core.Path.{sym}
use Rattle.lsm_strips.proofs.Judging.{past_over}
use Rattle.lsm_strips.proofs.Asked.past_test.Goals as goal

pub returns-in_default-expected_pages : goal.returns-in_default-expected_pages
returns-in_default-expected_pages c =
    sym (past_over _ _ _ (sym c.in-Some.ensures) _ (sym c.in_default-expected_pages.ensures) (omega arith))
