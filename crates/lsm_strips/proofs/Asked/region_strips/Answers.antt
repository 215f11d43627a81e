-- `lsm_strips::Asked::region_strips` meets its contract: for a picture that isn't oversized and a page of the test by `region_plane`,
-- otherwise by what the whole-row test says. Assumes nothing.
use mathlib.Core.Path.{◌≡◌, sym, ◌∙◌}
use mathlib.Core.Bool.{Bool, true, false}
use borrow.Author.Tests.{not-true}
use Rattle.lsm_description.specs.Code.{description_of}
use Rattle.lsm_format.proofs.Apart.{no_case}
use Rattle.lsm_strips.proofs.Judging.{region_by_plane, region_broken}
use Rattle.lsm_strips.proofs.Asked.region_strips.Goals as goal
use Rattle.lsm_strips.proofs.Asked.region_strips.Goals.{then-small, else-small, then-not-past_test-via-then-not-past_test, then-not-past_test-via-else-not-past_test+then-not-whole_rows}

pub returns-then-not-past_test : goal.returns-then-not-past_test
returns-then-not-past_test c =
    elim c.then-not-past_test.branch [
      | then-not-past_test-via-then-not-past_test w ↦
          elim c.if-small.branch [
            | then-small v ↦
                c.plane_strips-then-not-past_test.ensures
                ∙ sym (region_by_plane (description_of c.args.self.d) _ _ _ _ c.checked_plane_bytes.result c.checked_plane_bytes.ensures (sym c.is_ok-small.ensures.value ∙ v.if-small.true) (sym v.past_test.ensures ∙ not-true _ (sym v.value-is ∙ w.if-not-past_test.true)) c.requires c.args.self.channel)
            | else-small v ↦ let z : ◌≡◌ {A = Bool} false true = sym v.if-small.false ∙ sym v.value-is ∙ w.if-not-past_test.true in no_case cc
          ]
      | then-not-past_test-via-else-not-past_test+then-not-whole_rows w ↦
          c.plane_strips-then-not-past_test.ensures ∙ sym (region_broken (description_of c.args.self.d) _ _ _ _ (sym w.whole_rows.ensures ∙ w.if-not-whole_rows.true))
    ]
