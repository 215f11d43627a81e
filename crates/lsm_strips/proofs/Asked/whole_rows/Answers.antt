-- `lsm_strips::Asked::whole_rows` meets its contract, by the first test that says no; then the pages decide. Assumes nothing.
use Rattle.std.proofs.Common.{rules, tests, arith, sym, ◌∙◌, ◌≡◌, ◌<◌}
use Rattle.std.proofs.lemmas.Iterator.{YieldsList-from_range, serves_from_Range}
use Rattle.std.proofs.lemmas.Iterator.Search.{all_from_yields_List}
use Rattle.lsm_format.specs.Picture.{whole_page, row_bytes}
use Rattle.lsm_format.proofs.Words.{word_some}
use Rattle.lsm_description.specs.Code.{description_of}
use Rattle.lsm_strips.proofs.Judging.{whole_by, whole_many, pages_listed}
use Rattle.lsm_strips.proofs.Asked.whole_rows.Goals as goal

pub returns-in_default-expected_pages : goal.returns-in_default-expected_pages
returns-in_default-expected_pages c =
    sym (whole_many _ _ _ (sym c.in-Some.ensures) c.if-row-eq0.false _ (sym c.in_default-expected_pages.ensures))

pub all-requires-clause-callable : goal.all-requires-clause-callable
all-requires-clause-callable c =
    let known : (c.in-Some.row ≡ row_bytes (description_of c.args.self.d)) × (0 < c.in-Some.row) = ((word_some _ _ (sym c.in-Some.ensures)).0, omega (arith, c.if-row-eq0.false)) in
    serves_from_Range (λ x q k. search (rules, tests)) (λ x lo hi. search (rules, known))

pub returns : goal.returns
returns c =
    all_from_yields_List (whole_page (description_of c.args.self.d) c.args.self.table.now) _ _ _ c.all.ensures.ran (YieldsList-from_range 0 c.in-Ok.pages c.in-Ok.pages (search rules) (omega arith)) (λ x b q k. search (rules, tests))
    ∙ pages_listed (description_of c.args.self.d) c.args.self.table.now c.in-Ok.pages
    ∙ sym (whole_by _ _ _ (sym c.in-Some.ensures) c.if-row-eq0.false _ (sym c.in-Ok.ensures))
