-- `lsm_strips::Asked::whole_page` meets its contract: the parts that the iterator gives are the page's channels. Assumes nothing.
use Rattle.std.proofs.Common.{rules, tests, sym, ◌∙◌, ◌*◌}
use Rattle.std.proofs.lemmas.Iterator.Search.{all_from_yields_List}
use Rattle.lsm_description.specs.Code.{description_of}
use Rattle.lsm_strips.specs.Strips.{whole_in, strips_at}
use Rattle.lsm_strips.proofs.Pairs.{strips_long}
use Rattle.lsm_strips.proofs.Chunked.{YieldsList-from_chunks}
use Rattle.lsm_strips.proofs.Judging.{start_some, page_whole, whole_lost}
use Rattle.lsm_strips.proofs.Asked.whole_page.Goals as goal

pub returns-in_default : goal.returns-in_default
returns-in_default c = sym (whole_lost _ _ _ (sym c.in_default.ensures))

pub returns : goal.returns
returns c =
    let d = description_of c.args.self.d in
    let there = sym c.in-Some.ensures in
    all_from_yields_List (λ strips. whole_in c.args.row strips d.dims.y) _ _ _ c.all.ensures.ran
    (YieldsList-from_chunks d.strips_per_channel (start_some d _ _ _ there) d.dims.c (strips_at c.args.self.table.now c.in-Some.first (d.dims.c * d.strips_per_channel))
    c.chunks_exact.ensures.size (search rules) (strips_long _ _ _))
    (λ x b q k. search (rules, tests))
    ∙ page_whole d _ _ _ c.requires.planar c.requires.row.0 _ there
