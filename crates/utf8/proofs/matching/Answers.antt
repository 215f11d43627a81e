-- `utf8::matching` meets its contract: what is counted is how many of the bytes beside their ranges lie in them, from the front on
-- (`matched_zip`). Assumes nothing.
use Rattle.std.proofs.Common.{rules, tests, ◌∙◌}
use Rattle.std.proofs.lemmas.Iterator.{YieldsList-from_slice, YieldsList-from_zip}
use Rattle.std.proofs.lemmas.Iterator.Consumers.{YieldsList-at, count_from_yields_List}
use Rattle.std.proofs.lemmas.Iterator.Search.{YieldsList-from_take_while}
use Rattle.lsm_format.specs.Utf8.{between}
use Rattle.utf8.proofs.Pieces.{matched_zip}
use Rattle.utf8.proofs.matching.Goals as goal

pub returns-clause-is : goal.returns-clause-is
returns-clause-is c =
    count_from_yields_List c.take_while.result c.count.result c.count.ensures.ran
    (YieldsList-from_take_while _ (λ p. between p.0 p.1)
    (YieldsList-at c.take_while.ensures.source (YieldsList-from_zip (YieldsList-from_slice c.args.ranges.now (cc)) (YieldsList-from_slice c.args.bytes.now (cc))))
    c.take_while.ensures.closure c.take_while.ensures.done (λ x b q k. search (rules, tests)))
    ∙ matched_zip c.args.ranges.now c.args.bytes.now
