-- Where the lengths are the same, `all` over the pairs compares them.
use Rattle.std.proofs.Common.{rules, tests, nat_eq}
use Rattle.std.proofs.lemmas.Iterator.{YieldsList-from_slice, YieldsList-from_zip}
use Rattle.std.proofs.lemmas.Iterator.Search.{all_from_yields_List}
use Rattle.vectors.proofs.Pairs.{alike}
use Rattle.vectors.proofs.same.same.Goals as goal

pub returns-then-words-lent : goal.returns-then-words-lent
returns-then-words-lent g c =
    let pairs = YieldsList-from_zip (YieldsList-from_slice c.args.words.now cc) (YieldsList-from_slice c.args.lent.now cc) in
    alike (λ x y. nat_eq x (g.T.Lent.number y)) _ _ _ c.if-words-lent.true
    (all_from_yields_List (λ p. nat_eq p.0 (g.T.Lent.number p.1)) c.all.new.self _ _ c.all.ensures.ran pairs (λ x b q k. search (rules, tests)))
