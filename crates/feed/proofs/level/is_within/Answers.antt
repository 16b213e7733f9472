-- A vector of the tops' length, and one of another.
use Rattle.std.proofs.Common.{leb, ◌∙◌, rules, tests}
use Rattle.std.proofs.lemmas.Iterator.{YieldsList-from_slice, YieldsList-from_zip}
use Rattle.std.proofs.lemmas.Iterator.Search.{all_from_yields_List}
use Rattle.feed.proofs.Within.{within_zip, within_other}
use Rattle.feed.proofs.level.is_within.Goals as goal

pub returns-then-vector-tops : goal.returns-then-vector-tops
returns-then-vector-tops c =
    let tops = c.args.tops.now in
    let v = c.args.vector.now in
    all_from_yields_List (λ p. leb p.0 p.1) c.all.new.self _ _ c.all.ensures.ran (YieldsList-from_zip (YieldsList-from_slice v cc) (YieldsList-from_slice tops cc)) (λ x b q k. search (rules, tests))
    ∙ within_zip tops v c.if-vector-tops.true

pub returns-else-vector-tops : goal.returns-else-vector-tops
returns-else-vector-tops c = within_other c.args.tops.now c.args.vector.now c.if-vector-tops.false
