-- The sum over the pairs of a weight and its rank.
use Rattle.std.proofs.Common.{ℕ, ◌*◌, ◌^◌, ◌∙◌, rules, tests, arith}
use Rattle.std.specs.List.{zip}
use Rattle.std.proofs.lemmas.Iterator.{YieldsList-from_slice, YieldsList-from_zip, YieldsList-from_map}
use Rattle.std.proofs.lemmas.Iterator.Consumers.{YieldsList-at, sum_by_from_yields_List, fits_by_from_yields_list}
use Rattle.feed.proofs.Pairs.{weighted_zip, weighted_few}
use Rattle.feed.proofs.sum.weighted_sum.Goals as goal

pub sum-requires-clause-fits : goal.sum-requires-clause-fits
sum-requires-clause-fits c =
    let weights = c.args.weights.now in
    let ranks = c.args.ranks.now in
    let by : ℕ × ℕ → ℕ = λ p. p.0 * p.1 in
    let few = weighted_few weights ranks c.type_inv.weights c.type_inv.ranks in
    fits_by_from_yields_list by (zip weights ranks) c.map.result (2 ^ 32)
    (YieldsList-from_map _ by (YieldsList-at c.map.ensures.source (YieldsList-from_zip (YieldsList-from_slice weights cc) (YieldsList-from_slice ranks cc))) c.map.ensures.closure (λ x r q k. search (rules, tests)))
    (omega (arith, weighted_zip weights ranks))

pub returns : goal.returns
returns c =
    let weights = c.args.weights.now in
    let ranks = c.args.ranks.now in
    let by : ℕ × ℕ → ℕ = λ p. p.0 * p.1 in
    sum_by_from_yields_List by (zip weights ranks) c.map.result _ c.sum.ensures.ran
    (YieldsList-from_map _ by (YieldsList-at c.map.ensures.source (YieldsList-from_zip (YieldsList-from_slice weights cc) (YieldsList-from_slice ranks cc))) c.map.ensures.closure (λ x r q k. search (rules, tests)))
    ∙ weighted_zip weights ranks
