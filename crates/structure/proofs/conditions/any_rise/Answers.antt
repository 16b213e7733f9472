-- The numbers are in order where no two neighbours break it.
use Rattle.std.proofs.Common.{ltb, not, rules, tests}
use Rattle.std.proofs.lemmas.List.Sorted.{answers_always}
use Rattle.structure.proofs.Nexts.{next_unsorted}
use Rattle.structure.proofs.conditions.any_rise.Goals as goal

pub returns : goal.returns
returns g c =
    next_unsorted (λ x y. ltb (g.N.Number.value x) (g.N.Number.value y)) c.args.numbers.now c.is_sorted_by.result
    (c.is_sorted_by.ensures.cases (λ x y. not (ltb (g.N.Number.value x) (g.N.Number.value y))) (answers_always _ _ _ (λ f a r q k. search (rules, tests))))
