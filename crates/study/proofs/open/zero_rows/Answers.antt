-- Each row is of zeros for its top.
use Rattle.std.proofs.Common.{◌≡◌, min, map, vec_items, IfOk, rules, ◌∙◌}
use Rattle.std.proofs.lemmas.Iterator.{YieldsList-from_slice, YieldsList-from_map_by}
use Rattle.std.proofs.lemmas.Iterator.Consumers.{map_from_collect}
use Rattle.std.proofs.lemmas.Result.{IfOk-weaker}
use Rattle.promise.specs.Figures.{no_shares}
use Rattle.tally.specs.Model.{rows_of}
use Rattle.study.proofs.Opening.{made_low}
use Rattle.study.proofs.open.zero_rows.Goals as goal

pub returns-clause-rows : goal.returns-clause-rows
returns-clause-rows c =
    let rows : IfOk c.collect.result (λ v. map rows_of (vec_items v) ≡ map (λ t. no_shares (min t 7)) c.args.tops.now) =
    map_from_collect c.collect.result c.collect.ensures.ran
    (YieldsList-from_map_by _ rows_of (λ t. no_shares (min t 7)) (YieldsList-from_slice c.args.tops.now (cc)) (cc) (λ x r q k. search rules)) in
    IfOk-weaker c.collect.result _ _ (λ v e. e ∙ made_low no_shares c.args.tops.now c.requires) rows
