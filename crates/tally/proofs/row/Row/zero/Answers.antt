-- Both rows are zero.
use Rattle.std.proofs.Common.{◌≤◌, min, take, replicate, ap, ◌∙◌, arith}
use Rattle.std.proofs.lemmas.List.{take-replicate}
use Rattle.tally.proofs.row.Row.zero.Goals as goal

pub returns : goal.returns
returns c =
    let ranks = min c.args.top 7 in
    let low : ranks ≤ 7 = omega arith in
    let zeros = ap (λ s. take ranks (replicate 7 s)) c.none-none.ensures ∙ take-replicate ranks 7 0 low in
    c.of.ensures ∙ (λ i. record { up = zeros i; down = zeros i })
