-- Each share is made of the number at its place.
use Rattle.std.proofs.Common.{◌≡◌, ◌<◌, length, get_or, take, ◌∙◌, arith, rules, length-take}
use Rattle.std.proofs.lemmas.List.{same_lists, get_or-take, get_or_default}
use Rattle.tally.proofs.Made.{made_each}
use Rattle.tally.proofs.rows.shares.Goals as goal

pub returns : goal.returns
returns c =
    let row = c.args.row.now in
    let made = c.from_fn.ensures.items in
    let each = made_each _ _ (λ i y. y ≡ get_or row i 0) (λ i y q k. search rules) c.from_fn.result 0 7 made.each in
    let long : length (take (length row) c.from_fn.result) ≡ length row = simp length-take (omega (arith, made.long)) in
    same_lists _ _ long
    (λ k d within.
    let here : k < length row = omega arith in
    get_or-take (length row) c.from_fn.result k d here ∙ each k d (omega arith) (omega arith) ∙ get_or_default row k 0 d here)
