-- The product over the pairs is one over the shares.
use Rattle.std.proofs.Common.{ℕ, map, fold, ap, ◌∙◌, rules}
use Rattle.std.proofs.lemmas.Iterator.{YieldsList-from_slice, YieldsList-from_zip}
use Rattle.std.proofs.lemmas.Iterator.Consumers.{fold_from_yields_List}
use Rattle.share.specs.Shares.{rounded}
use Rattle.tally.specs.Model.{rows_of, reading_of, shares_by}
use Rattle.tally.specs.declared.row.Row.{Row}
use Rattle.tally.proofs.Pairs.{fold_shares}
use Rattle.tally.proofs.products.share_of_all.Goals as goal

pub returns : goal.returns
returns c =
    let rows = c.args.rows.now in
    let v = c.args.vector.now in
    let at = reading_of c.args.reading in
    fold_from_yields_List _ (λ b (p : Row × ℕ). rounded.times_down b (at (rows_of p.0) p.1)) _ _ c.fold.ensures.ran
    (YieldsList-from_zip (YieldsList-from_slice rows cc) (YieldsList-from_slice v (cc c.zip.ensures.second.0)))
    (λ b x r q k. search rules) ∙
    fold_shares rounded.times_down rounded.share at c.whole.result rows v ∙
    ap (λ d. fold rounded.times_down d (map rounded.share (shares_by c.args.reading rows v))) c.whole.ensures
