-- A test of the pairs is one of the two rows.
use Rattle.std.proofs.Common.{ℕ, ◌+◌, ltb, ◌∙◌, rules, tests}
use Rattle.std.proofs.lemmas.Iterator.{YieldsList-from_slice, YieldsList-from_zip}
use Rattle.std.proofs.lemmas.Iterator.Search.{any_from_yields_List}
use Rattle.share.specs.Shares.{D}
use Rattle.tally.proofs.Pairs.{any_sum}
use Rattle.tally.proofs.checks.any_excess.Goals as goal

pub returns : goal.returns
returns c =
    let up = c.args.up.now in
    let down = c.args.down.now in
    any_from_yields_List (λ (p : ℕ × ℕ). ltb D (p.0 + p.1)) c.any.new.self _ c.any.result c.any.ensures.ran
    (YieldsList-from_zip (YieldsList-from_slice up cc) (YieldsList-from_slice down (cc c.zip.ensures.second.0)))
    (λ x b q k. search (rules, tests)) ∙
    any_sum D up down
