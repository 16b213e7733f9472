-- Contents that pass the check fit their places, and are kept whole.
use Rattle.std.proofs.Common.{◌≡◌, ℕ, List, take, ◌∙◌, arith}
use Rattle.std.proofs.lemmas.List.{take_all}
use Rattle.feed.specs.Few.{held_in}
use Rattle.feed.specs.Feed.{Passes}
use Rattle.feed.specs.Passed.{components_few, thresholds_few, tags_long, weights_long}
use Rattle.feed.proofs.feed.Feed.of.Goals as goal

-- lists that are cut off at the most that a feed may have
record Whole (tops tags weights thresholds : List ℕ) : Type 0 where
  tops_whole : take 12 tops ≡ tops
  tags_whole : take 12 tags ≡ tags
  weights_whole : take 12 weights ≡ weights
  thresholds_whole : take 7 thresholds ≡ thresholds

whole : (tops tags weights thresholds : List ℕ) → Passes tops tags weights thresholds → Whole tops tags weights thresholds
whole tops tags weights thresholds passes =
    let few = components_few tops tags weights thresholds passes in
    record {
      tops_whole = take_all 12 tops few.1;
      tags_whole = take_all 12 tags (omega (arith, tags_long tops tags weights thresholds passes));
      weights_whole = take_all 12 weights (omega (arith, weights_long tops tags weights thresholds passes));
      thresholds_whole = take_all 7 thresholds (thresholds_few tops tags weights thresholds passes).1;
    }

pub invariant_of-result : goal.invariant_of-result
invariant_of-result c =
    let w = whole c.args.tops.now c.args.tags.now c.args.weights.now c.args.thresholds.now c.requires in
    let e : held_in c.new.result ≡ c.args.tops.now = c.new.ensures ∙ w.tops_whole in
    let f : held_in c.new-2.result ≡ c.args.tags.now = c.new-2.ensures ∙ w.tags_whole in
    let g : held_in c.new-3.result ≡ c.args.weights.now = c.new-3.ensures ∙ w.weights_whole in
    let h : held_in c.new-4.result ≡ c.args.thresholds.now = c.new-4.ensures ∙ w.thresholds_whole in
    record { passes = cc c.requires }

pub returns-clause-shape : goal.returns-clause-shape
returns-clause-shape c =
    let w = whole c.args.tops.now c.args.tags.now c.args.weights.now c.args.thresholds.now c.requires in cc

pub returns-clause-tags : goal.returns-clause-tags
returns-clause-tags c =
    let w = whole c.args.tops.now c.args.tags.now c.args.weights.now c.args.thresholds.now c.requires in cc
