-- What the tests that a feed has passed say of it: its shape keeps the rules of a structure. Assumes nothing.
use Rattle.std.specs.Prelude.{◌≡◌, ℕ, ◌-◌, ◌<◌, ◌≤◌, false, not, List, length, ◌==◌, nat_le, nat_lt, slice_index, slice_index_or}
use Rattle.std.proofs.Common.{le_trans, arith, ap, ◌∙◌}
use Rattle.std.proofs.ByRecursion.{All-weaker}
use Rattle.std.proofs.lemmas.Bool.{not-false, or_parts, leb-true, eqb-true, eqb-false, ltb-false}
use Rattle.structure.specs.Shape.{Lawful, vector_count}
use Rattle.structure.specs.Conditions.{outside, any_outside, any_over, any_fall}
use Rattle.structure.proofs.Judged.{none_holds, from_one_to, tops_fit}
use Rattle.feed.specs.Feed.{weighted, reached, feed_shape, feed_tests, wrong_lengths, wrong_ends, Passes}
use Rattle.feed.specs.Weighted.{weighted_zeros, weighted_rises}
use Rattle.feed.specs.Reached.{reached_rises, reached_none, reached_all}
use Rattle.feed.specs.Ascending.{first_least, last_most}

-- no test finds anything wrong
record Sound (tops tags weights thresholds : List ℕ) : Type 0 where
  components : outside (length tops) 12 ≡ false
  lengths : wrong_lengths tops tags weights ≡ false
  each_top : any_outside 7 tops ≡ false
  best : outside (length thresholds) 7 ≡ false
  few : not (nat_le (vector_count tops) 65536) ≡ false
  none_over : any_over 1000 weights ≡ false
  ends : wrong_ends tops weights thresholds ≡ false
  steady : any_fall thresholds ≡ false

module _ (tops tags weights thresholds : List ℕ) (passes : Passes tops tags weights thresholds) where
  sound : Sound tops tags weights thresholds
  sound =
      let h = none_holds (feed_tests tops tags weights thresholds) tt passes in
      let k = h.1.1.1.1 in
      record {
        components = h.0;
        lengths = h.1.0;
        each_top = h.1.1.0;
        best = h.1.1.1.0;
        few = k.0;
        none_over = k.1.0;
        ends = k.1.1.0;
        steady = k.1.1.1.0;
      }

  -- from 1 to 12 components, and from 1 to 7 thresholds
  pub components_few : (1 ≤ length tops) × (length tops ≤ 12)
  components_few = from_one_to (length tops) 12 sound.components

  pub thresholds_few : (1 ≤ length thresholds) × (length thresholds ≤ 7)
  thresholds_few = from_one_to (length thresholds) 7 sound.best

  -- as many tags and weights as tops
  both_lengths : (not (length tags == length tops) ≡ false) × (not (length weights == length tops) ≡ false)
  both_lengths = or_parts (not (length tags == length tops)) (not (length weights == length tops)) sound.lengths

  pub tags_long : length tags ≡ length tops
  tags_long = eqb-true (length tags) (length tops) (not-false (length tags == length tops) both_lengths.0)

  pub weights_long : length weights ≡ length tops
  weights_long = eqb-true (length weights) (length tops) (not-false (length weights == length tops) both_lengths.1)

  -- the first threshold is above 0, and the last not above the sum of all tops
  both_ends : (0 < slice_index thresholds 0) × (slice_index thresholds (length thresholds - 1) ≤ weighted weights tops)
  both_ends =
      let first = slice_index_or thresholds 0 0 in
      let last = slice_index_or thresholds (length thresholds - 1) 0 in
      let h = or_parts (first == 0) (nat_lt (weighted weights tops) last) sound.ends in
      let some = eqb-false first 0 h.0 in
      (omega arith, ltb-false (weighted weights tops) last h.1)

  pub feed_lawful : Lawful (feed_shape tops weights thresholds)
  feed_lawful = record {
    some = components_few.0;
    few = components_few.1;
    tops_fit = tops_fit tops sound.each_top;
    best_low = thresholds_few.0;
    best_high = thresholds_few.1;
    countable = leb-true (vector_count tops) 65536 (not-false (nat_le (vector_count tops) 65536) sound.few);
    bottom =
        let P : ℕ → Type 0 = λ t. slice_index thresholds 0 ≤ t in
        let above = All-weaker P (λ t. 0 < t) (λ t l. le_trans both_ends.0 l) thresholds (first_least thresholds sound.steady) in
        ap (reached thresholds) (weighted_zeros weights tops) ∙ reached_none thresholds 0 above;
    top =
        let P : ℕ → Type 0 = λ t. t ≤ slice_index_or thresholds (length thresholds - 1) 0 in
        let below = All-weaker P (λ t. t ≤ weighted weights tops) (λ t l. le_trans l both_ends.1) thresholds (last_most thresholds sound.steady) in
        reached_all thresholds (weighted weights tops) below;
    rises = λ u v t h. reached_rises thresholds (weighted weights u) (weighted weights v) (weighted_rises weights u v h);
  }
