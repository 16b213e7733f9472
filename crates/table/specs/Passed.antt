-- What the tests that a table has passed say of it: its shape keeps the rules of a structure. Assumes nothing.
use Rattle.std.specs.Prelude.{◌≡◌, ℕ, ◌-◌, ◌≤◌, false, not, List, length, ◌==◌, nat_le, slice_index}
use Rattle.std.proofs.Common.{ap, ◌∙◌}
use Rattle.std.proofs.lemmas.Bool.{not-false, or_parts, leb-true, eqb-true}
use Rattle.structure.specs.Shape.{Lawful, vector_count}
use Rattle.structure.specs.Conditions.{outside, any_outside, any_over}
use Rattle.structure.proofs.Numbers.{number_zero, number_tops}
use Rattle.structure.proofs.Raises.{rises_without_falls}
use Rattle.table.specs.Table.{table_shape, table_level, table_tests, wrong_ends, falls, Passes}
use Rattle.structure.proofs.Judged.{none_holds, from_one_to, tops_fit}

-- no test finds anything wrong
record Sound (tops : List ℕ) (best : ℕ) (tags levels : List ℕ) : Type 0 where
  components : outside (length tops) 12 ≡ false
  lengths : not (length tags == length tops) ≡ false
  each_top : any_outside 7 tops ≡ false
  best_level : outside best 7 ≡ false
  few : not (nat_le (vector_count tops) 65536) ≡ false
  long : not (length levels == vector_count tops) ≡ false
  none_over : any_over best levels ≡ false
  ends : wrong_ends tops best levels ≡ false
  steady : falls tops levels ≡ false

module _ (tops : List ℕ) (best : ℕ) (tags levels : List ℕ) (passes : Passes tops best tags levels) where
  sound : Sound tops best tags levels
  sound =
      let h = none_holds (table_tests tops best tags levels) tt passes in
      let k = h.1.1.1.1 in
      record {
        components = h.0;
        lengths = h.1.0;
        each_top = h.1.1.0;
        best_level = h.1.1.1.0;
        few = k.0;
        long = k.1.0;
        none_over = k.1.1.0;
        ends = k.1.1.1.0;
        steady = k.1.1.1.1.0;
      }

  -- as many tags as tops
  pub tags_long : length tags ≡ length tops
  tags_long = eqb-true (length tags) (length tops) (not-false (length tags == length tops) sound.lengths)

  pub table_count : vector_count tops ≤ 65536
  table_count = leb-true (vector_count tops) 65536 (not-false (nat_le (vector_count tops) 65536) sound.few)

  -- a level for each vector
  pub table_long : length levels ≡ vector_count tops
  table_long = eqb-true (length levels) (vector_count tops) (not-false (length levels == vector_count tops) sound.long)

  -- the first level is 0, and the last the best
  both_ends : (slice_index levels 0 ≡ 0) × (slice_index levels (vector_count tops - 1) ≡ best)
  both_ends =
      let first = slice_index levels 0 == 0 in
      let last = slice_index levels (vector_count tops - 1) == best in
      let h = or_parts (not first) (not last) sound.ends in
      (eqb-true (slice_index levels 0) 0 (not-false first h.0), eqb-true (slice_index levels (vector_count tops - 1)) best (not-false last h.1))

  pub table_lawful : Lawful (table_shape tops best levels)
  table_lawful =
      let n = from_one_to (length tops) 12 sound.components in
      let m = from_one_to best 7 sound.best_level in
      record {
        some = n.0;
        few = n.1;
        tops_fit = tops_fit tops sound.each_top;
        best_low = m.0;
        best_high = m.1;
        countable = table_count;
        bottom = ap (λ k. slice_index levels k) (number_zero tops) ∙ both_ends.0;
        top = ap (λ k. slice_index levels k) (number_tops tops) ∙ both_ends.1;
        rises = rises_without_falls tops (table_level tops levels) sound.steady;
      }
