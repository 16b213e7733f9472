-- What the rules of a use give: a lawful structure, a search within its vectors, and what an accepted call was given.
-- Assumes nothing.
use Rattle.std.proofs.Common.{◌≡◌, ℕ, ◌≤◌, true, false, ◌&&◌, eqb, ltb, List, [], ◌∷◌, length, refl, arith}
use native.Mathlib.Nat.{one-le-mul}
use Rattle.std.proofs.lemmas.Bool.{both_ways, not-false, ltb-false, eqb-true, and_parts, or_parts}
use Rattle.share.specs.Shares.{D, Shares}
use Rattle.structure.specs.Refusals.{accepted}
use Rattle.structure.specs.Conditions.{any_over}
use Rattle.structure.specs.Shape.{Lawful, top_at, vector_count}
use Rattle.structure.proofs.Judged.{none_holds, from_one_to}
use Rattle.promise.specs.Figures.{Rows}
use Rattle.promise.specs.Use.{Use, opened, entered, carried, stepped, asked, finished, full, still_open, shape_of, examined, is_finished}
use Rattle.promise.specs.Calls.{enter_tests, enter_answer, carry_tests, carry_answer}
use Rattle.promise.specs.InForce.{carried_rows}
use Rattle.promise.specs.Rules.{Ruled}

-- ## The structure and the search

pub lawful_shape : (u : Use) → Ruled u → Lawful (shape_of u)
lawful_shape (opened s tags) h = h.0
lawful_shape (entered u i r a) h = lawful_shape u h.0
lawful_shape (carried u i m a) h = lawful_shape u h.0
lawful_shape (stepped u b k w) h = lawful_shape u h.0
lawful_shape (asked u q) h = lawful_shape u h.0

-- a search examines no more vectors than there are
pub examined_most : (u : Use) → Ruled u → examined u ≤ vector_count (shape_of u).tops
examined_most (opened s tags) h = omega arith
examined_most (entered u i r a) h = examined_most u h.0
examined_most (carried u i m a) h = examined_most u h.0
examined_most (stepped u b k w) h = h.1.within_vectors
examined_most (asked u q) h = examined_most u h.0

-- a finished search has examined every vector, and a later step none
pub all_examined : (u : Use) → Ruled u → is_finished u ≡ true → examined u ≡ vector_count (shape_of u).tops
all_examined (opened s tags) h e = absurd (both_ways false refl e)
all_examined (entered u i r a) h e = all_examined u h.0 e
all_examined (carried u i m a) h e = all_examined u h.0 e
all_examined (stepped u b k finished) h e = h.1.stops
all_examined (stepped u b k full) h e = omega (arith, h.1.within_vectors, all_examined u h.0 e)
all_examined (stepped u b k still_open) h e = omega (arith, h.1.within_vectors, all_examined u h.0 e)
all_examined (asked u q) h e = all_examined u h.0 e

count_some : (tops : List ℕ) → 1 ≤ vector_count tops
count_some [] = omega arith
count_some (a ∷ tops) = one-le-mul (omega arith) (count_some tops)

-- and one that has examined every vector is finished, since a step that answers otherwise leaves some
pub then_finished : (u : Use) → Ruled u → examined u ≡ vector_count (shape_of u).tops → is_finished u ≡ true
then_finished (opened s tags) h e = absurd (omega (arith, count_some s.tops, e))
then_finished (entered u i r a) h e = then_finished u h.0 e
then_finished (carried u i m a) h e = then_finished u h.0 e
then_finished (stepped u b k finished) h e = refl
then_finished (stepped u b k full) h e = absurd (omega (arith, h.1.stops.1, e))
then_finished (stepped u b k still_open) h e = absurd (omega (arith, h.1.stops.1, e))
then_finished (asked u q) h e = then_finished u h.0 e

-- ## Accepted calls

-- no number is over the whole
none_over : (xs : List ℕ) → any_over D xs ≡ false → Shares xs
none_over [] e = tt
none_over (x ∷ xs) e = let p = or_parts (ltb D x) (any_over D xs) e in (ltb-false D x p.0, none_over xs p.1)

-- an accepted enter: the component is one of the structure's, and the rows are shares, one for each rank to its top
pub record Entered (u : Use) (i : ℕ) (r : Rows) : Type 0 where
  pub first : 1 ≤ i
  pub last : i ≤ length (shape_of u).tops
  pub ups : length r.up ≡ top_at (shape_of u) i
  pub downs : length r.down ≡ top_at (shape_of u) i
  pub up_shares : Shares r.up
  pub down_shares : Shares r.down

pub enter_accepted : (u : Use) (i : ℕ) (r : Rows) → accepted (enter_answer (shape_of u).tops i r) ≡ true → Entered u i r
enter_accepted u i r e =
    let unmet = none_holds (enter_tests (shape_of u).tops i r) tt e in
    let inside = from_one_to i (length (shape_of u).tops) unmet.0 in
    let up = eqb (length r.up) (top_at (shape_of u) i) in
    let down = eqb (length r.down) (top_at (shape_of u) i) in
    let long = and_parts up down (not-false (up && down) unmet.1.0) in
    let small = or_parts (any_over D r.up) (any_over D r.down) unmet.1.1.0 in
    record {
      first = inside.0;
      last = inside.1;
      ups = eqb-true (length r.up) (top_at (shape_of u) i) long.0;
      downs = eqb-true (length r.down) (top_at (shape_of u) i) long.1;
      up_shares = none_over r.up small.0;
      down_shares = none_over r.down small.1;
    }

-- an accepted carry: the module's best is the component's top
pub record Carried (u : Use) (i : ℕ) (m : Use) : Type 0 where
  pub first : 1 ≤ i
  pub last : i ≤ length (shape_of u).tops
  pub best : (shape_of m).best ≡ top_at (shape_of u) i

pub carry_accepted : (u : Use) (i : ℕ) (m : Use) → accepted (carry_answer (shape_of u).tops i (shape_of m).best (carried_rows m)) ≡ true → Carried u i m
carry_accepted u i m e =
    let unmet = none_holds (carry_tests (shape_of u).tops i (shape_of m).best (carried_rows m)) tt e in
    let inside = from_one_to i (length (shape_of u).tops) unmet.0 in
    let same = eqb (shape_of m).best (top_at (shape_of u) i) in
    record { first = inside.0; last = inside.1; best = eqb-true (shape_of m).best (top_at (shape_of u) i) (not-false same unmet.1.0) }
