-- What it says that two structures fit. Assumes nothing.
use Rattle.std.specs.Prelude.{◌≡◌, ℕ, ◌+◌, ◌≤◌, Bool, true, false, List, [], ◌∷◌, ◌++◌, length, ◌==◌, nat_le, refl}
use Rattle.std.proofs.Common.{arith, sym, ap, ◌∙◌}
use Rattle.std.proofs.lemmas.List.{length-append}
use Rattle.std.proofs.lemmas.Bool.{cond-true, cond-false, not-false, leb-true, eqb-true}
use Rattle.structure.specs.Shape.{Shape, vector_count}
use Rattle.structure.specs.Refusals.{given, accepted, first_refusal}
use Rattle.structure.proofs.Judged.{none_holds, from_one_to}
use Rattle.pair.specs.declared.join.Join.{Join}
use Rattle.pair.specs.declared.measure.Size.{Size}
use Rattle.pair.specs.Fit.{pair_tests, pair_answer, fit}
use Rattle.pair.specs.Size.{size_of, measured}
use Rattle.pair.specs.Joined.{joined}
use Rattle.pair.specs.Paired.{paired, paired_tags}

-- ## Two that fit

module _ (a b : Shape) (f : fit a b ≡ true) where
  pub fit_few : length a.tops + length b.tops ≤ 12
  fit_few = (from_one_to (length a.tops + length b.tops) 12 (none_holds (pair_tests a b) tt f).0).1

  pub fit_best : a.best ≡ b.best
  fit_best = eqb-true a.best b.best (not-false (a.best == b.best) (none_holds (pair_tests a b) tt f).1.0)

  pub fit_count : vector_count (a.tops ++ b.tops) ≤ 65536
  fit_count =
      let c = vector_count (a.tops ++ b.tops) in
      leb-true c 65536 (not-false (nat_le c 65536) (none_holds (pair_tests a b) tt f).1.1.0)

  pub shape_fit : (j : Join) → paired j a b ≡ joined j a b
  shape_fit j = cond-true (fit a b) (joined j a b) a f

  pub tags_fit : (ts us : List ℕ) → paired_tags a b ts us ≡ ts ++ us
  tags_fit ts us = cond-true (fit a b) (ts ++ us) ts f

-- ## Two that do not fit

module _ (a b : Shape) (f : fit a b ≡ false) where
  pub shape_alone : (j : Join) → paired j a b ≡ a
  shape_alone j = cond-false (fit a b) (joined j a b) a f

  pub tags_alone : (ts us : List ℕ) → paired_tags a b ts us ≡ ts
  tags_alone ts us = cond-false (fit a b) (ts ++ us) ts f

-- ## What the measure says

-- nothing is refused, whatever was asked for
same_given : {A B : Type 0} (x s : A) (y : B) (cs : List (Bool × ℕ)) → given s ≡ first_refusal cs x → (s ≡ x) × (given y ≡ first_refusal cs y)
same_given x s y [] e = (cc, refl)
same_given x s y ((true, n) ∷ cs) e = let z : ◌≡◌ {A = ℕ} 0 1 = cc in absurd (omega arith)
same_given x s y ((false, n) ∷ cs) e = same_given x s y cs e

module _ (a b : Shape) (s : Size) (e : given s ≡ measured a b) where
  measured_given : (s ≡ size_of a b) × (given tt ≡ pair_answer a b)
  measured_given = same_given {B = Unit {0}} (size_of a b) s tt (pair_tests a b) e

  pub fit_given : fit a b ≡ true
  fit_given = sym (ap accepted measured_given.1)

  -- its front has the components of the first
  pub front_given : s.front ≡ length a.tops
  front_given = ap (λ z. z.front) measured_given.0

  pub components_given : (j : Join) → s.components ≡ length (paired j a b).tops
  components_given j =
      ap (λ z. z.components) measured_given.0 ∙ sym (length-append a.tops b.tops)
      ∙ sym (ap (λ z. length z.tops) (shape_fit a b fit_given j))
