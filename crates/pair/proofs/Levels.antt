-- The level of a pair that fits, from those of its parts. Assumes nothing.
use Rattle.std.proofs.Common.{◌≡◌, ℕ, ◌<◌, Bool, true, false, cond, ◌&&◌, List, length, take, drop, Some, None, Option, sym, refl, ap, ◌∙◌, arith}
use Rattle.std.proofs.lemmas.List.{take_rest}
use Rattle.structure.specs.Shape.{Shape, within}
use Rattle.structure.specs.Questions.{level_if_within}
use Rattle.structure.specs.Refusals.{given}
use Rattle.pair.specs.declared.join.Join.{Join}
use Rattle.pair.specs.declared.measure.Size.{Size}
use Rattle.pair.specs.Size.{measured}
use Rattle.pair.specs.Joined.{joined_level, joined_if, joined}
use Rattle.pair.specs.Paired.{paired, level_by_parts}
use Rattle.pair.specs.Parts.{within_parts, within_short}
use Rattle.pair.specs.Fitting.{shape_fit, fit_given, front_given}

-- both parts have one exactly where both tests pass
joined_if_both : (j : Join) (s t : Bool) (x y : ℕ) →
    joined_if j (cond s (Some x) None) (cond t (Some y) None) ≡ cond (s && t) (Some (joined_level j x y)) None
joined_if_both j true true x y = refl
joined_if_both j true false x y = refl
joined_if_both j false t x y = refl

module _ (j : Join) (a b : Shape) (v : List ℕ) (s : Size) (e : given s ≡ measured a b) where
  level_fit : level_if_within (paired j a b) v ≡ level_if_within (joined j a b) v
  level_fit = ap (λ z. level_if_within z v) (shape_fit a b (fit_given a b s e) j)

  level_parts : level_if_within (joined j a b) v
      ≡ joined_if j (level_if_within a (take (length a.tops) v)) (level_if_within b (drop (length a.tops) v))
  level_parts =
      let n = length a.tops in
      ap (λ t. cond t (Some ((joined j a b).level v)) None) (within_parts a.tops b.tops v)
      ∙ sym (joined_if_both j (within a.tops (take n v)) (within b.tops (drop n v)) (a.level (take n v)) (b.level (drop n v)))

  -- a vector shorter than the front has none
  pub level_short : length v < s.front → None ≡ level_if_within (paired j a b) v
  level_short h =
      let k : length v < length a.tops = omega (arith, front_given a b s e) in
      sym (level_fit ∙ ap (λ t. cond t (Some ((joined j a b).level v)) None) (within_short a.tops b.tops v k))

  -- any other has the level of its front and its rest
  pub level_split : (o : Option ℕ) → o ≡ level_by_parts j a b s.front v → o ≡ level_if_within (paired j a b) v
  level_split o d =
      d ∙ ap (λ w. joined_if j (level_if_within a (take s.front v)) (level_if_within b w)) (take_rest v s.front)
      ∙ ap (λ n. joined_if j (level_if_within a (take n v)) (level_if_within b (drop n v))) (front_given a b s e)
      ∙ sym level_parts ∙ sym level_fit
