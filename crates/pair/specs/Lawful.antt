-- A pair of lawful structures is lawful, and has a tag for each component. Assumes nothing.
use Rattle.std.specs.Prelude.{◌≡◌, ℕ, ◌+◌, ◌≤◌, true, T, List, ◌++◌, map, length, take, drop, refl}
use Rattle.std.proofs.Common.{arith, sym, ap, ap₂, subst, ◌∙◌, ⊎_elim}
use Rattle.std.proofs.lemmas.List.{length-append, length-map, map-append, take_at, drop_at}
use Rattle.std.proofs.lemmas.Bool.{cases_Bool, cond_both}
use Rattle.structure.specs.Shape.{Shape, Lawful, within, AllBelow}
use Rattle.structure.proofs.Tests.{left, right}
use Rattle.pair.specs.declared.join.Join.{Join}
use Rattle.pair.specs.declared.join.Join.TheVariants.{Series, Parallel}
use Rattle.pair.specs.Fit.{fit}
use Rattle.pair.specs.Joined.{joined_level, joined}
use Rattle.pair.specs.Paired.{paired, paired_tags}
use Rattle.pair.specs.Fitting.{fit_few, fit_best, fit_count, shape_fit, shape_alone, tags_fit, tags_alone}
use Rattle.pair.specs.Parts.{within_parts, below_front, below_rest, tops_fit_append}

-- ## The level of two levels

-- rises with both, and of two equal levels is that level
level_rises : (j : Join) (x x' y y' : ℕ) → x ≤ x' → y ≤ y' → joined_level j x y ≤ joined_level j x' y'
level_rises Series x x' y y' h k = omega arith
level_rises Parallel x x' y y' h k = omega arith

level_same : (j : Join) (x : ℕ) → joined_level j x x ≡ x
level_same Series x = omega arith
level_same Parallel x = omega arith

-- ## The pair

module _ (j : Join) (a b : Shape) where
  -- of a vector that is written in two parts
  level_append : (v w : List ℕ) (k : ℕ) → length v ≡ length a.tops → a.level v ≡ k → b.level w ≡ k → (joined j a b).level (v ++ w) ≡ k
  level_append v w k n e f =
      ap₂ (joined_level j)
      (ap a.level (take_at v w (length a.tops) n) ∙ e)
      (ap b.level (drop_at v w (length a.tops) n) ∙ f)
      ∙ level_same j k

  module _ (p : Lawful a) (q : Lawful b) where
    joined_rises : (v w : List ℕ) → T (within (a.tops ++ b.tops) w) → AllBelow v w → (joined j a b).level v ≤ (joined j a b).level w
    joined_rises v w t h =
        let n = length a.tops in
        let s = subst T (within_parts a.tops b.tops w) t in
        let front = within a.tops (take n w) in
        let rest = within b.tops (drop n w) in
        level_rises j (a.level (take n v)) (a.level (take n w)) (b.level (drop n v)) (b.level (drop n w))
        (p.rises (take n v) (take n w) (left front rest s) (below_front n v w h))
        (q.rises (drop n v) (drop n w) (right front rest s) (below_rest n v w h))

    joined_lawful : fit a b ≡ true → Lawful (joined j a b)
    joined_lawful f = record {
      some = simp length-append (omega (arith, p.some));
      few = simp length-append (fit_few a b f);
      tops_fit = tops_fit_append a.tops b.tops p.tops_fit q.tops_fit;
      best_low = p.best_low;
      best_high = p.best_high;
      countable = fit_count a b f;
      bottom =
          ap (joined j a b).level (map-append (λ _. 0) a.tops b.tops)
          ∙ level_append (map (λ _. 0) a.tops) (map (λ _. 0) b.tops) 0 (length-map a.tops (λ _. 0)) p.bottom q.bottom;
      top = level_append a.tops b.tops a.best refl p.top (q.top ∙ sym (fit_best a b f));
      rises = joined_rises;
    }

    pub paired_lawful : Lawful (paired j a b)
    paired_lawful = cond_both (fit a b) (joined j a b) a Lawful joined_lawful (λ _. p)

  pub paired_tagged : (ts us : List ℕ) → length ts ≡ length a.tops → length us ≡ length b.tops →
      length (paired_tags a b ts us) ≡ length (paired j a b).tops
  paired_tagged ts us d e = ⊎_elim
      (λ f. ap length (tags_fit a b f ts us) ∙ length-append ts us ∙ ap₂ ◌+◌ d e
      ∙ sym (length-append a.tops b.tops) ∙ sym (ap (λ s. length s.tops) (shape_fit a b f j)))
      (λ f. ap length (tags_alone a b f ts us) ∙ d ∙ sym (ap (λ s. length s.tops) (shape_alone a b f j)))
      (cases_Bool (fit a b))
