-- Two structures joined in series or in parallel. Assumes nothing.
use Rattle.std.specs.Prelude.{ℕ, min, max, ◌++◌, length, take, drop, Some, None, Option}
use Rattle.structure.specs.Shape.{Shape}
use Rattle.pair.specs.declared.join.Join.{Join}
use Rattle.pair.specs.declared.join.Join.TheVariants.{Series, Parallel}

-- the level of two parts with these levels
abbrev pub joined_level : Join → ℕ → ℕ → ℕ
joined_level Series x y = min x y
joined_level Parallel x y = max x y

-- the same where both parts have one
abbrev pub joined_if : Join → Option ℕ → Option ℕ → Option ℕ
joined_if j None q = None
joined_if j (Some x) None = None
joined_if j (Some x) (Some y) = Some (joined_level j x y)

-- the first's components and then the second's: the front of a vector is the first's, the rest the second's
abbrev pub joined : Join → Shape → Shape → Shape
joined j a b = record {
  tops = a.tops ++ b.tops;
  best = a.best;
  level = λ v. joined_level j (a.level (take (length a.tops) v)) (b.level (drop (length a.tops) v));
}
