-- The entries of a level: each is minimal for it, and once all vectors are examined every vector has one on its way.
-- Assumes nothing.
use Rattle.std.proofs.Common.{◌≡◌, ℕ, zero, suc, ◌<◌, ◌≤◌, T, List, [], ◌∷◌, map, length, get_or, sym, subst, inl, inr, le_of_suc-le-suc, arith}
use Rattle.std.specs.List.{AllByRecursion}
use Rattle.std.proofs.lemmas.Bool.{cond_both}
use Rattle.std.proofs.ByRecursion.{All-from_get_or}
use Rattle.structure.specs.Shape.{Shape, Lawful, within, AllBelow, vector_count}
use Rattle.structure.specs.Minimal.{Entry, covers, paths_of, cuts_of, MinimalPath, MinimalCut}
use Rattle.structure.specs.Listing.{HeldOnce, Levels, Holds}
use Rattle.structure.proofs.Tests.{covers_parts}
use Rattle.structure.proofs.Some.{Some, some_length}
use Rattle.structure.proofs.Below.{below_within, tops_within, zeros_below}
use Rattle.structure.proofs.Listing.{listing}
use Rattle.promise.specs.Figures.{of_level}
use Rattle.promise.specs.Calls.{no_entry}

-- ## From a list to the entries of a level

-- all that cover the level
all_of_level : (P : Entry → Type 0) (j : ℕ) (es : List Entry) → AllByRecursion (λ e. T (covers j e) → P e) es → AllByRecursion P (of_level j es)
all_of_level P j [] a = tt
all_of_level P j (e ∷ es) a =
    let later = all_of_level P j es a.1 in
    cond_both (covers j e) (e ∷ of_level j es) (of_level j es) (AllByRecursion P) (λ yes. (a.0 (subst T (sym yes) tt), later)) (λ no. later)

-- one that covers the level
some_of_level : (P : Entry → Type 0) (j : ℕ) (es : List Entry) (p : ℕ) (d : Entry) →
    p < length es → T (covers j (get_or es p d)) → P (get_or es p d) → Some P (of_level j es)
some_of_level P j [] p d h c q = absurd (omega arith)
some_of_level P j (e ∷ es) zero d h c q =
    cond_both (covers j e) (e ∷ of_level j es) (of_level j es) (Some P) (λ yes. inl q) (λ no. absurd (subst T no c))
some_of_level P j (e ∷ es) (suc p) d h c q =
    let later = some_of_level P j es p d (le_of_suc-le-suc h) c q in
    cond_both (covers j e) (e ∷ of_level j es) (of_level j es) (Some P) (λ yes. inr later) (λ no. later)

some_held : (P : List ℕ → Type 0) (j : ℕ) (x : List ℕ) (es : List Entry) → HeldOnce es j x → P x → Some (λ e. P e.vector) (of_level j es)
some_held P j x es h q =
    let at = h.is no_entry in
    some_of_level (λ e. P e.vector) j es h.at no_entry h.inside at.1 (subst P (sym at.0) q)

-- ## Each entry is minimal

module _ (s : Shape) (Minimal : ℕ → List ℕ → Type 0) (k : ℕ) (es : List Entry) (h : Holds s Minimal k es) (j : ℕ) where
  all_minimal : AllByRecursion (λ e. Minimal j e.vector) (of_level j es)
  all_minimal =
      all_of_level (λ e. Minimal j e.vector) j es
      (All-from_get_or (λ e. T (covers j e) → Minimal j e.vector) es no_entry (λ p inside. covered (get_or es p no_entry) (h.levels p no_entry inside)))
    where
      covered : (e : Entry) → Levels s Minimal e → T (covers j e) → Minimal j e.vector
      covered e l c = let k = covers_parts j e c in (l.exactly j (omega (arith, l.from_one, k.0)) (omega (arith, l.to_best, k.1))).0 c

module _ (s : Shape) (l : Lawful s) (k : ℕ) (few : k ≤ vector_count s.tops) (j : ℕ) where
  -- after k vectors, in both lists
  pub paths_minimal : AllByRecursion (λ e. MinimalPath s j e.vector) (of_level j (paths_of s k))
  paths_minimal = all_minimal s (MinimalPath s) k (paths_of s k) ((listing s l).paths_held k few) j

  pub cuts_minimal : AllByRecursion (λ e. MinimalCut s j e.vector) (of_level j (cuts_of s k))
  cuts_minimal = all_minimal s (MinimalCut s) k (cuts_of s k) ((listing s l).cuts_held k few) j

-- ## Every vector has one on its way

module _ (s : Shape) (l : Lawful s) (k : ℕ) (all : k ≡ vector_count s.tops) (j : ℕ) (one : 1 ≤ j) (high : j ≤ s.best) where
  -- a vector that reaches the level lies over an entry's
  pub over_entry : (v : List ℕ) → T (within s.tops v) → j ≤ s.level v → Some (λ e. AllBelow e.vector v) (of_level j (paths_of s k))
  over_entry v t h =
      let m = (listing s l).over_path j v one t h in
      let paths = (listing s l).paths_complete in
      subst (λ n. Some (λ e. AllBelow e.vector v) (of_level j (paths_of s n))) (sym all)
      (some_held (λ x. AllBelow x v) j m.0 (paths_of s (vector_count s.tops)) (paths.every j m.0 one high m.1) m.2)

  -- one that misses it lies under an entry's
  pub under_entry : (v : List ℕ) → T (within s.tops v) → s.level v < j → Some (λ e. AllBelow v e.vector) (of_level j (cuts_of s k))
  under_entry v t h =
      let m = (listing s l).under_cut j v high t h in
      let cuts = (listing s l).cuts_complete in
      subst (λ n. Some (λ e. AllBelow v e.vector) (of_level j (cuts_of s n))) (sym all)
      (some_held (λ x. AllBelow v x) j m.0 (cuts_of s (vector_count s.tops)) (cuts.every j m.0 one high m.1) m.2)

  -- so that each level has an entry in each list
  pub some_path : 1 ≤ length (of_level j (paths_of s k))
  some_path = some_length _ _ (over_entry s.tops (tops_within s.tops) (omega (arith, l.top)))

  pub some_cut : 1 ≤ length (of_level j (cuts_of s k))
  some_cut =
      let zeros = map (λ (_ : ℕ). 0) s.tops in
      some_length _ _ (under_entry zeros (below_within s.tops zeros (zeros_below s.tops)) (omega (arith, l.bottom)))
