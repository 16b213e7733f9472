-- The two figures of a level against the weight of the keys that reach it, and that miss it. Assumes nothing.
use Rattle.std.proofs.Common.{◌≡◌, ℕ, suc, ◌-◌, ◌≤◌, Bool, true, T, ltb, leb, ◌⊎◌, List, inl, inr, ⊎_elim, le_trans, le_refl, le_of_lt, mul-le-mul_right, arith}
use Rattle.std.proofs.lemmas.Bool.{cases_lt}
use Rattle.share.specs.Shares.{D, rounded}
use Rattle.structure.specs.Shape.{Shape, Lawful, within, vector_count}
use Rattle.structure.specs.Minimal.{Entry, paths_of, cuts_of}
use Rattle.probability.proofs.Product.{Space, KeysFit, all_of_it}
use Rattle.promise.specs.Figures.{Rows, up_at, down_at, shares_at, shares_over, of_level, best_of, all_of, better, low_figure, high_figure}
use Rattle.promise.proofs.Good.{reached, passed, missed, kept, passed_rises, missed_rises}
use Rattle.promise.proofs.Fair.{KeysBear, AllFair, one_over}
use Rattle.promise.proofs.Bounds.{better_bears, best_bears, all_bear}
use Rattle.promise.proofs.Wins.{path_wins, cut_wins, cuts_win, paths_win}

total_up : (a b : ℕ) → (a ≤ b) ⊎ (b ≤ a)
total_up a b = ⊎_elim (λ h. inl (le_of_lt h)) (λ h. inr h) (cases_lt a b)

module _ (s : Shape) (l : Lawful s) (k : ℕ) (few : k ≤ vector_count s.tops) (finished : Bool) (all : finished ≡ true → k ≡ vector_count s.tops)
    (j : ℕ) (one : 1 ≤ j) (high : j ≤ s.best) (rows : List Rows) (ss : List Space) (fit : (ks : List ℕ) → KeysFit ss ks → T (within s.tops ks)) where
  -- the entries of the level
  abbrev paths : List Entry
  paths = of_level j (paths_of s k)

  abbrev cuts : List Entry
  cuts = of_level j (cuts_of s k)

  -- the keys that reach the level bear its low figure out
  pub low_bears : AllFair reached up_at rows ss → KeysBear ss (low_figure rounded finished rows paths cuts) (λ ks. leb j (s.level ks))
  low_bears fair =
      let reaches : List ℕ → Bool = λ ks. leb j (s.level ks) in
      better_bears ss reaches finished (best_of rounded (shares_at up_at rows) paths) (all_of rounded (shares_over up_at rows) cuts)
      (best_bears reached up_at rows ss fair s.tops fit reaches paths (path_wins s l k few j))
      (λ done. all_bear passed (λ r x. up_at r (suc x)) rows ss (one_over reached up_at rows ss fair) s.tops fit reaches
      (λ a b. a ≤ b) le_refl total_up passed_rises cuts (cuts_win s l k (all done) j one high))

  -- and those that miss it what its high figure leaves
  pub high_bears : AllFair missed down_at rows ss → KeysBear ss (D - high_figure rounded finished rows paths cuts) (λ ks. ltb (s.level ks) j)
  high_bears fair =
      let misses : List ℕ → Bool = λ ks. ltb (s.level ks) j in
      let best : ℕ = best_of rounded (shares_over down_at rows) cuts in
      let together : ℕ = all_of rounded (shares_at down_at rows) paths in
      let back : D - (D - better rounded finished best together) ≤ better rounded finished best together = omega arith in
      le_trans (mul-le-mul_right (all_of_it ss) back)
      (better_bears ss misses finished best together
      (best_bears kept (λ r x. down_at r (suc x)) rows ss (one_over missed down_at rows ss fair) s.tops fit misses cuts (cut_wins s l k few j))
      (λ done. all_bear missed down_at rows ss fair s.tops fit misses
      (λ a b. b ≤ a) le_refl (λ a b. total_up b a) missed_rises paths (paths_win s l k (all done) j one high)))
