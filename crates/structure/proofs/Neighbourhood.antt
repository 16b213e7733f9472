-- The highest level one rank lower, and the lowest one rank higher, gathered component by component. Assumes nothing.
use Rattle.std.proofs.Common.{◌≡◌, ℕ, zero, suc, ◌+◌, ◌-◌, ◌<◌, ◌≤◌, min, max, Bool, true, false, cond, ltb, List, [], ◌∷◌, map, length, get_or, set, sym, refl, ap, ◌∙◌, add-one, arith}
use Rattle.std.proofs.lemmas.Bool.{lt-ltb, le-ltb}
use Rattle.structure.specs.Minimal.{lower, upper, highest, lowest}

-- the highest level among the vectors one rank lower in one of the first components
abbrev pub highest_to : (List ℕ → ℕ) → List ℕ → ℕ → ℕ
highest_to f x zero = 0
highest_to f x (suc i) =
    cond (ltb 0 (get_or x i 0)) (max (highest_to f x i) (f (set x i (get_or x i 0 - 1)))) (highest_to f x i)

-- the lowest level among the vectors one rank higher in one of the first components, m where there is none
abbrev pub lowest_to : ℕ → (List ℕ → ℕ) → List ℕ → List ℕ → ℕ → ℕ
lowest_to m f tops x zero = m
lowest_to m f tops x (suc i) =
    cond (ltb (get_or x i 0) (get_or tops i 0)) (min (lowest_to m f tops x i) (f (set x i (get_or x i 0 + 1)))) (lowest_to m f tops x i)

-- ## One component more

module _ (f : List ℕ → ℕ) (x : List ℕ) (i : ℕ) where
  pub highest_counts : 0 < get_or x i 0 → highest_to f x (i + 1) ≡ max (highest_to f x i) (f (set x i (get_or x i 0 - 1)))
  highest_counts h = rw (add-one i, lt-ltb 0 (get_or x i 0) h)

  pub highest_passes : get_or x i 0 ≤ 0 → highest_to f x (i + 1) ≡ highest_to f x i
  highest_passes h = rw (add-one i, le-ltb 0 (get_or x i 0) h)

module _ (m : ℕ) (f : List ℕ → ℕ) (tops x : List ℕ) (i : ℕ) where
  pub lowest_counts : get_or x i 0 < get_or tops i 0 →
      lowest_to m f tops x (i + 1) ≡ min (lowest_to m f tops x i) (f (set x i (get_or x i 0 + 1)))
  lowest_counts h = rw (add-one i, lt-ltb (get_or x i 0) (get_or tops i 0) h)

  pub lowest_passes : get_or tops i 0 ≤ get_or x i 0 → lowest_to m f tops x (i + 1) ≡ lowest_to m f tops x i
  lowest_passes h = rw (add-one i, le-ltb (get_or x i 0) (get_or tops i 0) h)

-- ## All components

-- two choices to join a number go in either order
join_swap : (join : ℕ → ℕ → ℕ) → ((a b c : ℕ) → join (join a b) c ≡ join a (join b c)) → (p q : Bool) (y z l : ℕ) →
    cond p (join (cond q (join y l) l) z) (cond q (join y l) l) ≡ cond q (join y (cond p (join l z) l)) (cond p (join l z) l)
join_swap join assoc true true y z l = assoc y l z
join_swap join assoc true false y z l = refl
join_swap join assoc false q y z l = refl

-- the first component joins those after it
highest_first : (f : List ℕ → ℕ) (r : ℕ) (v : List ℕ) (i : ℕ) →
    highest_to f (r ∷ v) (suc i)
    ≡ cond (ltb 0 r) (max (f ((r - 1) ∷ v)) (highest_to (λ w. f (r ∷ w)) v i)) (highest_to (λ w. f (r ∷ w)) v i)
highest_first f r v zero = ap (λ n. cond (ltb 0 r) n 0) (omega arith)
highest_first f r v (suc i) =
    ap (λ n. cond (ltb 0 (get_or v i 0)) (max n (f (r ∷ set v i (get_or v i 0 - 1)))) n) (highest_first f r v i)
    ∙ join_swap max (λ a b c. omega arith) (ltb 0 (get_or v i 0)) (ltb 0 r) (f ((r - 1) ∷ v)) (f (r ∷ set v i (get_or v i 0 - 1)))
    (highest_to (λ w. f (r ∷ w)) v i)

highest_map : (f : List ℕ → ℕ) (r : ℕ) (vs : List (List ℕ)) → highest f (map (λ w. r ∷ w) vs) ≡ highest (λ w. f (r ∷ w)) vs
highest_map f r [] = refl
highest_map f r (v ∷ vs) = ap (λ n. max (f (r ∷ v)) n) (highest_map f r vs)

-- a row's highest where its first vector may be left out
highest_cond : (f : List ℕ → ℕ) (b : Bool) (v : List ℕ) (vs : List (List ℕ)) (n : ℕ) → highest f vs ≡ n →
    highest f (cond b (v ∷ vs) vs) ≡ cond b (max (f v) n) n
highest_cond f true v vs n e = ap (λ k. max (f v) k) e
highest_cond f false v vs n e = e

pub highest_to_all : (f : List ℕ → ℕ) (x : List ℕ) → highest f (lower x) ≡ highest_to f x (length x)
highest_to_all f [] = refl
highest_to_all f (r ∷ v) =
    highest_cond f (ltb 0 r) ((r - 1) ∷ v) (map (λ w. r ∷ w) (lower v)) (highest_to (λ w. f (r ∷ w)) v (length v))
    (highest_map f r (lower v) ∙ highest_to_all (λ w. f (r ∷ w)) v)
    ∙ sym (highest_first f r v (length v))

-- the same for the lowest
lowest_first : (m : ℕ) (f : List ℕ → ℕ) (a r : ℕ) (tops v : List ℕ) (i : ℕ) →
    lowest_to m f (a ∷ tops) (r ∷ v) (suc i)
    ≡ cond (ltb r a) (min (f ((r + 1) ∷ v)) (lowest_to m (λ w. f (r ∷ w)) tops v i)) (lowest_to m (λ w. f (r ∷ w)) tops v i)
lowest_first m f a r tops v zero = ap (λ n. cond (ltb r a) n m) (omega arith)
lowest_first m f a r tops v (suc i) =
    ap (λ n. cond (ltb (get_or v i 0) (get_or tops i 0)) (min n (f (r ∷ set v i (get_or v i 0 + 1)))) n) (lowest_first m f a r tops v i)
    ∙ join_swap min (λ a b c. omega arith) (ltb (get_or v i 0) (get_or tops i 0)) (ltb r a) (f ((r + 1) ∷ v)) (f (r ∷ set v i (get_or v i 0 + 1)))
    (lowest_to m (λ w. f (r ∷ w)) tops v i)

lowest_map : (m : ℕ) (f : List ℕ → ℕ) (r : ℕ) (vs : List (List ℕ)) → lowest m f (map (λ w. r ∷ w) vs) ≡ lowest m (λ w. f (r ∷ w)) vs
lowest_map m f r [] = refl
lowest_map m f r (v ∷ vs) = ap (λ n. min (f (r ∷ v)) n) (lowest_map m f r vs)

lowest_cond : (m : ℕ) (f : List ℕ → ℕ) (b : Bool) (v : List ℕ) (vs : List (List ℕ)) (n : ℕ) → lowest m f vs ≡ n →
    lowest m f (cond b (v ∷ vs) vs) ≡ cond b (min (f v) n) n
lowest_cond m f true v vs n e = ap (λ k. min (f v) k) e
lowest_cond m f false v vs n e = e

pub lowest_to_all : (m : ℕ) (f : List ℕ → ℕ) (tops x : List ℕ) → length x ≡ length tops → lowest m f (upper tops x) ≡ lowest_to m f tops x (length x)
lowest_to_all m f [] [] e = refl
lowest_to_all m f [] (r ∷ v) e = absurd (omega arith)
lowest_to_all m f (a ∷ tops) [] e = absurd (omega arith)
lowest_to_all m f (a ∷ tops) (r ∷ v) e =
    lowest_cond m f (ltb r a) ((r + 1) ∷ v) (map (λ w. r ∷ w) (upper tops v)) (lowest_to m (λ w. f (r ∷ w)) tops v (length v))
    (lowest_map m f r (upper tops v) ∙ lowest_to_all m (λ w. f (r ∷ w)) tops v (omega arith))
    ∙ sym (lowest_first m f a r tops v (length v))

-- where a loop over the components ends
pub highest_to_end : (f : List ℕ → ℕ) (x : List ℕ) (n : ℕ) → n ≡ length x → highest_to f x n ≡ highest f (lower x)
highest_to_end f x n e = ap (highest_to f x) e ∙ sym (highest_to_all f x)

pub lowest_to_end : (m : ℕ) (f : List ℕ → ℕ) (tops x : List ℕ) (n : ℕ) → n ≡ length tops → length x ≡ length tops →
    lowest_to m f tops x n ≡ lowest m f (upper tops x)
lowest_to_end m f tops x n e h = ap (lowest_to m f tops x) (e ∙ sym h) ∙ sym (lowest_to_all m f tops x h)
