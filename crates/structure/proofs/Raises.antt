-- What rises with every single rank rises with the vector, and the vectors one rank higher place by place. Assumes nothing.
use Rattle.std.proofs.Common.{◌≡◌, ℕ, zero, suc, ◌+◌, ◌<◌, ◌≤◌, Bool, true, false, T, ltb, leb, List, [], ◌∷◌, map, length, get_or, set, refl, ap, inl, inr, ⊎_elim, le_trans, le_refl, le_of_suc-le-suc, add-one, arith, le→leb, leb→le}
use Rattle.std.specs.List.{AllByRecursion}
use Rattle.std.proofs.lemmas.Bool.{cases_lt, cond_both, ltb-true, ltb-false, lt-ltb, le-ltb}
use Rattle.std.proofs.ByRecursion.{All-weaker, All-map}
use Rattle.structure.specs.Shape.{within, AllBelow, vector_count, vectors}
use Rattle.structure.specs.Order.{number_in, vector_of}
use Rattle.structure.specs.Minimal.{upper}
use Rattle.structure.specs.Conditions.{any}
use Rattle.structure.proofs.Tests.{both, left, right}
use Rattle.structure.proofs.Some.{Some, some_with, some_map, some_one}
use Rattle.structure.proofs.Any.{any_none, all_fail, any_some, any_none_at, any_at, fails_at}
use Rattle.structure.proofs.Vectors.{length_vectors}
use Rattle.structure.proofs.Numbers.{vector_of_number, number_inside, number_vector}

-- ## Rank by rank

-- v with one rank more at place i
abbrev pub raised : List ℕ → ℕ → List ℕ
raised v i = set v i (get_or v i 0 + 1)

-- no single rank more lowers the level of v
abbrev pub SteadyAt : List ℕ → (List ℕ → ℕ) → List ℕ → Type 0
SteadyAt tops f v = (i : ℕ) → i < length tops → get_or v i 0 < get_or tops i 0 → f v ≤ f (raised v i)

-- the first rank, one by one
first_rises : (a : ℕ) (tops : List ℕ) (f : List ℕ → ℕ) → ((v : List ℕ) → T (within (a ∷ tops) v) → SteadyAt (a ∷ tops) f v) →
    (w : List ℕ) → T (within tops w) → (r q : ℕ) → r ≤ q → q ≤ a → f (r ∷ w) ≤ f (q ∷ w)
first_rises a tops f steady w t r zero l h = let e : r ≡ 0 = omega arith in rw e (le_refl (f (0 ∷ w)))
first_rises a tops f steady w t r (suc q) l h = ⊎_elim
    (λ less.
    let here = both (leb q a) (within tops w) (le→leb q a (omega arith)) t in
    let step : f (q ∷ w) ≤ f (suc q ∷ w) = rw (add-one q) at (steady (q ∷ w) here 0 (omega arith) (omega arith)) in
    le_trans (first_rises a tops f steady w t r q (omega arith) (omega arith)) step)
    (λ same. let e : r ≡ suc q = omega arith in rw e (le_refl (f (suc q ∷ w))))
    (cases_lt r (suc q))

pub rises_by_neighbours : (tops : List ℕ) (f : List ℕ → ℕ)
    → ((v : List ℕ) (i : ℕ) → T (within tops v) → i < length tops → get_or v i 0 < get_or tops i 0 → f v ≤ f (set v i (get_or v i 0 + 1)))
    → (v w : List ℕ) → T (within tops w) → AllBelow v w → f v ≤ f w
rises_by_neighbours tops f steady [] [] t h = le_refl (f [])
rises_by_neighbours tops f steady [] (q ∷ w) t h = absurd h
rises_by_neighbours tops f steady (r ∷ v) [] t h = absurd h
rises_by_neighbours [] f steady (r ∷ v) (q ∷ w) t h = absurd t
rises_by_neighbours (a ∷ tops) f steady (r ∷ v) (q ∷ w) t h =
    let there = right (leb q a) (within tops w) t in
    let top : q ≤ a = leb→le q a (left (leb q a) (within tops w) t) in
    let small = le→leb r a (le_trans h.0 top) in
    let rest = rises_by_neighbours tops (λ u. f (r ∷ u))
    (λ u i k b l. steady (r ∷ u) (suc i) (both (leb r a) (within tops u) small k) (omega arith) l)
    v w there h.1 in
    le_trans rest (first_rises a tops f (λ u k i b l. steady u i k b l) w there r q h.0 top)

-- ## The vectors one rank higher, by places

-- w is v with one rank more at some place
abbrev pub Raised : List ℕ → List ℕ → List ℕ → Type 0
Raised tops v w = (i : ℕ) × (i < length tops) × (get_or v i 0 < get_or tops i 0) × (w ≡ raised v i)

raised_later : (a r : ℕ) (tops v w : List ℕ) → Raised tops v w → Raised (a ∷ tops) (r ∷ v) (r ∷ w)
raised_later a r tops v w p = (suc p.0, omega (arith, p.1), p.2, ap (λ u. r ∷ u) p.3)

pub upper_raised : (tops v : List ℕ) → AllByRecursion (λ w. Raised tops v w) (upper tops v)
upper_raised [] v = tt
upper_raised (a ∷ tops) [] = tt
upper_raised (a ∷ tops) (r ∷ v) =
    let rest : AllByRecursion (λ w. Raised (a ∷ tops) (r ∷ v) w) (map (λ w. r ∷ w) (upper tops v)) =
    All-map (λ w. Raised (a ∷ tops) (r ∷ v) w) (λ w. r ∷ w) (upper tops v)
    (All-weaker (λ w. Raised tops v w) (λ w. Raised (a ∷ tops) (r ∷ v) (r ∷ w)) (λ w p. raised_later a r tops v w p)
    (upper tops v) (upper_raised tops v)) in
    cond_both (ltb r a) (((r + 1) ∷ v) ∷ map (λ w. r ∷ w) (upper tops v)) (map (λ w. r ∷ w) (upper tops v)) (AllByRecursion (λ w. Raised (a ∷ tops) (r ∷ v) w))
    (λ e. ((0, omega arith, ltb-true r a e, refl), rest))
    (λ e. rest)

-- one of them has one rank more at place i
pub upper_has : (tops v : List ℕ) (i : ℕ) → T (within tops v) → i < length tops → get_or v i 0 < get_or tops i 0 →
    Some (λ w. w ≡ raised v i) (upper tops v)
upper_has [] v i t h l = absurd (omega arith)
upper_has (a ∷ tops) [] i t h l = absurd t
upper_has (a ∷ tops) (r ∷ v) zero t h l = rw (lt-ltb r a l) (inl refl)
upper_has (a ∷ tops) (r ∷ v) (suc i) t h l =
    let rest : Some (λ w. w ≡ r ∷ raised v i) (map (λ w. r ∷ w) (upper tops v)) =
    some_map (λ w. w ≡ raised v i) (λ w. w ≡ r ∷ raised v i) (λ w. r ∷ w) (λ w e. ap (λ u. r ∷ u) e)
    (upper tops v) (upper_has tops v i (right (leb r a) (within tops v) t) (le_of_suc-le-suc h) l) in
    cond_both (ltb r a) (((r + 1) ∷ v) ∷ map (λ w. r ∷ w) (upper tops v)) (map (λ w. r ∷ w) (upper tops v)) (Some (λ w. w ≡ r ∷ raised v i))
    (λ e. inr rest)
    (λ e. rest)

-- ## The test for a fall

module _ (tops : List ℕ) (f : List ℕ → ℕ) (v : List ℕ) where
  -- one rank more lowers the level
  pub falls_at : (i : ℕ) → T (within tops v) → i < length tops → get_or v i 0 < get_or tops i 0 → f (raised v i) < f v →
      any (λ w. ltb (f w) (f v)) (upper tops v) ≡ true
  falls_at i t h l b =
      any_some (λ w. ltb (f w) (f v)) (upper tops v)
      (some_with (λ w. Raised tops v w) (λ w. w ≡ raised v i) (λ w. ltb (f w) (f v) ≡ true) (λ w p e. rw e (lt-ltb (f (raised v i)) (f v) b))
      (upper tops v) (upper_raised tops v) (upper_has tops v i t h l))

  -- none does
  pub falls_nowhere : SteadyAt tops f v → any (λ w. ltb (f w) (f v)) (upper tops v) ≡ false
  falls_nowhere steady =
      any_none (λ w. ltb (f w) (f v)) (upper tops v)
      (All-weaker (λ w. Raised tops v w) (λ w. ltb (f w) (f v) ≡ false)
      (λ w p. rw p.3 (le-ltb (f (raised v p.0)) (f v) (steady p.0 p.1 p.2)))
      (upper tops v) (upper_raised tops v))

  -- where no vector one rank higher has a lower level
  pub steady_at : T (within tops v) → any (λ w. ltb (f w) (f v)) (upper tops v) ≡ false → SteadyAt tops f v
  steady_at t e i h l =
      let p = some_one (λ w. (ltb (f w) (f v) ≡ false) × (w ≡ raised v i)) (upper tops v)
      (some_with (λ w. ltb (f w) (f v) ≡ false) (λ w. w ≡ raised v i) (λ w. (ltb (f w) (f v) ≡ false) × (w ≡ raised v i)) (λ w a b. (a, b))
      (upper tops v) (all_fail (λ w. ltb (f w) (f v)) (upper tops v) e) (upper_has tops v i t h l)) in
      ltb-false (f (raised v i)) (f v) (rw p.1.1 at p.1.0)

-- ## A test at some vector, by numbers

module _ (tops : List ℕ) (p : List ℕ → Bool) where
  pub any_vector : (k : ℕ) → k < vector_count tops → p (vector_of tops k) ≡ true → any p (vectors tops) ≡ true
  any_vector k h e =
      any_at p (vectors tops) k [] (omega (arith, length_vectors tops)) (rw (vector_of_number tops k h) e)

  pub no_vector : ((k : ℕ) → k < vector_count tops → p (vector_of tops k) ≡ false) → any p (vectors tops) ≡ false
  no_vector fails =
      any_none_at p (vectors tops) []
      (λ k l. let h : k < vector_count tops = omega (arith, length_vectors tops) in rw (vector_of_number tops k h) (fails k h))

  -- where it fails at all, it fails at each
  pub vector_fails : any p (vectors tops) ≡ false → (v : List ℕ) → T (within tops v) → p v ≡ false
  vector_fails e v t =
      let h = number_inside tops v t in
      rw (vector_of_number tops (number_in tops v) h, number_vector tops v t) at
      (fails_at p (vectors tops) (number_in tops v) [] (omega (arith, length_vectors tops)) e)

-- where no vector has a fall, the level rises
pub rises_without_falls : (tops : List ℕ) (f : List ℕ → ℕ) → any (λ v. any (λ w. ltb (f w) (f v)) (upper tops v)) (vectors tops) ≡ false →
    (v w : List ℕ) → T (within tops w) → AllBelow v w → f v ≤ f w
rises_without_falls tops f e =
    rises_by_neighbours tops f
    (λ v i t. steady_at tops f v t (vector_fails tops (λ u. any (λ w. ltb (f w) (f u)) (upper tops u)) e v t) i)
