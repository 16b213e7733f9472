-- Examining the next vector, from what the structure answers and what is listed. Assumes nothing.
use Rattle.std.proofs.Common.{◌≡◌, ℕ, ◌<◌, Bool, true, false, cond, not, T, List, length, take, Some, None, Option, sym, refl, ap, ◌∙◌, subst, ap₂, arith}
use Rattle.structure.specs.Shape.{Shape, within, vector_count}
use Rattle.structure.specs.Order.{vector_of}
use Rattle.structure.proofs.Numbers.{vector_of_number, vector_within}
use Rattle.promise.specs.Held.{Held}
use Rattle.promise.specs.Calls.{Searches}
use Rattle.promise.specs.Further.{next_vector, no_room, one_further}
use Rattle.study.specs.declared.examine.Levels.{Levels}
use Rattle.study.specs.Examining.{levels_of, FindsLevels, full_at, with_listed, Lists, Keeps, Examines}

-- ## The next vector

module _ (s : Shape) (h : Held) (at : Searches s h) (more : h.examined < h.vectors) where
  inside : h.examined < vector_count s.tops
  inside = omega (arith, at.vectors)

  -- it is the one of the next number, and one of the structure's
  pub next_is : (x : List ℕ) → x ≡ vector_of h.tops h.examined → x ≡ next_vector s h
  next_is x e = e ∙ ap (λ tops. vector_of tops h.examined) at.tops ∙ sym (vector_of_number s.tops h.examined inside)

  pub next_within : (x : List ℕ) → x ≡ vector_of h.tops h.examined → T (within s.tops x)
  next_within x e =
      subst (λ v. T (within s.tops v)) (sym (e ∙ ap (λ tops. vector_of tops h.examined) at.tops))
      (vector_within s.tops h.examined inside)

-- the vector that the code makes of the next number
pub vector_made : (h : Held) (tops v : List ℕ) (k : ℕ) → tops ≡ h.tops → k ≡ h.examined → h.vectors ≡ vector_count h.tops → h.examined < h.vectors →
    (k < vector_count tops → take (length tops) v ≡ vector_of tops k) → take (length h.tops) v ≡ vector_of h.tops h.examined
vector_made h tops v k e f counted more made =
    let low : k < vector_count tops = rw e (omega (arith, counted)) in
    ap (λ ts. take (length ts) v) (sym e) ∙ made low ∙ ap₂ vector_of e f

-- ## What the structure answers of it

module _ (s : Shape) (h : Held) (x : List ℕ) (e : x ≡ vector_of h.tops h.examined) (more : h.examined < h.vectors)
    (o : Option Levels) (finds : FindsLevels s h.tops h.best x o) where
  answered : Searches s h → o ≡ Some (levels_of s x)
  answered at = finds at.tops at.best (next_within s h at more x e)

  pub own_levels : (l : Levels) → o ≡ Some l → Searches s h → (x ≡ next_vector s h) × (l ≡ levels_of s x)
  own_levels l f at = let a = answered at in (next_is s h at more x e, cc)

  pub never_none : o ≡ None → Searches s h → ⊥
  never_none f at = let a = answered at in let z : ◌≡◌ {A = ℕ} 0 1 = cc in omega arith

-- ## What the search does not touch

pub keeps_all : (h : Held) → Keeps h h
keeps_all h = record { tops = refl; best = refl; vectors = refl; rows = refl }

listed_keeps : (h : Held) (x : List ℕ) (l : Levels) (r : Bool) → Keeps h (cond r (with_listed h x l) h)
listed_keeps h x l true = record { tops = refl; best = refl; vectors = refl; rows = refl }
listed_keeps h x l false = keeps_all h

-- ## One vector examined

-- it is listed with its own levels, where the ledger searches the structure
pub examined_listed : (s : Shape) (h h' : Held) (x : List ℕ) (l : Levels) (r : Bool) → Lists h x l r h' →
    (Searches s h → (x ≡ next_vector s h) × (l ≡ levels_of s x)) → Examines s h r h'
examined_listed s h h' x l r lists own = record { keeps = subst (Keeps h) (sym lists.1) (listed_keeps h x l r); examines = examines }
  where
    examines : Searches s h → (r ≡ not (no_room s h)) × (h' ≡ cond r (one_further s h) h)
    examines at =
        let e = (own at).0 in
        let m : l ≡ levels_of s (next_vector s h) = (own at).1 ∙ ap (levels_of s) e in (
          lists.0 ∙ ap (λ k. not (full_at h k)) m,
          lists.1 ∙ ap (λ k. cond r (with_listed h x k) h) m ∙ ap (λ y. cond r (with_listed h y (levels_of s (next_vector s h))) h) e,
        )

-- where the structure does not answer, the ledger does not search it
pub examined_none : (s : Shape) (h : Held) → (Searches s h → ⊥) → Examines s h false h
examined_none s h n = record { keeps = keeps_all h; examines = λ at. absurd (n at) }
