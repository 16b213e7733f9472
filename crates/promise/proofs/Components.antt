-- A study's components are as many as its structure has, with the same tops. Assumes nothing.
use Rattle.std.proofs.Common.{◌≡◌, ℕ, ◌-◌, Bool, true, false, List, [], ◌∷◌, map, length, get_or, set, sym, refl, ap, ◌∙◌, ap₂, suc-ne-zero}
use native.Mathlib.Nat.{suc_inj}
use lib.ListN.{length-map}
use Rattle.std.proofs.lemmas.List.{map-set, set-get_or}
use Rattle.structure.specs.Refusals.{accepted}
use Rattle.promise.specs.Use.{Use, opened, entered, carried, stepped, asked, shape_of}
use Rattle.promise.specs.Held.{replaced}
use Rattle.promise.specs.InForce.{Component, first_components, components}
use Rattle.promise.specs.Rules.{Ruled}

abbrev pub all_tops : List Component → List ℕ
all_tops = map (λ c. c.top)

first_tops : (tags tops : List ℕ) → length tags ≡ length tops → all_tops (first_components tags tops) ≡ tops
first_tops [] [] h = refl
first_tops [] (a ∷ tops) h = absurd (suc-ne-zero (length tops) (sym h))
first_tops (t ∷ tags) [] h = absurd (suc-ne-zero (length tags) h)
first_tops (t ∷ tags) (a ∷ tops) h = ap (λ rest. a ∷ rest) (first_tops tags tops (suc_inj h))

-- a component with the same top takes the place of another
same_tops : (cs : List Component) (tops : List ℕ) (ok : Bool) (i : ℕ) (c : Component) → c.top ≡ get_or tops (i - 1) 0 → all_tops cs ≡ tops →
    all_tops (replaced ok cs i c) ≡ tops
same_tops cs tops true i c e h = map-set (λ x. x.top) cs (i - 1) c ∙ ap₂ (λ xs x. set xs (i - 1) x) h e ∙ set-get_or tops (i - 1) 0
same_tops cs tops false i c e h = h

pub tops_are : (u : Use) → Ruled u → all_tops (components u) ≡ (shape_of u).tops
tops_are (opened s tags) h = first_tops tags s.tops h.1
tops_are (entered u i r a) h = same_tops (components u) (shape_of u).tops (accepted a) i _ refl (tops_are u h.0)
tops_are (carried u i m a) h = same_tops (components u) (shape_of u).tops (accepted a) i _ refl (tops_are u h.0)
tops_are (stepped u b k w) h = tops_are u h.0
tops_are (asked u q) h = tops_are u h.0

pub length_components : (u : Use) → Ruled u → length (components u) ≡ length (shape_of u).tops
length_components u h = sym (length-map (components u) (λ c. c.top)) ∙ ap length (tops_are u h)
