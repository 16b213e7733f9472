-- A study holds what its whole use leaves, and every call of that use answered what its rule fixes. Assumes nothing.
use Rattle.std.proofs.Common.{◌≡◌, ℕ, ◌-◌, Bool, true, false, List, [], ◌∷◌, map, length, sym, refl, ap, ◌∙◌, subst, subst₂, suc-ne-zero}
use native.Mathlib.Nat.{suc_inj}
use Rattle.std.proofs.lemmas.List.{map-set}
use Rattle.structure.specs.Refusals.{accepted}
use Rattle.promise.specs.Figures.{no_shares}
use Rattle.promise.specs.Use.{Use, opened, entered, carried, stepped, asked, shape_of}
use Rattle.promise.specs.Held.{Held, replaced}
use Rattle.promise.specs.Calls.{Enters, Carries, Searches, Steps, Answered}
use Rattle.promise.specs.InForce.{Component, all_rows, first_components, components, holding, left_by}
use Rattle.promise.specs.Rules.{Ruled, Lived}
use Rattle.promise.proofs.Rules.{examined_most}

-- at the open the rows in force have no shares
first_rows : (tags tops : List ℕ) → length tags ≡ length tops → all_rows (first_components tags tops) ≡ map no_shares tops
first_rows [] [] h = refl
first_rows [] (a ∷ tops) h = absurd (suc-ne-zero (length tops) (sym h))
first_rows (t ∷ tags) [] h = absurd (suc-ne-zero (length tags) h)
first_rows (t ∷ tags) (a ∷ tops) h = ap (λ rest. no_shares a ∷ rest) (first_rows tags tops (suc_inj h))

-- the rows of a component replaced are the component's rows replaced
rows_replaced : (ok : Bool) (cs : List Component) (i : ℕ) (c : Component) → all_rows (replaced ok cs i c) ≡ replaced ok (all_rows cs) i c.rows
rows_replaced true cs i c = map-set (λ x. x.rows) cs (i - 1) c
rows_replaced false cs i c = refl

-- the search of a use that keeps the rules is its structure's
pub searches_left : (u : Use) → Ruled u → Searches (shape_of u) (left_by u)
searches_left u ruled = record { tops = refl; best = refl; vectors = refl; examined = examined_most u ruled; paths = refl; cuts = refl }

pub lived_left : (u : Use) (h : Held) → Lived u h → Ruled u × (h ≡ left_by u)
lived_left (opened s tags) h l = ((l.0, l.1), l.2 ∙ ap (holding (opened s tags)) (sym (first_rows tags s.tops l.1)))
lived_left (entered u i r a) h' l =
    let before = lived_left u l.0 l.1 in
    let call : Enters (left_by u) i r a h' = subst (λ h. Enters h i r a h') before.1 l.2 in
    ((before.0, call.0), call.1 ∙ ap (holding u) (sym (rows_replaced (accepted a) (components u) i _)))
lived_left (carried u i m a) h' l =
    let before = lived_left u l.0 l.2 in
    let part = lived_left m l.1 l.3 in
    let call : Carries (left_by u) i (left_by m) a h' = subst₂ (λ h p. Carries h i p a h') before.1 part.1 l.4 in
    ((before.0, part.0, call.0), call.1 ∙ ap (holding u) (sym (rows_replaced (accepted a) (components u) i _)))
lived_left (stepped u b k w) h' l =
    let before = lived_left u l.0 l.1 in
    let call = (subst (λ h. Steps (shape_of u) h b k w h') before.1 l.2).examines (searches_left u before.0) in
    ((before.0, call.rule), call.after)
lived_left (asked u q) h l =
    let before = lived_left u h l.0 in
    ((before.0, subst (λ h. Answered h q) before.1 l.1), before.1)
