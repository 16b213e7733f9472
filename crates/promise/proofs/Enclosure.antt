-- In every world by whose diaries the shares in force are honest, all components are sound. Assumes nothing.
use Rattle.std.proofs.Common.{◌≡◌, ℕ, zero, suc, ◌+◌, ◌-◌, ◌<◌, ◌≤◌, Bool, true, false, ◌&&◌, eqb, List, [], ◌∷◌, length, get_or, set, MatchBool, sym, refl, ap, ◌∙◌, subst, ⊎_elim, suc-ne-zero, arith}
use native.Mathlib.Nat.{suc_inj}
use lib.ListN.{length-replicate}
use Rattle.std.specs.List.{AllByRecursion}
use Rattle.std.proofs.lemmas.List.{get_or-set_same, get_or-set_other}
use Rattle.std.proofs.ByRecursion.{All-from_get_or}
use Rattle.std.proofs.lemmas.Bool.{cases_Bool, eqb-true, eqb-false}
use Rattle.std.proofs.lemmas.Bool.Decides.{when_true, when_false}
use Rattle.structure.specs.Refusals.{accepted}
use Rattle.structure.specs.Shape.{top_at}
use Rattle.probability.specs.Runs.{World, whole_weight}
use Rattle.promise.specs.Figures.{no_shares}
use Rattle.promise.specs.Use.{Use, opened, entered, carried, stepped, asked, shape_of, tag_at}
use Rattle.promise.specs.Held.{replaced}
use Rattle.promise.specs.InForce.{Component, own, carrying, first_components, components, tags_below}
use Rattle.promise.specs.Rules.{Ruled}
use Rattle.promise.specs.Honest.{HonestRows, HonestAt, Honest}
use Rattle.promise.proofs.Rules.{enter_accepted, carry_accepted, Entered, Carried}
use Rattle.promise.proofs.Components.{length_components}
use Rattle.promise.proofs.Sound.{Sound, some_whole}
use Rattle.promise.proofs.Own.{own_sound}
use Rattle.promise.proofs.Module.{carried_sound}

-- ## One component

abbrev no_component : Component
no_component = own 0 0 (no_shares 0)

-- the component i, counted from 1
abbrev component_at : List Component → ℕ → Component
component_at cs i = get_or cs (i - 1) no_component

-- P of the component i after a call on the component k: A gives it of the new one, and B of the old
module _ (P : Component → Type 0) (A B : Type 0) (cs : List Component) (k i : ℕ) (new : Component) where
  after_call : (ok : Bool) → (ok ≡ true → (1 ≤ k) × (k ≤ length cs)) → 1 ≤ i → MatchBool (ok && eqb i k) A B →
      (ok ≡ true → i ≡ k → A → P new) → (B → P (component_at cs i)) → P (component_at (replaced ok cs k new) i)
  after_call false inside one h fresh old = old h
  after_call true inside one h fresh old = ⊎_elim
      (λ yes.
      let same : i ≡ k = eqb-true i k yes in
      subst P (sym (ap (component_at (set cs (k - 1) new)) same ∙ get_or-set_same cs (k - 1) new no_component (omega (arith, inside refl))))
      (fresh refl same (when_true A B yes h)))
      (λ no.
      subst P (sym (get_or-set_other cs (k - 1) (i - 1) new no_component (λ same. eqb-false i k no (omega (arith, inside refl, same)))))
      (old (when_false A B no h)))
      (cases_Bool (eqb i k))

-- the components of a study that was just opened
first_at : (tags tops : List ℕ) (i : ℕ) → length tags ≡ length tops → i < length tops →
    get_or (first_components tags tops) i no_component ≡ own (get_or tags i 0) (get_or tops i 0) (no_shares (get_or tops i 0))
first_at tags [] i e h = absurd (omega arith)
first_at [] (a ∷ tops) i e h = absurd (suc-ne-zero (length tops) (sym e))
first_at (t ∷ tags) (a ∷ tops) zero e h = refl
first_at (t ∷ tags) (a ∷ tops) (suc i) e h = first_at tags tops i (suc_inj e) (omega arith)

-- ## All components

module _ (w : World) where
  -- from each by its number to all
  all_sound : (u : Use) → Ruled u → ((i : ℕ) → 1 ≤ i → i ≤ length (shape_of u).tops → Sound w (component_at (components u) i)) →
      AllByRecursion (Sound w) (components u)
  all_sound u ruled each = All-from_get_or (Sound w) (components u) no_component
      (λ c low.
      let back : c + 1 - 1 ≡ c = omega arith in
      subst (λ n. Sound w (get_or (components u) n no_component)) back (each (c + 1) (omega arith) (omega (arith, length_components u ruled))))

  sound_at : (u : Use) → Ruled u → (i : ℕ) → 1 ≤ i → i ≤ length (shape_of u).tops → HonestAt w u i → Sound w (component_at (components u) i)
  sound_at (opened s tags) ruled i one last honest =
      subst (Sound w) (sym (first_at tags s.tops (i - 1) ruled.1 (omega arith)))
      (own_sound w (tag_at (opened s tags) i) (top_at s i) (no_shares (top_at s i)) honest (length-replicate (top_at s i) 0) (length-replicate (top_at s i) 0))
  sound_at (entered u k r a) ruled i one last honest =
      after_call (Sound w) (HonestRows w (tag_at u i) (top_at (shape_of u) i) r) (HonestAt w u i) (components u) k i
      (own (tag_at u k) (top_at (shape_of u) k) r) (accepted a)
      (λ ok. ((took ok).first, subst (λ n. k ≤ n) (sym (length_components u ruled.0)) (took ok).last)) one honest
      (λ ok same h. own_sound w (tag_at u k) (top_at (shape_of u) k) r
      (subst (λ n. HonestRows w (tag_at u n) (top_at (shape_of u) n) r) same h) (took ok).ups (took ok).downs)
      (sound_at u ruled.0 i one last)
    where
      took : accepted a ≡ true → Entered u k r
      took ok = enter_accepted u k r (sym (ap accepted ruled.1) ∙ ok)
  sound_at (carried u k m a) ruled i one last honest =
      after_call (Sound w) ((c : ℕ) → 1 ≤ c → c ≤ length (shape_of m).tops → HonestAt w m c) (HonestAt w u i) (components u) k i
      (carrying m (components m) (top_at (shape_of u) k)) (accepted a)
      (λ ok. ((took ok).first, subst (λ n. k ≤ n) (sym (length_components u ruled.0)) (took ok).last)) one honest
      (λ ok same h. subst (λ n. Sound w (carrying m (components m) n)) (took ok).best
      (carried_sound w m ruled.1 (all_sound m ruled.1 (λ c first inside. sound_at m ruled.1 c first inside (h c first inside)))))
      (sound_at u ruled.0 i one last)
    where
      took : accepted a ≡ true → Carried u k m
      took ok = carry_accepted u k m (sym (ap accepted ruled.2) ∙ ok)
  sound_at (stepped u b k x) ruled i one last honest = sound_at u ruled.0 i one last honest
  sound_at (asked u q) ruled i one last honest = sound_at u ruled.0 i one last honest

  -- the components of an honest study are sound
  pub honest_sound : (u : Use) → Ruled u → Honest w u → AllByRecursion (Sound w) (components u)
  honest_sound u ruled honest = all_sound u ruled (λ i one last. sound_at u ruled i one last (honest.each i one last))

  -- and there are joint runs
  pub some_runs : (u : Use) → Ruled u → Honest w u → 0 < whole_weight w (tags_below u)
  some_runs u ruled honest = some_whole w (components u) (honest_sound u ruled honest)
