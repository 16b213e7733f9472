-- The rows in force: one for each component, and all their numbers shares. Assumes nothing.
use Rattle.std.proofs.Common.{◌≡◌, ℕ, zero, suc, ◌-◌, ◌≤◌, Bool, true, false, List, [], ◌∷◌, length, replicate, sym, refl, ap, ◌∙◌, sub-le, arith}
use lib.ListN.{length-map}
use Rattle.std.specs.List.{AllByRecursion}
use Rattle.std.proofs.ByRecursion.{All-map, All-set}
use Rattle.share.specs.Shares.{D, Shares, rounded}
use Rattle.structure.specs.Refusals.{accepted}
use Rattle.promise.specs.Figures.{of_level}
use Rattle.promise.specs.Use.{Use, opened, entered, carried, stepped, asked, shape_of, is_finished}
use Rattle.promise.specs.Held.{levels_to, replaced}
use Rattle.promise.specs.InForce.{Component, all_rows, first_components, components, in_force, carried_rows, paths_found, cuts_found, low_by, high_by}
use Rattle.promise.specs.Rules.{Ruled}
use Rattle.promise.proofs.Rules.{enter_accepted}
use Rattle.promise.proofs.Fits.{RowsFit}
use Rattle.promise.proofs.Gaps.{all_everywhere, low_share}
use Rattle.promise.proofs.Components.{length_components}

-- one row for each component
pub length_in_force : (u : Use) → Ruled u → length (in_force u) ≡ length (shape_of u).tops
length_in_force u h = length-map (components u) (λ c. c.rows) ∙ length_components u h

-- ## All their numbers are shares

zeros_fit : (n : ℕ) → Shares (replicate n 0)
zeros_fit zero = tt
zeros_fit (suc n) = (omega arith, zeros_fit n)

-- what a module hands over
figures_fit : (m : Use) → AllByRecursion RowsFit (in_force m) → RowsFit (carried_rows m)
figures_fit m f =
    let levels : List ℕ = levels_to (shape_of m).best in
    let low : ℕ → ℕ = low_by rounded m in
    let rest : ℕ → ℕ = λ j. D - high_by rounded m j in
    record {
      up = All-map (λ x. x ≤ D) low levels
          (all_everywhere (λ j. low j ≤ D) (λ j. low_share (in_force m) f (is_finished m) (of_level j (paths_found m)) (of_level j (cuts_found m))) levels);
      down = All-map (λ x. x ≤ D) rest levels (all_everywhere (λ j. rest j ≤ D) (λ j. sub-le D (high_by rounded m j)) levels);
    }

-- a component whose rows are shares
abbrev Fit : Component → Type 0
Fit c = RowsFit c.rows

first_fit : (tags tops : List ℕ) → AllByRecursion Fit (first_components tags tops)
first_fit [] tops = tt
first_fit (t ∷ tags) [] = tt
first_fit (t ∷ tags) (a ∷ tops) = (record { up = zeros_fit a; down = zeros_fit a }, first_fit tags tops)

replaced_fit : (ok : Bool) (cs : List Component) (i : ℕ) (c : Component) → (ok ≡ true → Fit c) → AllByRecursion Fit cs → AllByRecursion Fit (replaced ok cs i c)
replaced_fit true cs i c h f = All-set Fit cs (i - 1) c (h refl) f
replaced_fit false cs i c h f = f

rows_fit : (cs : List Component) → AllByRecursion Fit cs → AllByRecursion RowsFit (all_rows cs)
rows_fit = All-map RowsFit (λ c. c.rows)

-- whatever the calls were
components_fit : (u : Use) → Ruled u → AllByRecursion Fit (components u)
components_fit (opened s tags) h = first_fit tags s.tops
components_fit (entered u i r a) h =
    replaced_fit (accepted a) (components u) i _
    (λ ok. let e = enter_accepted u i r (ap accepted (sym h.1) ∙ ok) in record { up = e.up_shares; down = e.down_shares })
    (components_fit u h.0)
components_fit (carried u i m a) h =
    replaced_fit (accepted a) (components u) i _
    (λ ok. figures_fit m (rows_fit (components m) (components_fit m h.1)))
    (components_fit u h.0)
components_fit (stepped u b k w) h = components_fit u h.0
components_fit (asked u q) h = components_fit u h.0

pub in_force_fit : (u : Use) → Ruled u → AllByRecursion RowsFit (in_force u)
in_force_fit u h = rows_fit (components u) (components_fit u h)
