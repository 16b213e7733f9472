-- The premises can be met: a use that keeps the rules, with carries, a refused enter and an enter after a carry, and a
-- world of two moments by whose diaries its shares are honest. Assumes nothing.
use Rattle.std.proofs.Common.{◌≡◌, ℕ, zero, suc, ◌*◌, ◌≤◌, min, [], ◌∷◌, get_or, refl, arith, lit<, lit≤}
use Rattle.share.specs.Shares.{D}
use Rattle.structure.specs.Refusals.{refused, given}
use Rattle.structure.specs.Shape.{Shape, Lawful}
use Rattle.probability.specs.Runs.{World, Distinct, whole_weight, weight_of_runs}
use Rattle.promise.specs.Figures.{Rows, no_shares}
use Rattle.promise.specs.Use.{Use, opened, entered, carried, stepped, asked, figures, finished}
use Rattle.promise.specs.InForce.{tags_below, figures_of}
use Rattle.promise.specs.Rules.{Ruled}
use Rattle.promise.specs.Honest.{keeps, HonestRows, HonestAt, Honest}
use Rattle.promise.proofs.Computed.{rises_by, none_blocked_by, fits_by, honest_by}

-- ## A use

-- two components, whose lower rank is the level
abbrev pub pair : Shape
pair = record { tops = 1 ∷ 1 ∷ []; best = 1; level = λ v. min (get_or v 0 0) (get_or v 1 0) }

-- half up and a quarter down
abbrev pub half : Rows
half = record { up = 500_000_000 ∷ []; down = 250_000_000 ∷ [] }

-- a finished module
abbrev pub part : Use
part = stepped (entered (entered (opened pair (7 ∷ 8 ∷ [])) 1 half (given tt)) 2 half (given tt)) 4 4 finished

-- the module carried to both components; then rows of another length refused for the second, and rows of its own entered
abbrev pub filled : Use
filled =
    let both : Use = carried (carried (opened pair (1 ∷ 2 ∷ [])) 1 part (given tt)) 2 part (given tt) in
    entered (entered both 2 (no_shares 2) (refused 21)) 2 half (given tt)

-- searched, and asked for its figures
abbrev pub study : Use
study = let done : Use = stepped filled 4 4 finished in asked done (figures 1 (given (figures_of done 1)))

pub lawful : Lawful pair
lawful = record {
  some = lit≤ tt;
  few = lit≤ tt;
  tops_fit = (lit≤ tt, lit≤ tt, (lit≤ tt, lit≤ tt, tt));
  best_low = lit≤ tt;
  best_high = lit≤ tt;
  countable = lit≤ tt;
  bottom = refl;
  top = refl;
  rises = rises_by pair tt;
}

part_ruled : Ruled part
part_ruled = (
  (((lawful, refl), refl), refl),
  record { within_budget = lit≤ tt; within_vectors = lit≤ tt; none_blocked = none_blocked_by pair 0 4 tt; stops = refl },
)

ruled : Ruled study
ruled = (
  (
    (((((lawful, refl), part_ruled, refl), part_ruled, refl), refl), refl),
    record { within_budget = lit≤ tt; within_vectors = lit≤ tt; none_blocked = none_blocked_by pair 0 4 tt; stops = refl },
  ),
  refl,
)

-- ## A world

-- two moments, and for each tag half of the weight up throughout, a quarter down throughout, and a quarter that falls
abbrev pub world : World
world = record {
  moments = 2;
  diary = λ _.
      record { weight = 2; ranks = 1 ∷ 1 ∷ [] } ∷ record { weight = 1; ranks = 1 ∷ 0 ∷ [] } ∷ record { weight = 1; ranks = 0 ∷ 0 ∷ [] } ∷ [];
}

half_honest : (tag : ℕ) → HonestRows world tag 1 half
half_honest tag =
    honest_by world tag 1 half
    (fits_by world tag 1 (lit< tt)
    ((refl, (lit≤ tt, (lit≤ tt, tt))), ((refl, (lit≤ tt, (lit≤ tt, tt))), ((refl, (lit≤ tt, (lit≤ tt, tt))), tt)))) tt tt

-- of the two components
both_honest : (u : Use) → HonestAt world u 1 → HonestAt world u 2 → (i : ℕ) → 1 ≤ i → i ≤ 2 → HonestAt world u i
both_honest u a b zero one last = absurd (omega arith)
both_honest u a b (suc zero) one last = a
both_honest u a b (suc (suc zero)) one last = b
both_honest u a b (suc (suc (suc i))) one last = absurd (omega arith)

honest : Honest world study
honest = record { moments = lit≤ tt; each = both_honest study (both_honest part (half_honest 7) (half_honest 8)) (half_honest 2) }

-- the first component's diaries are the module's, the second's is its own again
below_study : tags_below study ≡ 7 ∷ 8 ∷ 2 ∷ []
below_study = refl

distinct : Distinct (tags_below study)
distinct = (((λ e. omega arith), ((λ e. omega arith), tt)), (((λ e. omega arith), tt), (tt, tt)))

pub premises_met : Ruled study × Honest world study × Distinct (tags_below study)
premises_met = (ruled, honest, distinct)

-- ## The enclosure is met with equality

low_exact : (figures_of study 1).low * whole_weight world (tags_below study) ≡ D * weight_of_runs world (tags_below study) (keeps study world 1)
low_exact = refl

low_eighth : (figures_of study 1).low ≡ 125_000_000
low_eighth = refl
