-- A study can have lived: what its module's study and it hold after each call of a use with carries, a refused enter and an
-- enter after a carry, written out. Assumes nothing.
use Rattle.std.proofs.Common.{true, false, [], ◌∷◌, refl, lit≤}
use Rattle.promise.specs.Figures.{Rows}
use Rattle.promise.specs.Use.{finished}
use Rattle.promise.specs.Held.{Held}
use Rattle.promise.specs.Calls.{Steps}
use Rattle.promise.specs.InForce.{figures_of}
use Rattle.promise.specs.Rules.{Lived}
use Rattle.promise.specs.Promise.{Promise}
use Rattle.promise.proofs.Computed.{none_blocked_by}
use Rattle.promise.proofs.Promised.{promised}
use Rattle.promise.proofs.Witness.{pair, half, part, study, lawful}

-- no shares, and the figures that the module hands over
abbrev none : Rows
none = record { up = 0 ∷ []; down = 0 ∷ [] }

abbrev handed : Rows
handed = record { up = 250_000_000 ∷ []; down = 437_500_000 ∷ [] }

-- a study of the pair with these rows before its search
abbrev unsearched : Rows → Rows → Held
unsearched a b = record {
  tops = 1 ∷ 1 ∷ [];
  best = 1;
  vectors = 4;
  rows = a ∷ b ∷ [];
  examined = 0;
  finished = false;
  paths = [];
  cuts = [];
}

-- and after it: both up is a path, one up alone a cut
abbrev searched : Rows → Rows → Held
searched a b = record {
  tops = 1 ∷ 1 ∷ [];
  best = 1;
  vectors = 4;
  rows = a ∷ b ∷ [];
  examined = 4;
  finished = true;
  paths = record { vector = 1 ∷ 1 ∷ []; first = 1; last = 1 } ∷ [];
  cuts = record { vector = 0 ∷ 1 ∷ []; first = 1; last = 1 } ∷ record { vector = 1 ∷ 0 ∷ []; first = 1; last = 1 } ∷ [];
}

all_four : (a b : Rows) → Steps pair (unsearched a b) 4 4 finished (searched a b)
all_four a b = record {
  tops = refl;
  best = refl;
  vectors = refl;
  rows = refl;
  examines = λ at. record {
    rule = record { within_budget = lit≤ tt; within_vectors = lit≤ tt; none_blocked = none_blocked_by pair 0 4 tt; stops = refl };
    after = refl;
  };
}

-- the module
part_lived : Lived part (searched half half)
part_lived =
    (unsearched half half, (unsearched half none, (unsearched none none, (lawful, refl, refl), (refl, refl)), (refl, refl)), all_four half half)

-- the study: two carries, a refusal, an enter, a step and its figures
pub lived : Lived study (searched handed half)
lived = (
  (
    unsearched handed half,
    (
      unsearched handed handed,
      (
        unsearched handed handed,
        (
          unsearched handed none,
          searched half half,
          (unsearched none none, searched half half, (lawful, refl, refl), part_lived, (refl, refl)),
          part_lived,
          (refl, refl),
        ),
        (refl, refl),
      ),
      (refl, refl),
    ),
    all_four handed half,
  ),
  refl,
)

-- so that its figures keep the promise
pub kept : Promise study 1 (figures_of study 1)
kept = (promised (searched handed half) 1 _ refl study lived).1
