-- A worked frame of four components, its figures computed from the definitions. Assumes nothing.
use Rattle.std.proofs.Common.{◌≡◌, ℕ, List, [], ◌∷◌, length, get_or, refl, lit<, lit≤}
use Rattle.structure.specs.Refusals.{given}
use Rattle.structure.specs.Shape.{Shape, Lawful}
use Rattle.structure.specs.Order.{number_in}
use Rattle.promise.specs.Figures.{Rows}
use Rattle.promise.specs.Use.{Use, opened, entered, stepped, finished, still_open}
use Rattle.promise.specs.Calls.{no_entry}
use Rattle.promise.specs.InForce.{paths_found, cuts_found, figures_of}
use Rattle.promise.specs.Rules.{Ruled}
use Rattle.promise.proofs.Computed.{rises_by, none_blocked_by}

-- ## The frame

four : List ℕ
four = 1 ∷ 1 ∷ 1 ∷ 1 ∷ []

-- the level of each vector, in number order
levels : List ℕ
levels = 0 ∷ 0 ∷ 0 ∷ 0 ∷ 0 ∷ 1 ∷ 1 ∷ 2 ∷ 0 ∷ 1 ∷ 1 ∷ 2 ∷ 0 ∷ 2 ∷ 2 ∷ 3 ∷ []

-- four components with one rank over zero each, and three levels
frame : Shape
frame = record { tops = four; best = 3; level = λ v. get_or levels (number_in four v) 0 }

-- ## Its study: nine tenths up and one tenth down for each component

nine : Rows
nine = record { up = 900_000_000 ∷ []; down = 100_000_000 ∷ [] }

-- all four entered
filled : Use
filled = entered (entered (entered (entered (opened frame (1 ∷ 2 ∷ 3 ∷ 4 ∷ [])) 1 nine (given tt)) 2 nine (given tt)) 3 nine (given tt)) 4 nine (given tt)

-- a step of all 16 vectors, and one of 6
done : Use
done = stepped filled 16 16 finished

partly : Use
partly = stepped filled 6 6 still_open

-- ## They keep the rules

lawful : Lawful frame
unfolding frame levels four
lawful = record {
  some = lit≤ tt;
  few = lit≤ tt;
  tops_fit = (lit≤ tt, lit≤ tt, (lit≤ tt, lit≤ tt, (lit≤ tt, lit≤ tt, (lit≤ tt, lit≤ tt, tt))));
  best_low = lit≤ tt;
  best_high = lit≤ tt;
  countable = lit≤ tt;
  bottom = refl;
  top = refl;
  rises = rises_by frame tt;
}

filled_ruled : Ruled filled
unfolding filled nine frame levels four
filled_ruled = (((((lawful, refl), refl), refl), refl), refl)

done_ruled : Ruled done
unfolding done filled nine frame levels four
done_ruled = (
  filled_ruled,
  record { within_budget = lit≤ tt; within_vectors = lit≤ tt; none_blocked = none_blocked_by frame 0 16 tt; stops = refl },
)

partly_ruled : Ruled partly
unfolding partly filled nine frame levels four
partly_ruled = (
  filled_ruled,
  record { within_budget = lit≤ tt; within_vectors = lit≤ tt; none_blocked = none_blocked_by frame 0 6 tt; stops = (refl, lit< tt) },
)

-- ## Its figures

lows : ((figures_of done 1).low ≡ 980_100_000) × ((figures_of done 2).low ≡ 941_480_148) × ((figures_of done 3).low ≡ 656_100_000)
unfolding done filled nine frame levels four
lows = (refl, refl, refl)

highs : ((figures_of done 1).high ≡ 990_000_000) × ((figures_of done 2).high ≡ 990_000_000) × ((figures_of done 3).high ≡ 656_100_000)
unfolding done filled nine frame levels four
highs = (refl, refl, refl)

-- the entries of the two lists
entries_found : (length (paths_found done) ≡ 9) × (length (cuts_found done) ≡ 10)
unfolding done filled nine frame levels four
entries_found = (refl, refl)

-- the eighth cut, where only the first two components are up, covers levels 1 to 2
eighth_cut : get_or (cuts_found done) 7 no_entry ≡ record { vector = 1 ∷ 1 ∷ 0 ∷ 0 ∷ []; first = 1; last = 2 }
unfolding done filled nine frame levels four
eighth_cut = refl

-- before the search is finished
first_level : ((figures_of partly 1).low ≡ 810_000_000) × ((figures_of partly 1).high ≡ 990_000_000)
unfolding partly filled nine frame levels four
first_level = (refl, refl)

third_level : ((figures_of partly 3).low ≡ 0) × ((figures_of partly 3).high ≡ 1_000_000_000)
unfolding partly filled nine frame levels four
third_level = (refl, refl)
