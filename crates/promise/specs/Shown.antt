-- What a study promises of a record that it shows, after any use. Assumes nothing.
use Rattle.std.specs.Prelude.{◌≡◌, ℕ, ◌<◌, List}
use Rattle.structure.specs.Refusals.{Answer}
use Rattle.structure.specs.Shape.{Shape, vector_at}
use Rattle.structure.specs.Minimal.{MinimalPath, MinimalCut, Entry}
use Rattle.structure.specs.Listing.{Levels}
use Rattle.promise.specs.Use.{Use, Side, path_list, cut_list, shape_of, examined}
use Rattle.promise.specs.Held.{Held}
use Rattle.promise.specs.Calls.{Shows}
use Rattle.promise.specs.Rules.{Lived}
use Rattle.promise.specs.Promise.{given_by}

-- which vectors a side lists for a level: the minimal paths, or the minimal cuts
abbrev pub MinimalOn : Side → Shape → ℕ → List ℕ → Type 0
MinimalOn path_list = MinimalPath
MinimalOn cut_list = MinimalCut

-- what holds of an entry that is shown from one side after a use u: the search has met its vector, and its levels are
-- exactly those that the vector is minimal for
pub record Met (u : Use) (d : Side) (e : Entry) : Type 0 where
  pub number : ℕ
  pub met : number < examined u
  pub is : e.vector ≡ vector_at (shape_of u) number
  pub levels : Levels (shape_of u) (MinimalOn d (shape_of u)) e

-- what holds of the answer of show and of the row after it, by a study that holds h, whatever its whole use has been
abbrev pub Shown : Held → Side → Answer (ℕ × ℕ) → (row-after : List ℕ) → Type 0
Shown h d a row' = (u : Use) → Lived u h → given_by a (λ l. Met u d (record { vector = row'; first = l.0; last = l.1 }))

-- and it holds of every such answer
abbrev pub ShowsMet : Type 0
ShowsMet = (h : Held) (d : Side) (k : ℕ) (row : List ℕ) (a : Answer (ℕ × ℕ)) (row' : List ℕ) → Shows h d k row a row' → Shown h d a row'
