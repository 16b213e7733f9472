-- The whole use of a study that reports a case. Assumes nothing.
use Rattle.std.specs.Prelude.{◌≡◌, ℕ, suc, ◌+◌, ◌<◌, List, [], ◌∷◌, length, slice_index_or}
use Rattle.structure.specs.Refusals.{given}
use Rattle.structure.specs.Shape.{Shape}
use Rattle.table.specs.Table.{table_shape, Passes}
use Rattle.promise.specs.Figures.{Rows}
use Rattle.promise.specs.Use.{Use, opened, entered, stepped, Word}
use Rattle.promise.specs.Calls.{enter_answer}
use Rattle.casetext.specs.Case.{Content}

-- the shape of a case's table
abbrev pub shape_in : Content → Shape
shape_in c = table_shape c.tops c.best c.levels

-- the use u, and then the rows entered one after another, from component i on, each accepted
abbrev pub then_entered : Use → ℕ → List Rows → Use
then_entered u i [] = u
then_entered u i (r ∷ rows) = then_entered (entered u i r (given tt)) (suc i) rows

-- a study opened over this shape, the rows of every component entered, and one step with a budget for all vectors, which
-- answered this number and this word
abbrev pub searched_use : Shape → (tags : List ℕ) → List Rows → ℕ → Word → Use
searched_use s tags rows number word = stepped (then_entered (opened s tags) 1 rows) 65536 number word

-- so used, the study of a case
abbrev pub use_of : Content → ℕ → Word → Use
use_of c = searched_use (shape_in c) c.tags c.rows

-- enter accepts each of the rows for the component of its place
abbrev pub Enterable : List ℕ → List Rows → Type 0
Enterable tops rows = (k : ℕ) (d : Rows) → k < length rows → enter_answer tops (k + 1) (slice_index_or rows k d) ≡ given tt

-- the table passes its tests, and there are rows for every component, each of which enter accepts
pub record Sound (c : Content) : Type 0 where
  pub table : Passes c.tops c.best c.tags c.levels
  pub all : length c.rows ≡ length c.tops
  pub rows : Enterable c.tops c.rows
