-- Vectors by their numbers: all ranks zero is 0, and the last component changes fastest. Assumes nothing.
use Rattle.std.specs.Prelude.{ℕ, suc, ◌+◌, ◌*◌, ◌/◌, ◌%◌, List, [], ◌∷◌, drop}
use Rattle.structure.specs.Shape.{vector_count}

-- the number of a vector
abbrev pub number_in : List ℕ → List ℕ → ℕ
number_in [] v = 0
number_in (a ∷ tops) [] = 0
number_in (a ∷ tops) (r ∷ v) = r * vector_count tops + number_in tops v

-- the vector of a number
abbrev pub vector_of : List ℕ → ℕ → List ℕ
vector_of [] k = []
vector_of (a ∷ tops) k = (k / vector_count tops) ∷ vector_of tops (k % vector_count tops)

-- how far apart two vectors lie that differ by one rank of the component at place i, counted from 0
abbrev pub stride : List ℕ → ℕ → ℕ
stride tops i = vector_count (drop (suc i) tops)
