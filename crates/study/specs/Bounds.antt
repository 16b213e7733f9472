-- What is true of whatever a study holds, after any use. Assumes nothing.
use Rattle.std.specs.Prelude.{◌≡◌, ℕ, ◌<◌, ◌≤◌, length, slice_index}
use Rattle.structure.specs.Shape.{vector_count}
use Rattle.promise.specs.Held.{Held}

-- at most 12 components, each with a top of at most 7 and its rows; so many vectors as the tops give, at most 65,536, and no more
-- examined; at most 256 records in each list
pub record Bounded (h : Held) : Type 0 where
  pub few : length h.tops ≤ 12
  pub low : (k : ℕ) → k < length h.tops → slice_index h.tops k ≤ 7
  pub counted : h.vectors ≡ vector_count h.tops
  pub countable : h.vectors ≤ 65536
  pub sized : length h.rows ≡ length h.tops
  pub seen : h.examined ≤ h.vectors
  pub listed : (length h.paths ≤ 256) × (length h.cuts ≤ 256)
