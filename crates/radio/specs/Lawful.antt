-- The radio keeps the rules of a structure. One of them is proved by hand, that raising ranks never lowers the level. The others are
-- small facts of the shape: radio_lawful leaves them to the tactic search, and gives it that proof. Assumes nothing.
use Rattle.std.specs.Prelude.{◌≡◌, ℕ, ◌<◌, ◌≤◌, T, List, length, slice_index, slice_index_or}
use Rattle.std.proofs.Common.{arith, rules, ◌∙◌, lit≤}
use Rattle.std.proofs.lemmas.List.Elements.{length_all_zip, AllZip-get_or}
use Rattle.std.proofs.lemmas.Bool.Decides.{nat_tests}
use Rattle.structure.specs.Shape.{Lawful, AllBelow, within}
use Rattle.structure.proofs.Below.{length_within}
use Rattle.radio.specs.Radio.{radio_level, radio_shape}

-- both vectors have five ranks, and none falls; the rest is a matter of cases
radio_rises : (v w : List ℕ) → T (within radio_shape.tops w) → AllBelow v w → radio_level v ≤ radio_level w
radio_rises v w t h =
    let five : length v ≡ 5 = length_all_zip (λ r s. r ≤ s) v w h ∙ length_within radio_shape.tops w t in
    let rank : (i : ℕ) → i < 5 → slice_index v i ≤ slice_index_or w i 0 = λ i l. AllZip-get_or (λ r s. r ≤ s) v w i 0 0 h (omega arith) in
    grind (arith, nat_tests, rank 0 (lit≤ tt), rank 1 (lit≤ tt), rank 2 (lit≤ tt), rank 3 (lit≤ tt), rank 4 (lit≤ tt))

pub radio_lawful : Lawful radio_shape
radio_lawful = search (rules, radio_rises)
