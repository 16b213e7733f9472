use Rattle.std.proofs.Common.{sym, append_assoc, arith}
use Rattle.std.proofs.lemmas.Grind.{common_steps}
use Rattle.std.proofs.lemmas.Option.{cond_some}
use Rattle.fields.specs.Numbers.{is_number}
use Rattle.fields.proofs.Pieces.{pieces_cut}
use Rattle.fields.proofs.numbers.numbers.Goals as goal

pub loop-piece-preserved : goal.loop-piece-preserved
loop-piece-preserved c =
    let read = cond_some (is_number c.in-Some.piece.now) _ _ (sym c.in-Some-number.ensures) in record {
      numbers = grind (arith, common_steps, pieces_cut);
      values = grind (arith, common_steps, pieces_cut, append_assoc);
    }

pub returns : goal.returns
returns c =
    let read = cond_some (is_number c.loop-piece.left.now) _ _ (sym c.in-Some-number-2.ensures) in
    grind (arith, common_steps, pieces_cut)
