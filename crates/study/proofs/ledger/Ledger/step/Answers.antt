-- One vector further each turn.
use Rattle.std.proofs.Common.{◌≡◌, true, not, ap, ◌∙◌, arith}
use Rattle.std.specs.Option.{is_some}
use Rattle.study.proofs.Steps.{goes_more}
use Rattle.study.proofs.ledger.Ledger.step.Goals as goal

pub loop-number-preserved : goal.loop-number-preserved
loop-number-preserved g c =
    let s = g.S.Structure.shape c.args.structure.now in
    let on = c.loop-number.invariant.goes in
    let vectors = ap (λ h. h.vectors) c.self.view_is in
    let examined = ap (λ h. h.examined) c.self.view_is in
    let some : is_some c.examine.result ≡ true = c.is_none.ensures ∙ ap not c.if-is_none.false in record {
      goes = goes_more s c.args.self.now c.args.budget c.loop-number.number c.loop-number.self on
          (omega arith) (omega (arith, on.keeps.vectors, vectors, examined)) c.examine.new.self (is_some c.examine.result) some c.examine.ensures.examines;
      counted = omega (arith, c.examine.ensures.counts some);
    }
