-- Each component's shares are accepted, since the rows can be entered.
use Rattle.std.proofs.Common.{map, ◌∙◌}
use Rattle.std.proofs.lemmas.List.{length-map}
use Rattle.structure.specs.Refusals.{verdict}
use Rattle.casetext.specs.Contents.{rows_of}
use Rattle.summary.proofs.Entering.{entering, ok_from_given, lived_more}
use Rattle.summary.proofs.studied.enter_rows.Goals as goal

pub unwrap-requires : goal.unwrap-requires
unwrap-requires g c =
    let turn = entering c.args.study.now.ledger.tops c.args.rows.now c.loop-i.i c.index-rows-i.result c.loop-i.study.ledger (verdict c.enter.result) c.enter.new.self.ledger
    c.requires c.loop-i-test.true c.index-rows-i.is c.loop-i.invariant.1 _ _ c.deref.ensures.value c.deref-in-loop-i.ensures.value c.enter.ensures.enters in
    ok_from_given c.enter.result turn.accepted

pub loop-i-preserved : goal.loop-i-preserved
loop-i-preserved g c =
    let turn = entering c.args.study.now.ledger.tops c.args.rows.now c.loop-i.i c.index-rows-i.result c.loop-i.study.ledger (verdict c.enter.result) c.enter.new.self.ledger
    c.requires c.loop-i-test.true c.index-rows-i.is c.loop-i.invariant.1 _ _ c.deref.ensures.value c.deref-in-loop-i.ensures.value c.enter.ensures.enters in
    let within = c.loop-i-test.true in (
      (λ u lived. lived_more u (map rows_of c.args.rows.now) c.loop-i.i (rows_of c.index-rows-i.result) c.loop-i.study.ledger _ (simp length-map within) (c.loop-i.invariant.0 u lived) turn.enters),
      turn.tops_kept,
      c.enter.ensures.same ∙ c.loop-i.invariant.2,
    )
