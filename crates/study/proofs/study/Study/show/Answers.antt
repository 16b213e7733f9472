-- The promise follows from the answer.
use Rattle.structure.specs.Refusals.{answer_by}
use Rattle.promise.proofs.Shown.{shows_met}
use Rattle.study.specs.Model.{side_of}
use Rattle.study.proofs.study.Study.show.Goals as goal

pub returns-clause-promise : goal.returns-clause-promise
returns-clause-promise g c =
    shows_met c.args.self.now.ledger (side_of c.args.side) c.args.number c.args.row.now (answer_by (λ levels. levels) c.show.result)
    c.show.new.row c.show.ensures.shows
