-- The promise follows from the answer.
use Rattle.structure.specs.Refusals.{answer_by}
use Rattle.promise.proofs.Promised.{promised}
use Rattle.study.specs.Model.{figures_in}
use Rattle.study.proofs.study.Study.figures.Goals as goal

pub returns-clause-promise : goal.returns-clause-promise
returns-clause-promise g c = promised c.args.self.now.ledger c.args.level (answer_by figures_in c.figures.result) c.figures.ensures.answers
