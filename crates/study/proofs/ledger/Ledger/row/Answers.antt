-- What is held follows the row that was lent.
use Rattle.std.proofs.Common.{refl, vec_items}
use Rattle.std.proofs.lemmas.List.{map-set}
use Rattle.tally.specs.Model.{rows_of}
use Rattle.study.proofs.ledger.Ledger.row.Goals as goal

pub returns : goal.returns
returns c = ((refl, λ w. rw (← c.self.view_is) (let e = map-set rows_of (vec_items c.self.inside.rows) c.args.place w in cc)), tt)
