-- A case that was read can be entered.
use Rattle.casetext.specs.Contents.{content_of}
use Rattle.summary.proofs.WhatIsRead.{sound_read}
use Rattle.summary.proofs.whole.report.Goals as goal

pub case_lines-requires : goal.case_lines-requires
case_lines-requires c = sound_read c.args.text.now (content_of c.in-Ok.case) c.in-Ok.ensures
