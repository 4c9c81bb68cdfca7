use Rattle.std.proofs.Common.{sym}
use Rattle.problem_text.proofs.ScopeLaws.{position-no_name}
use Rattle.report_reader.proofs.value_line.labelled.Goals as goal

pub returns-in-None : goal.returns-in-None
returns-in-None c = sym (position-no_name c.args.labels.now c.args.word.now c.requires.named c.in-None.ensures)
