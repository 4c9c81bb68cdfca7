use Rattle.std.proofs.Common.{◌∙◌}
use Rattle.log_check.proofs.EndLaws.{end_same}
use Rattle.log_check.proofs.end.end_difference.Goals as goal

pub returns : goal.returns
returns c = λ end is. c.core_difference.ensures ∙ end_same c.args.file.now c.args.core.now c.args.report.now end is c.requires.deliveries
