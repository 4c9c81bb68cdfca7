use Rattle.std.specs.Option.{is_none}
use Rattle.std.proofs.Common.{sym}
use Rattle.certificate_check.proofs.RootLaws.{none_passes}
use Rattle.certificate_check.proofs.behind.root_of.Goals as goal

pub returns-in-None : goal.returns-in-None
returns-in-None c = sym (none_passes is_none c.args.parents.now (sym c.in-None.ensures))
