use Rattle.edit_session.proofs.HeldLaws as found
use Rattle.edit_session.proofs.law.made_tables_are_optima.Goals as goal

pub returns : goal.returns
returns c = found.made_tables_are_optima
