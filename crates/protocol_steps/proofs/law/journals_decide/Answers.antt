use Rattle.protocol_steps.proofs.JournalLaws as found
use Rattle.protocol_steps.proofs.law.journals_decide.Goals as goal

pub returns : goal.returns
returns c = found.journals_decide
