use Rattle.protocol_steps.proofs.JournalStampLaws as found
use Rattle.protocol_steps.proofs.law.journals_order.Goals as goal

pub returns : goal.returns
returns c = found.journals_order
