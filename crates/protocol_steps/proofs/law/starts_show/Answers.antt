use Rattle.protocol_steps.proofs.JournalStampLaws as found
use Rattle.protocol_steps.proofs.law.starts_show.Goals as goal

pub returns : goal.returns
returns c = found.starts_show
