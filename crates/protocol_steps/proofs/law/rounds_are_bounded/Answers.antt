use Rattle.protocol_steps.proofs.ShareLaws as found
use Rattle.protocol_steps.proofs.law.rounds_are_bounded.Goals as goal

pub returns : goal.returns
returns c = found.rounds_are_bounded
