use Rattle.protocol_steps.proofs.LinkLaws as found
use Rattle.protocol_steps.proofs.law.links_grow.Goals as goal

pub returns : goal.returns
returns c = found.links_grow
