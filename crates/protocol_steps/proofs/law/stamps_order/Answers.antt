use Rattle.protocol_steps.proofs.StampLaws as found
use Rattle.protocol_steps.proofs.law.stamps_order.Goals as goal

pub returns : goal.returns
returns c = found.stamps_order
