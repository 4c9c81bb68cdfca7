use Rattle.message_code.proofs.PassLaws as found
use Rattle.message_code.proofs.law.codes_are_good.Goals as goal

pub returns : goal.returns
returns c = found.codes_are_good
