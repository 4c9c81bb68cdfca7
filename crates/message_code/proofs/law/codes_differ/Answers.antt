use Rattle.message_code.proofs.CodeLaws as found
use Rattle.message_code.proofs.law.codes_differ.Goals as goal

pub returns : goal.returns
returns c = found.codes_differ
