use Rattle.protocol_steps.proofs.RunLaws as found
use Rattle.protocol_steps.proofs.law.rounds_are_a_run.Goals as goal

pub returns : goal.returns
returns c = found.rounds_are_a_run
