use Rattle.run_log.proofs.LogStampLaws as found
use Rattle.run_log.proofs.law.merged_stamps_are_right.Goals as goal

pub returns : goal.returns
returns c = found.merged_stamps_are_right
