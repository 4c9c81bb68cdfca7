use Rattle.wire_frames.proofs.StreamLaws as found
use Rattle.wire_frames.proofs.law.reads_whole.Goals as goal

pub returns : goal.returns
returns c = found.reads_whole
