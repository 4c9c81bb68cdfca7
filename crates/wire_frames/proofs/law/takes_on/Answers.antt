use Rattle.wire_frames.proofs.StreamLaws as found
use Rattle.wire_frames.proofs.law.takes_on.Goals as goal

pub returns : goal.returns
returns c = found.takes_on
