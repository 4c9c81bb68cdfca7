use Rattle.wire_frames.proofs.StreamLaws as found
use Rattle.wire_frames.proofs.law.splits_once.Goals as goal

pub returns : goal.returns
returns c = found.splits_once
