use Rattle.std.proofs.Common.{length}
use Rattle.program_frame.proofs.words.+give.Given as goal

-- each call leaves fewer options
abbrev pub decreases-give : goal.decreases-give
decreases-give l = length l.settings.now
