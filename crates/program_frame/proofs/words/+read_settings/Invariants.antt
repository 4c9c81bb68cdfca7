use Rattle.std.proofs.Common.{length}
use Rattle.program_frame.proofs.words.+read_settings.Given as goal

-- each pair leaves fewer words
abbrev pub decreases-read_settings : goal.decreases-read_settings
decreases-read_settings l = length l.words.now
