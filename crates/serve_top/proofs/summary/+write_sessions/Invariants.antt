use Rattle.std.proofs.Common.{length}
use Rattle.serve_top.proofs.summary.+write_sessions.Given as goal

abbrev pub decreases-write_sessions : goal.decreases-write_sessions
decreases-write_sessions l = length l.ends.now
