use Rattle.std.proofs.Common.{length}
use Rattle.serve_top.proofs.summary.+served_in.Given as goal

abbrev pub decreases-served_in : goal.decreases-served_in
decreases-served_in l = length l.ends.now
