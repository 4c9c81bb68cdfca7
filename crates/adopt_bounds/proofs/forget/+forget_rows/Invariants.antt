use Rattle.std.proofs.Common.{length}
use Rattle.adopt_bounds.proofs.forget.+forget_rows.Given as goal

abbrev pub decreases-forget_rows : goal.decreases-forget_rows
decreases-forget_rows t = length t.totals.now
