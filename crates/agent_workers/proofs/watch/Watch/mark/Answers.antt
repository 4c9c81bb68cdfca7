use Rattle.std.proofs.Common.{rules}
use Rattle.agent_workers.proofs.WatchLaws.{marked_kept, marked_here}
use Rattle.agent_workers.proofs.watch.Watch.mark.Goals as goal

pub returns-then-place-lt-MAX_VARIABLES-clause-kept : goal.returns-then-place-lt-MAX_VARIABLES-clause-kept
returns-then-place-lt-MAX_VARIABLES-clause-kept c = marked_kept c.args.self.now.waits c.args.place (let lt = c.if-place-lt-MAX_VARIABLES.true in search rules)

pub returns-then-place-lt-MAX_VARIABLES-clause-here : goal.returns-then-place-lt-MAX_VARIABLES-clause-here
returns-then-place-lt-MAX_VARIABLES-clause-here c lt un = marked_here c.args.self.now.waits c.args.place (search rules) un
