use Rattle.std.proofs.Common.{rules}
use Rattle.agent_workers.proofs.WatchLaws.{cleared}
use Rattle.agent_workers.proofs.watch.Watch.look.Goals as goal

pub returns-then-place-lt-MAX_VARIABLES-clause-kept : goal.returns-then-place-lt-MAX_VARIABLES-clause-kept
returns-then-place-lt-MAX_VARIABLES-clause-kept c = cleared c.args.self.now.waits c.args.place (let lt = c.if-place-lt-MAX_VARIABLES.true in search rules)
