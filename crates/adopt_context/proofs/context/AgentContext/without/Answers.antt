use Rattle.std.proofs.Common.{◌≡◌, ◌==◌, not}
use Rattle.adopt_context.specs.Context.{AscendsFrom}
use Rattle.adopt_context.proofs.ContextLaws.{ascends_filter}
use Rattle.adopt_context.proofs.context.AgentContext.without.Goals as goal

pub invariant_of-result : goal.invariant_of-result
invariant_of-result c =
    let same : c.as_slice.result.now ≡ c.self.inside.pairs.items = c.as_slice.ensures.value in
    let ascends : AscendsFrom 0 c.as_slice.result.now = rw same c.self.invariant in
    rw c.in_ok-pairs.ensures (ascends_filter (λ p. not (p.0 == c.args.var)) 0 c.as_slice.result.now ascends)
