use Rattle.std.proofs.Common.{◌≡◌, drop}
use Rattle.std.specs.List.{fold}
use Rattle.adopt_context.specs.Context.{put}
use Rattle.dcop_base.specs.Values.{with_own}
use Rattle.protocol_steps.specs.Values.{valued, context_of}
use Rattle.dpop_agent.proofs.values.context_for.Given as goal

abbrev pub invariant-loop-var : goal.invariant-loop-var
invariant-loop-var l =
    fold (λ c u. put c u (with_own l.me l.best (valued l.values) u)) l.context (drop l.var-index l.scope)
    ≡ context_of l.scope (with_own l.me l.best (valued l.values))
