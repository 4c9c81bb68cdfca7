use Rattle.std.proofs.Common.{◌≡◌, ◌||◌, not, drop, if◌then◌else◌}
use Rattle.std.specs.Prelude.{is_some}
use Rattle.std.specs.List.{fold}
use Rattle.dcop_base.specs.Table.{has}
use Rattle.adopt_context.specs.Context.{put, value_in}
use Rattle.adopt_agent.proofs.messages.learned.Given as goal

abbrev pub invariant-loop-pair : goal.invariant-loop-pair
invariant-loop-pair l =
    fold (λ x p. if not (has l.neighbours p.0) || not (is_some (value_in x p.0)) then put x p.0 p.1 else x) l.all (drop l.pair-index l.context)
    ≡ fold (λ x p. if not (has l.neighbours p.0) || not (is_some (value_in x p.0)) then put x p.0 p.1 else x) l.known l.context
