use Rattle.std.proofs.Common.{◌≡◌, sym, ap, subst, ◌∙◌}
use Rattle.std.specs.List.Sorted.{IsStrictlyIncreasing}
use Rattle.dcop_base.specs.declared.knowledge.Private.{Private}
use Rattle.protocol_steps.specs.Knowledge.{IsKnowledge}
use Rattle.protocol_steps.specs.View.{private_of}
use Rattle.agent_links.specs.Kinds.{view_of}
use Rattle.agent_links.proofs.SeatLaws.{fresh_view, private_view, knowledge_fits}
use Rattle.agent_links.proofs.seats.seat_for.Goals as goal

pub invariant_of-result : goal.invariant_of-result
invariant_of-result c =
    let known : IsKnowledge c.args.own = subst (λ (own : Private). IsKnowledge own) (sym c.requires.known) (knowledge_fits c.private_is_knowledge.ensures c.acquaintance_is_knowledge.ensures c.args.problem.now c.args.start.now c.args.own.me c.requires.whole c.requires.inside) in
    let same : private_of (view_of c.in_ok-agent.agent) ≡ c.args.own = private_view c.args.problem.now c.args.start.now c.args.own.me (view_of c.in_ok-agent.agent) c.args.own c.in_ok-agent.ensures c.requires.known in
    record {
      fresh = fresh_view c.args.problem.now c.args.start.now c.args.own.me (view_of c.in_ok-agent.agent) c.in_ok-agent.ensures;
      own = ap (λ (o : Private). o.me) same;
      ascend = subst (λ (o : Private). IsStrictlyIncreasing o.neighbours) (sym same) known.ascend;
      tail_peers = c.requires.tail_peers ∙ ap (λ (o : Private). o.neighbours) (sym same);
      head_peers = c.requires.head_peers ∙ ap (λ (o : Private). o.neighbours) (sym same);
      unsent = c.requires.unsent;
      untaken = c.requires.untaken;
    }
