use Rattle.std.proofs.Common.{ℕ, Some, ap, ◌∙◌, length-set, refl, arith}
use Rattle.agent_workers.proofs.ListLaws.{element_at}
use Rattle.tcp_links.proofs.WeaveLaws.{still_none, still_more, none_marked}
use Rattle.tcp_links.proofs.seen.still_cells.Goals as goal

pub loop-agent-init : goal.loop-agent-init
loop-agent-init g c = (refl, still_none (λ b. (goal.Machine-dyn g (b.vtable, b.value)).meaning b.value) c.args.seen.now _ c.args.cells.now (λ k marked. none_marked 1000 k marked))

pub loop-agent-preserved : goal.loop-agent-preserved
loop-agent-preserved g c =
    let test = c.loop-agent-test.true in
    let few = c.requires.few in
    let long = c.loop-agent.invariant.0 in (
      length-set c.loop-agent.still c.loop-agent.agent c.is_noted.result ∙ long,
      still_more (λ b. (goal.Machine-dyn g (b.vtable, b.value)).meaning b.value) c.args.seen.now c.loop-agent.still c.loop-agent.agent c.is_noted.result c.args.cells.now c.index-cells-agent.result (omega (arith, test, few, long))
          (element_at c.args.cells.now c.loop-agent.agent c.index-cells-agent.result test c.index-cells-agent.is) (λ is. c.is_noted.ensures is ∙ ap (λ (n : ℕ). Some n) c.entries_of.ensures) c.loop-agent.invariant.1,
    )

pub returns : goal.returns
returns g c = c.loop-agent.invariant.1
