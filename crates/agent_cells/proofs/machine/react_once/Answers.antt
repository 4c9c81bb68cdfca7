use Rattle.agent_cells.proofs.MachineLaws.{step_receivers, moved}
use Rattle.agent_cells.proofs.machine.react_once.Goals as goal

pub returns-clause-receivers : goal.returns-clause-receivers
returns-clause-receivers g c =
    let b = c.args.machine.now in
    moved (λ p. (goal.Machine-dyn g p).meaning p.1) _ (b.vtable, b.value) _
    (step_receivers _ _ _ _ c.in_ok-react.ensures.0 c.in_ok-react.ensures.1.1.1.0)
    (cc)
