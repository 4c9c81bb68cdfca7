use Rattle.std.proofs.Common.{◌≡◌, ◌++◌, drop}
use Rattle.dpop_agent.specs.Remade.{sent_of}
use Rattle.dpop_agent.proofs.RemakeLaws.{named_in_all}
use Rattle.dpop_agent.proofs.made.named_by.Given as goal

abbrev pub invariant-loop-child : goal.invariant-loop-child
invariant-loop-child l =
    l.vars ++ named_in_all (sent_of l.kept (drop l.child-index l.children)) ≡ named_in_all (sent_of l.kept l.children)
