use Rattle.std.proofs.Common.{Err, subst}
use Rattle.util_join.specs.Join.{MakesJoined}
use Rattle.util_join.specs.declared.joined.JoinFault.{JoinFault}
use Rattle.dpop_agent.proofs.OverLaws.{zeros_cost}
use Rattle.dpop_agent.proofs.joint.zeros_over.Goals as goal

pub returns-in-Ok : goal.returns-in-Ok
returns-in-Ok c =
    let made = c.in-Ok.ensures in (made.0, zeros_cost c.args.over.vars c.args.over.sizes c.in-Ok.joined made.1)

pub returns-in-Err-TooWide : goal.returns-in-Err-TooWide
returns-in-Err-TooWide c =
    (subst (λ (e : JoinFault). MakesJoined c.args.over.vars c.args.over.sizes (Err e)) c.in-Err-TooWide.field-0-is c.in-Err-TooWide.ensures).0
