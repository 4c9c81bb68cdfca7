use Rattle.std.proofs.Common.{sym, subst}
use Rattle.protocol_steps.specs.Ranges.{IsContext}
use Rattle.adopt_agent.proofs.RangeLaws.{fits_context}
use Rattle.adopt_agent.proofs.agent.AdoptAgent.cost_for.Goals as goal

pub invariant_of-result : goal.invariant_of-result
invariant_of-result c =
    let a = c.self.inside in
    let s = c.self.invariant in
    (subst IsContext (sym c.in_ok-copy.ensures) (fits_context a.own a.place a.known s.ground a.known s.ground.known_fits), c.lower_bound.ensures.within, c.upper_bound.ensures.within)
