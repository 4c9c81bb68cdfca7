use Rattle.std.proofs.Common.{◌<◌, sym, ap, subst, ◌∙◌, arith}
use Rattle.dcop_base.specs.Limits.{size_limit}
use Rattle.adopt_context.specs.Context.{Context, put}
use Rattle.protocol_steps.specs.Ranges.{IsContext}
use Rattle.adopt_agent.proofs.RangeLaws.{fits_context, put_range}
use Rattle.adopt_agent.proofs.agent.AdoptAgent.end_for.Goals as goal

pub invariant_of-result : goal.invariant_of-result
invariant_of-result c =
    let a = c.self.inside in
    let s = c.self.invariant in
    let below = s.value_below in
    let most = s.ground.own_fits.size.1 in
    let small : a.value < size_limit = omega (arith, below, most) in
    subst IsContext (sym (c.in_ok-set.ensures.given ∙ ap (λ (x : Context). put x a.own.me a.value) c.in_ok-context.ensures))
    (put_range a.known a.own.me a.value (fits_context a.own a.place a.known s.ground a.known s.ground.known_fits) s.ground.own_fits.me_below small)
