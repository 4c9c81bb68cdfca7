use Rattle.std.proofs.Common.{◌≡◌, ◌<◌, nat_lt, ◌&&◌, sym, ap, ◌∙◌, arith}
use Rattle.std.proofs.lemmas.Bool.{lt-ltb}
use Rattle.protocol_steps.specs.Adopt.{AdoptView}
use Rattle.protocol_steps.specs.AdoptRange.{fits}
use Rattle.adopt_agent.specs.Stage.{view_at}
use Rattle.adopt_agent.proofs.MessageLaws.{two_and}
use Rattle.adopt_agent.proofs.agent.AdoptAgent.takes_bounds.Goals as goal

pub returns-then-d-self : goal.returns-then-d-self
returns-then-d-self c =
    let a = c.self.inside in
    let rest = c.args.rest.now in
    let v : AdoptView = view_at a.own a.place a.error a.stage a.known a.value a.threshold a.last_received a.told_to_end a.bounds.rows in
    let fit : c.fits.result ≡ fits v rest = c.fits.ensures ∙ ap (λ (w : AdoptView). fits w rest) (sym c.self.view_is) in
    let low = c.if-d-self.true in
    let value = c.d.view_is in
    let lt : c.args.d < a.own.size = omega (arith, low, value) in
    two_and (nat_lt c.args.d a.own.size) (fits v rest) c.fits.result (lt-ltb c.args.d a.own.size lt) fit
    ∙ ap (λ (w : AdoptView). nat_lt c.args.d w.own.size && fits w rest) c.self.view_is
