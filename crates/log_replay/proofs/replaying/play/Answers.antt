use Rattle.std.proofs.Common.{◌≡◌, None, refl, sym, ap, subst, ◌∙◌}
use Rattle.protocol_steps.specs.declared.event.Event.{Event}
use Rattle.protocol_steps.specs.Effect.{effect}
use Rattle.protocol_steps.specs.Run.{event_fault}
use Rattle.delivery_core.specs.Shown.{IsCore}
use Rattle.log_replay.proofs.replaying.play.Goals as goal

pub returns-in-Some : goal.returns-in-Some
returns-in-Some c =
    let refused = rw c.in-Some.is at c.in_ok-fault.ensures in
    (refl, λ p net core. ap (λ (e : Event). event_fault net e) (sym c.in_ok-plain.ensures) ∙ refused p net core)

pub returns : goal.returns
returns c =
    let happened = rw c.in-None.is at c.in_ok-fault.ensures in
    λ p net core. subst (λ (e : Event). (event_fault net e ≡ None) × IsCore p (effect net e) c.happen.new.self) c.in_ok-plain.ensures (happened p net core)
