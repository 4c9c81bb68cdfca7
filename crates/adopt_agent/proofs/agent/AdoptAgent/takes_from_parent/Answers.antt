use Rattle.std.proofs.Common.{◌≡◌, ℕ, true, not, List, sym, ap, ◌∙◌}
use Rattle.std.proofs.lemmas.Bool.{false≢true}
use Rattle.adopt_context.specs.Context.{is_value}
use Rattle.protocol_steps.specs.Agent.{last_of}
use Rattle.protocol_steps.specs.Adopt.{AdoptView}
use Rattle.protocol_steps.specs.AdoptRange.{fits}
use Rattle.protocol_steps.specs.AdoptMessage.{takes_from_parent}
use Rattle.adopt_agent.specs.Stage.{view_at}
use Rattle.adopt_agent.proofs.MessageLaws.{three_and}
use Rattle.adopt_agent.proofs.agent.AdoptAgent.takes_from_parent.Goals as goal
use Rattle.adopt_agent.proofs.agent.AdoptAgent.takes_from_parent.Goals.{then-not-self, else-not-self}

pub returns-then-is_parent : goal.returns-then-is_parent
returns-then-is_parent c =
    let a = c.self.inside in
    let from = c.args.from in
    let told = c.args.context.now in
    let v : AdoptView = view_at a.own a.place a.error a.stage a.known a.value a.threshold a.last_received a.told_to_end a.bounds.rows in
    let fit : c.fits.result ≡ fits v told = c.fits.ensures ∙ ap (λ (w : AdoptView). fits w told) (sym c.self.view_is) in
    elim c.if-not-self.branch [
      | then-not-self w ↦
          let parent : is_value (last_of a.place.path) from ≡ true =
          ap (λ (path : List ℕ). is_value (last_of path) from) (sym w.as_slice.ensures) ∙ sym w.is_parent.ensures ∙ sym w.value-is ∙ c.if-is_parent.true in
          three_and (not a.told_to_end) (is_value (last_of a.place.path) from) (fits v told) c.fits.result (ap not w.if-not-self.true) parent fit
          ∙ ap (λ (x : AdoptView). takes_from_parent x from told) c.self.view_is
      | else-not-self w ↦ absurd (false≢true (ap not (sym w.if-not-self.false) ∙ sym w.value-is ∙ c.if-is_parent.true))
    ]
