use Rattle.std.proofs.Common.{◌≡◌, ℕ, ◌<◌, ◌==◌, List, length, sym, ap, ap₂, subst, ◌∙◌}
use Rattle.std.specs.List.{position}
use Rattle.std.proofs.lemmas.List.Quantifiers.{position-Some}
use Rattle.adopt_context.specs.Bounds.{entry_at}
use Rattle.adopt_context.specs.Context.{Context, or_zero}
use Rattle.protocol_steps.specs.declared.message.Message.{Message}
use Rattle.protocol_steps.specs.declared.message.Message.TheVariants.{Threshold}
use Rattle.protocol_steps.specs.Ranges.{IsContext}
use Rattle.protocol_steps.specs.Adopt.{AdoptView}
use Rattle.protocol_steps.specs.AdoptStep.{share_of}
use Rattle.adopt_agent.proofs.RangeLaws.{fits_context}
use Rattle.adopt_agent.proofs.agent.AdoptAgent.threshold_for.Goals as goal

pub share_at-requires-clause-place : goal.share_at-requires-clause-place
share_at-requires-clause-place c =
    let a = c.self.inside in
    let at = ap (λ (w : AdoptView). position (λ child. child == c.args.to) w.place.children) c.self.view_is ∙ c.requires in
    let first = position-Some (λ child. child == c.args.to) a.place.children c.args.place 0 at in
    subst (λ (xs : List ℕ). c.args.place < length xs) (sym c.self.invariant.backed.children) first.0

pub invariant_of-result : goal.invariant_of-result
invariant_of-result c =
    let a = c.self.inside in
    let s = c.self.invariant in
    (c.share_at.ensures.within, subst IsContext (sym c.in_ok-copy.ensures) (fits_context a.own a.place a.known s.ground a.known s.ground.known_fits))

pub returns : goal.returns
returns c =
    let a = c.self.inside in
    let to = c.args.to in
    let at = ap (λ (w : AdoptView). position (λ child. child == to) w.place.children) c.self.view_is ∙ c.requires in
    let share : c.share_at.result ≡ share_of c.args.self.now to =
    c.share_at.ensures.share ∙ ap (λ (k : ℕ). (entry_at a.bounds.rows a.value k).share) (ap or_zero (sym at)) ∙ ap (λ (w : AdoptView). share_of w to) c.self.view_is in
    ap₂ (λ (n : ℕ) (x : Context). (let m : Message = Threshold n x in (to, m))) share (c.in_ok-copy.ensures ∙ ap (λ (w : AdoptView). w.known) c.self.view_is)
