use Rattle.std.proofs.Common.{ℕ, [], ◌∷◌, ◌++◌, refl, ap, ◌∙◌, set, get_or, subst}
use Rattle.protocol_steps.specs.declared.message.Message.{Message}
use Rattle.fifo_links.specs.Link.{sent_on}
use Rattle.agent_cells.specs.Delivered.{HasDelivered}
use Rattle.agent_cells.proofs.ResultLaws.{on_ok_as}
use Rattle.agent_cells.proofs.DeliverLaws.{delivered_nowhere, delivered_one}
use Rattle.agent_cells.proofs.deliver.send_one.Goals as goal

pub returns-in_default-clause-sent : goal.returns-in_default-clause-sent
returns-in_default-clause-sent c =
    subst (λ (p : ℕ × Message). HasDelivered c.args.tails.now c.args.stamp (p ∷ []) c.args.tails.now) c.parcel.view_is
    (delivered_nowhere c.args.tails.now (c.parcel.inside.to, c.parcel.inside.message) c.args.stamp c.in_default.ensures)

pub returns-clause-sent : goal.returns-clause-sent
returns-clause-sent c =
    on_ok_as c.map_err.result c.push.result c.map_err.ensures.variant c.push.ensures.sent (λ sent.
    subst (λ (p : ℕ × Message). HasDelivered c.args.tails.now c.args.stamp (p ∷ [])
    (set c.args.tails.now c.in-Some.place ((get_or c.args.tails.now c.in-Some.place c.index-tails-place.result).0, c.push.new.self))) c.parcel.view_is
    (delivered_one c.args.tails.now (c.parcel.inside.to, c.parcel.inside.message) c.args.stamp c.in-Some.place c.index-tails-place.result
    ((get_or c.args.tails.now c.in-Some.place c.index-tails-place.result).0, c.push.new.self) c.requires.ascend c.in-Some.ensures refl
    (sent ∙ ap (λ (e : ℕ × Message). sent_on (get_or c.args.tails.now c.in-Some.place c.index-tails-place.result).1 ++ e ∷ []) c.in_ok-sealed.ensures)))
