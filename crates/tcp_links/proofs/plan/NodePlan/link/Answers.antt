use Rattle.std.proofs.Common.{List, refl, subst}
use Rattle.worker_laws.specs.Wires.{Wire}
use Rattle.tcp_links.specs.Plans.{BelongsAt}
use Rattle.tcp_links.proofs.PlanLaws.{same_plan, linked_plan, new_link}
use Rattle.tcp_links.proofs.plan.NodePlan.link.Goals as goal

pub returns-clause-plan : goal.returns-clause-plan
returns-clause-plan g c =
    linked_plan c.args.self.now _ c.args.from c.args.to c.place_of-place.result c.new.result _ c.new.ensures.ends.0 c.new.ensures.ends.1 c.new.ensures.passages (subst (λ (ws : List Wire). BelongsAt ws c.args.from c.args.to c.place_of-place.result) c.as_slice.ensures.value c.place_of-place.ensures) c.in_ok-add_link.ensures.added.0 c.in_ok-add_link.ensures.added.1 refl refl refl
    c.requires.plan c.requires.inside c.requires.apart

pub returns-clause-made : goal.returns-clause-made
returns-clause-made g c =
    new_link c.args.self.now _ c.args.from c.args.to c.place_of-place.result c.new.result _ c.new.ensures.ends.0 c.new.ensures.ends.1 c.new.ensures.passages (subst (λ (ws : List Wire). BelongsAt ws c.args.from c.args.to c.place_of-place.result) c.as_slice.ensures.value c.place_of-place.ensures) c.in_ok-add_link.ensures.added.0 c.in_ok-add_link.ensures.added.1 refl refl refl
    c.in_ok-tail.tail c.in_ok-feed.head c.in_ok-tail.ensures.ends c.in_ok-feed.ensures.ends (c.in_ok-tail.ensures.sent, c.in_ok-feed.ensures.sent) (c.in_ok-tail.ensures.taken, c.in_ok-feed.ensures.taken)

pub returns-in_err-add_link-clause-plan : goal.returns-in_err-add_link-clause-plan
returns-in_err-add_link-clause-plan g c = same_plan c.args.self.now _ c.requires.plan c.in_err-add_link.ensures.same.0 c.in_err-add_link.ensures.same.1 refl refl refl
