use Rattle.std.proofs.Common.{ℕ, ◌==◌, List, sym, ap, subst, ◌∙◌}
use Rattle.std.specs.List.{position}
use Rattle.std.specs.List.Sorted.{IsStrictlyIncreasing}
use Rattle.protocol_steps.specs.Adopt.{AdoptView}
use Rattle.adopt_agent.proofs.agent.AdoptAgent.tell_child.Goals as goal

pub place_in-requires : goal.place_in-requires
place_in-requires c = record { ascend = subst IsStrictlyIncreasing (sym c.as_slice.ensures) c.self.invariant.ground.placed.children.0 }

pub threshold_for-requires : goal.threshold_for-requires
threshold_for-requires c =
    ap (λ (w : AdoptView). position (λ child. child == c.args.to) w.place.children) (sym c.self.view_is)
    ∙ ap (λ (xs : List ℕ). position (λ child. child == c.args.to) xs) (sym c.as_slice.ensures)
    ∙ sym c.place_in.ensures.place ∙ c.in-Some.is
