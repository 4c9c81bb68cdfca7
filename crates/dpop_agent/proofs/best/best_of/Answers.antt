use Rattle.std.proofs.Common.{ℕ, replicate, ap, ◌∙◌}
use Rattle.dpop_agent.proofs.best.best_of.Goals as goal

pub best_by-requires-clause-zeros : goal.best_by-requires-clause-zeros
best_by-requires-clause-zeros c =
    c.as_mut_slice.ensures.value ∙ c.in_ok-costs.ensures.items_if_clones_equal (λ y h. h) ∙ ap (λ (n : ℕ). replicate n 0) c.from-size.ensures
