use Rattle.std.proofs.Common.{ℕ, replicate, take, ap, ◌∙◌}
use Rattle.std.proofs.lemmas.List.{take-replicate}
use Rattle.dpop_agent.proofs.best.best_of_few.Goals as goal

pub best_by-requires-clause-zeros : goal.best_by-requires-clause-zeros
best_by-requires-clause-zeros c =
    c.split_at_mut-costs.ensures.front ∙ ap (λ (n : ℕ). take n (replicate 32 0)) c.from.ensures ∙ take-replicate {X = ℕ} c.args.own.now.size 32 0 c.requires.few
