use Rattle.std.proofs.Common.{ℕ, ◌<◌}
use Rattle.std.specs.List.{All}
use Rattle.shared_costs.proofs.rounds.push_place.Given as goal

abbrev pub invariant-loop-var : goal.invariant-loop-var
invariant-loop-var l =
    (count : ℕ) → l.place < count → All (λ list. All (λ k. k < count) list.items) l.fn.lists → All (λ list. All (λ k. k < count) list.items) l.lists
