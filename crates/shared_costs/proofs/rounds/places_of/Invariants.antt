use Rattle.std.proofs.Common.{◌≡◌, ◌<◌, length, vec_len}
use Rattle.std.specs.List.{All}
use Rattle.shared_costs.proofs.rounds.places_of.Given as goal

abbrev pub invariant-loop : goal.invariant-loop
invariant-loop l = record {
  many : vec_len l.lists ≡ l.counter;
  places : All (λ list. All (λ k. k < length l.tables) list.items) l.lists.items;
}

abbrev pub invariant-loop-place : goal.invariant-loop-place
invariant-loop-place l = record {
  many : vec_len l.lists ≡ l.variables;
  places : All (λ list. All (λ k. k < length l.tables) list.items) l.lists.items;
}
