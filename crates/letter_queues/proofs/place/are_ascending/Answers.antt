use Rattle.std.proofs.Common.{ℕ, nat_lt, sym, rules}
use Rattle.std.proofs.lemmas.Bool.{MatchBool-at_true, ltb-true}
use Rattle.std.proofs.lemmas.List.Sorted.{answers_always}
use Rattle.letter_queues.proofs.place.are_ascending.Goals as goal

-- the closure compares two senders
pub returns : goal.returns
returns c =
    let cases = c.is_sorted_by.ensures.cases (λ (x y : ℕ). nat_lt x y) (answers_always _ _ _ (λ f a r g called. search rules)) in
    λ yes k inside. ltb-true _ _ (sym (MatchBool-at_true _ _ yes cases k 0 inside))
