-- How a run ends in which a message is pending until all agents have ended.
use Rattle.std.proofs.Common.{◌≡◌, ℕ, suc, ◌+◌, ◌<◌, ◌≤◌, true, false, List, [], ◌∷◌, map, length, Some, refl, sym, ap, ◌∙◌, arith}
use Rattle.std.specs.List.{range_with_len, slice_get}
use Rattle.std.proofs.lemmas.Bool.{true≢false}
use Rattle.std.proofs.lemmas.Option.{same_Some}
use Rattle.protocol_steps.specs.declared.run_end.RunEnd.{RunEnd}
use Rattle.protocol_steps.specs.declared.run_end.RunEnd.TheVariants.{AllEnded, Spent, Still}
use Rattle.protocol_steps.specs.Network.{Network}
use Rattle.protocol_steps.specs.Effect.{SomePending, has_ended, deliveries}
use Rattle.protocol_steps.specs.RunEnds.{IsRunEnd}

module _ (budget : ℕ) (end : Network) (pends : has_ended end ≡ false → SomePending end) where
  -- agents that have not ended have spent the budget
  pub run-spent : (how : RunEnd) → IsRunEnd budget end how → has_ended end ≡ false → budget ≤ deliveries end
  run-spent (AllEnded n) is runs = absurd (true≢false (sym is.1 ∙ runs))
  run-spent (Spent n) is runs = is.2
  run-spent (Still n) is runs = let some = pends runs in absurd (some.some (is.3 some.to some.from))

  -- so those that take fewer messages until all have ended have all ended
  pub run-ended : (how : RunEnd) → IsRunEnd budget end how → (has_ended end ≡ false → deliveries end < budget) → has_ended end ≡ true
  run-ended (AllEnded n) is early = is.1
  run-ended (Spent n) is early = let few = early is.1 in let all = is.2 in absurd (omega (arith, few, all))
  run-ended (Still n) is early = let some = pends is.1 in absurd (some.some (is.3 some.to some.from))

-- a list with these elements
same-from : {X : Type 0} (xs : List X) (f : ℕ → X) (s : ℕ) → ((i : ℕ) → i < length xs → slice_get xs i ≡ Some (f (s + i))) → xs ≡ map f (range_with_len s (length xs))
same-from [] f s same = refl
same-from {X} (x ∷ xs) f s same =
    let here : x ≡ f s = same_Some x (f s) (same 0 (omega arith) ∙ ap (λ (k : ℕ). Some (f k)) (let e : s + 0 ≡ s = omega arith in e)) in
    let rest : xs ≡ map f (range_with_len (s + 1) (length xs)) = same-from xs f (s + 1) (λ i lt. same (suc i) (omega (arith, lt)) ∙ ap (λ (k : ℕ). Some (f k)) (let e : s + suc i ≡ s + 1 + i = omega arith in e)) in
    ap (λ (y : X). y ∷ xs) here ∙ ap (λ (ys : List X). f s ∷ ys) rest

pub same-by : {X : Type 0} (xs : List X) (f : ℕ → X) (n : ℕ) → length xs ≡ n → ((i : ℕ) → i < n → slice_get xs i ≡ Some (f i)) → xs ≡ map f (range_with_len 0 n)
same-by xs f n size same =
    same-from xs f 0 (λ i lt. same i (omega (arith, lt, size)) ∙ ap (λ (k : ℕ). Some (f k)) (let e : i ≡ 0 + i = omega arith in e))
    ∙ ap (λ (k : ℕ). map f (range_with_len 0 k)) size
