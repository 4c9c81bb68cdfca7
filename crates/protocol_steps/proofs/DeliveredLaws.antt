-- What was delivered in a network, and whether all its agents pass a test.
use Rattle.std.proofs.Common.{◌≡◌, ℕ, zero, suc, ◌<◌, Bool, true, List, [], ◌∷◌, length, Some, refl, sym, ap, subst, ◌∙◌, arith}
use Rattle.std.specs.List.{count_by, flat_map, range_with_len, list_all, slice_get}
use Rattle.std.proofs.lemmas.Bool.{and_parts, and_from}
use Rattle.std.proofs.lemmas.Option.{none-some, same_Some}
use Rattle.protocol_steps.specs.declared.message.Message.{Message}
use Rattle.protocol_steps.specs.Network.{Network}
use Rattle.protocol_steps.specs.Delivered.{taken_on, delivered}
use Rattle.protocol_steps.proofs.TallyLaws.{tally, tally_same, count-flat}

-- how many messages pass a test, of all that were taken
abbrev pub total : (Message → Bool) → ℕ → (ℕ → ℕ → List Message) → ℕ
total test n past = tally (λ i. tally (λ j. count_by test (past i j)) n) n

-- the delivered messages that pass a test
pub delivered_are : (n : ℕ) (net : Network) (past : ℕ → ℕ → List Message) → length net.desks ≡ n → ((i j : ℕ) → i < n → j < n → taken_on net.desks i j ≡ past i j)
    → (test : Message → Bool) → count_by test (delivered net) ≡ total test n past
delivered_are n net past size taken test =
    ap (λ (m : ℕ). count_by test (flat_map (λ i. flat_map (λ j. taken_on net.desks i j) (range_with_len 0 m)) (range_with_len 0 m))) size
    ∙ count-flat test (λ i. flat_map (λ j. taken_on net.desks i j) (range_with_len 0 n)) n
    ∙ tally_same (λ i. count_by test (flat_map (λ j. taken_on net.desks i j) (range_with_len 0 n))) (λ i. tally (λ j. count_by test (past i j)) n) n
    (λ i lt. count-flat test (λ j. taken_on net.desks i j) n
    ∙ tally_same (λ j. count_by test (taken_on net.desks i j)) (λ j. count_by test (past i j)) n (λ j known. ap (λ (ms : List Message). count_by test ms) (taken i j lt known)))

module _ {X : Type 0} (test : X → Bool) where
  -- each element passes
  pub all_pass : (xs : List X) → ((i : ℕ) → i < length xs → (x : X) × (slice_get xs i ≡ Some x) × (test x ≡ true)) → list_all test xs ≡ true
  all_pass [] h = refl
  all_pass (x ∷ xs) h =
      let first = h 0 (omega arith) in
      and_from (test x) (list_all test xs) (subst (λ (y : X). test y ≡ true) (sym (same_Some x first.0 first.1)) first.2)
      (all_pass xs (λ i lt. h (suc i) (omega (arith, lt))))

  pub one_passes : (xs : List X) (i : ℕ) (x : X) → list_all test xs ≡ true → slice_get xs i ≡ Some x → test x ≡ true
  one_passes [] i x h e = absurd (none-some x e)
  one_passes (y ∷ ys) zero x h e = subst (λ (z : X). test z ≡ true) (same_Some y x e) (and_parts (test y) (list_all test ys) h).0
  one_passes (y ∷ ys) (suc i) x h e = one_passes ys i x (and_parts (test y) (list_all test ys) h).1 e
