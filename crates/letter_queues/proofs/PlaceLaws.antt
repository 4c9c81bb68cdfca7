-- The place of a sender among links whose senders ascend, and edits that keep the senders.
use Rattle.std.proofs.Common.{◌≡◌, ℕ, zero, suc, ◌<◌, ◌≤◌, Bool, true, cond, ◌==◌, nat_lt, List, [], ◌∷◌, length, map, get_or, Option, Some, None, Result, Ok, Err, refl, sym, ap, subst, ◌∙◌, inl, inr, arith}
use Rattle.std.specs.List.{position, slice_set}
use Rattle.std.specs.List.Sorted.{IsStrictlyIncreasing, IsSearchInRange, IsBinarySearchResult, IsNonDecreasingBy}
use Rattle.std.specs.Ordering.{nat_cmp, ordering_index}
use Rattle.std.specs.Result.{result_ok}
use Rattle.std.proofs.lemmas.Bool.{cases_eq, cases_lt, eq-eqb, ne_eqb, lt-ltb, le-ltb}
use Rattle.std.proofs.lemmas.Bool.Decides.{nat_tests}
use Rattle.std.proofs.lemmas.Cmp.{ranked}
use Rattle.std.proofs.lemmas.List.{length-map}
use Rattle.std.proofs.lemmas.List.Kept.{AllPairs-from_increasing}
use Rattle.std.proofs.lemmas.List.Sums.{position_or_len_is}
use Rattle.letter_queues.specs.Links.{LinkView, new_link}
use Rattle.letter_queues.specs.Inboxes.{senders}
use Rattle.letter_queues.proofs.LinkLaws.{is_from}

sender_at : (ls : List LinkView) (k : ℕ) (d : LinkView) → k < length ls → get_or (senders ls) k 0 ≡ (get_or ls k d).from
sender_at [] k d lt = absurd (omega (arith, lt))
sender_at (l ∷ ls) zero d lt = refl
sender_at (l ∷ ls) (suc k) d lt = sender_at ls k d (omega (arith, lt))

-- a later link has a greater sender
senders_rise : (ls : List LinkView) (i j : ℕ) (d : LinkView) → IsStrictlyIncreasing (senders ls) → i < j → j < length ls → (get_or ls i d).from < (get_or ls j d).from
senders_rise ls i j d up less inside =
    let size : length (senders ls) ≡ length ls = length-map ls (λ (l : LinkView). l.from) in
    let low = sender_at ls i d (omega (arith, less, inside)) in
    let high = sender_at ls j d inside in
    let rise = AllPairs-from_increasing (senders ls) up i j 0 less (omega (arith, size, inside)) in
    omega (arith, low, high, rise)

-- the comparisons with a sender rise along the links, as a binary search asks
comparisons_rise : (ls : List LinkView) (from : ℕ) → IsStrictlyIncreasing (senders ls) → IsNonDecreasingBy (λ l. ordering_index (nat_cmp l.from from)) ls
comparisons_rise ls from up i j d le inside = elim (cases_eq i j) [
  | inl same ↦ (let e : ordering_index (nat_cmp (get_or ls i d).from from) ≡ ordering_index (nat_cmp (get_or ls j d).from from) = ap (λ (k : ℕ). ordering_index (nat_cmp (get_or ls k d).from from)) same in omega (arith, e))
  | inr other ↦ (let rise = senders_rise ls i j d up (omega (arith, le, other)) inside in grind (arith, nat_tests, rise))
]

-- the first link of a sender
at_place : (ls : List LinkView) (from k : ℕ) (d : LinkView) → k < length ls → (get_or ls k d).from ≡ from → ((i : ℕ) → i < k → (get_or ls i d).from ≡ from → ⊥) → Some k ≡ position (λ l. l.from == from) ls
at_place ls from k d inside here before =
    let first = position_or_len_is (is_from from) ls k d (omega (arith, inside)) (λ i lt. ne_eqb (get_or ls i d).from from (before i lt)) (λ _. eq-eqb (get_or ls k d).from from here) in
    sym (ap (λ (n : ℕ). cond (nat_lt n (length ls)) (Some n) None) first ∙ ap (λ (b : Bool). cond b (Some k) None) (lt-ltb k (length ls) inside))

-- no link of a sender
no_place : (ls : List LinkView) (from : ℕ) (d : LinkView) → ((i : ℕ) → i < length ls → (get_or ls i d).from ≡ from → ⊥) → None ≡ position (λ l. l.from == from) ls
no_place ls from d none =
    let n = length ls in
    let past = position_or_len_is (is_from from) ls n d (omega arith) (λ i lt. ne_eqb (get_or ls i d).from from (none i lt)) (λ (lt : n < n). absurd (omega (arith, lt))) in
    sym (ap (λ (k : ℕ). cond (nat_lt k n) (Some k) None) past ∙ ap (λ (b : Bool). cond b (Some n) None) (le-ltb n n (omega arith)))

-- what a binary search finds among links whose senders ascend
pub searched : (ls : List LinkView) (from : ℕ) (r : Result ℕ ℕ) → IsStrictlyIncreasing (senders ls) → IsSearchInRange r (length ls) → IsBinarySearchResult (λ l. nat_cmp l.from from) ls r → result_ok r ≡ position (λ l. l.from == from) ls
searched ls from (Ok at) up inside equal =
    let d = new_link 0 in
    let here : (get_or ls at d).from ≡ from = ranked _ from _ (sym (equal d)) in
    at_place ls from at d inside here (λ i lt same. let rise = senders_rise ls i at d up lt inside in omega (arith, here, same, rise))
searched ls from (Err at) up inside parted =
    let d = new_link 0 in
    let parts = parted (comparisons_rise ls from up) in
    no_place ls from d (λ i lt same. elim (cases_lt i at) [
      | inl before ↦ (let less : (get_or ls i d).from < from = ranked _ from _ (sym (parts.0 i d (omega arith) before)) in omega (arith, same, less))
      | inr behind ↦ (let more : from < (get_or ls i d).from = ranked _ from _ (sym (parts.1 i d behind lt)) in omega (arith, same, more))
    ])

-- the senders of new links
pub new_senders : (js : List ℕ) → senders (map new_link js) ≡ js
new_senders [] = refl
new_senders (j ∷ js) = ap (λ (ns : List ℕ). j ∷ ns) (new_senders js)

-- a link that is replaced by one of the same sender
pub set_senders : (ls : List LinkView) (k : ℕ) (x d : LinkView) → x.from ≡ (get_or ls k d).from → senders (slice_set ls k x) ≡ senders ls
set_senders [] k x d same = refl
set_senders (l ∷ ls) zero x d same = ap (λ (n : ℕ). n ∷ senders ls) same
set_senders (l ∷ ls) (suc k) x d same = ap (λ (ns : List ℕ). l.from ∷ ns) (set_senders ls k x d same)
