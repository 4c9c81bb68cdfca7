-- Links in order, by sender and then receiver: one link more at its place.
use Rattle.std.proofs.Common.{◌≡◌, ℕ, zero, suc, ◌<◌, ◌≤◌, ◌⊎◌, List, [], ◌∷◌, length, take, drop, Some, refl, sym, ap, subst, ◌∙◌, inl, inr, arith}
use Rattle.std.specs.List.{All, slice_get, insert}
use Rattle.std.proofs.lemmas.Bool.{cases_order}
use Rattle.std.proofs.lemmas.Option.{same_Some}
use Rattle.std.proofs.lemmas.List.Elements.{All-append, All-cons, All-take, All-drop}
use Rattle.worker_laws.proofs.EachLaws.{each_back}
use Rattle.worker_laws.specs.Wires.{Wire, AreApart, HasPassed, ArePassedOn}
use Rattle.link_records.specs.Differences.{IsLowerLink}
use Rattle.link_records.specs.Left.{fresh_link}
use Rattle.tcp_links.specs.Plans.{AreOrdered, BelongsAt}

-- what stands in a list with one element more at a place
insert_back : {A : Type 0} (xs : List A) (i : ℕ) (y : A) (k : ℕ) (b : A) → i ≤ length xs → slice_get (insert xs i y) k ≡ Some b
    → ((k < i) × (slice_get xs k ≡ Some b)) ⊎ (((k ≡ i) × (b ≡ y)) ⊎ ((j : ℕ) × (k ≡ suc j) × (i ≤ j) × (slice_get xs j ≡ Some b)))
insert_back xs zero y zero b le e = inr (inl (refl, sym (same_Some y b e)))
insert_back xs zero y (suc k) b le e = inr (inr (k, refl, omega arith, e))
insert_back [] (suc i) y k b le e = absurd (omega (arith, le))
insert_back (x ∷ xs) (suc i) y zero b le e = inl (omega arith, e)
insert_back (x ∷ xs) (suc i) y (suc k) b le e = elim (insert_back xs i y k b (omega (arith, le)) e) [
  | inl low ↦ inl ((let lt = low.0 in omega (arith, lt)), low.1)
  | inr (inl here) ↦ inr (inl (ap suc here.0, here.1))
  | inr (inr high) ↦ inr (inr (suc high.0, ap suc high.1, (let up = high.2 in omega (arith, up)), high.3))
]

-- each element is so, where one more is
pub all_insert : {A : Type 0} (P : A → Type 0) (xs : List A) (i : ℕ) (y : A) → All P xs → P y → All P (insert xs i y)
all_insert P xs i y all own = All-append P (take i xs) (y ∷ drop i xs) (All-take P i xs all) (All-cons P y (drop i xs) own (All-drop P i xs all))

not_before : (v w : Wire) → IsLowerLink v w → v.receiver ≡ w.receiver → v.sender ≡ w.sender → ⊥
not_before v w b r s = elim b [
  | inl low ↦ omega (arith, low, s)
  | inr same ↦ let low = same.1 in omega (arith, low, r)
]

-- links in order lead apart
pub apart_ordered : (ws : List Wire) → AreOrdered ws → AreApart ws
apart_ordered ws up k l v w e f r s = elim (cases_order k l) [
  | inl same ↦ same
  | inr (inl low) ↦ absurd (not_before v w (up k l v w e f low) r s)
  | inr (inr high) ↦ absurd (not_before w v (up l k w v f e high) (sym r) (sym s))
]

pub ordered_insert : (ws : List Wire) (from to place : ℕ) → AreOrdered ws → BelongsAt ws from to place → AreOrdered (insert ws place (fresh_link from to))
ordered_insert ws from to place up at k l v w e f lt =
    let n : Wire = fresh_link from to in
    elim (insert_back ws place n k v at.inside e) [
      | inl low ↦ elim (insert_back ws place n l w at.inside f) [
        | inl both ↦ up k l v w low.1 both.1 lt
        | inr (inl here) ↦ subst (λ (x : Wire). IsLowerLink v x) (sym here.1) (at.below k v low.1 low.0)
        | inr (inr high) ↦ let a = low.0 in let b = high.2 in up k high.0 v w low.1 high.3 (omega (arith, a, b))
      ]
      | inr (inl here) ↦ let is = here.0 in elim (insert_back ws place n l w at.inside f) [
        | inl low ↦ let a = low.0 in absurd (omega (arith, a, is, lt))
        | inr (inl same) ↦ let a = same.0 in absurd (omega (arith, a, is, lt))
        | inr (inr high) ↦ subst (λ (x : Wire). IsLowerLink x w) (sym here.1) (at.above high.0 w high.3 high.2)
      ]
      | inr (inr high) ↦ let is = high.1 in let past = high.2 in elim (insert_back ws place n l w at.inside f) [
        | inl low ↦ let a = low.0 in absurd (omega (arith, a, is, past, lt))
        | inr (inl same) ↦ let a = same.0 in absurd (omega (arith, a, is, past, lt))
        | inr (inr both) ↦ let a = both.1 in up high.0 both.0 v w high.3 both.3 (omega (arith, a, is, lt))
      ]
    ]

-- an exchange leaves links in their order
pub ordered_passed : (ws vs : List Wire) → ArePassedOn ws vs → AreOrdered ws → AreOrdered vs
ordered_passed ws vs passed up k l v w e f lt =
    let a = each_back HasPassed ws vs passed k v e in
    let b = each_back HasPassed ws vs passed l w f in
    elim (up k l a.0 b.0 a.1 b.1 lt) [
      | inl low ↦ let s = a.2.sender in let t = b.2.sender in inl (omega (arith, low, s, t))
      | inr same ↦ let low = same.1 in let s = a.2.receiver in let t = b.2.receiver in inr (a.2.sender ∙ same.0 ∙ sym b.2.sender, omega (arith, low, s, t))
    ]
