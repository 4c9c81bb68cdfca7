-- The same ends at the same places.
use Rattle.std.proofs.Common.{◌≡◌, ℕ, ◌<◌, List, length, set, get_or, refl, ap, sym, ◌∙◌, subst, inl, inr, arith, length-set}
use Rattle.std.proofs.lemmas.Bool.{cases_eq}
use Rattle.std.proofs.lemmas.List.{get_or_default, get_or-set_same, get_or-set_other}
use Rattle.agent_cells.specs.Links.{Tail, Head, IsSameTail, IsSameHead, AreSameTails, AreSameHeads}

pub same_head : (h : Head) → IsSameHead h h
same_head h = record { peer = refl; end = ((refl, refl, refl, refl), refl) }

pub same_tail : (t : Tail) → IsSameTail t t
same_tail t = record { peer = refl; end = ((refl, refl, refl, refl), refl) }

pub head_then : (a b c : Head) → IsSameHead a b → IsSameHead b c → IsSameHead a c
head_then a b c s t = record {
  peer = t.peer ∙ s.peer;
  end = ((t.end.0.0 ∙ s.end.0.0, t.end.0.1 ∙ s.end.0.1, t.end.0.2 ∙ s.end.0.2, t.end.0.3 ∙ s.end.0.3), t.end.1 ∙ s.end.1);
}

pub tail_then : (a b c : Tail) → IsSameTail a b → IsSameTail b c → IsSameTail a c
tail_then a b c s t = record {
  peer = t.peer ∙ s.peer;
  end = ((t.end.0.0 ∙ s.end.0.0, t.end.0.1 ∙ s.end.0.1, t.end.0.2 ∙ s.end.0.2, t.end.0.3 ∙ s.end.0.3), t.end.1 ∙ s.end.1);
}

pub same_heads : (hs : List Head) → AreSameHeads hs hs
same_heads hs = record { size = refl; each = λ k d lt. same_head (get_or hs k d) }

pub same_tails : (ts : List Tail) → AreSameTails ts ts
same_tails ts = record { size = refl; each = λ k d lt. same_tail (get_or ts k d) }

pub heads_then : (xs ys zs : List Head) → AreSameHeads xs ys → AreSameHeads ys zs → AreSameHeads xs zs
heads_then xs ys zs s t = record {
  size = t.size ∙ s.size;
  each = λ k d (lt : k < length xs). let size : length ys ≡ length xs = s.size in head_then _ _ _ (s.each k d lt) (t.each k d (omega arith));
}

pub tails_then : (xs ys zs : List Tail) → AreSameTails xs ys → AreSameTails ys zs → AreSameTails xs zs
tails_then xs ys zs s t = record {
  size = t.size ∙ s.size;
  each = λ k d (lt : k < length xs). let size : length ys ≡ length xs = s.size in tail_then _ _ _ (s.each k d lt) (t.each k d (omega arith));
}

-- one end is written back
pub heads_set : (xs ys : List Head) (i : ℕ) (h after : Head) → AreSameHeads xs ys → i < length ys → IsSameHead (get_or ys i h) after → AreSameHeads xs (set ys i after)
heads_set xs ys i h after s inside same = heads_then xs ys (set ys i after) s (record {
  size = length-set ys i after;
  each = λ k d lt. elim (cases_eq k i) [
    | inl e ↦
        let there : get_or ys k d ≡ get_or ys i h = ap (λ n. get_or ys n d) e ∙ get_or_default ys i d h inside in
        let here : get_or (set ys i after) k d ≡ after = ap (λ n. get_or (set ys i after) n d) e ∙ get_or-set_same ys i after d inside in
        subst (λ (x : Head). IsSameHead x (get_or (set ys i after) k d)) (sym there) (subst (λ (x : Head). IsSameHead (get_or ys i h) x) (sym here) same)
    | inr ne ↦ subst (λ (x : Head). IsSameHead (get_or ys k d) x) (sym (get_or-set_other ys i k after d ne)) (same_head (get_or ys k d))
  ];
})

pub tails_set : (xs ys : List Tail) (i : ℕ) (t after : Tail) → AreSameTails xs ys → i < length ys → IsSameTail (get_or ys i t) after → AreSameTails xs (set ys i after)
tails_set xs ys i t after s inside same = tails_then xs ys (set ys i after) s (record {
  size = length-set ys i after;
  each = λ k d lt. elim (cases_eq k i) [
    | inl e ↦
        let there : get_or ys k d ≡ get_or ys i t = ap (λ n. get_or ys n d) e ∙ get_or_default ys i d t inside in
        let here : get_or (set ys i after) k d ≡ after = ap (λ n. get_or (set ys i after) n d) e ∙ get_or-set_same ys i after d inside in
        subst (λ (x : Tail). IsSameTail x (get_or (set ys i after) k d)) (sym there) (subst (λ (x : Tail). IsSameTail (get_or ys i t) x) (sym here) same)
    | inr ne ↦ subst (λ (x : Tail). IsSameTail (get_or ys k d) x) (sym (get_or-set_other ys i k after d ne)) (same_tail (get_or ys k d))
  ];
})
