-- One link more in the nodes of a plan.
use Rattle.std.proofs.Common.{◌≡◌, ℕ, zero, suc, ◌-◌, ◌<◌, ◌⊎◌, List, [], ◌∷◌, ◌++◌, length, get_or, Some, slice_get, slice_index_or, refl, sym, ap, subst, ◌∙◌, inl, inr, arith}
use Rattle.std.specs.List.{All, insert}
use Rattle.std.proofs.lemmas.Bool.{cases_eq, cases_lt}
use Rattle.std.proofs.lemmas.Option.{none-some, same_Some, slice_get_within, get_or_from_slice_get}
use Rattle.std.proofs.lemmas.List.Elements.{All-nil, All-cons, All-head, All-tail, All-append}
use Rattle.std.proofs.lemmas.List.{length-append, get_or_append_left, get_or-append_right, get_or-set_same, get_or-set_other}
use Rattle.protocol_steps.specs.declared.message.Message.{Message}
use Rattle.fifo_links.specs.declared.ends.LinkTail.{LinkTail}
use Rattle.fifo_links.specs.declared.ends.LinkHead.{LinkHead}
use Rattle.fifo_links.specs.Link.{AreEnds, sent_on, taken_from}
use Rattle.worker_laws.proofs.EachLaws.{there}
use Rattle.worker_laws.specs.Wires.{Wire}
use Rattle.link_records.specs.Differences.{IsLowerLink}
use Rattle.agent_cells.specs.Links.{Tail, Head}
use Rattle.agent_cells.specs.Settled.{StandsAt}
use Rattle.agent_links.specs.Links.{pushed}
use Rattle.tcp_links.specs.declared.plan.InnerEnds.{InnerEnds}
use Rattle.tcp_links.specs.declared.plan.NodePlan.{NodePlan}
use Rattle.link_records.specs.Left.{fresh_link}
use Rattle.tcp_links.specs.Plans.{BelongsAt, IsNewLink}
use Rattle.node_seats.specs.Links.{LeadsBetween, AllLead, AreLinksBefore}

-- what stands in a list with one element more at its end
pub stands_more : {A : Type 0} (xs : List A) (y x : A) (k : ℕ) → StandsAt (xs ++ y ∷ []) k x → StandsAt xs k x ⊎ (x ≡ y)
stands_more {A} xs y x k s =
    let long = length-append xs (y ∷ []) in
    let lt = s.inside in
    elim (cases_lt k (length xs)) [
      | inl low ↦ inl (record { inside = low; is = sym (get_or_append_left xs (y ∷ []) x k low) ∙ s.is })
      | inr high ↦
          let here : k - length xs ≡ 0 = omega (arith, lt, long, high) in
          inr (sym s.is ∙ get_or-append_right xs (y ∷ []) (length xs) k x refl high ∙ ap (λ (m : ℕ). get_or (y ∷ []) m x) here)
    ]

-- what stands in one of some lists, where one list has one element more at its end
stands_pushed : {A : Type 0} (rows : List (List A)) (at : ℕ) (y : A) (i k : ℕ) (x : A) → at < length rows → StandsAt (slice_index_or (pushed at y rows) i []) k x
    → StandsAt (slice_index_or rows i []) k x ⊎ ((i ≡ at) × (x ≡ y))
stands_pushed {A} rows at y i k x lt s = elim (cases_eq i at) [
  | inl e ↦
      let own : slice_index_or (pushed at y rows) i [] ≡ slice_index_or rows at [] ++ y ∷ [] = ap (λ (m : ℕ). get_or (pushed at y rows) m []) e ∙ get_or-set_same rows at (slice_index_or rows at [] ++ y ∷ []) [] lt in
      elim (stands_more (slice_index_or rows at []) y x k (subst (λ (xs : List A). StandsAt xs k x) own s)) [
        | inl old ↦ inl (subst (λ (m : ℕ). StandsAt (slice_index_or rows m []) k x) (sym e) old)
        | inr new ↦ inr (e, new)
      ]
  | inr ne ↦ inl (subst (λ (xs : List A). StandsAt xs k x) (get_or-set_other rows at i (slice_index_or rows at [] ++ y ∷ []) [] ne) s)
]

pub not_before : (v w : Wire) → IsLowerLink v w → v.sender ≡ w.sender → v.receiver ≡ w.receiver → ⊥
not_before v w b s r = elim b [
  | inl low ↦ omega (arith, low, s)
  | inr same ↦ let low = same.1 in omega (arith, low, r)
]

both_before : (v w : Wire) → IsLowerLink v w → IsLowerLink w v → ⊥
both_before v w a b = elim a [
  | inl low ↦ elim b [ inl high ↦ omega (arith, low, high) | inr same ↦ let e = same.0 in omega (arith, low, e) ]
  | inr same ↦ let e = same.0 in let low = same.1 in elim b [ inl high ↦ omega (arith, e, high) | inr other ↦ let high = other.1 in omega (arith, low, high) ]
]

pub then_before : (u v w : Wire) → IsLowerLink u v → IsLowerLink v w → IsLowerLink u w
then_before u v w a b = elim a [
  | inl low ↦ elim b [ inl high ↦ inl (omega (arith, low, high)) | inr same ↦ let e = same.0 in inl (omega (arith, low, e)) ]
  | inr same ↦ let e = same.0 in let low = same.1 in elim b [ inl high ↦ inl (omega (arith, e, high)) | inr other ↦ let f = other.0 in let high = other.1 in inr (e ∙ f, omega (arith, low, high)) ]
]

pub all_then : (ws : List Wire) (v w : Wire) → IsLowerLink v w → All (λ (u : Wire). IsLowerLink u v) ws → All (λ (u : Wire). IsLowerLink u w) ws
all_then [] v w later all = All-nil (λ (u : Wire). IsLowerLink u w)
all_then (x ∷ xs) v w later all =
    All-cons (λ (u : Wire). IsLowerLink u w) x xs (then_before x v w (All-head (λ (u : Wire). IsLowerLink u v) x xs all) later) (all_then xs v w later (All-tail (λ (u : Wire). IsLowerLink u v) x xs all))

-- what stands at a place of a list that is so throughout
pub all_at : {A : Type 0} (P : A → Type 0) (xs : List A) (i : ℕ) (x : A) → All P xs → slice_get xs i ≡ Some x → P x
all_at P xs i x all is = subst P (get_or_from_slice_get xs i x x is) (all i x (slice_get_within xs i x is))

pub last_at : {A : Type 0} (xs : List A) (y x : A) (k : ℕ) → slice_get (xs ++ y ∷ []) k ≡ Some x → (slice_get xs k ≡ Some x) ⊎ ((length xs ≡ k) × (y ≡ x))
last_at [] y x zero e = inr (refl, same_Some y x e)
last_at [] y x (suc k) e = absurd (none-some x e)
last_at (z ∷ zs) y x zero e = inl e
last_at (z ∷ zs) y x (suc k) e = elim (last_at zs y x k e) [ inl old ↦ inl old | inr new ↦ inr (ap suc new.0, new.1) ]

-- an element more at the end
insert_end : {A : Type 0} (xs : List A) (i : ℕ) (y : A) → i ≡ length xs → insert xs i y ≡ xs ++ y ∷ []
insert_end [] zero y e = refl
insert_end [] (suc i) y e = absurd (omega (arith, e))
insert_end (x ∷ xs) zero y e = absurd (omega (arith, e))
insert_end {A} (x ∷ xs) (suc i) y e = ap (λ (zs : List A). x ∷ zs) (insert_end xs i y (omega (arith, e)))

-- a link behind which none comes belongs at the end
end_place : (ws : List Wire) (from to place : ℕ) → BelongsAt ws from to place → All (λ (w : Wire). IsLowerLink w (fresh_link from to)) ws → place ≡ length ws
end_place ws from to place at all = elim (cases_lt place (length ws)) [
  | inl lt ↦
      let w = there ws place lt in
      absurd (both_before w.0 (fresh_link from to) (all_at (λ (v : Wire). IsLowerLink v (fresh_link from to)) ws place w.0 all w.1) (at.above place w.0 w.1 (omega arith)))
  | inr past ↦ let inside = at.inside in omega (arith, past, inside)
]

-- the links of a plan that has one more, behind which none comes
pub kept_end : {W : Type 0} (p q : NodePlan W) (from to : ℕ) (t : LinkTail (ℕ × Message)) (h : LinkHead (ℕ × Message)) → All (λ (w : Wire). IsLowerLink w (fresh_link from to)) p.kept.items → IsNewLink p from to t h q
    → q.kept.items ≡ p.kept.items ++ fresh_link from to ∷ []
kept_end p q from to t h before new = new.kept_is ∙ insert_end p.kept.items new.place (fresh_link from to) (end_place p.kept.items from to new.place new.at before)

module _ (tails : List (List Tail)) (heads : List (List Head)) (from to : ℕ) (t : LinkTail (ℕ × Message)) (h : LinkHead (ℕ × Message)) (in_tails : from < length tails) (in_heads : to < length heads) where
  -- a link that comes before the new one leads as before
  pub leads_still : (w : Wire) (e : InnerEnds) → IsLowerLink w (fresh_link from to) → LeadsBetween tails heads w e → LeadsBetween (pushed from (to, t) tails) (pushed to (from, h) heads) w e
  leads_still w e before l = record {
    drains = record {
      each = λ k x s is. elim (stands_pushed tails from (to, t) w.sender k x in_tails s) [
        | inl old ↦ l.drains.each k x old is
        | inr new ↦ absurd (not_before w (fresh_link from to) before new.0 (sym is ∙ ap (λ (p : Tail). p.0) new.1))
      ];
    };
    feeds = record {
      each = λ k x s is. elim (stands_pushed heads to (from, h) w.receiver k x in_heads s) [
        | inl old ↦ l.feeds.each k x old is
        | inr new ↦ absurd (not_before w (fresh_link from to) before (sym is ∙ ap (λ (p : Head). p.0) new.1) new.0)
      ];
    };
    unsent = l.unsent;
    untaken = l.untaken;
    unpassed = l.unpassed;
  }

  -- and so does the new one, where it leads from node to node
  pub leads_new : {W : Type 0} (p : NodePlan W) (e : InnerEnds) → AreLinksBefore p from to tails heads → AreEnds t e.drain → AreEnds e.feed h → sent_on e.feed ≡ [] → taken_from e.drain ≡ []
      → LeadsBetween (pushed from (to, t) tails) (pushed to (from, h) heads) (fresh_link from to) e
  leads_new p e before drains feeds unsent untaken = record {
    drains = record {
      each = λ k x s is. elim (stands_pushed tails from (to, t) from k x in_tails s) [
        | inl old ↦ absurd (not_before (fresh_link from x.0) (fresh_link from to) (before.at_tails from k x old) refl is)
        | inr new ↦ subst (λ (y : Tail). AreEnds y.1 e.drain) (sym new.1) drains
      ];
    };
    feeds = record {
      each = λ k x s is. elim (stands_pushed heads to (from, h) to k x in_heads s) [
        | inl old ↦ absurd (not_before (fresh_link x.0 to) (fresh_link from to) (before.at_heads to k x old) is refl)
        | inr new ↦ subst (λ (y : Head). AreEnds e.feed y.1) (sym new.1) feeds
      ];
    };
    unsent = unsent;
    untaken = untaken;
    unpassed = refl;
  }

  -- where the plan is as before, all of its links lead as before
  pub all_still : {W : Type 0} (p q : NodePlan W) → AreLinksBefore p from to tails heads → q.kept.items ≡ p.kept.items → q.ends.items ≡ p.ends.items → AllLead p tails heads
      → AllLead q (pushed from (to, t) tails) (pushed to (from, h) heads)
  all_still p q before kept ends all = record {
    each = λ k w e at_w at_e.
        let in_w = subst (λ (ws : List Wire). slice_get ws k ≡ Some w) kept at_w in
        let in_e = subst (λ (es : List InnerEnds). slice_get es k ≡ Some e) ends at_e in
        leads_still w e (all_at (λ (v : Wire). IsLowerLink v (fresh_link from to)) p.kept.items k w before.kept in_w) (all.each k w e in_w in_e);
  }

  -- and where it has the new link besides, all lead
  pub all_more : {W : Type 0} (p q : NodePlan W) → length p.ends.items ≡ length p.kept.items → AreLinksBefore p from to tails heads → IsNewLink p from to t h q → AllLead p tails heads
      → AllLead q (pushed from (to, t) tails) (pushed to (from, h) heads)
  all_more p q alike before new all =
      let end : new.place ≡ length p.kept.items = end_place p.kept.items from to new.place new.at before.kept in
      let kept : q.kept.items ≡ p.kept.items ++ fresh_link from to ∷ [] = kept_end p q from to t h before.kept new in
      let ends : q.ends.items ≡ p.ends.items ++ new.ends ∷ [] = new.ends_is ∙ insert_end p.ends.items new.place new.ends (end ∙ sym alike) in
      record {
        each = λ k w e at_w at_e. elim (last_at p.kept.items (fresh_link from to) w k (subst (λ (ws : List Wire). slice_get ws k ≡ Some w) kept at_w)) [
          | inl old_w ↦ let lt = slice_get_within p.kept.items k w old_w in elim (last_at p.ends.items new.ends e k (subst (λ (es : List InnerEnds). slice_get es k ≡ Some e) ends at_e)) [
            | inl old_e ↦ leads_still w e (all_at (λ (v : Wire). IsLowerLink v (fresh_link from to)) p.kept.items k w before.kept old_w) (all.each k w e old_w old_e)
            | inr new_e ↦ let long = new_e.0 in absurd (omega (arith, lt, long, alike))
          ]
          | inr new_w ↦ let long = new_w.0 in elim (last_at p.ends.items new.ends e k (subst (λ (es : List InnerEnds). slice_get es k ≡ Some e) ends at_e)) [
            | inl old_e ↦ let lt = slice_get_within p.ends.items k e old_e in absurd (omega (arith, lt, long, alike))
            | inr new_e ↦
                subst (λ (v : Wire). LeadsBetween (pushed from (to, t) tails) (pushed to (from, h) heads) v e) new_w.1
                (subst (λ (x : InnerEnds). LeadsBetween (pushed from (to, t) tails) (pushed to (from, h) heads) (fresh_link from to) x) new_e.1
                (leads_new p new.ends before new.drains new.feeds new.unsent.1 new.untaken.0))
          ]
        ];
      }

  -- all that came before the new link, and it itself, come before a later one
  pub come_before : {W : Type 0} (p q : NodePlan W) (from' to' : ℕ) → IsLowerLink (fresh_link from to) (fresh_link from' to') → AreLinksBefore p from to tails heads
      → (q.kept.items ≡ p.kept.items) ⊎ (q.kept.items ≡ p.kept.items ++ fresh_link from to ∷ []) → AreLinksBefore q from' to' (pushed from (to, t) tails) (pushed to (from, h) heads)
  come_before p q from' to' later before kept = record {
    kept = kept_before p q from' to' later before.kept kept;
    at_tails = λ i k x s. elim (stands_pushed tails from (to, t) i k x in_tails s) [
      | inl old ↦ then_before (fresh_link i x.0) (fresh_link from to) (fresh_link from' to') (before.at_tails i k x old) later
      | inr new ↦ subst (λ (m : ℕ). IsLowerLink (fresh_link m x.0) (fresh_link from' to')) (sym new.0)
          (subst (λ (y : Tail). IsLowerLink (fresh_link from y.0) (fresh_link from' to')) (sym new.1) later)
    ];
    at_heads = λ j k x s. elim (stands_pushed heads to (from, h) j k x in_heads s) [
      | inl old ↦ then_before (fresh_link x.0 j) (fresh_link from to) (fresh_link from' to') (before.at_heads j k x old) later
      | inr new ↦ subst (λ (m : ℕ). IsLowerLink (fresh_link x.0 m) (fresh_link from' to')) (sym new.0)
          (subst (λ (y : Head). IsLowerLink (fresh_link y.0 to) (fresh_link from' to')) (sym new.1) later)
    ];
  }
    where
      kept_before : {W : Type 0} (p q : NodePlan W) (from' to' : ℕ) → IsLowerLink (fresh_link from to) (fresh_link from' to') → All (λ (w : Wire). IsLowerLink w (fresh_link from to)) p.kept.items
          → (q.kept.items ≡ p.kept.items) ⊎ (q.kept.items ≡ p.kept.items ++ fresh_link from to ∷ []) → All (λ (w : Wire). IsLowerLink w (fresh_link from' to')) q.kept.items
      kept_before p q from' to' later all (inl same) = subst (λ (ws : List Wire). All (λ (w : Wire). IsLowerLink w (fresh_link from' to')) ws) (sym same) (all_then p.kept.items (fresh_link from to) (fresh_link from' to') later all)
      kept_before p q from' to' later all (inr more) = subst (λ (ws : List Wire). All (λ (w : Wire). IsLowerLink w (fresh_link from' to')) ws) (sym more)
          (All-append (λ (w : Wire). IsLowerLink w (fresh_link from' to')) p.kept.items (fresh_link from to ∷ []) (all_then p.kept.items (fresh_link from to) (fresh_link from' to') later all)
          (All-cons (λ (w : Wire). IsLowerLink w (fresh_link from' to')) (fresh_link from to) [] later (All-nil (λ (w : Wire). IsLowerLink w (fresh_link from' to')))))
