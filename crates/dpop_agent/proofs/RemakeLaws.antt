-- The tables that the children sent, as tables that an agent keeps.
use Rattle.std.proofs.Common.{◌≡◌, ℕ, ◌+◌, ◌<◌, Bool, true, false, cond, eqb, ◌||◌, List, [], ◌∷◌, ◌++◌, map, length, drop, get_or, Option, Some, None, refl, sym, ap, ap₂, subst, ◌∙◌}
use Rattle.std.specs.List.{All, concat, filter, flat_map, list_any}
use Rattle.std.proofs.lemmas.List.{length-map, get_or-map, get_or_default, append_assoc, drop_more}
use Rattle.std.proofs.lemmas.List.Elements.{All-map}
use Rattle.std.proofs.lemmas.List.Folds.{list_any-append}
use Rattle.dcop_base.specs.Table.{CostTable, IsTable, has, product}
use Rattle.dcop_base.proofs.TableLaws.{parts-of}
use Rattle.dcop_base.specs.declared.knowledge.Private.{Private}
use Rattle.pseudotree.specs.declared.agent.Place.{Place}
use Rattle.protocol_steps.specs.Dpop.{there, separator_with}
use Rattle.dpop_agent.specs.declared.made.Made.{Made}
use Rattle.dpop_agent.specs.Keeping.{keeping, MayKeep}
use Rattle.dpop_agent.specs.Joint.{IsJoint, over_of}
use Rattle.dpop_agent.specs.Sound.{IsKeeper}
use Rattle.dpop_agent.specs.Remade.{MayRemake, joined_count, sent_by, sent_at, sent_of, with_sent}
use Rattle.dpop_agent.proofs.OverLaws.{over_count}

-- what was made for the children makes a keeper of their tables
pub sent_keeper : (own : Private) (place : Place) (kept : List (Option Made)) → MayRemake own place kept → IsKeeper own place (sent_of kept place.children)
sent_keeper own place kept may = record {
  known = may.known;
  placed = may.placed;
  counted = length-map place.children (sent_at kept);
  tables = All-map (MayKeep own place) (sent_at kept) place.children may.tables;
}

-- the scopes of these tables, one after the other
abbrev pub named_in_all : List (Option CostTable) → List ℕ
named_in_all sent = concat (map (λ (t : CostTable). t.scope) (flat_map there sent))

or_no : (b : Bool) → (b || false) ≡ b
or_no true = refl
or_no false = refl

-- a variable stands in some scope where it stands in all of them together
in_some : (ss : List (List ℕ)) (u : ℕ) → has (concat ss) u ≡ list_any (λ (s : List ℕ). has s u) ss
in_some [] u = refl
in_some (s ∷ ss) u = list_any-append (λ (y : ℕ). eqb y u) s (concat ss) ∙ ap (λ (b : Bool). has s u || b) (in_some ss u)

filter_by : (p q : ℕ → Bool) → ((u : ℕ) → p u ≡ q u) → (xs : List ℕ) → filter p xs ≡ filter q xs
filter_by p q same [] = refl
filter_by p q same (x ∷ xs) = ap₂ (λ (b : Bool) (ys : List ℕ). cond b (x ∷ ys) ys) (same x) (filter_by p q same xs)

-- the variables of the joined table, by all scopes together
pub over_sent : (own : Private) (place : Place) (kept : List (Option Made)) (named over : List ℕ) → named ≡ named_in_all (sent_of kept place.children) → over ≡ separator_with (keeping own place []) (named ∷ []) ++ (own.me ∷ []) → over ≡ over_of (with_sent own place kept)
over_sent own place kept named over all is =
    let ss : List (List ℕ) = map (λ (t : CostTable). t.scope) (flat_map there (sent_of kept place.children)) in
    is ∙ ap (λ (vs : List ℕ). separator_with (keeping own place []) (vs ∷ []) ++ (own.me ∷ [])) all
    ∙ ap (λ (us : List ℕ). us ++ (own.me ∷ []))
    (filter_by (λ (u : ℕ). has own.neighbours u || list_any (λ (s : List ℕ). has s u) (concat ss ∷ [])) (λ (u : ℕ). has own.neighbours u || list_any (λ (s : List ℕ). has s u) ss)
    (λ u. ap (λ (b : Bool). has own.neighbours u || b) (or_no (has (concat ss) u) ∙ in_some ss u)) place.path)

-- the next child
module _ (kept : List (Option Made)) (children : List ℕ) (k child raw : ℕ) (e : Option Made) (lt : k < length children) (is : child ≡ get_or children k child) (all : All (λ u. u < length kept) children) (view : raw ≡ child) (read : e ≡ get_or kept raw e) where
  inside : child < length kept
  inside = subst (λ (u : ℕ). u < length kept) (sym is) (all k child lt)

  found : e ≡ get_or kept child e
  found = read ∙ ap (λ (u : ℕ). get_or kept u e) view

  at_child : sent_at kept child ≡ sent_by e
  at_child = ap sent_by (get_or_default kept child None e inside ∙ sym found)

  pub sent_next : sent_by e ≡ get_or (sent_of kept children) k (sent_by e)
  sent_next = sym (get_or-map (sent_at kept) children k child (sent_by e) lt ∙ ap (λ (u : ℕ). sent_at kept u) (sym is) ∙ at_child)

  named_next : named_in_all (sent_of kept (drop k children)) ≡ concat (map (λ (t : CostTable). t.scope) (there (sent_by e) ++ flat_map there (sent_of kept (drop (k + 1) children))))
  named_next =
      ap (λ (us : List ℕ). named_in_all (sent_of kept us)) (drop_more children k child lt)
      ∙ ap (λ (u : ℕ). named_in_all (sent_at kept u ∷ sent_of kept (drop (k + 1) children))) (sym is)
      ∙ ap (λ (o : Option CostTable). named_in_all (o ∷ sent_of kept (drop (k + 1) children))) at_child

  pub names_more : (made : Made) (old more whole : List ℕ) → e ≡ Some made → more ≡ old ++ made.sent.scope → old ++ named_in_all (sent_of kept (drop k children)) ≡ whole → more ++ named_in_all (sent_of kept (drop (k + 1) children)) ≡ whole
  names_more made old more whole some adds before =
      let rest = named_in_all (sent_of kept (drop (k + 1) children)) in
      let next = named_next ∙ ap (λ (o : Option Made). concat (map (λ (t : CostTable). t.scope) (there (sent_by o) ++ flat_map there (sent_of kept (drop (k + 1) children))))) some in
      ap (λ (us : List ℕ). us ++ rest) adds ∙ append_assoc old made.sent.scope rest ∙ ap (λ (us : List ℕ). old ++ us) (sym next) ∙ before

  pub names_none : (old more whole : List ℕ) → e ≡ None → more ≡ old → old ++ named_in_all (sent_of kept (drop k children)) ≡ whole → more ++ named_in_all (sent_of kept (drop (k + 1) children)) ≡ whole
  names_none old more whole none same before =
      let rest = named_in_all (sent_of kept (drop (k + 1) children)) in
      let next = named_next ∙ ap (λ (o : Option Made). concat (map (λ (t : CostTable). t.scope) (there (sent_by o) ++ flat_map there (sent_of kept (drop (k + 1) children))))) none in
      ap (λ (us : List ℕ). us ++ rest) same ∙ ap (λ (us : List ℕ). old ++ us) (sym next) ∙ before

-- as many tables as children
pub sent_lt : (kept : List (Option Made)) (children : List ℕ) (k : ℕ) → k < length children → k < length (sent_of kept children)
sent_lt kept children k lt = subst (λ (n : ℕ). k < n) (sym (length-map children (sent_at kept))) lt

-- the joined table has as many cells as are counted
pub counts : (own : Private) (place : Place) (kept : List (Option Made)) → MayRemake own place kept → (t : CostTable) → IsTable t → IsJoint (with_sent own place kept) t → length t.cells ≡ joined_count (with_sent own place kept)
counts own place kept may t whole joint =
    (parts-of t.scope t.sizes t.cells whole).full ∙ ap product joint.same_sizes ∙ over_count own place (sent_of kept place.children) (sent_keeper own place kept may)
