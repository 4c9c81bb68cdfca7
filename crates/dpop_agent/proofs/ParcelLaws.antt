-- Values for the children, one kept table after the other.
use Rattle.std.proofs.Common.{◌≡◌, ℕ, ◌+◌, ◌<◌, ◌&&◌, Bool, true, ltb, eqb, List, [], ◌∷◌, ◌++◌, map, length, drop, get_or, Option, Some, None, refl, sym, ap, ap₂, subst, ◌∙◌, inl, inr, arith}
use Rattle.std.specs.List.{All, flat_map, list_all, zip}
use Rattle.std.proofs.lemmas.Bool.{cond_both, and_from, and_parts, lt-ltb, ltb-true, or_cases, eqb-true, true≢false}
use Rattle.std.proofs.lemmas.List.{drop_more}
use Rattle.std.proofs.lemmas.List.Elements.{All-nil, All-cons, All-head, All-tail}
use Rattle.dcop_base.specs.Table.{CostTable, has}
use Rattle.dcop_base.specs.Values.{with_own}
use Rattle.dcop_base.specs.Limits.{variable_limit, size_limit}
use Rattle.adopt_context.specs.Context.{Context, value_in, or_zero}
use Rattle.protocol_steps.specs.declared.message.Message.{Message}
use Rattle.protocol_steps.specs.declared.message.Message.TheVariants.{ValueAll}
use Rattle.protocol_steps.specs.Ranges.{IsContext}
use Rattle.protocol_steps.specs.Values.{valued, context_of}
use Rattle.protocol_steps.specs.Dpop.{there}
use Rattle.protocol_steps.proofs.ValueLaws.{all-context_of}

-- VALUE for each of these children whose table is kept
abbrev pub values_sent : (ℕ → ℕ) → List ℕ → List (Option CostTable) → List (ℕ × Message)
values_sent value children kept =
    flat_map (λ (kept : ℕ × Option CostTable). map (λ (t : CostTable). (kept.0, ValueAll (context_of t.scope value))) (there kept.1)) (zip children kept)

joined_up : (xs : List (ℕ × Message)) (p : ℕ × Message) (rest : List (ℕ × Message)) → (xs ++ (p ∷ [])) ++ rest ≡ xs ++ (p ∷ rest)
joined_up [] p rest = refl
joined_up (x ∷ xs) p rest = ap (λ (ys : List (ℕ × Message)). x ∷ ys) (joined_up xs p rest)

-- the next child
module _ (value : ℕ → ℕ) (children : List ℕ) (kept : List (Option CostTable)) (k : ℕ) (e : Option CostTable) (old whole : List (ℕ × Message)) (lt : k < length children) (inside : k < length kept) (is : e ≡ get_or kept k e) (before : old ++ values_sent value (drop k children) (drop k kept) ≡ whole) where
  sent_next : (child : ℕ) → values_sent value (drop k children) (drop k kept)
      ≡ map (λ (t : CostTable). (get_or children k child, ValueAll (context_of t.scope value))) (there e) ++ values_sent value (drop (k + 1) children) (drop (k + 1) kept)
  sent_next child =
      ap₂ (λ (cs : List ℕ) (es : List (Option CostTable)). values_sent value cs es) (drop_more children k child lt) (drop_more kept k e inside)
      ∙ ap (λ (o : Option CostTable). map (λ (t : CostTable). (get_or children k child, ValueAll (context_of t.scope value))) (there o) ++ values_sent value (drop (k + 1) children) (drop (k + 1) kept)) (sym is)

  pub tell_child : (child : ℕ) (t : CostTable) (scope : List ℕ) (p : ℕ × Message) (parcels : List (ℕ × Message)) → child ≡ get_or children k child → e ≡ Some t → scope ≡ t.scope → p ≡ (child, ValueAll (context_of scope value)) → parcels ≡ old ++ (p ∷ [])
      → parcels ++ values_sent value (drop (k + 1) children) (drop (k + 1) kept) ≡ whole
  tell_child child t scope p parcels at some same tells more =
      let rest : List (ℕ × Message) = values_sent value (drop (k + 1) children) (drop (k + 1) kept) in
      let here : p ≡ (get_or children k child, ValueAll (context_of t.scope value)) =
      tells ∙ ap₂ (λ (c : ℕ) (vs : List ℕ). let q : ℕ × Message = (c, ValueAll (context_of vs value)) in q) at same in
      let next = sent_next child ∙ ap (λ (o : Option CostTable). map (λ (t : CostTable). (get_or children k child, ValueAll (context_of t.scope value))) (there o) ++ rest) some in
      ap (λ (ps : List (ℕ × Message)). ps ++ rest) more ∙ joined_up old p rest ∙ ap (λ (q : ℕ × Message). old ++ (q ∷ rest)) here ∙ ap (λ (ps : List (ℕ × Message)). old ++ ps) (sym next) ∙ before

  pub tell_none : (parcels : List (ℕ × Message)) → e ≡ None → parcels ≡ old → parcels ++ values_sent value (drop (k + 1) children) (drop (k + 1) kept) ≡ whole
  tell_none parcels none same =
      let rest : List (ℕ × Message) = values_sent value (drop (k + 1) children) (drop (k + 1) kept) in
      let next = sent_next 0 ∙ ap (λ (o : Option CostTable). map (λ (t : CostTable). (get_or children k 0, ValueAll (context_of t.scope value))) (there o) ++ rest) none in
      ap (λ (ps : List (ℕ × Message)). ps ++ rest) same ∙ ap (λ (ps : List (ℕ × Message)). old ++ ps) (sym next) ∙ before

-- the values of variables that a message may name
valued_small : (c : Context) (u : ℕ) → IsContext c → valued c u < size_limit
valued_small [] u is = omega arith
valued_small (p ∷ ps) u is =
    let here = (All-head (λ (p : ℕ × ℕ). (p.0 < variable_limit) × (p.1 < size_limit)) p ps is).1 in
    let rest = valued_small ps u (All-tail (λ (p : ℕ × ℕ). (p.0 < variable_limit) × (p.1 < size_limit)) p ps is) in
    cond_both (eqb p.0 u) (Some p.1) (value_in ps u) (λ (o : Option ℕ). or_zero o < size_limit) (λ _. here) (λ _. rest)

abbrev small_test : ℕ × ℕ → Bool
small_test p = ltb p.0 variable_limit && ltb p.1 size_limit

from_tests : (c : Context) → list_all small_test c ≡ true → IsContext c
from_tests [] h = All-nil (λ (p : ℕ × ℕ). (p.0 < variable_limit) × (p.1 < size_limit))
from_tests (p ∷ ps) h =
    let parts = and_parts (small_test p) (list_all small_test ps) h in
    let both = and_parts (ltb p.0 variable_limit) (ltb p.1 size_limit) parts.0 in
    All-cons (λ (p : ℕ × ℕ). (p.0 < variable_limit) × (p.1 < size_limit)) p ps (ltb-true p.0 variable_limit both.0, ltb-true p.1 size_limit both.1) (from_tests ps parts.1)

had : (P : ℕ → Type 0) (xs : List ℕ) (u : ℕ) → All P xs → has xs u ≡ true → P u
had P [] u all h = absurd (true≢false (sym h))
had P (x ∷ xs) u all h = elim (or_cases (eqb x u) (has xs u) h) [
  | inl here ↦ subst P (eqb-true x u here) (All-head P x xs all)
  | inr later ↦ had P xs u (All-tail P x xs all) later
]

-- what a child is told is within its range
pub told_in_range : (scope : List ℕ) (me best : ℕ) (values c : Context) → c ≡ context_of scope (with_own me best (valued values)) → All (λ u. u < variable_limit) scope → best < size_limit → IsContext values → IsContext c
told_in_range scope me best values c e below small range =
    subst IsContext (sym e)
    (from_tests (context_of scope (with_own me best (valued values)))
    (all-context_of small_test scope (with_own me best (valued values)) (λ u there.
    let low = had (λ u. u < variable_limit) scope u below there in
    let value : with_own me best (valued values) u < size_limit = cond_both (eqb u me) best (valued values u) (λ (x : ℕ). x < size_limit) (λ _. small) (λ _. valued_small values u range) in
    and_from (ltb u variable_limit) (ltb (with_own me best (valued values) u) size_limit) (lt-ltb u variable_limit low) (lt-ltb (with_own me best (valued values) u) size_limit value))))
