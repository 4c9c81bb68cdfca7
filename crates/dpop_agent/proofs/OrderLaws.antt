-- Variables that stand in a path in the path's order, found from both ends.
use Rattle.std.proofs.Common.{◌≡◌, ℕ, Bool, true, false, cond, eqb, ◌&&◌, ◌||◌, List, [], ◌∷◌, ◌++◌, length, refl, sym, ap, subst, ◌∙◌, inl, inr, arith}
use Rattle.std.specs.List.{filter}
use Rattle.std.specs.Cmp.Lexicographic.{pointwise}
use Rattle.std.proofs.lemmas.Bool.{and_right, both_ways, cases_Bool, eq-eqb, eqb-true, false_from_ne_true, or_from, or_left, or_parts, or_right}
use Rattle.std.proofs.lemmas.List.{append-nil}
use Rattle.std.proofs.lemmas.List.Elements.{filter-append}
use Rattle.dcop_base.specs.Table.{has, has_repeat}
use Rattle.dcop_base.proofs.FaultLaws.{pointwise-true}
use Rattle.pseudotree.proofs.NestLaws.{has_filter}
use Rattle.dpop_agent.proofs.MarkLaws.{filter_same}
use Rattle.dpop_agent.proofs.OverLaws.{all_had, has_end}

and_true : (b : Bool) → (b && true) ≡ b
and_true true = refl
and_true false = refl

or_false : (b : Bool) → (b || false) ≡ b
or_false true = refl
or_false false = refl

and_turned : (a b c : Bool) → (a && (b && c)) ≡ ((a && b) && c)
and_turned true b c = refl
and_turned false b c = refl

-- two numbers that differ differ the other way round
pub differ_turned : (a b : ℕ) → eqb a b ≡ false → eqb b a ≡ false
differ_turned a b h = false_from_ne_true (eqb b a) (λ same. both_ways (eqb a b) h (eq-eqb a b (sym (eqb-true b a same))))

end_longer : (ys : List ℕ) (y : ℕ) → pointwise eqb [] (ys ++ (y ∷ [])) ≡ false
end_longer [] y = refl
end_longer (b ∷ ys) y = refl

end_shorter : (xs : List ℕ) (x : ℕ) → pointwise eqb (xs ++ (x ∷ [])) [] ≡ false
end_shorter [] x = refl
end_shorter (a ∷ xs) x = refl

-- lists with one more at the end of each
pub pointwise_end : (xs ys : List ℕ) (x y : ℕ) → pointwise eqb (xs ++ (x ∷ [])) (ys ++ (y ∷ [])) ≡ (pointwise eqb xs ys && eqb x y)
pointwise_end [] [] x y = and_true (eqb x y)
pointwise_end [] (b ∷ ys) x y = and_right (eqb x b) (pointwise eqb [] (ys ++ (y ∷ []))) (end_longer ys y)
pointwise_end (a ∷ xs) [] x y = and_right (eqb a y) (pointwise eqb (xs ++ (x ∷ [])) []) (end_shorter xs x)
pointwise_end (a ∷ xs) (b ∷ ys) x y = ap (λ (t : Bool). eqb a b && t) (pointwise_end xs ys x y) ∙ and_turned (eqb a b) (pointwise eqb xs ys) (eqb x y)

-- distinct numbers with one at the end: the others are distinct, and it is none of them
pub apart_before : (xs : List ℕ) (m : ℕ) → has_repeat (xs ++ (m ∷ [])) ≡ false → (has_repeat xs ≡ false) × (has xs m ≡ false)
apart_before [] m h = (refl, refl)
apart_before (x ∷ xs) m h =
    let parts = or_parts (has (xs ++ (m ∷ [])) x) (has_repeat (xs ++ (m ∷ []))) h in
    let rest = apart_before xs m parts.1 in
    let ends = or_parts (has xs x) (eqb m x || false) (sym (has_end xs m x) ∙ parts.0) in
    let other = or_parts (eqb m x) false ends.1 in
    (or_from (has xs x) (has_repeat xs) ends.0 rest.0, or_from (eqb x m) (has xs m) (differ_turned m x other.0) rest.1)

-- to stand among numbers with one at the end that is another one
pub has_before : (xs : List ℕ) (m u : ℕ) → eqb m u ≡ false → has (xs ++ (m ∷ [])) u ≡ has xs u
has_before xs m u other = has_end xs m u ∙ ap (λ (b : Bool). has xs u || (b || false)) other ∙ or_false (has xs u)

has_last : (xs : List ℕ) (m : ℕ) → has (xs ++ (m ∷ [])) m ≡ true
has_last xs m = has_end xs m m ∙ or_right (has xs m) (eqb m m || false) (or_left (eqb m m) false (eq-eqb m m refl))

-- a number that stands in a list where another one does not is another one
stands_apart : (xs : List ℕ) (m u : ℕ) → has xs m ≡ false → has xs u ≡ true → eqb m u ≡ false
stands_apart xs m u none there = false_from_ne_true (eqb m u) (λ same. both_ways (has xs m) none (subst (λ (w : ℕ). has xs w ≡ true) (sym (eqb-true m u same)) there))

-- to be kept with one more that does not stand in the list changes nothing
pub kept_without : (path before : List ℕ) (m : ℕ) → has path m ≡ false → filter (has (before ++ (m ∷ []))) path ≡ filter (has before) path
kept_without path before m none =
    filter_same (has (before ++ (m ∷ []))) (has before) path
    (all_had (λ (u : ℕ). has (before ++ (m ∷ [])) u ≡ has before u) path (λ u there. has_before before m u (stands_apart path m u none there)))

-- the test of a whole scope, by the test of what stands before the agent
pub order_last : (path above : List ℕ) (me last : ℕ) → has path me ≡ false → eqb last me ≡ true
    → pointwise eqb above (filter (has above) path) ≡ pointwise eqb (above ++ (last ∷ [])) (filter (has (above ++ (last ∷ []))) path ++ (me ∷ []))
order_last path above me last none same =
    let none_last : has path last ≡ false = subst (λ (w : ℕ). has path w ≡ false) (sym (eqb-true last me same)) none in
    sym (pointwise_end above (filter (has (above ++ (last ∷ []))) path) last me
    ∙ ap (λ (b : Bool). pointwise eqb above (filter (has (above ++ (last ∷ []))) path) && b) same
    ∙ and_true (pointwise eqb above (filter (has (above ++ (last ∷ []))) path))
    ∙ ap (λ (vs : List ℕ). pointwise eqb above vs) (kept_without path above last none_last))

pub order_not_last : (path above : List ℕ) (me last : ℕ) → eqb last me ≡ false → false ≡ pointwise eqb (above ++ (last ∷ [])) (filter (has (above ++ (last ∷ []))) path ++ (me ∷ []))
order_not_last path above me last differs =
    let due : List ℕ = filter (has (above ++ (last ∷ []))) path in
    sym (pointwise_end above due last me ∙ and_right (pointwise eqb above due) (eqb last me) differs)

filter_nothing : (path : List ℕ) → filter (has []) path ≡ []
filter_nothing [] = refl
filter_nothing (v ∷ vs) = filter_nothing vs

-- no variables stand in each path in its order
pub no_order : (path vars : List ℕ) → length vars ≡ 0 → true ≡ pointwise eqb vars (filter (has vars) path)
no_order path [] none = ap (λ (ys : List ℕ). pointwise eqb [] ys) (sym (filter_nothing path))
no_order path (v ∷ vs) none = absurd (omega (arith, none))

-- both lists end with the same variable
pub order_both : (above before : List ℕ) (v u : ℕ) → has_repeat (above ++ (v ∷ [])) ≡ false → eqb v u ≡ true
    → pointwise eqb before (filter (has before) above) ≡ pointwise eqb (before ++ (u ∷ [])) (filter (has (before ++ (u ∷ []))) (above ++ (v ∷ [])))
order_both above before v u apart same =
    let due : List ℕ = filter (has before) above in
    let whole : ℕ → Type 0 = λ w. pointwise eqb before due ≡ pointwise eqb (before ++ (w ∷ [])) (filter (has (before ++ (w ∷ []))) (above ++ (v ∷ []))) in
    let q : ℕ → Bool = has (before ++ (v ∷ [])) in
    let kept : filter q (above ++ (v ∷ [])) ≡ due ++ (v ∷ []) =
    filter-append q above (v ∷ [])
    ∙ ap (λ (b : Bool). filter q above ++ cond b (v ∷ []) []) (has_last before v)
    ∙ ap (λ (vs : List ℕ). vs ++ (v ∷ [])) (kept_without above before v (apart_before above v apart).1) in
    subst whole (eqb-true v u same)
    (sym (ap (λ (vs : List ℕ). pointwise eqb (before ++ (v ∷ [])) vs) kept
    ∙ pointwise_end before due v v
    ∙ ap (λ (b : Bool). pointwise eqb before due && b) (eq-eqb v v refl)
    ∙ and_true (pointwise eqb before due)))

-- the path ends with another variable
pub order_above : (above before : List ℕ) (w v : ℕ) → has_repeat (above ++ (w ∷ [])) ≡ false → eqb w v ≡ false
    → pointwise eqb (before ++ (v ∷ [])) (filter (has (before ++ (v ∷ []))) above) ≡ pointwise eqb (before ++ (v ∷ [])) (filter (has (before ++ (v ∷ []))) (above ++ (w ∷ [])))
order_above above before w v apart differs =
    let vars : List ℕ = before ++ (v ∷ []) in
    let q : ℕ → Bool = has vars in
    let none = (apart_before above w apart).1 in
    elim (cases_Bool (q w)) [
      | inr out ↦
          sym (ap (λ (vs : List ℕ). pointwise eqb vars vs) (filter-append q above (w ∷ []) ∙ ap (λ (b : Bool). filter q above ++ cond b (w ∷ []) []) out ∙ append-nil (filter q above)))
      | inl inside ↦
          let never : pointwise eqb vars (filter q above) ≡ false = false_from_ne_true (pointwise eqb vars (filter q above))
          (λ same. both_ways (has above w) none (has_filter q above w (ap (λ (vs : List ℕ). has vs w) (sym (pointwise-true vars (filter q above) same)) ∙ inside)).0) in
          never
          ∙ sym (ap (λ (vs : List ℕ). pointwise eqb vars vs) (filter-append q above (w ∷ []) ∙ ap (λ (b : Bool). filter q above ++ cond b (w ∷ []) []) inside)
          ∙ pointwise_end before (filter q above) v w
          ∙ and_right (pointwise eqb before (filter q above)) (eqb v w) (differ_turned w v differs))
    ]
