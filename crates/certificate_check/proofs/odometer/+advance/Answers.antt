use Rattle.std.proofs.Common.{◌≡◌, ◌<◌, ◌+◌, ℕ, List, ◌∷◌, Bool, true, false, ltb, length, get_or, set, All, refl, sym, ap, subst, ◌∙◌, arith}
use Rattle.std.proofs.lemmas.Bool.{or_parts, lt-ltb, le-ltb, both_ways}
use Rattle.std.proofs.lemmas.List.{get_or_read}
use Rattle.std.proofs.lemmas.List.Elements.{length_all_zip, AllZip-get_or, All-head, All-tail}
use Rattle.dcop_base.specs.Table.{AreWithin, has, has_repeat}
use Rattle.certificate_check.specs.Odometer.{IsNextPlace}
use Rattle.certificate_check.proofs.OdometerLaws.{last_next, within_set}
use Rattle.certificate_check.proofs.odometer.+advance.Goals as goal
use Rattle.certificate_check.proofs.odometer.+advance.Goals.{then-within, else-within}

-- what is known of the first variable
record First (sizes scope : List ℕ) (v : ℕ) (vs : List ℕ) : Type 0 where
  below : v < length sizes
  apart : has vs v ≡ false
  rest_apart : has_repeat vs ≡ false
  rest_named : All (λ u. u < length sizes) vs

first_of : (sizes scope : List ℕ) (v : ℕ) (vs : List ℕ) → scope ≡ v ∷ vs → has_repeat scope ≡ false → All (λ u. u < length sizes) scope → First sizes scope v vs
first_of sizes scope v vs is distinct named =
    let parts = or_parts (has vs v) (has_repeat vs) (rw is at distinct) in
    let all : All (λ u. u < length sizes) (v ∷ vs) = rw is at named in
    record {
      below = All-head (λ u. u < length sizes) v vs all;
      apart = parts.0;
      rest_apart = parts.1;
      rest_named = All-tail (λ u. u < length sizes) v vs all;
    }

-- a place of the sizes is a place of the values, whose value is below the size
inside : (sizes values : List ℕ) (index v : ℕ) → AreWithin sizes values → v < length sizes → index ≡ v → index < length values
inside sizes values index v within lt is = let many = length_all_zip (λ s d. d < s) sizes values within in omega arith

below_size : (sizes values : List ℕ) (index v value result : ℕ) → AreWithin sizes values → v < length sizes → index ≡ v → value ≡ result → result ≡ get_or values index result
    → (value < get_or sizes index 0) × (value ≡ get_or values index 0)
below_size sizes values index v value result within lt is view read =
    let at = view ∙ get_or_read values index result (inside sizes values index v within lt is) read 0 in
    let low = AllZip-get_or (λ s d. d < s) sizes values index 0 0 within (let e : index < length sizes = omega arith in e) in
    (omega (arith, at, low), at)

pub advance-requires : goal.advance-requires
advance-requires t c =
    let first = first_of c.args.sizes.now c.args.scope.now c.in-Some.var.now c.in-Some.rest.now c.in-Some.ensures.cases.0 c.requires.distinct c.requires.named in
    let shorter = c.in-Some.ensures.cases.1 in
    (omega (arith, shorter, c.decreases), (first.rest_apart, (first.rest_named, c.requires.within)))

pub bounds-values-place : goal.bounds-values-place
bounds-values-place t c =
    let first = first_of c.args.sizes.now c.args.scope.now c.in-Some.var.now c.in-Some.rest.now c.in-Some.ensures.cases.0 c.requires.distinct c.requires.named in
    inside c.args.sizes.now c.advance.new.values c.var.inside.0 c.in-Some.var.now c.advance.ensures.within first.below c.var.view_is

pub overflow_add-next : goal.overflow_add-next
overflow_add-next t c =
    let first = first_of c.args.sizes.now c.args.scope.now c.in-Some.var.now c.in-Some.rest.now c.in-Some.ensures.cases.0 c.requires.distinct c.requires.named in
    let low = below_size c.args.sizes.now c.advance.new.values c.var.inside.0 c.in-Some.var.now c.value.inside.0 c.index-values-place.result c.advance.ensures.within first.below c.var.view_is c.value.view_is c.index-values-place.is in
    let fits = c.type_inv.sizes c.var.inside.0 in
    omega (arith, low.0, fits)

pub bounds-values-place-2 : goal.bounds-values-place-2
bounds-values-place-2 t c =
    let first = first_of c.args.sizes.now c.args.scope.now c.in-Some.var.now c.in-Some.rest.now c.in-Some.ensures.cases.0 c.requires.distinct c.requires.named in
    inside c.args.sizes.now c.advance.new.values c.var.inside.0 c.in-Some.var.now c.advance.ensures.within first.below c.var.view_is

pub returns-clause-within : goal.returns-clause-within
returns-clause-within t c =
    let first = first_of c.args.sizes.now c.args.scope.now c.in-Some.var.now c.in-Some.rest.now c.in-Some.ensures.cases.0 c.requires.distinct c.requires.named in
    let low = below_size c.args.sizes.now c.advance.new.values c.var.inside.0 c.in-Some.var.now c.value.inside.0 c.index-values-place.result c.advance.ensures.within first.below c.var.view_is c.value.view_is c.index-values-place.is in
    within_set c.args.sizes.now c.advance.new.values c.var.inside.0 c.if-within.values c.advance.ensures.within
    (elim c.if-within.branch [
      | then-within w ↦ omega (arith, w.values-is, w.if-within.true)
      | else-within w ↦ omega (arith, w.values-is, low.0)
    ])

pub returns-clause-next : goal.returns-clause-next
returns-clause-next t c =
    let first = first_of c.args.sizes.now c.args.scope.now c.in-Some.var.now c.in-Some.rest.now c.in-Some.ensures.cases.0 c.requires.distinct c.requires.named in
    let low = below_size c.args.sizes.now c.advance.new.values c.var.inside.0 c.in-Some.var.now c.value.inside.0 c.index-values-place.result c.advance.ensures.within first.below c.var.view_is c.value.view_is c.index-values-place.is in
    let test : Bool = ltb (c.value.inside.0 + 1) (get_or c.args.sizes.now c.var.inside.0 0) in
    let choice : (test ≡ true → c.if-within.values ≡ c.value.inside.0 + 1) × (test ≡ false → c.if-within.values ≡ 0) =
    elim c.if-within.branch [
      | then-within w ↦ (λ h. w.values-is, λ h. absurd (both_ways test h (lt-ltb _ _ w.if-within.true)))
      | else-within w ↦ (λ h. absurd (both_ways test (le-ltb _ _ w.if-within.false) h), λ h. w.values-is)
    ] in
    subst (λ (vs : List ℕ). IsNextPlace c.args.sizes.now vs c.args.values.now (set c.advance.new.values c.var.inside.0 c.if-within.values) test)
    (sym (c.in-Some.ensures.cases.0 ∙ ap (λ (v : ℕ). v ∷ c.in-Some.rest.now) (sym c.var.view_is)))
    (last_next c.args.sizes.now c.var.inside.0 c.in-Some.rest.now c.args.values.now c.advance.new.values c.if-within.values c.value.inside.0
    (ap (has c.in-Some.rest.now) c.var.view_is ∙ first.apart)
    (inside c.args.sizes.now c.advance.new.values c.var.inside.0 c.in-Some.var.now c.advance.ensures.within first.below c.var.view_is)
    c.advance.ensures.others c.if-advance.ensures.next low.1 low.0 test refl choice.0 choice.1)
