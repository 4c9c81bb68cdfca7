-- Laws of the optimum and of the first optimal assignment.
use Rattle.std.proofs.Common.{◌≡◌, ℕ, zero, suc, ◌+◌, ◌-◌, ◌*◌, ◌<◌, ◌≤◌, ◌⊎◌, List, [], ◌∷◌, refl, sym, ap, inl, inr, arith, All}
use Rattle.std.proofs.lemmas.Bool.{cases_lt}
use Rattle.std.proofs.lemmas.List.Elements.{All-head, All-tail, All-weaker, length_all_zip}
use Rattle.std.proofs.Math.Nat.{mul-le-mul_right}
use Rattle.dcop_base.specs.Table.{product, cell_place, AreWithin}
use Rattle.dcop_base.specs.Problem.{Dcop, IsAssignment, cost}
use Rattle.dcop_base.specs.Whole.{IsProblem}
use Rattle.dcop_base.specs.Limits.{size_limit}
use Rattle.dcop_base.proofs.TableLaws.{cell_place-lt}
use Rattle.dcop_optimum.specs.Optimum.{IsOptimum, IsFirstOptimum}
use Rattle.dcop_optimum.proofs.PlaceLaws.{within_none, within_some, place_before, before_cases}

-- some number up to n has the least measure
pub least_upto : (n : ℕ) (measure : ℕ → ℕ) → (k : ℕ) × (k ≤ n) × ((j : ℕ) → j ≤ n → measure k ≤ measure j)
least_upto zero measure = (0, omega arith, λ j h. let same : j ≡ 0 = omega arith in rw same (omega arith))
least_upto (suc n) measure =
    let before = least_upto n measure in
    let at_next : (j : ℕ) → j ≤ suc n → (j ≤ n) ⊎ (j ≡ suc n) = λ j h. elim (cases_lt n j) [ inl over ↦ inr (omega arith) | inr under ↦ inl under ] in
    elim (cases_lt (measure (suc n)) (measure before.0)) [
      | inl lower ↦ (
        suc n,
        omega arith,
        λ j h. elim (at_next j h) [
          | inl under ↦ let le = before.2 j under in omega arith
          | inr same ↦ rw same (omega arith)
        ],
      )
      | inr higher ↦ (
        before.0,
        (let le = before.1 in omega arith),
        λ j h. elim (at_next j h) [
          | inl under ↦ before.2 j under
          | inr same ↦ rw same higher
        ],
      )
    ]

-- some assignment has the least measure
pub least_within : (ss : List ℕ) → All (λ s. 1 ≤ s) ss → (measure : List ℕ → ℕ) → (xs : List ℕ) × AreWithin ss xs × ((ys : List ℕ) → AreWithin ss ys → measure xs ≤ measure ys)
least_within [] sizes measure = ([], tt, within_none (λ ys. measure [] ≤ measure ys) (omega arith))
least_within (s ∷ ss) sizes measure =
    let rest = λ (x : ℕ). least_within ss (All-tail (λ s. 1 ≤ s) s ss sizes) (λ xs. measure (x ∷ xs)) in
    let some : 1 ≤ s = All-head (λ s. 1 ≤ s) s ss sizes in
    let head = least_upto (s - 1) (λ x. measure (x ∷ (rest x).0)) in (
      head.0 ∷ (rest head.0).0,
      ((let le = head.1 in omega arith), (rest head.0).1),
      within_some s ss (λ ys. measure (head.0 ∷ (rest head.0).0) ≤ measure ys) (λ y ys below within.
          let by_head = head.2 y (omega arith) in
          let by_rest = (rest y).2 ys within in
          omega arith),
    )

-- one problem has one optimum
pub optimum_same : (p : Dcop) (c d : ℕ) → IsOptimum p c → IsOptimum p d → c ≡ d
optimum_same p c d at_c at_d =
    let below = at_c.lowest at_d.attained.0 at_d.attained.1 in
    let above = at_d.lowest at_c.attained.0 at_c.attained.1 in
    let costs = at_c.attained.2 in
    let costs' = at_d.attained.2 in
    omega arith

-- the assignment with the least cost, and of those the lowest place, is the first optimal one
pub first_from_least : (p : Dcop) (xs : List ℕ) → IsAssignment p xs → ((ys : List ℕ) → IsAssignment p ys → cost p xs * product p.sizes + cell_place p.sizes xs ≤ cost p ys * product p.sizes + cell_place p.sizes ys) → IsFirstOptimum p xs
first_from_least p xs within least = record {
  assignment = within;
  optimal = record {
    attained = (xs, within, refl);
    lowest = λ ys within'. elim (cases_lt (cost p ys) (cost p xs)) [
      | inl cheaper ↦
          let le = least ys within' in
          let below = cell_place-lt p.sizes ys within' in
          let rows = mul-le-mul_right (product p.sizes) cheaper in
          absurd (omega arith)
      | inr dearer ↦ dearer
    ];
  };
  first = λ ys within' same before.
      let le = least ys within' in
      let lower = place_before p.sizes ys xs within' within before in
      let rows = ap (λ c. c * product p.sizes) same in
      absurd (omega arith);
}

-- every problem has a first optimal assignment
pub some_first : (p : Dcop) → IsProblem p → (xs : List ℕ) × IsFirstOptimum p xs
some_first p whole =
    let sizes = All-weaker (λ s. (1 ≤ s) × (s ≤ size_limit)) (λ s. 1 ≤ s) (λ s h. h.0) p.sizes whole.sizes in
    let least = least_within p.sizes sizes (λ xs. cost p xs * product p.sizes + cell_place p.sizes xs) in
    (least.0, first_from_least p least.0 least.1 least.2)

-- every problem has an optimum
pub some_optimum : (p : Dcop) → IsProblem p → (least : ℕ) × IsOptimum p least
some_optimum p whole = let first = some_first p whole in (cost p first.0, first.1.optimal)

-- one problem has one first optimal assignment
pub first_same : (p : Dcop) (xs ys : List ℕ) → IsFirstOptimum p xs → IsFirstOptimum p ys → xs ≡ ys
first_same p xs ys at_xs at_ys =
    let costs = optimum_same p (cost p xs) (cost p ys) at_xs.optimal at_ys.optimal in
    let long = length_all_zip (λ s v. v < s) p.sizes xs at_xs.assignment in
    let long' = length_all_zip (λ s v. v < s) p.sizes ys at_ys.assignment in
    elim (before_cases xs ys (cc (long, long'))) [
      | inl same ↦ same
      | inr orders ↦ elim orders [
        | inl before ↦ absurd (at_ys.first xs at_xs.assignment costs before)
        | inr before ↦ absurd (at_xs.first ys at_ys.assignment (sym costs) before)
      ]
    ]
