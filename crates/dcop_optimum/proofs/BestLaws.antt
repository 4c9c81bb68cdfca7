-- The best assignment so far, while all are tried in lexicographic order.
use Rattle.std.proofs.Common.{◌≡◌, ℕ, ◌+◌, ◌-◌, ◌<◌, ◌≤◌, ◌⊎◌, List, length, replicate, refl, ap, inl, inr, arith}
use Rattle.std.proofs.lemmas.Bool.{cases_lt}
use Rattle.std.proofs.lemmas.List.Elements.{All-weaker}
use Rattle.dcop_base.specs.Table.{product, cell_place}
use Rattle.dcop_base.specs.Problem.{Dcop, IsAssignment, cost}
use Rattle.dcop_base.specs.Whole.{IsProblem}
use Rattle.dcop_base.specs.Limits.{size_limit}
use Rattle.dcop_base.proofs.TableLaws.{cell_place-lt}
use Rattle.dcop_optimum.specs.Optimum.{IsFirstOptimum}
use Rattle.dcop_optimum.proofs.PlaceLaws.{place_before, place_same, zeros_within}

-- the first assignment with the least cost of those up to the current one
pub record IsBestSoFar (p : Dcop) (current best : List ℕ) (least : ℕ) : Type 0 where
  pub current_is : IsAssignment p current
  pub best_is : IsAssignment p best
  pub costs : least ≡ cost p best
  pub lowest : (other : List ℕ) → IsAssignment p other → cell_place p.sizes other ≤ cell_place p.sizes current → least ≤ cost p other
  pub first : (other : List ℕ) → IsAssignment p other → cell_place p.sizes other < cell_place p.sizes best → least < cost p other

-- zeros are an assignment
pub zeros_assign : (p : Dcop) → IsProblem p → IsAssignment p (replicate (length p.sizes) 0)
zeros_assign p whole = zeros_within p.sizes (All-weaker (λ s. (1 ≤ s) × (s ≤ size_limit)) (λ s. 1 ≤ s) (λ s h. h.0) p.sizes whole.sizes)

-- the assignment at place 0 is the best so far
pub best_start : (p : Dcop) (current best : List ℕ) (least : ℕ) → IsAssignment p current → cell_place p.sizes current ≡ 0 → best ≡ current → least ≡ cost p current → IsBestSoFar p current best least
best_start p current best least within zeroth same costs = rw same (record {
  current_is = within;
  best_is = within;
  costs = costs;
  lowest = λ other within' le.
      let other_is : other ≡ current = place_same p.sizes other current within' within (omega arith) in
      rw (other_is, costs) (omega arith);
  first = λ other within' lt. absurd (omega arith);
})

-- an assignment up to the next one is up to the current one or is the next one
up_to_next : (p : Dcop) (current next other : List ℕ) → IsAssignment p next → IsAssignment p other → cell_place p.sizes next ≡ cell_place p.sizes current + 1 → cell_place p.sizes other ≤ cell_place p.sizes next → (cell_place p.sizes other ≤ cell_place p.sizes current) ⊎ (other ≡ next)
up_to_next p current next other next_is within step le =
    elim (cases_lt (cell_place p.sizes current) (cell_place p.sizes other)) [
      | inl over ↦ inr (place_same p.sizes other next within next_is (omega arith))
      | inr under ↦ inl under
    ]

-- the best stays where the next assignment is no cheaper
pub best_keeps : (p : Dcop) (current next best : List ℕ) (least : ℕ) → IsBestSoFar p current best least → IsAssignment p next → cell_place p.sizes next ≡ cell_place p.sizes current + 1 → least ≤ cost p next → IsBestSoFar p next best least
best_keeps p current next best least so_far next_is step dearer = record {
  current_is = next_is;
  best_is = so_far.best_is;
  costs = so_far.costs;
  lowest = λ other within le. elim (up_to_next p current next other next_is within step le) [
    | inl earlier ↦ so_far.lowest other within earlier
    | inr same ↦ rw same dearer
  ];
  first = so_far.first;
}

-- the next assignment becomes the best where it is cheaper
pub best_takes : (p : Dcop) (current next best : List ℕ) (least lower : ℕ) → IsBestSoFar p current best least → IsAssignment p next → cell_place p.sizes next ≡ cell_place p.sizes current + 1 → lower ≡ cost p next → lower < least → IsBestSoFar p next next lower
best_takes p current next best least lower so_far next_is step costs cheaper = record {
  current_is = next_is;
  best_is = next_is;
  costs = costs;
  lowest = λ other within le. elim (up_to_next p current next other next_is within step le) [
    | inl earlier ↦ let above = so_far.lowest other within earlier in omega arith
    | inr same ↦ let costs' = ap (λ xs. cost p xs) same in omega arith
  ];
  first = λ other within lt.
      let above = so_far.lowest other within (omega arith) in
      omega arith;
}

-- fewer assignments are left behind the next one
pub fewer_left : (p : Dcop) (current next : List ℕ) → IsAssignment p next → cell_place p.sizes next ≡ cell_place p.sizes current + 1 → product p.sizes - cell_place p.sizes next < product p.sizes - cell_place p.sizes current
fewer_left p current next next_is step = let below = cell_place-lt p.sizes next next_is in omega arith

-- behind the last assignment the best so far is the first optimal one
pub best_ends : (p : Dcop) (current best : List ℕ) (least : ℕ) → IsBestSoFar p current best least → cell_place p.sizes current + 1 ≡ product p.sizes → IsFirstOptimum p best
best_ends p current best least so_far last =
    let costs = so_far.costs in
    record {
      assignment = so_far.best_is;
      optimal = record {
        attained = (best, so_far.best_is, refl);
        lowest = λ other within.
            let below = cell_place-lt p.sizes other within in
            let least_of = so_far.lowest other within (omega arith) in
            omega arith;
      };
      first = λ other within same before.
          let lower = place_before p.sizes other best within so_far.best_is before in
          let above = so_far.first other within lower in
          absurd (omega arith);
    }
