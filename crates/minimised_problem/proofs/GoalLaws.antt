-- What bounds and values of the problem solved show of the file's problem.
use Rattle.std.proofs.Common.{◌≡◌, ℕ, ◌+◌, ◌≤◌, Bool, true, false, cond, List, refl, arith}
use Rattle.dcop_base.specs.Problem.{Dcop, IsAssignment, cost}
use Rattle.dcop_base.specs.Whole.{IsProblem}
use Rattle.dcop_optimum.specs.Optimum.{IsOptimum}
use Rattle.dcop_optimum.specs.Goal.{turned, top_of, IsGreatestSum}
use Rattle.dcop_optimum.proofs.OptimumLaws.{some_optimum}
use Rattle.dcop_optimum.proofs.TurnLaws.{turned_problem, sum_to_top}
use Rattle.problem_text.specs.declared.file.Goal.{Goal}
use Rattle.problem_text.specs.declared.file.Goal.TheVariants.{Min, Max}
use Rattle.certificate_text.specs.declared.report.Report.{Report}
use Rattle.certificate_text.specs.declared.report.Ending.TheVariants.{Solved, Spent}
use Rattle.minimised_problem.specs.Goal.{solved, IsBestSum, IsAtMostWorse}
use Rattle.minimised_problem.specs.Gap.{gap_of}
use Rattle.minimised_problem.specs.LogEnds.{lower_for, upper_for}

-- an assignment of the problem solved is one of the problem
pub solved-assigned : (goal : Goal) (p : Dcop) (values : List ℕ) → IsAssignment (solved goal p) values → IsAssignment p values
solved-assigned Min p values within = within
solved-assigned Max p values within = within

-- the greatest sum and the optimum of the turned problem sum to the top sum
greatest-is : (p : Dcop) → IsProblem p → (best : ℕ) → IsGreatestSum p best → (least : ℕ) → IsOptimum (turned p) least → best + least ≡ top_of p
greatest-is p whole best is least optimal =
    let high = is.highest optimal.attained.0 optimal.attained.1 in
    let low = optimal.lowest is.attained.0 is.attained.1 in
    let one = sum_to_top p whole optimal.attained.0 optimal.attained.1 in
    let other = sum_to_top p whole is.attained.0 is.attained.1 in
    omega (arith, high, low, one, other, is.attained.2, optimal.attained.2)

-- bounds of the optimum of the problem solved show bounds of the best sum
pub right-bounds : (goal : Goal) (p : Dcop) → IsProblem p → (lower upper : ℕ) → ((least : ℕ) → IsOptimum (solved goal p) least → (lower ≤ least) × (least ≤ upper))
    → (best : ℕ) → IsBestSum goal p best → (lower_for goal p lower upper ≤ best) × (best ≤ upper_for goal p lower upper)
right-bounds Min p whole lower upper enclosed best is = enclosed best is
right-bounds Max p whole lower upper enclosed best is =
    let some = some_optimum (turned p) (turned_problem p whole) in
    let both = enclosed some.0 some.1 in
    let same = greatest-is p whole best is some.0 some.1 in
    (omega (arith, both.1, same), omega (arith, both.0, same))

-- values near the optimum of the problem solved are near the best sum
pub right-near : (goal : Goal) (p : Dcop) → IsProblem p → (values : List ℕ) → IsAssignment (solved goal p) values → (error : ℕ) → ((least : ℕ) → IsOptimum (solved goal p) least → cost (solved goal p) values ≤ least + error)
    → (best : ℕ) → IsBestSum goal p best → IsAtMostWorse goal error (cost p values) best
right-near Min p whole values within error near best is = near best is
right-near Max p whole values within error near best is =
    let some = some_optimum (turned p) (turned_problem p whole) in
    let close = near some.0 some.1 in
    let sum = sum_to_top p whole values within in
    let same = greatest-is p whole best is some.0 some.1 in
    omega (arith, close, sum, same)

-- a solved ending comes where all have ended
pub solved-ended : (b : Bool) → cond b Solved Spent ≡ Solved → b ≡ true
solved-ended true e = refl
solved-ended false e = absurd (cc)

-- a cost is at most the gap worse than what lies between the bounds
pub gap-near : (goal : Goal) (r : Report) (best : ℕ) → r.lower ≤ best → best ≤ r.upper → IsAtMostWorse goal (gap_of goal r) r.cost best
gap-near Min r best low high = omega (arith, low)
gap-near Max r best low high = omega (arith, high)

-- where the gap is at most the error, it is at most the error worse
pub gap-below : (goal : Goal) (gap error sum best : ℕ) → gap ≤ error → IsAtMostWorse goal gap sum best → IsAtMostWorse goal error sum best
gap-below Min gap error sum best small near = omega (arith, small, near)
gap-below Max gap error sum best small near = omega (arith, small, near)

-- values whose cost in the problem solved is near its lower bound leave a small gap
pub gap-small : (goal : Goal) (p : Dcop) → IsProblem p → (values : List ℕ) → IsAssignment (solved goal p) values → (low high error : ℕ) → cost (solved goal p) values ≤ low + error
    → (r : Report) → r.cost ≡ cost p values → r.lower ≡ lower_for goal p low high → r.upper ≡ upper_for goal p low high → gap_of goal r ≤ error
gap-small Min p whole values within low high error close r sum lower upper = omega (arith, close, sum, lower)
gap-small Max p whole values within low high error close r sum lower upper =
    let top = sum_to_top p whole values within in
    omega (arith, close, sum, upper, top)
