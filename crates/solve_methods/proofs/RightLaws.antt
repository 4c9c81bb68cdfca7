-- A report whose cost is the best sum, and its bounds too, is right.
use Rattle.std.proofs.Common.{◌≡◌, ℕ, List, sym, ap, subst, ◌∙◌, arith}
use Rattle.dcop_base.specs.Problem.{Dcop, IsAssignment, cost}
use Rattle.dcop_optimum.specs.Goal.{IsGreatestSum}
use Rattle.dcop_optimum.proofs.OptimumLaws.{optimum_same}
use Rattle.problem_text.specs.File.{TextFile}
use Rattle.problem_text.specs.declared.file.Goal.{Goal}
use Rattle.problem_text.specs.declared.file.Goal.TheVariants.{Min, Max}
use Rattle.certificate_text.specs.declared.report.Report.{Report}
use Rattle.minimised_problem.specs.Goal.{IsBestSum, IsAtMostWorse}
use Rattle.solve_methods.specs.Goal.{IsRightReport}
use Rattle.solve_methods.specs.Plain.{AreBestValues, IsPlainReport}

-- the greatest sum is one
greatest_same : (p : Dcop) (a b : ℕ) → IsGreatestSum p a → IsGreatestSum p b → a ≡ b
greatest_same p a b x y =
    let below = x.highest y.attained.0 y.attained.1 in
    let above = y.highest x.attained.0 x.attained.1 in
    omega (arith, below, above, x.attained.2, y.attained.2)

-- so is the best sum
best_same : (goal : Goal) (p : Dcop) (a b : ℕ) → IsBestSum goal p a → IsBestSum goal p b → a ≡ b
best_same Min p a b x y = optimum_same p a b x y
best_same Max p a b x y = greatest_same p a b x y

-- a sum is no worse than itself
worse_self : (goal : Goal) (error a b : ℕ) → a ≡ b → IsAtMostWorse goal error a b
worse_self Min error a b same = omega (arith, same)
worse_self Max error a b same = omega (arith, same)

pub right_of_best : (file : TextFile) (report : Report) → IsAssignment file.problem report.values → report.cost ≡ cost file.problem report.values
    → IsBestSum file.goal file.problem report.cost → report.lower ≡ report.cost → report.upper ≡ report.cost → IsRightReport file report
right_of_best file report assignment sum is lower upper = record {
  assignment = assignment;
  cost = sum;
  enclosed = λ best other. let same = best_same file.goal file.problem report.cost best is other in (omega (arith, lower, same), omega (arith, upper, same));
  near = λ solved best other. worse_self file.goal report.error report.cost best (best_same file.goal file.problem report.cost best is other);
  exact = λ method. is;
}

-- a report of the plain method on the best values is right
pub plain_right : (file : TextFile) (report : Report) (values : List ℕ) → AreBestValues file values → IsAssignment file.problem values → IsPlainReport file report → report.values ≡ values
    → IsRightReport file report
plain_right file report values best assignment form same =
    let sum : report.cost ≡ cost file.problem values = form.cost ∙ ap (cost file.problem) same in
    right_of_best file report (subst (IsAssignment file.problem) (sym same) assignment) form.cost (subst (IsBestSum file.goal file.problem) (sym sum) best.best) form.lower form.upper
