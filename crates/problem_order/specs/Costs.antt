-- What assignments cost in a problem, and in the same problem with its variables in another order.
use Rattle.std.specs.Prelude.{◌≡◌, ℕ, ◌↔◌, List}
use Rattle.dcop_base.specs.Table.{values_at}
use Rattle.dcop_base.specs.Problem.{Dcop, IsAssignment, cost}
use Rattle.dcop_base.specs.Whole.{IsProblem}
use Rattle.problem_text.specs.File.{TextFile}
use Rattle.problem_order.specs.Reordered.{IsReordered}

-- an assignment of the old problem, with its values put in the new order, is an assignment of the
-- new one with the same cost
pub record IsSameAssignment (old new : Dcop) (order values : List ℕ) : Type 0 where
  pub assignment : IsAssignment new (values_at order values)
  pub cost : cost new (values_at order values) ≡ cost old values

-- some assignment has this cost
abbrev pub HasCost : Dcop → ℕ → Type 0
HasCost p total = (values : List ℕ) × IsAssignment p values × (cost p values ≡ total)

-- a file and the same file in another order have the same assignments by names, with the same
-- costs, and so the same least and greatest costs
pub record CostTheSame (old new : TextFile) (order : List ℕ) : Type 0 where
  pub by_names : (values : List ℕ) → IsAssignment old.problem values → IsSameAssignment old.problem new.problem order values
  pub costs : (total : ℕ) → HasCost old.problem total ↔ HasCost new.problem total

-- files in another order cost the same
abbrev pub ReorderedFilesCostTheSame : Type 0
ReorderedFilesCostTheSame = (old new : TextFile) (order : List ℕ) → IsProblem old.problem → IsProblem new.problem → IsReordered old order new → CostTheSame old new order
