-- The result of making a problem from sizes and tables: the problem or their first fault.
use Rattle.std.specs.Prelude.{◌≡◌, ℕ, List, length, Some, None, Result, Ok, Err}
use Rattle.dcop_base.specs.Table.{CostTable}
use Rattle.dcop_base.specs.Problem.{Dcop}
use Rattle.dcop_base.specs.Faults.{problem_fault}
use Rattle.dcop_base.specs.Graph.{AreJoints, IsConnected}
use Rattle.dcop_base.specs.declared.problem.ProblemFault.{ProblemFault}
use Rattle.dcop_base.specs.declared.problem.ProblemFault.TheVariants.{NoMemory}

-- the problem of these sizes and tables, which have no fault; its joints make it connected
pub record IsProblemOf (sizes : List ℕ) (tables : List CostTable) (p : Dcop) : Type 0 where
  pub faultless : problem_fault sizes tables ≡ None
  pub same_sizes : p.sizes ≡ sizes
  pub same_tables : p.tables ≡ tables
  pub joints : AreJoints (length sizes) tables p.joints
  pub connected : IsConnected p

-- a result is right for these sizes and tables: their problem, if they have no fault, or their first fault; running out of memory is allowed for any of them
abbrev pub MakesProblem : List ℕ → List CostTable → Result Dcop ProblemFault → Type 0
MakesProblem sizes tables (Ok p) = IsProblemOf sizes tables p
MakesProblem sizes tables (Err NoMemory) = Unit {0}
MakesProblem sizes tables (Err fault) = problem_fault sizes tables ≡ Some fault
