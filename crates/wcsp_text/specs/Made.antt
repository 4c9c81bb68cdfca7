-- How the problem that is made agrees with its network.
use Rattle.std.specs.Prelude.{◌≡◌, ℕ, List, map, Some, None, Result, Ok, Err, min, slice_index}
use Rattle.dcop_base.specs.Table.{CostTable}
use Rattle.dcop_base.specs.Problem.{Dcop}
use Rattle.dcop_base.specs.Faults.{problem_fault}
use Rattle.dcop_base.specs.Limits.{amount_limit}
use Rattle.dcop_base.specs.declared.problem.ProblemFault.{ProblemFault}
use Rattle.dcop_base.specs.declared.problem.ProblemFault.TheVariants as problems
use Rattle.problem_text.specs.declared.line_end.LineEnd.{LineEnd}
use Rattle.problem_text.specs.declared.line_end.LineEnd.TheVariants as ends
use Rattle.wcsp_text.specs.declared.fault.Fault.{Fault}
use Rattle.wcsp_text.specs.declared.fault.WcspKind.TheVariants.{Problem}
use Rattle.wcsp_text.specs.Networks.{Network}
use Rattle.wcsp_text.specs.Problems.{raised, tables, told_at, number_of_fault, table_of_fault}

-- a table whose cells of at least top become hard; then every cell above amount_limit becomes
-- amount_limit
abbrev pub capped_table : ℕ → ℕ → CostTable → CostTable
capped_table top hard t =
    record { scope = t.scope; sizes = t.sizes; cells = map (λ c. min (raised top hard c) amount_limit) t.cells }

-- a problem's fault as an end of reading: it is reported at its table, or memory runs out
abbrev pub IsTold : ProblemFault → List ℕ → LineEnd Fault → Type 0
IsTold problems.NoMemory afters end = end ≡ ends.NoMemory
IsTold fault afters end =
    end ≡ ends.Fault (record { after = slice_index afters (table_of_fault fault); kind = Problem (number_of_fault fault) })

-- a problem agrees with a network: it has the network's sizes and tables; a fault is the problem's
-- fault, reported at its function
abbrev pub MakesProblemOf : Network → Result Dcop (LineEnd Fault) → Type 0
MakesProblemOf w (Ok p) = (problem_fault w.sizes (tables w) ≡ None) × (p.sizes ≡ w.sizes) × (p.tables ≡ tables w)
MakesProblemOf w (Err ends.NoMemory) = Unit {0}
MakesProblemOf w (Err (ends.Fault f)) =
    (fault : ProblemFault) × (problem_fault w.sizes (tables w) ≡ Some fault) × (f ≡ told_at w.functions fault)
