-- When a report with a certificate of tables, or of a cut, holds.
use Rattle.std.specs.Prelude.{◌≡◌, ℕ, ◌*◌, ◌-◌, List, length}
use Rattle.dcop_base.specs.Problem.{cost}
use Rattle.dcop_optimum.specs.Certificate.{IsTableCertificate}
use Rattle.run_laws.specs.Certificate.{IsCutCertificate}
use Rattle.problem_text.specs.File.{TextFile}
use Rattle.certificate_text.specs.declared.certificate.Turn.{Turn}
use Rattle.certificate_text.specs.declared.certificate.Util.{Util}
use Rattle.certificate_text.specs.declared.report.Report.{Report}
use Rattle.certificate_text.specs.declared.report.Ending.TheVariants.{Solved}
use Rattle.certificate_text.specs.Turns.{first_tables}
use Rattle.minimised_problem.specs.Goal.{problem_solved}
use Rattle.minimised_problem.specs.Told.{parents_told, scopes_told, cells_told}
use Rattle.minimised_problem.specs.Turns.{turn_scopes, turn_cells}

-- a report with these tables holds: the tables and the values are a certificate of the problem
-- solved, the cost is that of the values in the file's problem, and the other numbers are those of
-- a run of DPOP
pub record HoldsTables (f : TextFile) (r : Report) (utils : List Util) : Type 0 where
  pub tables : IsTableCertificate (problem_solved f) (parents_told (problem_solved f) utils) (scopes_told (problem_solved f) utils) (cells_told (problem_solved f) utils) r.values
  pub cost : r.cost ≡ cost f.problem r.values
  pub lower : r.lower ≡ r.cost
  pub upper : r.upper ≡ r.cost
  pub error : r.error ≡ 0
  pub deliveries : r.deliveries ≡ 2 * (length f.problem.sizes - 1)
  pub status : r.status ≡ Solved

-- a report with these turns of a cut holds: the tables of all turns, with the parents of the first
-- turn, and the values are a certificate of the problem solved, the cost is that of the values in
-- the file's problem, and the other numbers are those of a run of DPOP in each turn
pub record HoldsCut (f : TextFile) (r : Report) (cut : List ℕ) (turns : List Turn) : Type 0 where
  pub tables : IsCutCertificate (problem_solved f) (parents_told (problem_solved f) (first_tables turns)) cut (turn_scopes (problem_solved f) cut turns) (turn_cells (problem_solved f) cut turns) r.values
  pub cost : r.cost ≡ cost f.problem r.values
  pub lower : r.lower ≡ r.cost
  pub upper : r.upper ≡ r.cost
  pub error : r.error ≡ 0
  pub deliveries : r.deliveries ≡ length turns * (2 * (length f.problem.sizes - 1))
  pub status : r.status ≡ Solved
