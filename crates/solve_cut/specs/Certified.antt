-- The certificate of a report of a cut.
use Rattle.std.specs.Prelude.{◌≡◌, ℕ, Bool, true, false, List, Option, Some, None}
use Rattle.pseudotree.specs.DepthFirst.{dfs}
use Rattle.run_laws.specs.Turns.{turn_count}
use Rattle.cut_dpop.specs.Certificate.{IsCertifiedEnd}
use Rattle.cut_dpop.specs.Kept.{AreCutTurns}
use Rattle.cut_dpop.specs.declared.run.CutEnd.{CutEnd}
use Rattle.problem_text.specs.File.{TextFile}
use Rattle.certificate_text.specs.Fits.{FitsCut}
use Rattle.certificate_text.specs.declared.certificate.Certificate.{Certificate}
use Rattle.certificate_text.specs.declared.certificate.Certificate.TheVariants.{Cut}
use Rattle.certificate_text.specs.declared.certificate.Turn.{Turn}
use Rattle.certificate_text.specs.declared.report.Report.{Report}
use Rattle.minimised_problem.specs.Goal.{problem_solved}
use Rattle.minimised_problem.specs.Holds.{HoldsCut}

-- these are the tables of all turns of a cut of the problem solved for a file, they fit the file,
-- and the report holds with them
pub record AreTurnsFor (file : TextFile) (cut : List ℕ) (report : Report) (turns : List Turn) : Type 0 where
  pub tables : AreCutTurns (problem_solved file) (dfs (problem_solved file)) cut (turn_count (problem_solved file) cut) turns
  pub fits : FitsCut file.problem.sizes cut turns
  pub holds : HoldsCut file report cut turns

-- a report has a certificate of the cut and its turns if one is requested, and none otherwise
abbrev pub IsCutCertified : Bool → TextFile → List ℕ → Report → Type 0
IsCutCertified false file cut report = report.certificate ≡ None
IsCutCertified true file cut report = (turns : List Turn) × (report.certificate ≡ Some (Cut cut turns)) × AreTurnsFor file cut report turns

-- the certificate of a cut and its turns, if one is requested
abbrev pub certificate_if : Bool → List ℕ → List Turn → Option Certificate
certificate_if false cut turns = None
certificate_if true cut turns = Some (Cut cut turns)

-- the end of a cut of the problem solved for a file has the tables of all its turns, and they form
-- a certificate
pub record HasTurns (file : TextFile) (end : CutEnd) : Type 0 where
  pub tables : AreCutTurns (problem_solved file) (dfs (problem_solved file)) end.cut (turn_count (problem_solved file) end.cut) end.tables
  pub certified : IsCertifiedEnd (problem_solved file) end

-- the end of a cut has such tables if a certificate is requested
abbrev pub HasTurnsIf : Bool → TextFile → CutEnd → Type 0
HasTurnsIf false file end = Unit {0}
HasTurnsIf true file end = HasTurns file end
