-- The certificates of reports of DPOP and ADOPT.
use Rattle.std.specs.Prelude.{◌≡◌, Bool, true, false, List, None, Some, Option}
use Rattle.dcop_base.specs.Problem.{Dcop}
use Rattle.pseudotree.specs.DepthFirst.{dfs}
use Rattle.protocol_steps.specs.declared.event.Event.{Event}
use Rattle.protocol_steps.specs.Network.{Network}
use Rattle.run_log.specs.declared.log.LogEvent.{LogEvent}
use Rattle.problem_text.specs.File.{TextFile}
use Rattle.certificate_text.specs.declared.certificate.Certificate.{Certificate}
use Rattle.certificate_text.specs.declared.certificate.Certificate.TheVariants.{Tables, Log, Cut}
use Rattle.certificate_text.specs.declared.certificate.Util.{Util}
use Rattle.certificate_text.specs.declared.report.Report.{Report}
use Rattle.certificate_text.specs.Fits.{FitsTables}
use Rattle.minimised_problem.specs.Goal.{problem_solved}
use Rattle.minimised_problem.specs.Holds.{HoldsTables}
use Rattle.minimised_problem.specs.LogHolds.{agents_for, HoldsLog}
use Rattle.minimised_problem.specs.Utils.{AreUtilsOf}
use Rattle.solve_methods.specs.Kept.{IsLogOf}

-- a certificate has the tables of all variables of a problem on its depth-first tree
abbrev pub HasUtilsOf : Dcop → Certificate → Type 0
HasUtilsOf p (Tables utils) = AreUtilsOf p (dfs p) utils
HasUtilsOf p (Log log) = ⊥
HasUtilsOf p (Cut cut turns) = ⊥

-- these tables are those of the problem solved for a file, they fit the file, and the report holds
-- with them
pub record AreTablesOf (file : TextFile) (report : Report) (utils : List Util) : Type 0 where
  pub tables : AreUtilsOf (problem_solved file) (dfs (problem_solved file)) utils
  pub fits : FitsTables file.problem.sizes utils
  pub holds : HoldsTables file report utils

-- a report has a certificate of these tables
abbrev pub IsCertifiedBy : TextFile → Report → Option Certificate → Type 0
IsCertifiedBy file report (Some (Tables utils)) = AreTablesOf file report utils
IsCertifiedBy file report (Some (Log log)) = ⊥
IsCertifiedBy file report (Some (Cut cut turns)) = ⊥
IsCertifiedBy file report None = ⊥

-- a report has a certificate of tables of its problem if one is requested, and none otherwise
abbrev pub IsCertified : Bool → TextFile → Report → Type 0
IsCertified false file report = report.certificate ≡ None
IsCertified true file report = IsCertifiedBy file report report.certificate

-- on the problem that is solved for this file, the ADOPT agents made a run in these rounds, which
-- ends in this network; this is its log, and the report holds with it
pub record IsLogFor (file : TextFile) (rounds : List (List Event)) (end : Network) (report : Report) (log : List LogEvent) : Type 0 where
  pub run : IsLogOf (agents_for file report.error) rounds end log
  pub holds : HoldsLog file report log

-- a report has a certificate of the log of that run
abbrev pub IsLoggedBy : TextFile → List (List Event) → Network → Report → Option Certificate → Type 0
IsLoggedBy file rounds end report (Some (Log log)) = IsLogFor file rounds end report log
IsLoggedBy file rounds end report (Some (Tables utils)) = ⊥
IsLoggedBy file rounds end report (Some (Cut cut turns)) = ⊥
IsLoggedBy file rounds end report None = ⊥

-- a report has a certificate of the log of that run if one is requested, and no certificate
-- otherwise
abbrev pub IsLogged : Bool → TextFile → List (List Event) → Network → Report → Type 0
IsLogged false file rounds end report = report.certificate ≡ None
IsLogged true file rounds end report = IsLoggedBy file rounds end report report.certificate

-- the certificate of a log, if there is one
abbrev pub certificate_of_log : Option (List LogEvent) → Option Certificate
certificate_of_log None = None
certificate_of_log (Some log) = Some (Log log)
