-- Reports that fit a file: the text that is written of such a report is read as the report.
use Rattle.std.specs.Prelude.{◌≡◌, ℕ, ◌<◌, ◌≤◌, ◌==◌, List, [], ◌∷◌, map, length, IfSome, slice_index, count_by, false}
use Rattle.std.specs.List.{All, AllZip}
use Rattle.dcop_base.specs.Table.{product, has_repeat}
use Rattle.dcop_base.specs.Limits.{amount_limit}
use Rattle.cost_table.specs.Slices.{ones_at}
use Rattle.protocol_steps.specs.Values.{choices}
use Rattle.problem_text.specs.File.{TextFile}
use Rattle.certificate_text.specs.declared.certificate.Certificate.{Certificate}
use Rattle.certificate_text.specs.declared.certificate.Certificate.TheVariants.{Tables, Log, Cut}
use Rattle.certificate_text.specs.declared.certificate.Turn.{Turn}
use Rattle.certificate_text.specs.declared.certificate.Util.{Util}
use Rattle.certificate_text.specs.declared.report.Method.{Method}
use Rattle.certificate_text.specs.declared.report.Method.TheVariants.{Dpop, Adopt, Cut as ByCut}
use Rattle.certificate_text.specs.declared.report.Report.{Report}
use Rattle.certificate_text.specs.Named.{IsNamedUtil}
use Rattle.run_log.specs.LogText.{FitsEvent}

-- a UTIL table fits variables of these sizes: its scope variables are distinct, it has as many
-- cells as the product of their sizes, and no cell is above amount_limit
pub record FitsUtil (sizes : List ℕ) (util : Util) : Type 0 where
  pub named : IsNamedUtil (length sizes) util
  pub distinct : has_repeat util.scope ≡ false
  pub many : length util.cells ≡ product (map (λ v. slice_index sizes v) util.scope)
  pub cells : All (λ cell. cell ≤ amount_limit) util.cells

-- UTIL tables fit variables of these sizes: each table fits, and there is exactly one for each
-- variable
pub record FitsTables (sizes : List ℕ) (utils : List Util) : Type 0 where
  pub each : All (FitsUtil sizes) utils
  pub one : (var : ℕ) → var < length sizes → count_by (λ u. u.var == var) utils ≡ 1

-- the parent in a table is the parent in every table of the same variable among these
abbrev pub HasParentOf : List Util → Util → Type 0
HasParentOf others util = All (λ other. other.var ≡ util.var → other.parent ≡ util.parent) others

-- every later turn has the parents of the first turn
abbrev pub KeepParents : List Turn → Type 0
KeepParents [] = Unit {0}
KeepParents (first ∷ later) = All (λ turn. All (HasParentOf first.tables) turn.tables) later

-- the turns of a cut fit variables of these sizes: there is a turn for each list of values of the
-- cut, in lexicographic order; its tables fit the slice, in which cut variables have size 1; and
-- all turns have the same parents
pub record FitsCut (sizes cut : List ℕ) (turns : List Turn) : Type 0 where
  pub distinct : has_repeat cut ≡ false
  pub within : All (λ v. v < length sizes) cut
  pub values : map (λ t. t.values) turns ≡ choices (map (λ v. slice_index sizes v) cut)
  pub tables : All (λ t. FitsTables (ones_at cut sizes) t.tables) turns
  pub parents : KeepParents turns

-- a certificate fits the method and variables of these sizes
abbrev pub FitsCertificate : List ℕ → Method → Certificate → Type 0
FitsCertificate sizes method (Tables utils) = (method ≡ Dpop) × FitsTables sizes utils
FitsCertificate sizes method (Log log) = (method ≡ Adopt) × All (FitsEvent (length sizes)) log
FitsCertificate sizes method (Cut cut turns) = (method ≡ ByCut) × FitsCut sizes cut turns

-- a report fits a file: it has one value for each variable, below its size, numbers of at most
-- amount_limit, a certificate that fits (if there is one), and the file's goal
pub record Fits (report : Report) (f : TextFile) : Type 0 where
  pub values : AllZip (λ value size. value < size) report.values f.problem.sizes
  pub error : report.error ≤ amount_limit
  pub deliveries : report.deliveries ≤ amount_limit
  pub cost : report.cost ≤ amount_limit
  pub lower : report.lower ≤ amount_limit
  pub upper : report.upper ≤ amount_limit
  pub certificate : IfSome report.certificate (FitsCertificate f.problem.sizes report.method)
  pub goal : report.goal ≡ f.goal
