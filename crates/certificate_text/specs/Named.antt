-- Reports that can be written with the names of a file.
use Rattle.std.specs.Prelude.{◌≡◌, ℕ, ◌<◌, List, length, IfSome}
use Rattle.std.specs.List.{All, AllZip}
use Rattle.problem_text.specs.File.{TextFile}
use Rattle.certificate_text.specs.declared.certificate.Certificate.{Certificate}
use Rattle.certificate_text.specs.declared.certificate.Certificate.TheVariants.{Tables, Log, Cut}
use Rattle.certificate_text.specs.declared.certificate.Turn.{Turn}
use Rattle.certificate_text.specs.declared.certificate.Util.{Util}
use Rattle.certificate_text.specs.declared.report.Report.{Report}
use Rattle.run_log.specs.LogText.{IsNamedEvent}

-- a value has a name if its variable has value names
abbrev pub HasWord : List (List ℕ) → ℕ → Type 0
HasWord labels value = 0 < length labels → value < length labels

-- a UTIL table all of whose variables are below `count`
pub record IsNamedUtil (count : ℕ) (util : Util) : Type 0 where
  pub own : util.var < count
  pub parent : IfSome util.parent (λ p. p < count)
  pub scope : All (λ v. v < count) util.scope

-- a turn whose tables have only variables below `count`
abbrev pub IsNamedTurn : ℕ → Turn → Type 0
IsNamedTurn count turn = All (IsNamedUtil count) turn.tables

-- a certificate all of whose variables are below `count`
abbrev pub IsNamedCertificate : ℕ → Certificate → Type 0
IsNamedCertificate count (Tables utils) = All (IsNamedUtil count) utils
IsNamedCertificate count (Log log) = All (IsNamedEvent count) log
IsNamedCertificate count (Cut cut turns) = All (λ v. v < count) cut × All (IsNamedTurn count) turns

-- a report can be written with the names of a file: it has one value for each name, each with a
-- name if its variable has value names, and no variable without a name
pub record CanTell (report : Report) (file : TextFile) : Type 0 where
  pub many : length report.values ≡ length file.names
  pub worded : AllZip HasWord file.labels report.values
  pub named : IfSome report.certificate (IsNamedCertificate (length file.names))
