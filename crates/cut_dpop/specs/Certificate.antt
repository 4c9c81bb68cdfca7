-- The tables of all turns of a cut, as a certificate.
use Rattle.std.specs.Prelude.{◌≡◌, ℕ, ◌≤◌, true, List, length}
use Rattle.std.specs.List.{All}
use Rattle.dcop_base.specs.Problem.{Dcop}
use Rattle.dcop_base.specs.Whole.{IsProblem}
use Rattle.pseudotree.specs.Pseudotree.{IsPseudotree}
use Rattle.run_laws.specs.Turns.{turn_count}
use Rattle.run_laws.specs.Certificate.{IsCutCertificate}
use Rattle.certificate_text.specs.Fits.{FitsCut}
use Rattle.certificate_text.specs.Turns.{first_tables}
use Rattle.minimised_problem.specs.Told.{parents_told}
use Rattle.minimised_problem.specs.Turns.{turn_scopes, turn_cells}
use Rattle.cut_dpop.specs.End.{IsCutEnd}
use Rattle.cut_dpop.specs.declared.run.CutEnd.{CutEnd}

-- the tables at the end of a cut form a certificate: there is an entry for each turn, they fit the
-- problem, and with the parents of the first turn they show that the values are optimal
pub record IsCertifiedEnd (p : Dcop) (end : CutEnd) : Type 0 where
  pub count : length end.tables ≡ turn_count p end.cut
  pub fits : FitsCut p.sizes end.cut end.tables
  pub certificate : IsCutCertificate p (parents_told p (first_tables end.tables)) end.cut (turn_scopes p end.cut end.tables) (turn_cells p end.cut end.tables) end.values

-- the tables at the end of every cut that keeps tables form a certificate
abbrev pub KeptTablesCertify : Type 0
KeptTablesCertify = (p : Dcop) (paths : List (List ℕ)) (limit : ℕ) (end : CutEnd) → IsProblem p → IsPseudotree p paths → All (λ s. s ≤ limit) p.sizes → IsCutEnd p paths limit true end → IsCertifiedEnd p end
