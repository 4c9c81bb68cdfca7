-- The tables of all turns of a cut, which show that values are optimal.
use Rattle.std.specs.Prelude.{◌≡◌, ℕ, ◌≤◌, List, [], ◌∷◌, Option, slice_index_or}
use Rattle.dcop_base.specs.Problem.{Dcop, IsAssignment, cost}
use Rattle.dcop_base.specs.Whole.{IsProblem}
use Rattle.pseudotree.specs.Tree.{IsRoot}
use Rattle.pseudotree.specs.Pseudotree.{IsPseudotree}
use Rattle.pseudotree.specs.Fault.{parents_of}
use Rattle.dcop_optimum.specs.Optimum.{IsOptimum}
use Rattle.dcop_optimum.specs.Certificate.{AreLowerTables, IsTableCertificate}
use Rattle.run_laws.specs.Slice.{AreCut, AreCutValues, slice_of}

-- the root's table has c as its only cell; `cells` has the cells of the tables of one turn, by
-- variable
abbrev pub IsRootCell : List (List ℕ) → ℕ → ℕ → Type 0
IsRootCell cells root c = slice_index_or cells root [] ≡ c ∷ []

-- the least of the root's cells over all turns; `cells` gives the cells of a turn
pub record IsLeastRootCell (p : Dcop) (cut : List ℕ) (cells : List ℕ → List (List ℕ)) (root least : ℕ) : Type 0 where
  pub attained : (turn : List ℕ) × AreCutValues p cut turn × IsRootCell (cells turn) root least
  pub lowest : (turn : List ℕ) → AreCutValues p cut turn → (c : ℕ) × IsRootCell (cells turn) root c × (least ≤ c)

-- a certificate of a cut holds: the parents form a pseudotree; in each turn the scopes are the separators and the cells are lower cells of the slice; and the least of the root's cells is the cost of the values
pub record IsCutCertificate (p : Dcop) (parents : List (Option ℕ)) (cut : List ℕ) (scopes cells : List ℕ → List (List ℕ)) (values : List ℕ) : Type 0 where
  pub paths : List (List ℕ)
  pub pseudotree : IsPseudotree p paths
  pub parents_are : parents ≡ parents_of paths
  pub tables : (turn : List ℕ) → AreCutValues p cut turn → AreLowerTables (slice_of p cut turn) paths (scopes turn) (cells turn)
  pub root_cost : (root : ℕ) → IsRoot paths root → IsLeastRootCell p cut cells root (cost p values)

-- if a certificate of a cut holds, its values are optimal
abbrev pub CutCertificatesShowOptima : Type 0
CutCertificatesShowOptima = (p : Dcop) (parents : List (Option ℕ)) (cut : List ℕ) (scopes cells : List ℕ → List (List ℕ)) (values : List ℕ) → IsProblem p → AreCut p cut → IsAssignment p values
    → IsCutCertificate p parents cut scopes cells values → IsOptimum p (cost p values)

-- the tables of each turn are a certificate on its slice, with some assignment of it
abbrev pub AreTurnCertificates : Dcop → List (List ℕ) → List ℕ → (List ℕ → List (List ℕ)) → (List ℕ → List (List ℕ)) → Type 0
AreTurnCertificates p paths cut scopes cells = (turn : List ℕ) → AreCutValues p cut turn
    → (others : List ℕ) × IsAssignment (slice_of p cut turn) others × IsTableCertificate (slice_of p cut turn) (parents_of paths) (scopes turn) (cells turn) others

-- certificates of all turns, and optimal values, make a certificate of the cut
abbrev pub TurnsMakeCertificates : Type 0
TurnsMakeCertificates = (p : Dcop) (paths : List (List ℕ)) (cut : List ℕ) (scopes cells : List ℕ → List (List ℕ)) (values : List ℕ) → IsProblem p → IsPseudotree p paths → AreCut p cut
    → AreTurnCertificates p paths cut scopes cells → IsOptimum p (cost p values) → IsCutCertificate p (parents_of paths) cut scopes cells values
