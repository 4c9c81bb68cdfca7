-- Where nothing refuses a cut, the answer is a solved report.
use Rattle.std.proofs.Common.{◌≡◌, ℕ, ◌≤◌, Bool, List, length, None, Option, sym, ap₂, subst, ◌∙◌}
use Rattle.dcop_base.specs.Limits.{size_limit}
use Rattle.dcop_base.specs.Graph.{AreJoints}
use Rattle.dcop_base.specs.Problem.{Dcop}
use Rattle.dcop_base.specs.Whole.{IsProblem}
use Rattle.dcop_base.proofs.UniqueLaws.{AreJoints-unique}
use Rattle.pseudotree.specs.DepthFirst.{DepthFirstTreesAreLinked}
use Rattle.run_laws.specs.CutSet.{CutSetsAreOne}
use Rattle.cut_dpop.specs.declared.fault.CutFault.{CutFault}
use Rattle.problem_text.specs.File.{TextFile}
use Rattle.problem_text.specs.Declarations.{Declared}
use Rattle.problem_text.specs.Steps.{declared_by}
use Rattle.minimised_problem.specs.Goal.{problem_solved}
use Rattle.minimised_problem.proofs.SolvedLaws.{solved_problem}
use Rattle.solve_cut.specs.Cut.{IsCutOf, refusal_of, IsCutAnswerBy, IsCutSolved}
use Rattle.solve_cut.specs.Allowed.{HasAllowedCut, AllowedCutsAreSolved}
use Rattle.solve_cut.proofs.CutLaws.{one-cut}

-- the file that declares this, with these joints
abbrev file_with : Declared → List (ℕ × ℕ) → TextFile
file_with d joints = record {
  version = d.version;
  goal = d.goal;
  names = d.names;
  labels = d.labels;
  problem = record { sizes = d.sizes; tables = d.tables; joints = joints };
}

-- files that declare the same are the same, since their joints follow from the tables
one_file : (f g : TextFile) → IsProblem f.problem → IsProblem g.problem → declared_by f ≡ declared_by g → f ≡ g
one_file f g of_f of_g e =
    ap₂ file_with e
    (AreJoints-unique (length g.problem.sizes) g.problem.tables f.problem.joints g.problem.joints
    (subst (λ (d : Declared). AreJoints (length d.sizes) d.tables f.problem.joints) e of_f.joints) of_g.joints)

-- nothing refuses a cut of a file, where nothing refuses one of what it declares
allowed-for : CutSetsAreOne → DepthFirstTreesAreLinked → (d : Declared) (limit : ℕ) (keeps : Bool) (file : TextFile) (cut : List ℕ) → size_limit ≤ limit → HasAllowedCut d limit keeps → IsProblem file.problem → declared_by file ≡ d
    → IsCutOf (problem_solved file) limit cut → refusal_of (problem_solved file) cut keeps ≡ None
allowed-for sets trees d limit keeps file cut least has whole declared is_cut =
    let q : Dcop = problem_solved file in
    let same : has.file ≡ file = one_file has.file file has.whole whole (has.declared ∙ sym declared) in
    let other : IsCutOf q limit has.cut = subst (λ (f : TextFile). IsCutOf (problem_solved f) limit has.cut) same has.is_cut in
    let allowed : refusal_of q has.cut keeps ≡ None = subst (λ (f : TextFile). refusal_of (problem_solved f) has.cut keeps ≡ None) same has.allowed in
    subst (λ (c : List ℕ). refusal_of q c keeps ≡ None) ((one-cut q limit sets trees (solved_problem file.goal file.problem whole) least).one has.cut cut other is_cut) allowed

pub allowed-solved : CutSetsAreOne → DepthFirstTreesAreLinked → AllowedCutsAreSolved
allowed-solved sets trees d limit keeps answer least has is =
    let allowed = allowed-for sets trees d limit keeps is.file is.cut least has is.whole is.declared is.is_cut in
    let has_report : IsCutSolved is.file is.cut keeps answer = subst (λ (o : Option CutFault). IsCutAnswerBy is.file is.cut keeps o answer) allowed is.is in record {
      report = has_report.report;
      file = is.file;
      is = has_report.is;
      solved = has_report.form.status;
    }
