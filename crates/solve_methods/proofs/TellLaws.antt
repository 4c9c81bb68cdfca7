-- A report whose values are an assignment can be told by the names of its file.
use Rattle.std.proofs.Common.{◌≡◌, inl, inr, ℕ, ◌<◌, List, [], ◌∷◌, length, Option, None, IfSome, sym, ap, ◌∙◌, arith, subst}
use Rattle.std.specs.List.{AllZip}
use Rattle.std.proofs.lemmas.List.Elements.{length_all_zip}
use Rattle.dcop_base.specs.Table.{AreWithin}
use Rattle.dcop_base.specs.Problem.{IsAssignment}
use Rattle.problem_text.specs.File.{TextFile, AreLabels, IsFile}
use Rattle.certificate_text.specs.Named.{HasWord, IsNamedCertificate, CanTell}
use Rattle.certificate_text.specs.declared.certificate.Certificate.{Certificate}
use Rattle.certificate_text.specs.declared.report.Report.{Report}

-- a value below its variable's size has its word among the value names
HasWord-label : (size value : ℕ) (labels : List (List ℕ)) → AreLabels size labels → value < size → HasWord labels value
HasWord-label size value labels are below = elim are.many as (λ _. HasWord labels value) [
  | inl none ↦ λ some. absurd (omega (arith, some, ap length none))
  | inr many ↦ λ some. omega (arith, many, below)
]

-- so has each value of an assignment
HasWord-assignment : (sizes values : List ℕ) (labels : List (List (List ℕ))) → AllZip AreLabels sizes labels → AreWithin sizes values → AllZip HasWord labels values
HasWord-assignment [] [] [] are within = tt
HasWord-assignment [] [] (l ∷ ls) are within = are
HasWord-assignment [] (v ∷ vs) labels are within = absurd within
HasWord-assignment (s ∷ ss) [] labels are within = absurd within
HasWord-assignment (s ∷ ss) (v ∷ vs) [] are within = absurd are
HasWord-assignment (s ∷ ss) (v ∷ vs) (l ∷ ls) are within =
    (HasWord-label s v l are.0 within.0, HasWord-assignment ss vs ls are.1 within.1)

-- the names of a file can tell an assignment's report whose certificate, where it has one, names variables only
pub CanTell-certified : (file : TextFile) (report : Report) → IsFile file → IsAssignment file.problem report.values → IfSome report.certificate (IsNamedCertificate (length file.names)) → CanTell report file
CanTell-certified file report whole assignment named = record {
  many = sym (length_all_zip (λ s v. v < s) file.problem.sizes report.values assignment) ∙ sym whole.named;
  worded = HasWord-assignment file.problem.sizes report.values file.labels whole.labels assignment;
  named = named;
}

-- and one that has no certificate
pub CanTell-assignment : (file : TextFile) (report : Report) → IsFile file → IsAssignment file.problem report.values → report.certificate ≡ None → CanTell report file
CanTell-assignment file report whole assignment none =
    CanTell-certified file report whole assignment (subst (λ (c : Option Certificate). IfSome c (IsNamedCertificate (length file.names))) (sym none) tt)
