-- An assignment that was found can be told by the names of its file.
use Rattle.std.proofs.Common.{inl, inr, ℕ, ◌<◌, List, [], ◌∷◌, length, Option, Some, None, IfSome, sym, ap, ◌∙◌, arith}
use Rattle.std.specs.List.{AllZip}
use Rattle.std.proofs.lemmas.List.Elements.{length_all_zip}
use Rattle.dcop_base.specs.Table.{AreWithin}
use Rattle.problem_text.specs.File.{TextFile, AreLabels, IsFile}
use Rattle.certificate_text.specs.Named.{HasWord}
use Rattle.search_stages.specs.declared.asked.Asked.{Asked}
use Rattle.search_stages.specs.declared.report.Found.{Found}
use Rattle.search_top.specs.Report.{IsFoundIn}
use Rattle.search_top.specs.Text.{AreTold}

-- a value below its variable's size has its word among the value names
HasWord-label : (size value : ℕ) (labels : List (List ℕ)) → AreLabels size labels → value < size → HasWord labels value
HasWord-label size value labels are below = elim are.many as (λ _. HasWord labels value) [
  | inl none ↦ λ some. absurd (omega (arith, some, ap length none))
  | inr many ↦ λ some. omega (arith, many, below)
]

-- so has each value of an assignment
HasWord-assignment : (sizes values : List ℕ) (labels : List (List (List ℕ))) → AllZip AreLabels sizes labels → AreWithin sizes values → AllZip HasWord labels values
HasWord-assignment [] [] [] are within = tt
HasWord-assignment [] [] (l ∷ ls) are within = are
HasWord-assignment [] (v ∷ vs) labels are within = absurd within
HasWord-assignment (s ∷ ss) [] labels are within = absurd within
HasWord-assignment (s ∷ ss) (v ∷ vs) [] are within = absurd are
HasWord-assignment (s ∷ ss) (v ∷ vs) (l ∷ ls) are within =
    (HasWord-label s v l are.0 within.0, HasWord-assignment ss vs ls are.1 within.1)

-- what the report of a search on a file has found, the names of the file can tell
pub AreTold-found : (file : TextFile) (asked : Asked) (found : Option Found) → IsFile file → IfSome found (IsFoundIn file.goal file.problem asked.better) → IfSome found (AreTold file)
AreTold-found file asked None whole is = tt
AreTold-found file asked (Some found) whole is = record {
  many = sym (length_all_zip (λ s v. v < s) file.problem.sizes found.values is.assignment) ∙ sym whole.named;
  worded = HasWord-assignment file.problem.sizes found.values file.labels whole.labels is.assignment;
}
