use Rattle.std.proofs.Common.{ap, length, ◌∙◌, sym, ◌≡◌, subst, List, ℕ, arith}
use Rattle.std.proofs.lemmas.Slice.Zip.{AllZip-long}
use Rattle.std.proofs.lemmas.Grind.{common_steps}
use Rattle.dcop_base.specs.Whole.{IsProblem}
use Rattle.problem_text.specs.File.{AreLabels, IsFile}
use Rattle.problem_text.specs.Canonical.{canonical}
use Rattle.problem_text.specs.Steps.{IsReadAs}
use Rattle.problem_text.proofs.CanonicalLaws.{canonical-read}
use Rattle.problem_text.proofs.canonical.write_problem.Goals as goal

pub write_variables-requires-clause-labelled : goal.write_variables-requires-clause-labelled
write_variables-requires-clause-labelled c =
    rw (c.as_slice.ensures, c.as_slice-sizes.ensures)
    (AllZip-long AreLabels _ _ c.file.invariant.labels ∙ ap (λ p. length p.sizes) (sym c.problem.view_is))

pub returns-clause-again : goal.returns-clause-again
returns-clause-again c =
    let file : IsFile c.args.file.now = rw (← c.file.view_is) c.file.invariant in
    let p : IsProblem c.args.file.now.problem = rw (← c.file.view_is, ← c.problem.view_is) c.problem.invariant in
    let text : c.from_vec.result ≡ canonical c.args.file.now = grind (arith, common_steps) in
    subst (λ (bs : List ℕ). IsReadAs bs c.args.file.now) (sym text) (canonical-read c.args.file.now file p)
