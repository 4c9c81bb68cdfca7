use Rattle.std.proofs.Common.{◌∙◌, ◌≤◌, length, replicate, ap, []}
use Rattle.problem_text.specs.Numbered.{lower_version, numbered_names}
use Rattle.problem_text.proofs.NumberedLaws.{IsFile-parts}
use Rattle.problem_text.proofs.file.ProblemFile.numbered.Goals as goal

pub invariant_of-result : goal.invariant_of-result
invariant_of-result c =
    let tables = c.as_slice.ensures ∙ ap (λ p. p.tables) c.problem.view_is in
    let count = ap length (c.as_slice-count.ensures ∙ ap (λ p. p.sizes) c.problem.view_is) in
    let few : length c.args.problem.sizes ≤ 1000 = rw (← c.problem.view_is) c.problem.invariant.few in
    IsFile-parts c.args.problem c.lowest_version-version.result c.in_ok-names.names c.in_ok-labels.labels few
    (c.lowest_version-version.ensures ∙ ap lower_version tables)
    (c.in_ok-names.ensures ∙ ap numbered_names count)
    (c.in_ok-labels.ensures ∙ ap (λ n. replicate n []) count)
