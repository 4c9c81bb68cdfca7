use Rattle.std.proofs.Common.{ℕ, ◌<◌, ◌∙◌, ap, length, subst}
use Rattle.std.specs.List.{All}
use Rattle.problem_text.specs.Declarations.{Declared}
use Rattle.problem_text.proofs.TableLineLaws.{named-within}
use Rattle.problem_text.proofs.table_line.table_of.Goals as goal

pub table_with-requires-clause-within : goal.table_with-requires-clause-within
table_with-requires-clause-within c =
    let many = c.draft.invariant.draft.named ∙ ap (λ (d : Declared). length d.sizes) c.draft.view_is in
    let P : ℕ → Type 0 = λ n. All (λ v. v < n) c.in_ok-scope.scope in
    subst P many (named-within _ _ c.in_ok-scope.scope c.in_ok-scope.ensures.found)
