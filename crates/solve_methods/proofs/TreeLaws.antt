-- The answer of `tree`, from the tree that was found.
use Rattle.std.proofs.Common.{◌≡◌, ℕ, List, length, refl, sym, ap, subst, ◌∙◌}
use Rattle.std.specs.List.{All}
use Rattle.pseudotree.specs.Pseudotree.{separator_at}
use Rattle.problem_text.specs.File.{TextFile, IsFile}
use Rattle.problem_text.specs.Steps.{declared_by}
use Rattle.solve_report.specs.Tree.{IsNamedRow}
use Rattle.solve_report.specs.declared.tree.NodeRow.{NodeRow}
use Rattle.solve_report.specs.declared.answer.Answer.TheVariants as answers
use Rattle.minimised_problem.specs.Found.{IsFound}
use Rattle.solve_methods.specs.Tree.{rows_with, rows_of, AnswersTree}
use Rattle.minimised_problem.specs.declared.search.Found.{Found}
use Rattle.solve_methods.proofs.RowLaws.{rows_named, rows_same}

module _ (file : TextFile) (found : Found) (nodes : List NodeRow) (is : IsFound file.problem found) (made : nodes ≡ rows_with (separator_at found.tree) found.tree.paths) where
  nodes_are : nodes ≡ rows_of file.problem found.tree.paths
  nodes_are = made ∙ rows_same file.problem found.tree is.tree

  -- it is the answer
  pub found-answers : (names : List (List ℕ)) → names ≡ file.names → AnswersTree (declared_by file) (answers.Tree found.deliveries nodes names)
  found-answers names same = record {
    file = file;
    whole = is.whole;
    declared = refl;
    is = (is.deliveries, nodes_are ∙ ap (rows_of file.problem) is.paths, same);
  }

  -- and each variable in it has its name
  pub found-named : IsFile file → (names : List (List ℕ)) → names ≡ file.names → All (IsNamedRow (length names)) nodes
  found-named whole names same =
      let count : length found.tree.paths ≡ length names = is.tree.pseudotree.sized ∙ sym whole.named ∙ sym (ap length same) in
      subst (λ (n : ℕ). All (IsNamedRow n) nodes) count
      (subst (All (IsNamedRow (length found.tree.paths))) (sym nodes_are) (rows_named file.problem found.tree.paths is.tree.pseudotree.tree))
