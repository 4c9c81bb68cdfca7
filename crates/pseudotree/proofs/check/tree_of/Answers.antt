use Rattle.std.proofs.Common.{ℕ, ◌∙◌, ap, subst, length, List}
use Rattle.std.proofs.lemmas.List.FromFn.{length-map-range_with_len}
use Rattle.std.specs.List.{filter}
use Rattle.pseudotree.specs.Tree.{path_of}
use Rattle.pseudotree.specs.Preorder.{preorder_of}
use Rattle.pseudotree.specs.Marks.{mark_at, marked_paths, marked_lower, AreGathered}
use Rattle.pseudotree.specs.Splits.{NoneApart}
use Rattle.pseudotree.specs.Parts.{AreChildren}
use Rattle.pseudotree.proofs.SpreadLaws.{separators_are, lower_are}
use Rattle.pseudotree.proofs.CheckLaws.{in_line_from, least_split}
use Rattle.pseudotree.proofs.check.tree_of.Goals as goal

pub invariant_of-result : goal.invariant_of-result
invariant_of-result c = record {
  children_are = subst (λ (xs : List (List ℕ)). AreChildren xs c.in_ok-children.children.items) c.as_slice-lists.ensures.value c.in_ok-children.ensures;
  preorder_is = c.in_ok-preorder.ensures ∙ ap preorder_of c.as_slice-lists.ensures.value;
  separated =
      ap length (c.in_ok-separators.ensures ∙ ap (λ (xs : List (List ℕ)). marked_paths xs c.gather.new.marks) c.as_slice-lists.ensures.value)
      ∙ length-map-range_with_len (λ v. filter (mark_at (length c.args.paths.items) c.gather.new.marks v) (path_of c.args.paths.items v)) 0 (length c.args.paths.items);
}

pub returns-clause-tree : goal.returns-clause-tree
returns-clause-tree c =
    let gathered : AreGathered c.args.paths.items c.in_ok-marks.marks c.gather.new.marks =
    subst (λ (xs : List (List ℕ)). AreGathered xs c.in_ok-marks.marks c.gather.new.marks) c.as_slice-lists.ensures.value c.in_ok-gather.ensures in
    let none : NoneApart c.args.paths.items c.in_ok-marks.marks =
    subst (λ (xs : List (List ℕ)). NoneApart xs c.in_ok-marks.marks) c.as_slice-lists.ensures.value c.in_default.ensures in
    record {
      pseudotree = record {
        sized = c.requires.sized;
        tree = c.requires.tree;
        in_line = in_line_from c.args.problem.now c.args.paths.items c.in_ok-marks.marks c.requires.sized c.in_ok-marks.ensures none;
      };
      separators =
          c.in_ok-separators.ensures
          ∙ ap (λ (xs : List (List ℕ)). marked_paths xs c.gather.new.marks) c.as_slice-lists.ensures.value
          ∙ separators_are c.args.problem.now c.args.paths.items c.requires.tree c.in_ok-marks.marks c.gather.new.marks c.requires.sized c.in_ok-marks.ensures gathered;
      lower =
          c.in_ok-lower.ensures
          ∙ ap (λ (xs : List (List ℕ)). marked_lower xs c.in_ok-marks.marks) c.as_slice-lists.ensures.value
          ∙ lower_are c.args.problem.now c.args.paths.items c.requires.tree c.in_ok-marks.marks c.requires.sized c.in_ok-marks.ensures;
    }

pub returns-in-Some-clause-fault : goal.returns-in-Some-clause-fault
returns-in-Some-clause-fault c =
    least_split c.args.problem.now c.args.paths.items c.in_ok-marks.marks c.requires.sized c.in_ok-marks.ensures _
    (rw c.as_slice-lists.ensures.value at c.in-Some.ensures)
