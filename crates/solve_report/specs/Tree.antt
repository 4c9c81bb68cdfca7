-- The lines of a tree, each as its words.
use Rattle.std.specs.Prelude.{ℕ, ◌<◌, List, [], ◌∷◌, ◌++◌, map, codes, IfSome}
use Rattle.std.specs.List.{All, flat_map, slice_index_or}
use Rattle.std.specs.Fmt.{decimal}
use Rattle.problem_text.specs.Canonical.{line}
use Rattle.certificate_text.specs.CertificateText.{parent_word}
use Rattle.solve_report.specs.declared.tree.NodeRow.{NodeRow}

-- a row of a tree (a variable, its parent, its separator) all of whose variables are below `count`
pub record IsNamedRow (count : ℕ) (row : NodeRow) : Type 0 where
  pub own : row.var < count
  pub parent : IfSome row.parent (λ p. p < count)
  pub separator : All (λ v. v < count) row.separator

-- `node NAME parent PARENT separator NAMES`
abbrev pub node_words : List (List ℕ) → NodeRow → List (List ℕ)
node_words names row =
    codes "node" ∷ slice_index_or names row.var [] ∷ codes "parent" ∷ parent_word names row.parent
    ∷ codes "separator" ∷ map (λ v. slice_index_or names v []) row.separator

-- the words of each line of a tree: its deliveries, and its nodes in order
abbrev pub tree_lines : ℕ → List NodeRow → List (List ℕ) → List (List (List ℕ))
tree_lines deliveries nodes names =
    ((codes "status" ∷ codes "tree" ∷ []) ∷ (codes "deliveries" ∷ decimal deliveries ∷ []) ∷ [])
    ++ map (node_words names) nodes
    ++ ((codes "end" ∷ []) ∷ [])

-- the text of a tree
abbrev pub tree_text : ℕ → List NodeRow → List (List ℕ) → List ℕ
tree_text deliveries nodes names = flat_map line (tree_lines deliveries nodes names)
