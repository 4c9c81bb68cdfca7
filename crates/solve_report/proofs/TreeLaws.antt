-- The lines of a tree, as they are written piece by piece.
use Rattle.std.proofs.Common.{◌≡◌, ℕ, List, [], ◌∷◌, ◌++◌, map, sym, ap, ◌∙◌, append_assoc, codes}
use Rattle.std.specs.List.{flat_map, slice_index_or}
use Rattle.problem_text.specs.Canonical.{line}
use Rattle.problem_text.proofs.LineLaws.{line-cons, flat_map-map}
use Rattle.certificate_text.specs.CertificateText.{parent_word}
use Rattle.solve_report.specs.Tree.{node_words}
use Rattle.solve_report.specs.declared.tree.NodeRow.{NodeRow}

-- a node's words, with the end of the line
node-pieces : (name parent scope : List ℕ)
    → (name ++ (codes " parent " ++ (parent ++ (codes " separator" ++ scope)))) ++ (10 ∷ [])
    ≡ name ++ (codes " parent " ++ (parent ++ (codes " separator" ++ (scope ++ (10 ∷ [])))))
node-pieces name parent scope = simp append_assoc

-- a node's line: its separator, each word behind a space
node-line : (names : List (List ℕ)) (row : NodeRow) → line (node_words names row)
    ≡ (codes "node " ++ (slice_index_or names row.var [] ++ (codes " parent " ++ (parent_word names row.parent ++ (codes " separator" ++ (flat_map (λ v. 32 ∷ slice_index_or names v []) row.separator ++ (10 ∷ [])))))))
node-line names row =
    line-cons (codes "node") (slice_index_or names row.var [] ∷ codes "parent" ∷ parent_word names row.parent ∷ codes "separator" ∷ map (λ v. slice_index_or names v []) row.separator)
    ∙ rw (flat_map-map (λ v. slice_index_or names v []) row.separator) (ap (λ rest. codes "node " ++ rest) (node-pieces (slice_index_or names row.var []) (parent_word names row.parent) (flat_map (λ v. 32 ∷ slice_index_or names v []) row.separator)))

-- a node's line, written word by word
pub node-written : (old new : List ℕ) (names : List (List ℕ)) (row : NodeRow)
    → new ≡ old ++ (codes "node " ++ (slice_index_or names row.var [] ++ (codes " parent " ++ (parent_word names row.parent ++ (codes " separator" ++ (flat_map (λ v. 32 ∷ slice_index_or names v []) row.separator ++ (10 ∷ [])))))))
    → new ≡ old ++ line (node_words names row)
node-written old new names row h = h ∙ ap (λ text. old ++ text) (sym (node-line names row))
