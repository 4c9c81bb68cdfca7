use Rattle.std.proofs.Common.{◌≡◌, ℕ, List, [], ◌∷◌, ◌++◌, map, length, refl, sym, ap, ap₂, ◌∙◌, arith}
use Rattle.std.specs.List.{range_with_len}
use Rattle.std.proofs.lemmas.List.FromFn.{fill_by_all, map-range_with_len_more}
use Rattle.dcop_base.specs.Problem.{Dcop}
use Rattle.pseudotree.specs.Tree.{path_of}
use Rattle.cut_dpop.proofs.tree.paths_of.Goals as goal

pub loop-index-preserved : goal.loop-index-preserved
loop-index-preserved c =
    c.in_ok-push.ensures.items
    ∙ ap₂ (λ (xs : List (List ℕ)) (x : List ℕ). xs ++ (x ∷ [])) c.loop-index.invariant (c.in_ok-clone.ensures.cases ∙ c.path.ensures)
    ∙ sym (map-range_with_len_more (path_of c.args.tree.now.paths) 0 c.loop-index.index c.loop-index.index (omega arith))

pub returns : goal.returns
returns c =
    let paths : List (List ℕ) = c.args.tree.now.paths in
    let count : length c.as_slice-index-end.result.now ≡ length c.args.problem.now.sizes = ap length (c.as_slice-index-end.ensures ∙ ap (λ (p : Dcop). p.sizes) c.problem.view_is) in
    let sized : length paths ≡ length c.args.problem.now.sizes = c.requires.pseudotree.sized in
    let all : c.loop-index.index ≡ length paths = omega (arith, count, sized) in
    c.loop-index.invariant ∙ ap (λ (n : ℕ). map (path_of paths) (range_with_len 0 n)) all ∙ sym (fill_by_all (path_of paths) paths (length paths) [] refl (λ k lt. refl))
