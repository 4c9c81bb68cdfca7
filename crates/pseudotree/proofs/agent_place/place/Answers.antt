use Rattle.std.proofs.Common.{◌≡◌, ◌<◌, ℕ, ◌∙◌, sym, ap, subst, refl, length, map, List, arith}
use Rattle.std.specs.List.{All, slice_index}
use Rattle.dcop_base.specs.Problem.{Dcop}
use Rattle.pseudotree.specs.Tree.{path_of}
use Rattle.pseudotree.proofs.PlaceLaws.{path_below, all_sized, lower_is, length-lower}
use Rattle.pseudotree.proofs.agent_place.place.Goals as goal

pub sizes_of-requires : goal.sizes_of-requires
sizes_of-requires c =
    let sizes : c.as_slice.result.now ≡ c.args.problem.now.sizes = c.as_slice.ensures ∙ ap (λ (q : Dcop). q.sizes) c.problem.view_is in
    let path : c.as_slice-2.result.now ≡ path_of c.args.tree.now.paths c.args.me = c.as_slice-2.ensures ∙ c.path-path.ensures in
    let count : length c.args.tree.now.paths ≡ length c.as_slice.result.now = c.requires.pseudotree.pseudotree.sized ∙ sym (ap length sizes) in
    subst (λ (xs : List ℕ). All (λ u. u < length c.as_slice.result.now) xs) (sym path)
    (all_sized (path_of c.args.tree.now.paths c.args.me) (length c.args.tree.now.paths) (length c.as_slice.result.now) count
    (path_below c.args.tree.now.paths c.requires.pseudotree.pseudotree.tree c.args.me))

pub lower-requires : goal.lower-requires
lower-requires c =
    let sized = c.requires.pseudotree.pseudotree.sized in
    omega (arith, length-lower c.args.problem.now c.args.tree.now c.requires.pseudotree)

pub returns : goal.returns
returns c =
    let sizes : c.as_slice.result.now ≡ c.args.problem.now.sizes = c.as_slice.ensures ∙ ap (λ (q : Dcop). q.sizes) c.problem.view_is in
    let path : c.as_slice-2.result.now ≡ path_of c.args.tree.now.paths c.args.me = c.as_slice-2.ensures ∙ c.path-path.ensures in
    let within : c.args.me < length c.args.tree.now.paths = let sized = c.requires.pseudotree.pseudotree.sized in omega arith in
    record {
      me = refl;
      path = c.in_ok-clone.ensures.cases ∙ c.path-path.ensures;
      path_sizes =
          c.path_sizes.view_is ∙ c.in_ok-path_sizes.ensures
          ∙ ap (λ (xs : List ℕ). map (slice_index xs) c.as_slice-2.result.now) sizes
          ∙ ap (λ (xs : List ℕ). map (slice_index c.args.problem.now.sizes) xs) path;
      children = c.in_ok-copy_of.ensures ∙ c.as_slice-3.ensures ∙ c.children.ensures;
      lower = c.in_ok-copy_of-2.ensures ∙ c.as_slice-4.ensures ∙ c.lower.ensures ∙ lower_is c.args.problem.now c.args.tree.now c.requires.pseudotree c.args.me within;
    }
