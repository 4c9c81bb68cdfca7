use Rattle.std.proofs.Common.{◌≡◌, ℕ, ◌<◌, ◌||◌, List, length, refl, sym, subst, ◌∙◌, arith, All}
use Rattle.dcop_base.specs.Table.{has}
use Rattle.pseudotree.specs.Tree.{path_of}
use Rattle.pseudotree.proofs.PlaceLaws.{path_below}
use Rattle.edit_session.specs.State.{is_touched}
use Rattle.edit_session.proofs.MarkLaws.{owner_known, way_marks}
use Rattle.edit_session.proofs.mark.mark_way.Goals as goal

pub path-requires : goal.path-requires
path-requires c = owner_known c.args.tree.now.paths c.args.scope.now (length c.args.tree.now.paths) c.owner_of-owner.result c.requires.known c.owner_of-owner.ensures

pub mark-requires : goal.mark-requires
mark-requires c =
    subst (λ (vs : List ℕ). All (λ v. v < length c.args.touched.now) vs) (sym (c.as_slice.ensures ∙ c.path.ensures))
    (subst (λ (n : ℕ). All (λ v. v < n) (path_of c.args.tree.now.paths c.owner_of-owner.result)) (sym c.requires.marked) (path_below c.args.tree.now.paths c.requires.tree c.owner_of-owner.result))

pub bounds-touched-owner-inside : goal.bounds-touched-owner-inside
bounds-touched-owner-inside c =
    let known = owner_known c.args.tree.now.paths c.args.scope.now (length c.args.tree.now.paths) c.owner_of-owner.result c.requires.known c.owner_of-owner.ensures in
    let long = c.mark.auto.touched in
    let view = c.owner.view_is in
    let marked = c.requires.marked in
    omega (arith, known, long, view, marked)

pub returns : goal.returns
returns c =
    let paths = c.args.tree.now.paths in
    let old = c.args.touched.now in
    let known = owner_known paths c.args.scope.now (length paths) c.owner_of-owner.result c.requires.known c.owner_of-owner.ensures in
    let marked = c.requires.marked in
    way_marks paths c.args.scope.now old c.mark.new.touched _ c.owner_of-owner.result c.owner.inside.0 c.owner_of-owner.ensures c.owner.view_is c.mark.auto.touched (omega (arith, known, marked))
    (subst (λ (vs : List ℕ). (v : ℕ) → v < length old → is_touched c.mark.new.touched v ≡ (is_touched old v || has vs v)) (c.as_slice.ensures ∙ c.path.ensures) c.mark.ensures) refl
