use Rattle.std.proofs.Common.{◌≡◌, ℕ, ◌+◌, ◌-◌, ◌<◌, ◌∙◌, sym, ap, subst, refl, List, Some, None, length}
use Rattle.std.specs.List.{slice_get}
use Rattle.pseudotree.specs.Tree.{path_of, parent_of}
use Rattle.pseudotree.specs.Rows.{AreRows}
use Rattle.pseudotree.proofs.TreeLaws.{path_read}
use Rattle.pseudotree.proofs.RowLaws.{rows_long, rows_push, rows_skip}
use Rattle.pseudotree.proofs.order.push_children.Goals as goal
use Rattle.pseudotree.proofs.order.push_children.Goals.{in-Some+in_ok-push_at, in_default}

pub push_at-requires : goal.push_at-requires
push_at-requires c =
    let path : c.as_slice.result.now ≡ path_of c.args.paths.now c.loop-index.index =
    c.as_slice.ensures ∙ path_read c.args.paths.now c.loop-index.index c.loop-index.index c.index-paths-index.result refl c.loop-index-test.true c.index-paths-index.is in
    let parent : parent_of c.args.paths.now c.loop-index.index ≡ Some c.in-Some.parent.now =
    sym (c.in-Some.ensures.value ∙ ap (λ (xs : List ℕ). slice_get xs (length xs - 1)) path) in
    let within : c.in-Some.parent.now < length c.args.paths.now = (c.requires.tree.nested c.loop-index.index c.in-Some.parent.now parent).0 in
    let long : length c.loop-index.rows ≡ length c.args.paths.now = c.loop-index.invariant.0 ∙ rows_long c.args.rows.now (length c.args.paths.now) c.requires.empty in
    record { inside = subst (λ (n : ℕ). c.parent.inside.0 < n) (sym long) (subst (λ (x : ℕ). x < length c.args.paths.now) (sym c.parent.view_is) within) }

pub loop-index-preserved : goal.loop-index-preserved
loop-index-preserved c =
    let path : c.as_slice.result.now ≡ path_of c.args.paths.now c.loop-index.index =
    c.as_slice.ensures ∙ path_read c.args.paths.now c.loop-index.index c.loop-index.index c.index-paths-index.result refl c.loop-index-test.true c.index-paths-index.is in
    elim c.match-last.branch [
      | in-Some+in_ok-push_at w ↦
          let parent : parent_of c.args.paths.now c.loop-index.index ≡ Some w.in-Some.parent.now =
          sym (w.in-Some.ensures.value ∙ ap (λ (xs : List ℕ). slice_get xs (length xs - 1)) path) in (
            ap (λ (rows : List (List ℕ)). length rows) w.rows-is ∙ w.push_at.ensures.size ∙ c.loop-index.invariant.0,
            subst (λ (rows : List (List ℕ)). AreRows (parent_of c.args.paths.now) (c.loop-index.index + 1) rows)
                (sym (w.rows-is ∙ w.in_ok-push_at.ensures.added))
                (rows_push (parent_of c.args.paths.now) c.loop-index.index w.parent.inside.0 c.loop-index.rows
                (parent ∙ ap (λ (x : ℕ). Some x) (sym w.parent.view_is)) c.loop-index.invariant.1),
          )
      | in_default w ↦
          let none : parent_of c.args.paths.now c.loop-index.index ≡ None =
          sym (w.in_default.ensures.value ∙ ap (λ (xs : List ℕ). slice_get xs (length xs - 1)) path) in (
            ap (λ (rows : List (List ℕ)). length rows) w.rows-is ∙ c.loop-index.invariant.0,
            subst (λ (rows : List (List ℕ)). AreRows (parent_of c.args.paths.now) (c.loop-index.index + 1) rows)
                (sym w.rows-is)
                (rows_skip (parent_of c.args.paths.now) c.loop-index.index c.loop-index.rows none c.loop-index.invariant.1),
          )
    ]
