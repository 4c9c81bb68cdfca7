use Rattle.std.proofs.Common.{◌≡◌, ℕ, ◌∙◌, sym, ap, length, eqb, List, refl, Vec, Global, arith}
use Rattle.std.specs.List.{flat_map, filter, range_with_len}
use Rattle.pseudotree.specs.Tree.{path_of}
use Rattle.pseudotree.specs.Preorder.{subtree}
use Rattle.pseudotree.proofs.TreeLaws.{path_read}
use Rattle.pseudotree.proofs.OrderLaws.{flat_map_keeps, flat_map_skips, children_closed, preorder_from}
use Rattle.pseudotree.proofs.order.preorder_of.Goals as goal
use Rattle.pseudotree.proofs.order.preorder_of.Goals.{then-is_empty+in_ok-push_subtree, else-is_empty}

pub push_subtree-requires-clause-closed : goal.push_subtree-requires-clause-closed
push_subtree-requires-clause-closed c = children_closed c.args.paths.now c.args.children.now c.requires.children

pub loop-index-preserved : goal.loop-index-preserved
loop-index-preserved c =
    let test : eqb (length (path_of c.args.paths.now c.loop-index.index)) 0 ≡ c.is_empty.result =
    sym (c.is_empty.ensures ∙ ap (λ (xs : List ℕ). eqb (length xs) 0)
    (c.as_slice.ensures ∙ path_read c.args.paths.now c.loop-index.index c.loop-index.index c.index-paths-index.result refl c.loop-index-test.true c.index-paths-index.is)) in
    elim c.if-is_empty.branch [
      | then-is_empty+in_ok-push_subtree w ↦ flat_map_keeps (subtree (path_of c.args.children.now) (length c.args.paths.now)) (λ v. eqb (length (path_of c.args.paths.now v)) 0) c.loop-index.index c.loop-index.order.items c.if-is_empty.order.items c.loop-index.invariant (test ∙ w.if-is_empty.true)
          (ap (λ (v : Vec ℕ Global). v.items) w.order-is ∙ w.in_ok-push_subtree.ensures)
      | else-is_empty w ↦ flat_map_skips (subtree (path_of c.args.children.now) (length c.args.paths.now)) (λ v. eqb (length (path_of c.args.paths.now v)) 0) c.loop-index.index c.loop-index.order.items c.if-is_empty.order.items c.loop-index.invariant (test ∙ w.if-is_empty.false)
          (ap (λ (v : Vec ℕ Global). v.items) w.order-is)
    ]

pub returns : goal.returns
returns c =
    let all : c.loop-index.index ≡ length c.args.paths.now = omega arith in
    c.from_vec.ensures ∙ c.loop-index.invariant
    ∙ ap (λ (n : ℕ). flat_map (subtree (path_of c.args.children.now) (length c.args.paths.now)) (filter (λ v. eqb (length (path_of c.args.paths.now v)) 0) (range_with_len 0 n))) all
    ∙ preorder_from c.args.paths.now c.args.children.now c.requires.children
