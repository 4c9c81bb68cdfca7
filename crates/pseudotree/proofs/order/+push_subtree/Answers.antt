use Rattle.std.proofs.Common.{◌≡◌, ◌<◌, ℕ, ◌-◌, ◌∙◌, ◌++◌, ◌∷◌, [], sym, ap, subst, length, List, take, get_or, arith}
use Rattle.std.specs.List.{flat_map}
use Rattle.std.proofs.lemmas.List.{take_all, append_assoc, get_or_read}
use Rattle.pseudotree.specs.Tree.{path_of}
use Rattle.pseudotree.specs.Preorder.{subtree}
use Rattle.pseudotree.proofs.TreeLaws.{path_read}
use Rattle.pseudotree.proofs.OrderLaws.{subtree_is}
use Rattle.pseudotree.proofs.order.+push_subtree.Goals as goal

pub push_subtree-requires : goal.push_subtree-requires
push_subtree-requires t c =
    let items : c.as_slice-child-items.result.now ≡ path_of c.args.children.now c.args.var =
    c.as_slice-child-items.ensures ∙ path_read c.args.children.now c.var.inside.0 c.args.var c.index-children-var.result c.var.view_is c.requires.within c.index-children-var.is in
    let inside : c.loop-child.child-index < length (path_of c.args.children.now c.args.var) =
    subst (λ (xs : List ℕ). c.loop-child.child-index < length xs) items c.loop-child-test.true in
    let is : c.child-item.result ≡ get_or (path_of c.args.children.now c.args.var) c.loop-child.child-index 0 =
    get_or_read c.as_slice-child-items.result.now c.loop-child.child-index c.child-item.result c.loop-child-test.true c.child-item.is 0
    ∙ ap (λ (xs : List ℕ). get_or xs c.loop-child.child-index 0) items in
    (omega arith, (c.requires.closed, subst (λ (x : ℕ). x < length c.args.children.now) (sym is) (c.requires.closed c.args.var c.loop-child.child-index inside)))

pub returns-after-loop-child : goal.returns-after-loop-child
returns-after-loop-child t c =
    let items : c.as_slice-child-items.result.now ≡ path_of c.args.children.now c.args.var =
    c.as_slice-child-items.ensures ∙ path_read c.args.children.now c.var.inside.0 c.args.var c.index-children-var.result c.var.view_is c.requires.within c.index-children-var.is in
    c.loop-child.invariant
    ∙ ap (λ (xs : List ℕ). xs ++ flat_map (subtree (path_of c.args.children.now) (c.args.levels - 1)) (take c.loop-child.child-index c.as_slice-child-items.result.now)) c.in_ok-push.ensures.items
    ∙ ap (λ (xs : List ℕ). (c.args.order.now.items ++ (c.args.var ∷ [])) ++ flat_map (subtree (path_of c.args.children.now) (c.args.levels - 1)) xs)
    (take_all c.loop-child.child-index c.as_slice-child-items.result.now c.loop-child-test.false ∙ items)
    ∙ append_assoc c.args.order.now.items (c.args.var ∷ []) (flat_map (subtree (path_of c.args.children.now) (c.args.levels - 1)) (path_of c.args.children.now c.args.var))
    ∙ ap (λ (xs : List ℕ). c.args.order.now.items ++ xs) (sym (subtree_is (path_of c.args.children.now) c.args.levels c.args.var c.if-levels-gt0.true))
