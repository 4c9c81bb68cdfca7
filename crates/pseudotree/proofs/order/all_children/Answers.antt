use Rattle.std.proofs.Common.{◌≡◌, ℕ, ◌++◌, ◌∙◌, sym, ap, subst, List, length, take, drop}
use Rattle.std.proofs.lemmas.List.{take_at}
use Rattle.pseudotree.specs.Parts.{AreChildren}
use Rattle.pseudotree.proofs.RowLaws.{children_from, rows_long}
use Rattle.pseudotree.proofs.order.all_children.Goals as goal

pub returns : goal.returns
returns c =
    let rows = c.push_children.new.rows in
    let written : take c.in_ok-rows.rows.len (rows ++ drop (length rows) c.in_ok-rows.rows.items) ≡ rows =
    take_at rows (drop (length rows) c.in_ok-rows.rows.items) c.in_ok-rows.rows.len (c.push_children.ensures.size ∙ c.as_mut_slice.ensures.len) in
    let long : length rows ≡ length c.args.paths.now =
    c.push_children.ensures.size ∙ ap (λ (old : List (List ℕ)). length old) c.as_mut_slice.ensures.value
    ∙ rows_long c.in_ok-rows.rows.items (length c.args.paths.now) c.in_ok-rows.ensures in
    subst (λ (xs : List (List ℕ)). AreChildren c.args.paths.now xs) (sym written)
    (children_from c.args.paths.now rows long c.in_ok-push_children.ensures.added)
