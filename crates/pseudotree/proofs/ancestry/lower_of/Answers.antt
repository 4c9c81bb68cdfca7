use Rattle.std.proofs.Common.{◌≡◌, ◌∙◌, sym, length, arith}
use Rattle.std.specs.List.{filter, range_with_len}
use Rattle.std.proofs.lemmas.Bool.{and_from, and_right}
use Rattle.pseudotree.specs.Tree.{is_above}
use Rattle.pseudotree.specs.Marks.{mark_at, is_marked_lower}
use Rattle.pseudotree.proofs.OrderLaws.{filter_keeps, filter_skips}
use Rattle.pseudotree.proofs.RowLaws.{lower_free}
use Rattle.pseudotree.proofs.ancestry.lower_of.Goals as goal
use Rattle.pseudotree.proofs.ancestry.lower_of.Goals.{then-is_above+in_ok-push, else-is_above}

pub loop-index-preserved : goal.loop-index-preserved
loop-index-preserved c =
    let next = c.in-Some.ensures in
    let within = next.within in
    let before : c.loop-index.lower ≡ filter (is_marked_lower c.args.paths.now c.args.marks.now c.args.var) (range_with_len 0 c.in-Some.index) =
    c.loop-index.invariant.1 ∙ lower_free c.args.paths.now c.args.marks.now c.args.var c.loop-index.begin c.in-Some.index next.after next.before in (
      omega arith,
      elim c.if-is_above.branch [
        | then-is_above+in_ok-push w ↦
            filter_keeps (is_marked_lower c.args.paths.now c.args.marks.now c.args.var) c.in-Some.index c.loop-index.lower c.if-is_above.lower before
            (and_from (mark_at (length c.args.paths.now) c.args.marks.now c.args.var c.in-Some.index) (is_above c.args.paths.now c.args.var c.in-Some.index) next.marked
            (sym c.is_above.ensures ∙ w.if-is_above.true))
            (w.lower-is ∙ w.in_ok-push.ensures.ok)
        | else-is_above w ↦
            filter_skips (is_marked_lower c.args.paths.now c.args.marks.now c.args.var) c.in-Some.index c.loop-index.lower c.if-is_above.lower before
            (and_right (mark_at (length c.args.paths.now) c.args.marks.now c.args.var c.in-Some.index) (is_above c.args.paths.now c.args.var c.in-Some.index)
            (sym c.is_above.ensures ∙ w.if-is_above.false))
            w.lower-is
      ],
    )

pub returns : goal.returns
returns c =
    c.loop-index.invariant.1
    ∙ lower_free c.args.paths.now c.args.marks.now c.args.var c.loop-index.begin (length c.args.paths.now) c.loop-index.invariant.0 c.in_default.ensures
