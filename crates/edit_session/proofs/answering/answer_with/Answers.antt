use Rattle.std.proofs.Common.{◌+◌, ◌≤◌, Bool, List, ap, subst, ◌∙◌, arith}
use Rattle.pseudotree.specs.Preorder.{preorder_of}
use Rattle.edit_session.specs.Loops.{cells_among}
use Rattle.edit_session.proofs.LoopLaws.{touched_cells_are}
use Rattle.edit_session.proofs.answering.answer_with.Goals as goal

pub returns-in_err-remake_touched-clause-within : goal.returns-in_err-remake_touched-clause-within
returns-in_err-remake_touched-clause-within g c =
    let p = c.args.problem.now in
    let paths = c.args.tree.now.paths in
    let cells = touched_cells_are c.args.file.now p paths c.args.touched.now.items c.requires.solved c.requires.paths c.problem_is_whole.ensures c.requires.ground.tree_is.pseudotree c.requires.marked in
    let within = subst (λ (ts : List Bool). c.remake_touched.new.steps ≤ c.args.steps.now + cells_among p paths ts (preorder_of paths)) c.as_slice.ensures.value c.remake_touched.ensures.within in
    omega (arith, cells, within)

pub returns-in_err-values-clause-within : goal.returns-in_err-values-clause-within
returns-in_err-values-clause-within g c =
    let p = c.args.problem.now in
    let paths = c.args.tree.now.paths in
    let cells = touched_cells_are c.args.file.now p paths c.args.touched.now.items c.requires.solved c.requires.paths c.problem_is_whole.ensures c.requires.ground.tree_is.pseudotree c.requires.marked in
    let within = subst (λ (ts : List Bool). c.remake_touched.new.steps ≤ c.args.steps.now + cells_among p paths ts (preorder_of paths)) c.as_slice.ensures.value c.remake_touched.ensures.within in
    omega (arith, cells, within)

pub returns-clause-counted : goal.returns-clause-counted
returns-clause-counted g c =
    let p = c.args.problem.now in
    let paths = c.args.tree.now.paths in
    let cells = touched_cells_are c.args.file.now p paths c.args.touched.now.items c.requires.solved c.requires.paths c.problem_is_whole.ensures c.requires.ground.tree_is.pseudotree c.requires.marked in
    let counted = c.in_ok-remake_touched.ensures.counted ∙ ap (λ (ts : List Bool). c.args.steps.now + cells_among p paths ts (preorder_of paths)) c.as_slice.ensures.value in
    omega (arith, cells, counted)

pub returns-clause-within : goal.returns-clause-within
returns-clause-within g c =
    let p = c.args.problem.now in
    let paths = c.args.tree.now.paths in
    let cells = touched_cells_are c.args.file.now p paths c.args.touched.now.items c.requires.solved c.requires.paths c.problem_is_whole.ensures c.requires.ground.tree_is.pseudotree c.requires.marked in
    let within = subst (λ (ts : List Bool). c.remake_touched.new.steps ≤ c.args.steps.now + cells_among p paths ts (preorder_of paths)) c.as_slice.ensures.value c.remake_touched.ensures.within in
    omega (arith, cells, within)
