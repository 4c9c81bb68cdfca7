use Rattle.std.proofs.Common.{◌<◌, length, sym, ap, subst}
use Rattle.problem_text.specs.File.{TextFile}
use Rattle.edit_session.specs.Session.{OpenSession}
use Rattle.edit_session.proofs.StateLaws.{session_replaced}
use Rattle.edit_session.proofs.session.Session.replace.Goals as goal

pub invariant_of-self-2 : goal.invariant_of-self-2
invariant_of-self-2 c =
    let view = ap (λ (o : OpenSession). o.state.file) c.self.view_is in
    session_replaced c.edits_leave_others.ensures c.self.inside.file c.replace_cells.new.file c.self.inside.turned c.replace_cells.new.turned c.self.inside.top c.in_ok-top.top c.self.inside.tree c.self.inside.touched.items c.replace_cells.new.touched.items c.self.inside.kept.items c.args.table c.args.cells.items
    c.file_is_whole.ensures (subst (λ (f : TextFile). c.args.table < length f.problem.tables) (sym view) c.requires.inside) c.self.invariant c.in_ok-top.ensures.done
