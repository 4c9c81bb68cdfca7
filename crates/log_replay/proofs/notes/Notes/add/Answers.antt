use Rattle.std.proofs.Common.{◌≡◌, length, ap, ◌∙◌, arith}
use Rattle.log_replay.specs.Queues.{StampsView}
use Rattle.log_replay.specs.Notes.{NotesView}
use Rattle.log_replay.proofs.RowLaws.{off_size}
use Rattle.log_replay.proofs.notes.Notes.add.Goals as goal

pub send-requires-clause-row : goal.send-requires-clause-row
send-requires-clause-row c =
    let size : length c.take-stamp.new.self.rows ≡ length c.self.inside.stamps.rows =
    ap (λ (v : StampsView). length v.rows) c.take-stamp.ensures.rest ∙ off_size c.args.agent c.self.inside.stamps.rows c.args.takes.now in
    let same : length c.self.inside.stamps.rows ≡ length c.args.self.now.stamps.rows = ap (λ (n : NotesView). length n.stamps.rows) c.self.view_is in
    omega (arith, size, same, c.requires.row)
