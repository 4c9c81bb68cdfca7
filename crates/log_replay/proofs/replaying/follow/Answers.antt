use Rattle.std.proofs.Common.{◌≡◌, length, ap, ◌∙◌, arith}
use Rattle.log_replay.specs.Queues.{StampsView}
use Rattle.log_replay.proofs.RowLaws.{off_size}
use Rattle.log_replay.proofs.replaying.follow.Goals as goal

pub send-requires-clause-row : goal.send-requires-clause-row
send-requires-clause-row c =
    let size : length c.take-right.new.self.rows ≡ length c.args.stamps.now.rows =
    ap (λ (v : StampsView). length v.rows) c.take-right.ensures.rest ∙ off_size c.args.event.now.agent c.args.stamps.now.rows c.as_slice.result.now in
    omega (arith, size, c.requires.row)
