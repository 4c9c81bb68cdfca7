use Rattle.std.proofs.Common.{◌≡◌, arith, ap, ◌∙◌}
use Rattle.std.proofs.lemmas.Grind.{common_steps}
use Rattle.run_log.specs.LogText.{log_text}
use Rattle.run_log.specs.LogReading.{log_read}
use Rattle.run_log.proofs.EventLineLaws.{log_again}
use Rattle.run_log.proofs.writer.write_log.Goals as goal

pub returns-clause-again : goal.returns-clause-again
returns-clause-again c stamps =
    let text : c.from_vec.result ≡ log_text c.args.names.now c.args.log.now = grind (arith, common_steps) in
    ap (log_read c.args.names.now) text
    ∙ log_again c.args.names.now c.args.log.now c.len-count.ensures.distinct c.requires.words c.requires.named (rw (← c.as_slice.ensures) c.in_ok-write_events.ensures.counts) stamps
