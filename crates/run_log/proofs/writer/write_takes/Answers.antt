use Rattle.std.proofs.Common.{◌∷◌}
use Rattle.std.specs.List.{flat_map}
use Rattle.std.specs.String.{string_bytes}
use Rattle.run_log.specs.LogText.{take_words}
use Rattle.run_log.proofs.EventLineLaws.{one_written, one_counted}
use Rattle.run_log.proofs.writer.write_takes.Goals as goal

pub loop-take-preserved : goal.loop-take-preserved
loop-take-preserved c = (
  one_written (λ t. flat_map (λ w. 32 ∷ w) (take_words c.args.names.now t)) (string_bytes c.args.text.now) (string_bytes c.loop-take.text) (string_bytes c.write_take.new.text) c.args.takes.now c.loop-take.take-index c.take-item.result c.loop-take-test.true c.take-item.is
      c.loop-take.invariant.0 c.in_ok-write_take.ensures.text,
  one_counted c.args.takes.now c.loop-take.take-index c.take-item.result c.loop-take-test.true c.take-item.is c.loop-take.invariant.1 c.in_ok-write_take.ensures.count,
)
