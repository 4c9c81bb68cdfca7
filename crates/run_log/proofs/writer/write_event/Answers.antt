use Rattle.std.proofs.Common.{arith, []}
use Rattle.std.proofs.lemmas.Grind.{common_steps}
use Rattle.std.proofs.lemmas.Option.{get_or_from_slice_get}
use Rattle.std.specs.String.{string_bytes}
use Rattle.run_log.proofs.EventLineLaws.{event_written}
use Rattle.run_log.proofs.writer.write_event.Goals as goal

pub returns-clause-text : goal.returns-clause-text
returns-clause-text c =
    let name = get_or_from_slice_get c.args.names.now c.args.event.now.agent c.name-name.result.now [] c.name-name.ensures in
    event_written (string_bytes c.args.text.now) (string_bytes c.push_str.new.self) c.args.names.now c.args.event.now
    (grind (arith, common_steps, name))
