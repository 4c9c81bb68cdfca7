use Rattle.std.proofs.Common.{ap, subst, ◌∙◌}
use Rattle.std.specs.String.{string_bytes}
use Rattle.protocol_steps.specs.declared.event.Event.{Event}
use Rattle.delivery_core.specs.Exchanges.{Exchanges}
use Rattle.run_log.specs.Logs.{event_of}
use Rattle.trace_text.proofs.PlayLaws.{plays_as, advances_so, none_is, not_some, there_after}
use Rattle.trace_text.proofs.tracing.tell.Goals.{then-is_none+in_ok-write_event, else-is_none}
use Rattle.trace_text.proofs.tracing.tell.Goals as goal

pub write_event-requires : goal.write_event-requires
write_event-requires c =
    let plays = plays_as c.args.core.now c.happen_telling.new.self c.in_ok-plain.plain c.args.event.now c.in_ok-found.found c.in_ok-plain.ensures c.in_ok-found.ensures.plays in
    there_after c.args.core.now c.happen_telling.new.self c.args.event.now c.requires
    (advances_so c.args.core.now c.happen_telling.new.self c.args.event.now c.in_ok-found.found (none_is c.in_ok-found.found c.is_none.result c.is_none.ensures c.if-is_none.true) plays)

pub returns : goal.returns
returns c = record {
  plays = plays_as c.args.core.now c.happen_telling.new.self c.in_ok-plain.plain c.args.event.now c.in_ok-found.found c.in_ok-plain.ensures c.in_ok-found.ensures.plays;
  tells = λ none. elim c.if-is_none.branch [
    | then-is_none+in_ok-write_event w ↦ record {
      took = c.happen_telling.new.exchange.took.items;
      sent = c.happen_telling.new.exchange.sent.items;
      exchanges = subst (λ (x : Event). Exchanges c.args.core.now x c.happen_telling.new.exchange.took.items c.happen_telling.new.exchange.sent.items) c.in_ok-plain.ensures (c.in_ok-found.ensures.tells none);
      told = ap string_bytes w.text-is ∙ w.in_ok-write_event.ensures;
    }
    | else-is_none w ↦ absurd (not_some c.in_ok-found.found c.is_none.result c.is_none.ensures w.if-is_none.false none)
  ];
}
