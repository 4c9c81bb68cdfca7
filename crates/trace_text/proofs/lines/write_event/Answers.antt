use Rattle.std.proofs.Common.{ℕ, List, ◌++◌, map, ap, ◌∙◌}
use Rattle.std.specs.List.{flat_map}
use Rattle.std.specs.String.{string_bytes}
use Rattle.protocol_steps.specs.declared.message.Message.{Message}
use Rattle.problem_text.specs.Canonical.{line}
use Rattle.trace_text.specs.Lines.{took_words, sent_words}
use Rattle.trace_text.proofs.WordLaws.{on-ok}
use Rattle.trace_text.proofs.LineLaws.{event-written}
use Rattle.trace_text.proofs.lines.write_event.Goals as goal

pub returns : goal.returns
returns c =
    let names = c.args.names.now in
    let took = c.in_ok-write_took.ensures ∙ ap (λ (ls : List (ℕ × Message)). string_bytes c.write_heading.new.text ++ flat_map line (map (took_words names) ls)) c.as_slice.ensures.value in
    let sent = ap (λ (ls : List (ℕ × Message)). string_bytes c.write_agent.new.text ++ flat_map line (map (sent_words names) ls)) c.as_slice-2.ensures.value in
    on-ok c.write_sent.result _ _
    (λ h. event-written (string_bytes c.args.text.now) (string_bytes c.write_heading.new.text) (string_bytes c.write_took.new.text) (string_bytes c.write_agent.new.text) (string_bytes c.write_sent.new.text)
    names c.args.core.now c.args.number c.args.event.now c.args.exchange.now.took.items c.args.exchange.now.sent.items
    c.in_ok-write_heading.ensures
    took
    c.in_ok-write_agent.ensures
    (h ∙ sent))
    c.write_sent.ensures
