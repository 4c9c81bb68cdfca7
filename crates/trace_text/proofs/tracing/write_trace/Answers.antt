use Rattle.std.proofs.Common.{◌≡◌, ◌∷◌, [], ◌++◌, ℕ, List, length, sym, ap, ◌∙◌, codes, ◌==◌, if◌then◌else◌}
use Rattle.std.specs.List.{flat_map}
use Rattle.std.specs.Fmt.{decimal}
use Rattle.std.specs.String.{string_bytes}
use Rattle.problem_text.specs.Canonical.{line}
use Rattle.delivery_core.specs.Agents.{network_of}
use Rattle.trace_text.specs.Trace.{start_lines}
use Rattle.trace_text.proofs.TraceLaws.{trace-written, starts-told, starts-untold}
use Rattle.trace_text.proofs.tracing.write_trace.Goals.{then-from-eq0+in_ok-write_starts, else-from-eq0}
use Rattle.trace_text.proofs.tracing.write_trace.Goals as goal

pub returns : goal.returns
returns c =
    let p = c.args.problem.now in
    let net = network_of p c.args.start.now in
    let names = c.args.names.now in
    let log = c.args.log.now in
    let told = c.in_ok-write_events.ensures p net c.in_ok-core.ensures.core in
    let head = c.in_ok-write_head.ensures ∙ ap (λ (text : List ℕ). text ++ flat_map line ((codes "status" ∷ codes "trace" ∷ []) ∷ (codes "events" ∷ decimal (length log) ∷ []) ∷ [])) c.new-text.ensures.bytes in
    let starts : string_bytes c.if-from-eq0.text ≡ string_bytes c.write_head.new.text ++ flat_map line (if c.args.from == 0 then start_lines names net else []) = elim c.if-from-eq0.branch [
      | then-from-eq0+in_ok-write_starts w ↦ starts-told c.args.from (string_bytes c.write_head.new.text) (string_bytes c.if-from-eq0.text) (start_lines names net) w.if-from-eq0.true (ap string_bytes w.text-is ∙ w.in_ok-write_starts.ensures)
      | else-from-eq0 w ↦ starts-untold c.args.from (string_bytes c.write_head.new.text) (string_bytes c.if-from-eq0.text) (start_lines names net) w.if-from-eq0.false (ap string_bytes w.text-is)
    ] in
    let text = trace-written names c.args.from net log (string_bytes c.write_head.new.text) (string_bytes c.if-from-eq0.text) (string_bytes c.write_events.new.text) (string_bytes c.write_end.new.text)
    head starts told.2 c.in_ok-write_end.ensures in
    (told.0, told.1, c.from_vec.ensures ∙ ap (λ v. v.items) c.into_bytes.ensures.value ∙ text)
