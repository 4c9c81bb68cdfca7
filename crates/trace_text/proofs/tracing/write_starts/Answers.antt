use Rattle.std.proofs.Common.{◌≡◌, ◌<◌, ℕ, List, ◌++◌, length, map, get_or, sym, ap, subst, ◌∙◌, arith}
use Rattle.std.specs.List.{flat_map}
use Rattle.std.specs.String.{string_bytes}
use Rattle.std.proofs.lemmas.List.{length-map}
use Rattle.protocol_steps.specs.declared.message.Message.{Message}
use Rattle.protocol_steps.specs.Step.{start_of}
use Rattle.problem_text.specs.Canonical.{line}
use Rattle.delivery_core.specs.Agents.{agents_of}
use Rattle.trace_text.specs.Told.{start_told}
use Rattle.trace_text.proofs.PlayLaws.{start_more}
use Rattle.trace_text.proofs.tracing.write_starts.Goals as goal

pub loop-me-preserved : goal.loop-me-preserved
loop-me-preserved c =
    let p = c.args.problem.now in
    let made = agents_of p c.args.start.now in
    let names = c.args.names.now in
    let same = c.as_slice-sent-items.ensures.value ∙ c.in_ok-parcels.ensures in
    let inside : c.loop-me.me < length made =
    subst (λ (n : ℕ). c.loop-me.me < n) (ap (λ (ls : List (List (ℕ × Message))). length ls) same ∙ length-map made (λ v. (start_of v).sends)) c.loop-me-test.true in
    let item = c.sent-item.is ∙ ap (λ (ls : List (List (ℕ × Message))). get_or ls c.loop-me.me c.sent-item.result) same in
    let written = c.in_ok-write_start.ensures ∙ ap (λ (ls : List (ℕ × Message)). string_bytes c.loop-me.text ++ flat_map line (start_told names c.args.core.now c.loop-me.me ls)) c.as_slice.ensures in
    start_more p made names c.args.core.now c.requires.core c.loop-me.me c.sent-item.result (string_bytes c.loop-me.text) (string_bytes c.write_start.new.text) _ inside item written c.loop-me.invariant
