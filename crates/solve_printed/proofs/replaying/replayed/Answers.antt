use Rattle.std.proofs.Common.{◌≡◌, length, sym, ap, ◌∙◌}
use Rattle.std.proofs.lemmas.Result.{IfOk-weaker}
use Rattle.problem_text.specs.File.{TextFile, IsFile}
use Rattle.protocol_steps.specs.Network.{Network, start_state}
use Rattle.minimised_problem.specs.LogHolds.{agents_for}
use Rattle.solve_report.specs.AnswerText.{HasText}
use Rattle.solve_printed.specs.Replaying.{IsFaultAnswer}
use Rattle.solve_printed.proofs.ReplayLaws.{rows-told, fault-told}
use Rattle.solve_printed.proofs.replaying.replayed.Goals as goal

pub returns-in-Ok-clause-told : goal.returns-in-Ok-clause-told
returns-in-Ok-clause-told c =
    let whole : IsFile c.args.file = rw (← c.file.view_is) c.file.invariant in
    let names : length c.args.file.names ≡ length c.file.inside.names = ap (λ (f : TextFile). length f.names) (sym c.file.view_is) in
    rows-told c.file.inside.names _ c.in-Ok.core.seats (c.in-Ok.ensures.size ∙ sym whole.named ∙ names) c.in_ok-agents-in-Ok.ensures

pub returns-clause-told : goal.returns-clause-told
returns-clause-told c =
    let net : Network = start_state (agents_for c.args.file c.args.error) in
    let whole : IsFile c.args.file = rw (← c.file.view_is) c.file.invariant in
    let names : length c.args.file.names ≡ length c.file.inside.names = ap (λ (f : TextFile). length f.names) (sym c.file.view_is) in
    IfOk-weaker c.fault_answer.result (IsFaultAnswer c.file.inside.names c.in-Err.fault) HasText
    (λ answer is. fault-told c.file.inside.names (length c.args.file.problem.sizes) net c.args.log.now c.in-Err.fault answer (sym whole.named ∙ names) c.requires.events is c.in-Err.ensures.end) c.fault_answer.ensures
