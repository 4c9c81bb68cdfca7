use Rattle.std.proofs.Common.{◌≡◌, length, sym, ap, ◌∙◌}
use Rattle.problem_text.specs.File.{TextFile, IsFile}
use Rattle.protocol_steps.specs.Network.{Network, start_state}
use Rattle.minimised_problem.specs.LogHolds.{agents_for}
use Rattle.solve_printed.proofs.ReplayLaws.{fault-told}
use Rattle.trace_top.proofs.LogLaws.{fault-traced}
use Rattle.trace_top.proofs.answering.traced.Goals as goal

pub returns-in_ok-refusal-in-Err-clause-belongs : goal.returns-in_ok-refusal-in-Err-clause-belongs
returns-in_ok-refusal-in-Err-clause-belongs c =
    let net : Network = start_state (agents_for c.args.file c.args.error) in
    let names : c.file.inside.names ≡ c.args.file.names = ap (λ (f : TextFile). f.names) c.file.view_is in
    fault-traced c.args.file c.args.from net c.args.log.now c.file.inside.names c.in-Err.fault c.in_ok-refusal-in-Err.refusal names c.in_ok-refusal-in-Err.ensures c.in-Err.ensures

pub returns-in_ok-refusal-in-Err-clause-told : goal.returns-in_ok-refusal-in-Err-clause-told
returns-in_ok-refusal-in-Err-clause-told c =
    let net : Network = start_state (agents_for c.args.file c.args.error) in
    let whole : IsFile c.args.file = rw (← c.file.view_is) c.file.invariant in
    let names : length c.args.file.names ≡ length c.file.inside.names = ap (λ (f : TextFile). length f.names) (sym c.file.view_is) in
    fault-told c.file.inside.names (length c.args.file.problem.sizes) net c.args.log.now c.in-Err.fault c.in_ok-refusal-in-Err.refusal (sym whole.named ∙ names) c.requires.events c.in_ok-refusal-in-Err.ensures c.in-Err.ensures
