use Rattle.std.proofs.Common.{◌∙◌}
use Rattle.solve_report.specs.Summary.{run_lines, made_lines, found_lines}
use Rattle.solve_report.proofs.SummaryLaws.{parts-written}
use Rattle.solve_report.proofs.summary.write_summary.Goals as goal

pub returns : goal.returns
returns c =
    c.bytes_of.ensures
    ∙ parts-written (run_lines c.args.summary.now.status c.args.summary.now.method) (made_lines c.args.summary.now) (found_lines c.args.summary.now) _ _ _ _ _
    c.new-text.ensures.bytes c.in_ok-write_run.ensures c.in_ok-write_made.ensures c.in_ok-write_found.ensures c.in_ok-push_str.ensures.bytes
