use Rattle.std.proofs.Common.{◌∷◌, [], codes}
use Rattle.std.specs.String.{string_bytes}
use Rattle.problem_text.specs.Canonical.{goal_lines}
use Rattle.search_top.specs.Text.{ending_word, number_line}
use Rattle.search_top.proofs.TextLaws.{on-ok, head-written}
use Rattle.search_top.proofs.writing.write_head.Goals as goal

pub returns : goal.returns
returns c =
    let report = c.args.report.now in
    let status = codes "status" ∷ ending_word report.ending ∷ [] in
    let method = codes "method" ∷ codes "search" ∷ [] in
    on-ok c.write_number-2.result c.write_number-2.ensures
    (λ last. head-written (string_bytes c.args.text.now) (string_bytes c.write_status.new.text) (string_bytes c.push_str.new.self) (string_bytes c.write_goal.new.text) (string_bytes c.write_number.new.text) (string_bytes c.write_number-2.new.text)
    status method (number_line (codes "error") report.error) (number_line (codes "nodes") report.nodes) (goal_lines report.goal)
    c.in_ok-write_status.ensures c.in_ok-push_str.ensures.bytes c.in_ok-write_goal.ensures c.in_ok-write_number.ensures last)
