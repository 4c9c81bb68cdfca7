use Rattle.std.proofs.Common.{◌∷◌, [], ap, ◌∙◌, codes, Vec, Global, ℕ}
use Rattle.std.specs.String.{string_bytes}
use Rattle.search_top.specs.Text.{head_lines, bound_lines, found_lines}
use Rattle.search_top.proofs.TextLaws.{whole-written}
use Rattle.search_top.proofs.writing.write_search.Goals as goal

pub returns : goal.returns
returns c =
    let report = c.args.report.now in
    c.from_vec.ensures
    ∙ ap (λ (text : Vec ℕ Global). text.items) c.into_bytes.ensures.value
    ∙ whole-written (string_bytes c.new-text.result) (string_bytes c.write_head.new.text) (string_bytes c.write_bounds.new.text) (string_bytes c.write_found.new.text) (string_bytes c.push_str.new.self)
    (codes "end" ∷ []) (head_lines report) (bound_lines report.goal report.bound report.found) (found_lines c.args.file.now report.found)
    c.new-text.ensures.bytes c.in_ok-write_head.ensures c.in_ok-write_bounds.ensures c.in_ok-write_found.ensures c.in_ok-push_str.ensures.bytes
