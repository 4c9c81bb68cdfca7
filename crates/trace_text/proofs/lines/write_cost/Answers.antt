use Rattle.std.proofs.Common.{[], ◌∷◌, codes}
use Rattle.std.specs.Fmt.{decimal}
use Rattle.std.specs.String.{string_bytes}
use Rattle.solve_report.specs.Replay.{bound_word}
use Rattle.trace_text.specs.Lines.{pair_words}
use Rattle.trace_text.proofs.WordLaws.{on-ok, words-more}
use Rattle.trace_text.proofs.lines.write_cost.Goals as goal

pub returns : goal.returns
returns c =
    let old = string_bytes c.args.text.now in
    let bounds = words-more old (string_bytes c.write_numbered.new.text) (string_bytes c.write_bound.new.text) (codes "cost" ∷ decimal c.args.lower ∷ []) (bound_word c.args.upper ∷ []) c.in_ok-write_numbered.ensures c.in_ok-write_bound.ensures in
    on-ok c.write_context.result _ _
    (words-more old (string_bytes c.write_bound.new.text) (string_bytes c.write_context.new.text) (codes "cost" ∷ decimal c.args.lower ∷ bound_word c.args.upper ∷ []) (pair_words c.args.names.now c.args.context.now) bounds)
    c.write_context.ensures
