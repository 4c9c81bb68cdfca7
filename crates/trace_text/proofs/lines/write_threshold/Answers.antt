use Rattle.std.proofs.Common.{[], ◌∷◌, codes}
use Rattle.std.specs.Fmt.{decimal}
use Rattle.std.specs.String.{string_bytes}
use Rattle.trace_text.specs.Lines.{pair_words}
use Rattle.trace_text.proofs.WordLaws.{on-ok, words-more}
use Rattle.trace_text.proofs.lines.write_threshold.Goals as goal

pub returns : goal.returns
returns c =
    on-ok c.write_context.result _ _
    (words-more (string_bytes c.args.text.now) (string_bytes c.write_numbered.new.text) (string_bytes c.write_context.new.text) (codes "threshold" ∷ decimal c.args.amount ∷ []) (pair_words c.args.names.now c.args.context.now) c.in_ok-write_numbered.ensures)
    c.write_context.ensures
