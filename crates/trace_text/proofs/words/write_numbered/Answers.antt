use Rattle.std.proofs.Common.{[], ◌∷◌}
use Rattle.std.specs.Fmt.{decimal}
use Rattle.std.specs.String.{string_bytes}
use Rattle.trace_text.proofs.WordLaws.{on-ok, words-more}
use Rattle.trace_text.proofs.words.write_numbered.Goals as goal

pub returns : goal.returns
returns c =
    on-ok c.write_number.result _ _
    (words-more (string_bytes c.args.text.now) (string_bytes c.write_word.new.text) (string_bytes c.write_number.new.text) (c.args.word.now ∷ []) (decimal c.args.number ∷ []) c.in_ok-write_word.ensures)
    c.write_number.ensures
