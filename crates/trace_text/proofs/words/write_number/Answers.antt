use Rattle.std.proofs.Common.{arith}
use Rattle.std.specs.Fmt.{decimal}
use Rattle.std.specs.String.{string_bytes}
use Rattle.trace_text.proofs.WordLaws.{on-ok, word-written}
use Rattle.trace_text.proofs.words.write_number.Goals as goal

pub returns : goal.returns
returns c =
    on-ok c.write_digits.result _ _
    (word-written (string_bytes c.args.text.now) (string_bytes c.push.new.self) (string_bytes c.write_digits.new.text) _ (decimal c.args.number)
    (c.in_ok-push.ensures.ascii (omega arith))
    c.in_ok-push.ensures.bytes)
    c.write_digits.ensures
