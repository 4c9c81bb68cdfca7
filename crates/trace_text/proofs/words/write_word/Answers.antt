use Rattle.std.proofs.Common.{arith}
use Rattle.std.specs.String.{string_bytes}
use Rattle.trace_text.proofs.WordLaws.{word-written}
use Rattle.trace_text.proofs.words.write_word.Goals as goal

pub returns : goal.returns
returns c =
    word-written (string_bytes c.args.text.now) (string_bytes c.push.new.self) (string_bytes c.push_str.new.self) _ c.args.word.now
    (c.in_ok-push.ensures.ascii (omega arith))
    c.in_ok-push.ensures.bytes
    c.in_ok-push_str.ensures.bytes
