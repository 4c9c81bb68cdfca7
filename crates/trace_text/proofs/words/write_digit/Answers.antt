use Rattle.std.proofs.Common.{ℕ, List, ◌++◌, ap, ◌∙◌, arith}
use Rattle.std.specs.String.{string_bytes}
use Rattle.trace_text.proofs.WordLaws.{digit-written}
use Rattle.trace_text.proofs.words.write_digit.Goals as goal

pub returns : goal.returns
returns c =
    digit-written (string_bytes c.args.text.now) (string_bytes c.push.new.self) c.args.digit c.requires
    (c.in_ok-push.ensures.bytes ∙ ap (λ (text : List ℕ). string_bytes c.args.text.now ++ text) (c.in_ok-push.ensures.ascii (omega arith)))
