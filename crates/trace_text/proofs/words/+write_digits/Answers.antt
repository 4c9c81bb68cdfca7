use Rattle.std.specs.String.{string_bytes}
use Rattle.trace_text.proofs.WordLaws.{on-ok, number-written}
use Rattle.trace_text.proofs.words.+write_digits.Goals as goal

pub returns : goal.returns
returns t c =
    on-ok c.write_digit-2.result _ _
    (number-written (string_bytes c.args.text.now) (string_bytes c.write_digits.new.text) (string_bytes c.write_digit-2.new.text) c.args.number c.if-number-lt10.false c.ranges.number.fits c.in_ok-write_digits.ensures)
    c.write_digit-2.ensures
