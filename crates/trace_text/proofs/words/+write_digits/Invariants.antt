use Rattle.trace_text.proofs.words.+write_digits.Given as goal

-- each turn leaves a smaller number
abbrev pub decreases-write_digits : goal.decreases-write_digits
decreases-write_digits l = l.number
