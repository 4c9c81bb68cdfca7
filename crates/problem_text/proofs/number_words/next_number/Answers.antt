use Rattle.problem_text.proofs.NumberLaws.{number-first}
use Rattle.problem_text.proofs.number_words.next_number.Goals as goal

pub returns-in-Some : goal.returns-in-Some
returns-in-Some c =
    number-first c.args.text.now c.after_blanks-from_word.result.now c.split_at.result.1.now c.in-Some.length c.in-Some.number c.after_blanks-from_word.ensures c.in-Some.ensures.run c.in-Some.ensures.some c.split_at.ensures.back c.in-Some.ensures.number
