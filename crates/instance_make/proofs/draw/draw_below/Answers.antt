use Rattle.std.proofs.Common.{ℕ, ◌%◌, ap}
use Rattle.instance_make.proofs.StreamLaws.{word-first}
use Rattle.instance_make.proofs.draw.draw_below.Goals as goal

pub returns-clause-partner : goal.returns-clause-partner
returns-clause-partner c =
    rw c.from.ensures (ap (λ (word : ℕ). word % c.args.var) (word-first c.args.words.now c.next_word.result c.next_word.new.self c.next_word.ensures).0)

pub returns-clause-words : goal.returns-clause-words
returns-clause-words c = (word-first c.args.words.now c.next_word.result c.next_word.new.self c.next_word.ensures).1
