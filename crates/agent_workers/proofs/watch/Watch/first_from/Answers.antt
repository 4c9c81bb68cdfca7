use Rattle.std.proofs.Common.{rules, arith, ◌+◌, ◌*◌}
use Rattle.agent_workers.proofs.WatchLaws.{first_of_rest, rest_unmarked, word_unmarked, first_of_word, then_unmarked, past_words, past_word}
use Rattle.agent_workers.proofs.watch.Watch.first_from.Goals as goal

pub returns-then-own-ge-WORDS-clause-passed : goal.returns-then-own-ge-WORDS-clause-passed
returns-then-own-ge-WORDS-clause-passed c = past_words c.args.self.now.waits c.args.from (let past = c.if-own-ge-WORDS.true in search rules)

pub returns-then-ahead-ne0-clause-passed : goal.returns-then-ahead-ne0-clause-passed
returns-then-ahead-ne0-clause-passed c = first_of_rest c.args.self.now.waits c.args.from (search rules) (let test = c.if-ahead-ne0.true in omega (arith, test))

pub loop-word-init : goal.loop-word-init
loop-word-init c = rest_unmarked c.args.self.now.waits c.args.from (let test = c.if-ahead-ne0.false in omega (arith, test))

pub returns-then-waits-ne0-clause-passed : goal.returns-then-waits-ne0-clause-passed
returns-then-waits-ne0-clause-passed c =
    then_unmarked c.args.self.now.waits c.args.from (c.loop-word.word * 64) _ c.loop-word.invariant
    (first_of_word c.args.self.now.waits c.loop-word.word (search rules) (let test = c.if-waits-ne0.true in omega (arith, test)))

pub loop-word-preserved : goal.loop-word-preserved
loop-word-preserved c =
    then_unmarked c.args.self.now.waits c.args.from (c.loop-word.word * 64) ((c.loop-word.word + 1) * 64) c.loop-word.invariant
    (word_unmarked c.args.self.now.waits c.loop-word.word (let test = c.if-waits-ne0.false in omega (arith, test)))

pub returns-clause-passed : goal.returns-clause-passed
returns-clause-passed c to =
    then_unmarked c.args.self.now.waits c.args.from (c.loop-word.word * 64) to c.loop-word.invariant (past_word c.args.self.now.waits c.loop-word.word (search rules) c.loop-word-test.false to)
