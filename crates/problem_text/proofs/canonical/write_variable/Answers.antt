use Rattle.std.proofs.Common.{arith, ◌<◌, length}
use Rattle.std.proofs.lemmas.Grind.{common_steps}
use Rattle.problem_text.specs.Canonical.{value_words}
use Rattle.problem_text.proofs.LineLaws.{join-cons, value_words-named}
use Rattle.problem_text.proofs.canonical.write_variable.Goals as goal

pub returns-in_ok-push_str : goal.returns-in_ok-push_str
returns-in_ok-push_str c =
    let some : 0 < length c.args.labels.now = omega arith in
    let words = join-cons c.args.name.now (value_words c.args.size c.args.labels.now) in
    let named = value_words-named c.args.size c.args.labels.now some in
    grind (arith, common_steps, words, named)
