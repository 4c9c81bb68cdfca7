use Rattle.std.proofs.Common.{sym}
use Rattle.problem_text.proofs.ScopeLaws.{position-no_name}
use Rattle.problem_text.proofs.scope_words.variable_of_word.Goals as goal

pub returns-in-None : goal.returns-in-None
returns-in-None c = sym (position-no_name c.args.names.now c.args.word.now c.requires c.in-None.ensures)
