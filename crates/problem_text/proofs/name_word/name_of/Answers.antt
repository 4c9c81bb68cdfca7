use Rattle.std.proofs.Common.{sym}
use Rattle.problem_text.proofs.NameLaws.{IsUtf8-from_name}
use Rattle.problem_text.proofs.name_word.name_of.Goals as goal

pub returns-in-Err : goal.returns-in-Err
returns-in-Err c = let t = c.if-not-is_name.ensures in let fact = c.in-Err.ensures.cases in absurd (fact.0 (IsUtf8-from_name c.args.word.now (sym t)))
