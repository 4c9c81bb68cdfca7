use Rattle.order_top.proofs.OneLaws.{order_answers_one, files_one}
use Rattle.order_top.proofs.law.order_answers_are_one.Goals as goal

pub returns-clause-replies : goal.returns-clause-replies
returns-clause-replies c = order_answers_one c.searched_files_are_one.ensures

pub returns-clause-files : goal.returns-clause-files
returns-clause-files c = files_one c.searched_files_are_one.ensures
