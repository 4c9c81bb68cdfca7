use Rattle.problem_order.proofs.NarrowLaws.{narrowed_files_are_one}
use Rattle.problem_order.proofs.law.narrowed_files_are_one.Goals as goal

pub returns : goal.returns
returns c = narrowed_files_are_one
