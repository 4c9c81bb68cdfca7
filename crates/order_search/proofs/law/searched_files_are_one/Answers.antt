use Rattle.order_search.proofs.FoundLaws.{searched_files_one}
use Rattle.order_search.proofs.law.searched_files_are_one.Goals as goal

pub returns : goal.returns
returns c = searched_files_one c.narrowed_files_are_one.ensures
