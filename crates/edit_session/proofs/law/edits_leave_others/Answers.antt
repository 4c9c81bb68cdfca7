use Rattle.edit_session.proofs.EditLaws as found
use Rattle.edit_session.proofs.law.edits_leave_others.Goals as goal

pub returns : goal.returns
returns c = found.edits_leave_others
