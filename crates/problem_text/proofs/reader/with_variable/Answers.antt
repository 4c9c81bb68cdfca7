use Rattle.problem_text.specs.Lines.{words}
use Rattle.problem_text.specs.Drafts.{IsDraft}
use Rattle.problem_text.proofs.DraftLaws.{var-draft}
use Rattle.problem_text.proofs.reader.with_variable.Goals as goal

pub with_variable-requires-clause-draft : goal.with_variable-requires-clause-draft
with_variable-requires-clause-draft c = let draft : IsDraft c.args.draft = rw (← c.draft.view_is) c.draft.invariant.draft in var-draft c.args.draft _ (words c.args.text.now) draft c.in_ok-variable.ensures.gives
