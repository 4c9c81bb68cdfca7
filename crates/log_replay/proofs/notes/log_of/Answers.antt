use Rattle.std.proofs.Common.{Option, Some, sym, subst}
use Rattle.log_replay.specs.Notes.{NotesView, AreSomeNotes, MayBeLogBy}
use Rattle.log_replay.proofs.notes.log_of.Goals as goal

pub merged-requires : goal.merged-requires
merged-requires c = subst AreSomeNotes c.in-Some.is c.requires

pub returns-in_ok-merged-in-Some-clause-log : goal.returns-in_ok-merged-in-Some-clause-log
returns-in_ok-merged-in-Some-clause-log c = subst (λ (o : Option NotesView). MayBeLogBy o (Some c.in_ok-merged-in-Some.field-0)) (sym c.in-Some.is) c.in_ok-merged-in-Some.ensures

pub returns-in-None-clause-log : goal.returns-in-None-clause-log
returns-in-None-clause-log c = λ p made es end ran notes. tt
