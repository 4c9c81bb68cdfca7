use Rattle.log_replay.proofs.NoteLaws.{happened_last, happened_row, happened_journal, happened_senders, happened_few, happened_small, notes_event}
use Rattle.log_replay.proofs.notes.note.Goals as goal

pub note_in-requires-clause-agent : goal.note_in-requires-clause-agent
note_in-requires-clause-agent c = happened_last c.args.agent c.args.takes.now c.args.core.now c.args.notes.now c.requires

pub note_in-requires-clause-row : goal.note_in-requires-clause-row
note_in-requires-clause-row c = happened_row c.args.agent c.args.takes.now c.args.core.now c.args.notes.now c.requires

pub note_in-requires-clause-journal : goal.note_in-requires-clause-journal
note_in-requires-clause-journal c = happened_journal c.args.agent c.args.takes.now c.args.core.now c.args.notes.now c.requires

pub note_in-requires-clause-senders : goal.note_in-requires-clause-senders
note_in-requires-clause-senders c = happened_senders c.args.agent c.args.takes.now c.args.core.now c.args.notes.now c.requires

pub note_in-requires-clause-few : goal.note_in-requires-clause-few
note_in-requires-clause-few c = happened_few c.args.agent c.args.takes.now c.args.core.now c.args.notes.now c.requires

pub returns : goal.returns
returns c = notes_event c.args.agent c.args.takes.now c.args.core.now c.args.notes.now c.note_in.new.notes c.in_ok-note_in.ensures
    (happened_small c.args.agent c.args.takes.now c.args.core.now c.args.notes.now c.requires)
