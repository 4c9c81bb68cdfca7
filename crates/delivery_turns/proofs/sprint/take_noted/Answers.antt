use Rattle.std.proofs.Common.{◌≡◌, ◌==◌, true, false, List, length, sym, ap, subst, ◌∙◌}
use Rattle.std.proofs.lemmas.Result.{on_ok_weaker}
use Rattle.protocol_steps.specs.declared.event.Take.{Take}
use Rattle.log_replay.specs.Notes.{HasHappened, NotesEvent}
use Rattle.delivery_turns.proofs.KeptLaws.{turn_unnoted, turn_happened, turn_noted}
use Rattle.delivery_turns.proofs.sprint.take_noted.Goals as goal

pub take_turn-requires-clause-core : goal.take_turn-requires-clause-core
take_turn-requires-clause-core g c κs within = let n = c.requires.core in (n.0, n.1, n.4)

pub returns-then-is_empty : goal.returns-then-is_empty
returns-then-is_empty g c =
    let takes = c.take_turn.new.takes in
    let none : (length takes.items == 0) ≡ true = sym (c.if-is_empty.ensures ∙ ap (λ n. n == 0) takes.ok.0) in
    turn_unnoted c.args.me c.args.state.now c.take_turn.new.state takes.items c.in_ok-take_turn.ensures c.args.notes.now none

pub note-requires : goal.note-requires
note-requires g c =
    let takes = c.take_turn.new.takes in
    let some : (length takes.items == 0) ≡ false = sym (c.if-is_empty.ensures ∙ ap (λ n. n == 0) takes.ok.0) in
    subst (λ (ts : List Take). HasHappened c.args.me ts c.take_turn.new.state c.args.notes.now) (sym c.as_slice.ensures.value)
    (turn_happened c.args.me c.args.state.now c.take_turn.new.state takes.items c.in_ok-take_turn.ensures some c.args.notes.now c.requires.core)

pub returns : goal.returns
returns g c = on_ok_weaker c.note.result (λ noted.
    let takes = c.take_turn.new.takes in
    let some : (length takes.items == 0) ≡ false = sym (c.if-is_empty.ensures ∙ ap (λ n. n == 0) takes.ok.0) in
    turn_noted c.args.me c.args.state.now c.take_turn.new.state takes.items c.in_ok-take_turn.ensures some c.args.notes.now c.note.new.notes
    (subst (λ (ts : List Take). NotesEvent c.args.me ts c.take_turn.new.state c.args.notes.now c.note.new.notes) c.as_slice.ensures.value noted)) c.note.ensures
