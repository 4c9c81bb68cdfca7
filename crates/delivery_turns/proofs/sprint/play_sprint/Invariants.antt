use Rattle.std.proofs.Common.{◌≡◌, ◌≤◌}
use Rattle.dcop_base.specs.Problem.{Dcop}
use Rattle.protocol_steps.specs.Network.{Network}
use Rattle.protocol_steps.specs.Rounds.{most_events}
use Rattle.delivery_core.specs.Shown.{IsCore}
use Rattle.log_replay.specs.Notes.{KeepNotes}
use Rattle.delivery_turns.specs.Sprints.{none_of, Sprinting}
use Rattle.delivery_turns.proofs.sprint.play_sprint.Given as goal

abbrev pub invariant-loop : goal.invariant-loop
invariant-loop g l = ((p : Dcop) (net : Network) → IsCore p net l.initial.state → (h : Sprinting p net l.counter l.state) × (l.still ≡ none_of h.events) × KeepNotes p net h.events l.initial.notes l.notes) × (l.counter ≤ most_events)
