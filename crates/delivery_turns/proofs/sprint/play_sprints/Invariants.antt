use Rattle.std.specs.List.{flat_map}
use Rattle.dcop_base.specs.Problem.{Dcop}
use Rattle.protocol_steps.specs.Network.{Network}
use Rattle.delivery_core.specs.Shown.{IsCore}
use Rattle.log_replay.specs.Notes.{KeepNotes}
use Rattle.delivery_turns.specs.Sprints.{Sprinted}
use Rattle.delivery_turns.proofs.sprint.play_sprints.Given as goal

abbrev pub invariant-loop : goal.invariant-loop
invariant-loop g l = (p : Dcop) (first : Network) → IsCore p first l.initial.state → (h : Sprinted p l.budget first l.counter l.state) × KeepNotes p first (flat_map (λ es. es) h.pieces) l.initial.notes l.notes
