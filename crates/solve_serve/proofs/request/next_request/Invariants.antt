use Rattle.solve_serve.specs.Requests.{reading}
use Rattle.solve_serve.proofs.RequestLaws.{HasGoneOn}
use Rattle.solve_serve.proofs.GrownLaws.{reads_left}
use Rattle.solve_serve.proofs.request.next_request.Given as goal

abbrev pub invariant-loop-request : goal.invariant-loop-request
invariant-loop-request g l = HasGoneOn (reading l.initial.reader (g.S.Source.left l.initial.source) (g.S.Source.faults l.initial.source)) l.place (reading l.reader (g.S.Source.left l.source) (g.S.Source.faults l.source))

abbrev pub decreases-loop-request : goal.decreases-loop-request
decreases-loop-request g l = reads_left l.reader
