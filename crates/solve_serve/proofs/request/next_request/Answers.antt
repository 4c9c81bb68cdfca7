use Rattle.solve_serve.specs.Requests.{reading}
use Rattle.solve_serve.proofs.GrownLaws.{fewer_left}
use Rattle.solve_serve.proofs.RequestLaws.{gone_on_empty, gone_on_more, next_stopped}
use Rattle.solve_serve.proofs.request.next_request.Goals as goal

pub returns-in_err-place-in-None-clause-next : goal.returns-in_err-place-in-None-clause-next
returns-in_err-place-in-None-clause-next g c =
    let before = reading c.args.reader.now (g.S.Source.left c.args.source.now) (g.S.Source.faults c.args.source.now) in
    let now = reading c.loop-request.reader (g.S.Source.left c.loop-request.source) (g.S.Source.faults c.loop-request.source) in
    let empty = reading c.next.new.self (g.S.Source.left c.loop-request.source) (g.S.Source.faults c.loop-request.source) in
    let after = reading c.read_on.new.reader (g.S.Source.left c.read_on.new.source) (g.S.Source.faults c.read_on.new.source) in
    next_stopped c.from_residual.result c.in_err-place-in-None.field-0.0 before empty after c.loop-request.place
    (gone_on_empty before now c.loop-request.place c.next.new.self c.loop-request.invariant c.in-None.ensures.handed)
    c.in_err-place-in-None.ensures.piece c.from_residual.ensures.1

pub loop-request-preserved : goal.loop-request-preserved
loop-request-preserved g c =
    let before = reading c.args.reader.now (g.S.Source.left c.args.source.now) (g.S.Source.faults c.args.source.now) in
    let now = reading c.loop-request.reader (g.S.Source.left c.loop-request.source) (g.S.Source.faults c.loop-request.source) in
    let empty = reading c.next.new.self (g.S.Source.left c.loop-request.source) (g.S.Source.faults c.loop-request.source) in
    let after = reading c.read_on.new.reader (g.S.Source.left c.read_on.new.source) (g.S.Source.faults c.read_on.new.source) in
    gone_on_more before empty after c.loop-request.place c.in_ok-place-in-None.field-0
    (gone_on_empty before now c.loop-request.place c.next.new.self c.loop-request.invariant c.in-None.ensures.handed) c.in_ok-place-in-None.ensures.piece

pub loop-request-smaller : goal.loop-request-smaller
loop-request-smaller g c =
    fewer_left c.loop-request.reader c.next.new.self c.read_on.new.reader c.in-None.ensures.handed c.in-None.ensures.ends c.in_ok-place-in-None.ensures.grown
