use Rattle.std.proofs.Common.{arith}
use Rattle.agent_cells.proofs.LookLaws.{none_next, none_all, empty_at}
use Rattle.agent_cells.proofs.collect.know_of_none.Goals as goal

pub loop-end-preserved : goal.loop-end-preserved
loop-end-preserved c =
    let test = c.if-known-gt0.false in
    let inside = c.loop-end-test.true in
    none_next c.args.heads.now c.loop-end.end-index c.end-item.result c.loop-end.invariant inside (empty_at c.args.heads.now c.loop-end.end-index c.end-item.result c.end-item.is _ c.known.ensures (omega (arith, test)))

pub returns : goal.returns
returns c = λ _. none_all c.args.heads.now c.loop-end.end-index (let test = c.loop-end-test.false in omega (arith, test)) c.loop-end.invariant
