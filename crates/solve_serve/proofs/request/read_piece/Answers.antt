use Rattle.std.proofs.Common.{arith}
use Rattle.solve_serve.proofs.GrownLaws.{grown_on, some_taken}
use Rattle.solve_serve.proofs.RequestLaws.{piece_taken}
use Rattle.solve_serve.proofs.request.read_piece.Goals as goal

pub returns-in-Ok-clause-piece : goal.returns-in-Ok-clause-piece
returns-in-Ok-clause-piece g c =
    piece_taken c.take_piece.result _ c.args.reader.now c.take_piece.new.reader (g.S.Source.left c.args.source.now) (g.S.Source.left c.read.new.self) (g.S.Source.faults c.args.source.now) (g.S.Source.faults c.read.new.self)
    c.in-Ok.ensures.given.front c.in-Ok.ensures.cause c.take_piece.ensures

pub returns-in-Ok-clause-grown : goal.returns-in-Ok-clause-grown
returns-in-Ok-clause-grown g c =
    let within = c.in-Ok.ensures.given.within in
    let same = c.read.auto.into in
    grown_on c.take_piece.result _ c.args.reader.now c.take_piece.new.reader c.requires.none c.requires.free
    (some_taken c.in-Ok.count c.read.new.into (omega (arith, within, same)) c.in-Ok.count-test.1) c.take_piece.ensures
