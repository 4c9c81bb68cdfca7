use Rattle.serve_top.proofs.CountLaws.{served_told}
use Rattle.serve_top.proofs.serving.served.Goals as goal

pub returns-in-Ok-clause-told : goal.returns-in-Ok-clause-told
returns-in-Ok-clause-told g c =
    served_told g.L.S.Source.left g.L.S.Source.faults g.L.K.Sink.held g.L.K.Sink.faults g.M.Maker.is_reply _ c.in-Ok.outcome.ends.items c.in-Ok.outcome.looks _ _ _ _ c.requires.clients.1 c.in-Ok.ensures.served
