use Rattle.answer_io.proofs.ShowLaws.{write-so, sink-stays}
use Rattle.solve_top.proofs.ShowLaws.{solved-so, read-so, source-stays, link-so, differs-so, dialer-stays, complete-so, drill-so}
use Rattle.solve_top.proofs.top.solve.Goals as goal

pub returns-clause-answered : goal.returns-clause-answered
returns-clause-answered g c = λ some.
    solved-so _ _ _ _ c.in-Ok.answer c.in-Ok.ensures.links _ _ _ _ _ c.show.ensures.shows _ _ c.in-Ok.ensures.answered some

pub returns-clause-read_fault : goal.returns-clause-read_fault
returns-clause-read_fault g c = λ fault.
    read-so _ _ _ c.in-Ok.answer c.in-Ok.ensures.answered _ _ _ _ _ c.show.ensures.shows fault

pub returns-clause-write_fault : goal.returns-clause-write_fault
returns-clause-write_fault g c = λ fault.
    write-so c.in-Ok.answer _ _ _ _ _ c.show.ensures.shows fault

pub returns-clause-source_failed : goal.returns-clause-source_failed
returns-clause-source_failed g c =
    source-stays _ _ _ c.in-Ok.answer c.in-Ok.ensures.answered _ _ _ _ _ c.show.ensures.shows

pub returns-clause-sink_failed : goal.returns-clause-sink_failed
returns-clause-sink_failed g c = sink-stays c.in-Ok.answer _ _ _ _ _ c.show.ensures.shows

pub returns-clause-link_fault : goal.returns-clause-link_fault
returns-clause-link_fault g c = λ fault. link-so _ _ _ _ c.in-Ok.answer c.in-Ok.ensures.links _ _ _ _ _ c.show.ensures.shows fault

pub returns-clause-link_differs : goal.returns-clause-link_differs
returns-clause-link_differs g c = λ fault. differs-so _ _ _ _ c.in-Ok.answer c.in-Ok.ensures.links _ _ _ _ _ c.show.ensures.shows fault

pub returns-clause-dialer_failed : goal.returns-clause-dialer_failed
returns-clause-dialer_failed g c = dialer-stays _ _ _ _ c.in-Ok.answer c.in-Ok.ensures.links _ _ _ _ _ c.show.ensures.shows

pub returns-clause-complete : goal.returns-clause-complete
returns-clause-complete g c = λ text told accepts steady quiet still so.
    complete-so _ _ _ _ c.in-Ok.answer c.in-Ok.ensures.links _ _ _ _ _ c.show.ensures.shows _ _ c.in-Ok.ensures.answered text told accepts steady quiet still (λ asks no. no.0 (so asks))

pub returns-clause-drilled : goal.returns-clause-drilled
returns-clause-drilled g c = λ asks quiet still so.
    drill-so _ _ _ _ c.in-Ok.answer c.in-Ok.ensures.links _ _ _ _ _ c.show.ensures.shows _ _ c.in-Ok.ensures.answered asks quiet still (λ many no. no.0 (so many))
