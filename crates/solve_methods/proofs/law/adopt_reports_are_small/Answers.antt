use Rattle.solve_methods.proofs.ReadableLaws.{reports_small}
use Rattle.solve_methods.proofs.law.adopt_reports_are_small.Goals as goal

pub returns : goal.returns
returns c file error budget certified report whole within is = reports_small c.rounds_are_bounded.ensures file error budget certified report whole within is
