use Rattle.solve_report.proofs.verdict.write_difference.Goals as goal

pub returns-in-Deliveries : goal.returns-in-Deliveries
returns-in-Deliveries c = rw c.in-Deliveries.is c.write_sides-in-Deliveries.ensures
