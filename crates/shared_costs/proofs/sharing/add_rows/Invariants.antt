use Rattle.shared_costs.specs.Rows.{ArePotOf}
use Rattle.shared_costs.proofs.sharing.add_rows.Given as goal

abbrev pub invariant-loop-j : goal.invariant-loop-j
invariant-loop-j l = ArePotOf l.rows l.size l.j l.pot
