use Rattle.std.proofs.Common.{ℕ, sym, subst}
use Rattle.worker_laws.specs.CellRuns.{IsRunOfCells}
use Rattle.minimised_problem.specs.LogHolds.{agents_for}
use Rattle.solve_methods.proofs.law.adopt_reports_hold.Goals as goal

pub returns : goal.returns
returns c file error budget certified report cells log whole is ran merged =
    c.merged_logs_hold.ensures file report budget cells is.end log whole
    (subst (λ (e : ℕ). IsRunOfCells budget (agents_for file e) cells is.end) (sym is.error_told) ran) merged is.told
