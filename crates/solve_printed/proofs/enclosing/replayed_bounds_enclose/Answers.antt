use Rattle.solve_printed.proofs.EnclosingLaws.{bounds-enclose}
use Rattle.solve_printed.proofs.enclosing.replayed_bounds_enclose.Goals as goal

pub returns : goal.returns
returns c = bounds-enclose c.token_runs.ensures c.adopt_bounds_enclose.ensures
