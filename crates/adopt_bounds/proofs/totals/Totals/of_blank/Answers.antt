use Rattle.std.proofs.Common.{refl}
use Rattle.adopt_bounds.proofs.TotalLaws.{totals_blank}
use Rattle.adopt_bounds.proofs.totals.Totals.of_blank.Goals as goal

pub returns : goal.returns
returns c = totals_blank c.args.width (record { lower = 0; upper = 0; missing = c.args.width }) refl
