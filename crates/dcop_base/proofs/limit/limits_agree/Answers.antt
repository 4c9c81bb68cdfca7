use Rattle.std.proofs.Common.{refl}
use Rattle.dcop_base.proofs.limit.limits_agree.Goals as goal

pub returns-clause-amounts : goal.returns-clause-amounts
returns-clause-amounts c = refl

pub returns-clause-counts : goal.returns-clause-counts
returns-clause-counts c = refl

pub returns-clause-variables : goal.returns-clause-variables
returns-clause-variables c = refl

pub returns-clause-sizes : goal.returns-clause-sizes
returns-clause-sizes c = refl

pub returns-clause-scopes : goal.returns-clause-scopes
returns-clause-scopes c = refl

pub returns-clause-costs : goal.returns-clause-costs
returns-clause-costs c = refl

pub returns-clause-cells : goal.returns-clause-cells
returns-clause-cells c = refl

pub returns-clause-digits : goal.returns-clause-digits
returns-clause-digits c = refl

pub returns-clause-names : goal.returns-clause-names
returns-clause-names c = refl

pub returns-clause-inputs : goal.returns-clause-inputs
returns-clause-inputs c = refl

pub returns-clause-assignments : goal.returns-clause-assignments
returns-clause-assignments c = refl

pub returns-clause-joined : goal.returns-clause-joined
returns-clause-joined c = refl

pub returns-clause-sent : goal.returns-clause-sent
returns-clause-sent c = refl

pub returns-clause-turns : goal.returns-clause-turns
returns-clause-turns c = refl

pub returns-clause-budgets : goal.returns-clause-budgets
returns-clause-budgets c = refl
