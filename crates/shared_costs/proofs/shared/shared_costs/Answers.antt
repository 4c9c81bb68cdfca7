use Rattle.std.proofs.Common.{ℕ, List, ap₂, ◌∙◌, subst}
use Rattle.std.specs.Result.{IfOk}
use Rattle.dcop_base.specs.Problem.{Dcop}
use Rattle.dcop_base.specs.Table.{CostTable}
use Rattle.shared_costs.specs.Shared.{AreSharedCosts}
use Rattle.shared_costs.proofs.shared.shared_costs.Goals as goal

pub returns : goal.returns
returns c =
    let joints = c.problem.inside.joints in
    let same = ap₂ (λ (sizes : List ℕ) (tables : List CostTable). (let p : Dcop = record { sizes = sizes; tables = tables; joints = joints } in p)) c.as_slice.ensures c.as_slice-2.ensures ∙ c.problem.view_is in
    subst (λ (p : Dcop). IfOk c.shared_of.result (AreSharedCosts p)) same (c.shared_of.ensures joints)
