use Rattle.std.proofs.Common.{◌≡◌, ℕ, ◌+◌, ◌*◌, get_or, ap, arith}
use Rattle.util_project.proofs.PickLaws.{lowest-same}
use Rattle.util_project.proofs.picking.lowest_of.Goals as goal

pub returns : goal.returns
returns c =
    let costs = c.args.costs.now in
    let cell : (e : ℕ) → 0 + e * 1 ≡ e = λ e. omega arith in
    lowest-same (λ (e : ℕ). get_or costs (0 + e * 1) 0) (λ (e : ℕ). get_or costs e 0) _ _ (λ e lt. ap (λ (n : ℕ). get_or costs n 0) (cell e)) c.lowest.ensures
