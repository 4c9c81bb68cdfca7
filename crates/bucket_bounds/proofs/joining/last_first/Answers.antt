use Rattle.std.proofs.Common.{◌≡◌, ◌∷◌}
use Rattle.std.proofs.lemmas.Result.{IfOk-weaker}
use Rattle.bucket_bounds.specs.Union.{IsTurned}
use Rattle.bucket_bounds.proofs.UnionLaws.{turned_some}
use Rattle.bucket_bounds.proofs.joining.last_first.Goals as goal

pub returns-in-Some : goal.returns-in-Some
returns-in-Some c =
    IfOk-weaker c.with_first.result (λ vars. vars ≡ c.in-Some.last.now ∷ c.in-Some.others.now) (IsTurned c.args.vars.now)
    (λ vars is. turned_some c.in-Some.others.now c.in-Some.last.now c.args.vars.now vars c.in-Some.ensures.cases.0 is) c.with_first.ensures
