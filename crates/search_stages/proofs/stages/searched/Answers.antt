use Rattle.std.proofs.Common.{◌≡◌, ℕ, List, min, ap, subst, ◌∙◌}
use Rattle.std.specs.List.{All}
use Rattle.dcop_base.specs.Limits.{joined_limit}
use Rattle.dcop_base.specs.Problem.{Dcop}
use Rattle.bucket_bounds.specs.MiniBuckets.{AreMiniBuckets}
use Rattle.bucket_bounds.specs.Parting.{IsPartedDuly}
use Rattle.search_stages.proofs.StageLaws.{stage_made}
use Rattle.search_stages.proofs.stages.searched.Goals as goal

pub returns : goal.returns
returns c =
    let sizes : c.as_slice-sizes.result.now ≡ c.args.problem.now.sizes = c.as_slice-sizes.ensures ∙ ap (λ (p : Dcop). p.sizes) c.problem.view_is in
    let bounds = rw (sizes, c.as_slice.ensures) at c.in_ok-buckets.ensures.bounds in
    let mini = subst (λ (ss : List ℕ). AreMiniBuckets ss (min c.args.limit joined_limit) c.args.asked.cells 0 c.in_ok-buckets.buckets) sizes c.in_ok-buckets.ensures.buckets in
    let parted = subst (λ (ss : List ℕ). All (IsPartedDuly ss (min c.args.limit joined_limit)) c.in_ok-buckets.buckets) sizes c.in_ok-buckets.ensures.parted in
    let searched = rw c.as_slice-2.ensures at c.in_ok-ended.ensures in
    stage_made c.args.problem.now c.args.shared.now c.args.asked c.args.budget c.args.limit c.args.before c.in_ok-buckets.buckets c.search.new.known c.in_ok-ended.ended c.max-lower.result c.is_spent-spent.result
    c.requires.needed c.requires.within c.requires.joined bounds mini parted c.in_ok-buckets.ensures.kept
    searched c.max-lower.ensures c.is_spent-spent.ensures.spent c.is_spent-spent.ensures.ended
