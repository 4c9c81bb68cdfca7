use Rattle.std.proofs.Common.{◌≡◌, ℕ, List, length, replicate, ap, ◌∙◌, subst}
use Rattle.dcop_base.specs.Problem.{Dcop}
use Rattle.dcop_base.specs.Whole.{IsProblem}
use Rattle.dcop_optimum.proofs.PlaceLaws.{place-zeros}
use Rattle.dcop_optimum.proofs.BestLaws.{zeros_assign}
use Rattle.dcop_optimum.proofs.plain.least_plain.Goals as goal

pub try_all-cost-requires-clause-within : goal.try_all-cost-requires-clause-within
try_all-cost-requires-clause-within c =
    let zeros : c.deref_mut.result.now ≡ replicate (length c.args.problem.now.sizes) 0 =
    c.deref_mut.ensures.value ∙ c.in_ok-values.ensures.items_if_clones_equal (λ y h. h)
    ∙ ap (λ (sizes : List ℕ). replicate (length sizes) 0) (c.as_slice-variables.ensures ∙ ap (λ (p : Dcop). p.sizes) c.problem.view_is) in
    rw zeros (zeros_assign c.args.problem.now (subst (λ (p : Dcop). IsProblem p) c.problem.view_is c.problem.invariant))

pub try_all-cost-requires-clause-first : goal.try_all-cost-requires-clause-first
try_all-cost-requires-clause-first c =
    let zeros : c.deref_mut.result.now ≡ replicate (length c.args.problem.now.sizes) 0 =
    c.deref_mut.ensures.value ∙ c.in_ok-values.ensures.items_if_clones_equal (λ y h. h)
    ∙ ap (λ (sizes : List ℕ). replicate (length sizes) 0) (c.as_slice-variables.ensures ∙ ap (λ (p : Dcop). p.sizes) c.problem.view_is) in
    rw zeros (place-zeros c.args.problem.now.sizes)
