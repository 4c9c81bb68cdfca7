use Rattle.std.proofs.Common.{◌≤◌, ℕ, List, replicate, sym, ap, subst, ◌∙◌}
use Rattle.std.proofs.lemmas.List.Elements.{All-weaker}
use Rattle.dcop_base.specs.Problem.{Dcop}
use Rattle.dcop_base.specs.Limits.{size_limit}
use Rattle.certificate_check.specs.Odometer.{IsAtCell}
use Rattle.dcop_base.specs.Whole.{IsProblem}
use Rattle.certificate_check.proofs.PartLaws.{targets}
use Rattle.certificate_check.proofs.ValueLaws.{at_zeros}
use Rattle.certificate_check.proofs.FitLaws.{fit_told, fit_by, differ_by}
use Rattle.certificate_check.proofs.cells.variable_difference.Goals as goal

pub util_of-requires : goal.util_of-requires
util_of-requires c = c.requires.fits.one c.args.var c.requires.within

pub table_difference-requires-clause-fit : goal.table_difference-requires-clause-fit
table_difference-requires-clause-fit c =
    fit_by _ _ _ _ _ _ _ _
    (c.as_slice.ensures ∙ ap (λ (q : Dcop). q.sizes) c.problem.view_is)
    (ap targets c.as_slice-2.ensures.value ∙ c.in_ok-own.ensures)
    (ap targets c.as_slice-3.ensures.value ∙ c.in_ok-children.ensures)
    c.util_of.ensures
    (fit_told c.args.problem.now c.args.tree.now.paths c.args.utils.now c.args.var (subst IsProblem c.problem.view_is c.problem.invariant) c.requires.tree.pseudotree c.requires.fits c.requires.apart c.requires.within)

pub table_difference-requires-clause-first : goal.table_difference-requires-clause-first
table_difference-requires-clause-first c =
    let problem = subst IsProblem c.problem.view_is c.problem.invariant in
    let zeros = c.as_mut_slice.ensures.value ∙ c.in_ok-values.ensures.items_if_clones_equal (λ y h. h) ∙ ap (λ (n : ℕ). replicate n 0) c.variable_count.ensures.count in
    subst (λ (ss : List ℕ). IsAtCell ss c.util_of.result.now 0 c.as_mut_slice.result.now) (sym (c.as_slice.ensures ∙ ap (λ (q : Dcop). q.sizes) c.problem.view_is))
    (at_zeros c.args.problem.now.sizes c.util_of.result.now c.as_mut_slice.result.now (All-weaker (λ s. (1 ≤ s) × (s ≤ size_limit)) (λ s. 1 ≤ s) (λ s h. h.0) c.args.problem.now.sizes problem.sizes) zeros)

pub returns : goal.returns
returns c =
    c.table_difference.ensures
    ∙ differ_by _ _ _ _ _ _ _ _
    (c.as_slice.ensures ∙ ap (λ (q : Dcop). q.sizes) c.problem.view_is)
    (ap targets c.as_slice-2.ensures.value ∙ c.in_ok-own.ensures)
    (ap targets c.as_slice-3.ensures.value ∙ c.in_ok-children.ensures)
    c.util_of.ensures
