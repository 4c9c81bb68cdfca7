use Rattle.std.proofs.Common.{◌≡◌, List, None, map, sym, ap, subst, ◌∙◌}
use Rattle.std.specs.List.{slice_index, AllZip}
use Rattle.dcop_base.specs.Table.{CostTable}
use Rattle.dcop_base.specs.Problem.{Dcop}
use Rattle.dcop_base.specs.Faults.{problem_fault}
use Rattle.problem_order.specs.Reordered.{IsTableFor}
use Rattle.problem_order.proofs.ProblemLaws.{parts_faultless, only_memory_left}
use Rattle.problem_order.proofs.reordering.problem_in.Goals as goal

pub only_memory-requires : goal.only_memory-requires
only_memory-requires c =
    let sizes : c.as_slice.result.now ≡ c.args.problem.now.sizes = c.as_slice.ensures ∙ ap (λ (p : Dcop). p.sizes) c.problem.view_is in
    let tables : c.as_slice-2.result.now ≡ c.args.problem.now.tables = c.as_slice-2.ensures ∙ ap (λ (p : Dcop). p.tables) c.problem.view_is in
    let none : problem_fault c.in_ok-sizes.sizes c.from_vec.result ≡ None =
    parts_faultless c.args.problem.now c.args.order.now c.as_slice.result.now c.in_ok-sizes.sizes c.as_slice-2.result.now c.from_vec.result c.problem_is_whole.ensures c.vars.ensures.whole c.requires sizes tables
    (c.in_ok-sizes.ensures ∙ ap (map (λ v. slice_index c.as_slice.result.now v)) c.vars.ensures.same)
    (subst (λ (us : List CostTable). AllZip (IsTableFor c.args.order.now) c.as_slice-2.result.now us) (sym c.from_vec.ensures) c.in_ok-tables.ensures) in
    only_memory_left c.in_ok-sizes.sizes c.from_vec.result c.in-Err.fault c.in-Err.ensures none
