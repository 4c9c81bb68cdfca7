use Rattle.std.proofs.Common.{◌≡◌, ℕ, List, map, ◌∙◌, ap, subst}
use Rattle.dcop_base.specs.Problem.{Dcop}
use Rattle.dcop_base.specs.Table.{CostTable}
use Rattle.dcop_base.specs.Whole.{IsProblem}
use Rattle.dcop_optimum.specs.Goal.{turned_table, turned, SumToTop, TellsGreatest}
use Rattle.dcop_optimum.proofs.TurnLaws.{turned_problem, sum_to_top, tells_greatest}
use Rattle.dcop_optimum.proofs.goal.turn.Goals as goal

-- parts that are those of the turned problem make the turned problem
parts_turned : (p : Dcop) (sizes : List ℕ) (tables : List CostTable) (joints : List (ℕ × ℕ)) → sizes ≡ p.sizes → tables ≡ map turned_table p.tables → joints ≡ p.joints → (P : Dcop → Type 0) → P (turned p) → P (record { sizes = sizes; tables = tables; joints = joints })
parts_turned p sizes tables joints s t j P h = rw (s, t, j) h

-- what holds of the turned problem holds of the result
of_result : (c : goal.After-from_vec-3) (P : Dcop → Type 0) → P (turned (record { sizes = c.problem.inside.sizes; tables = c.problem.inside.tables; joints = c.problem.inside.joints })) → P (record { sizes = c.from_vec.result; tables = c.from_vec-2.result; joints = c.from_vec-3.result })
of_result c =
    let p = c.problem.inside in
    parts_turned (record { sizes = p.sizes; tables = p.tables; joints = p.joints }) c.from_vec.result c.from_vec-2.result c.from_vec-3.result
    (c.from_vec.ensures ∙ c.in_ok-sizes.ensures.items ∙ c.as_slice.ensures)
    (c.from_vec-2.ensures ∙ c.in_ok-tables.ensures ∙ ap (λ ts. map turned_table ts) c.as_slice-2.ensures)
    (c.from_vec-3.ensures ∙ c.in_ok-joints.ensures.items ∙ c.as_slice-3.ensures)

pub invariant_of-result : goal.invariant_of-result
invariant_of-result c = of_result c IsProblem (turned_problem _ c.problem.invariant)

pub returns-clause-sums : goal.returns-clause-sums
returns-clause-sums c =
    let p = c.problem.inside in
    let q : Dcop = turned (record { sizes = p.sizes; tables = p.tables; joints = p.joints }) in
    of_result c (SumToTop c.args.problem.now)
    (subst (λ (p : Dcop). SumToTop p q) c.problem.view_is (sum_to_top _ c.problem.invariant))

pub returns-clause-greatest : goal.returns-clause-greatest
returns-clause-greatest c =
    let p = c.problem.inside in
    let q : Dcop = turned (record { sizes = p.sizes; tables = p.tables; joints = p.joints }) in
    of_result c (TellsGreatest c.args.problem.now)
    (subst (λ (p : Dcop). TellsGreatest p q) c.problem.view_is (tells_greatest _ c.problem.invariant))
