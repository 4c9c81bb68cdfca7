use Rattle.std.proofs.Common.{◌≡◌, ℕ, List, length, IfSome, sym, ap, subst}
use Rattle.dcop_base.specs.Problem.{Dcop}
use Rattle.dcop_base.specs.Whole.{IsProblem}
use Rattle.problem_text.specs.File.{TextFile, IsFile}
use Rattle.problem_order.specs.Costs.{CostTheSame}
use Rattle.search_top.specs.Outside.{AreToldOutside}
use Rattle.search_top.proofs.NameLaws.{AreTold-found}
use Rattle.search_top.proofs.ReorderLaws.{count_same, found_many, report_outside}
use Rattle.search_top.proofs.TellLaws.{found-told}
use Rattle.search_top.proofs.reporting.report_on.Goals as goal

pub found_outside-requires-clause-many : goal.found_outside-requires-clause-many
found_outside-requires-clause-many c =
    let new_whole : IsProblem c.in_ok-inside.inside.problem = subst (λ (p : Dcop). IsProblem p) (ap (λ (f : TextFile). f.problem) c.inside.view_is) c.problem_is_whole-2.ensures in
    subst (λ (order : List ℕ). IfSome c.in_ok-report.report.found (λ inside. length inside.values ≡ length order)) (sym c.vars.ensures.same)
    (found_many c.in_ok-order.order c.in_ok-inside.inside c.args.asked c.in_ok-report.report.found (count_same c.args.file.now c.in_ok-inside.inside c.in_ok-order.order c.in_ok-inside.ensures)
    (found-told c.in_ok-inside.inside.goal c.in_ok-inside.inside.problem c.args.asked c.in_ok-report.report new_whole c.in_ok-report.ensures))

pub returns-clause-report : goal.returns-clause-report
returns-clause-report c =
    let old_whole : IsProblem c.args.file.now.problem = subst (λ (p : Dcop). IsProblem p) (ap (λ (f : TextFile). f.problem) c.file.view_is) c.problem_is_whole.ensures in
    let new_whole : IsProblem c.in_ok-inside.inside.problem = subst (λ (p : Dcop). IsProblem p) (ap (λ (f : TextFile). f.problem) c.inside.view_is) c.problem_is_whole-2.ensures in
    let same : CostTheSame c.args.file.now c.in_ok-inside.inside c.in_ok-order.order = c.reordered_files_cost_the_same.ensures c.args.file.now c.in_ok-inside.inside c.in_ok-order.order old_whole new_whole c.in_ok-inside.ensures in
    let told : AreToldOutside c.in_ok-order.order c.in_ok-report.report.found c.in_ok-found.found = subst (λ (order : List ℕ). AreToldOutside order c.in_ok-report.report.found c.in_ok-found.found) c.vars.ensures.same c.in_ok-found.ensures in
    report_outside c.args.file.now c.in_ok-inside.inside c.in_ok-order.order c.in_ok-inside.ensures same c.args.asked c.in_ok-report.report c.in_ok-found.found new_whole c.in_ok-report.ensures told

pub returns-clause-told : goal.returns-clause-told
returns-clause-told c =
    let whole : IsFile c.args.file.now = rw (← c.file.view_is) c.file.invariant in
    let report = returns-clause-report c in
    AreTold-found c.args.file.now c.args.asked c.in_ok-found.found whole report.found
