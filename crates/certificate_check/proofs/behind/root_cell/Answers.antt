use Rattle.std.proofs.Common.{◌≡◌, ◌<◌, ◌≤◌, length, ap, ◌∙◌, arith}
use Rattle.std.proofs.lemmas.List.Elements.{All-weaker}
use Rattle.dcop_base.specs.Whole.{IsProblem}
use Rattle.dcop_base.specs.Limits.{size_limit}
use Rattle.certificate_text.specs.declared.certificate.Util.{Util}
use Rattle.minimised_problem.specs.Told.{told}
use Rattle.certificate_check.proofs.FitLaws.{told_fits}
use Rattle.certificate_check.proofs.RootLaws.{some_cell}
use Rattle.certificate_check.proofs.behind.root_cell.Goals as goal

pub util_of-requires : goal.util_of-requires
util_of-requires c =
    let lt : c.root_of.result < length c.args.problem.now.sizes = rw c.root_of.ensures c.requires.root in
    c.requires.fits.one c.root_of.result lt

pub bounds-as_slice-0 : goal.bounds-as_slice-0
bounds-as_slice-0 c =
    let lt : c.root_of.result < length c.args.problem.now.sizes = rw c.root_of.ensures c.requires.root in
    let problem : IsProblem c.args.problem.now = c.problem_is_whole.ensures in
    let some = some_cell c.args.problem.now.sizes (told c.args.utils.now c.root_of.result)
    (All-weaker (λ s. (1 ≤ s) × (s ≤ size_limit)) (λ s. 1 ≤ s) (λ s h. h.0) c.args.problem.now.sizes problem.sizes)
    (told_fits c.args.problem.now.sizes c.args.utils.now c.root_of.result c.requires.fits lt) in
    let count : length c.as_slice.result.now ≡ length (told c.args.utils.now c.root_of.result).cells = ap length (c.as_slice.ensures ∙ ap (λ (u : Util). u.cells) c.util_of.ensures) in
    omega (arith, some, count)
