use Rattle.std.proofs.Common.{◌≡◌, ◌∙◌, ℕ, List, length, ap, subst, arith}
use Rattle.dcop_base.specs.Problem.{Dcop}
use Rattle.cost_table.proofs.ProblemCutLaws.{length-ones_at}
use Rattle.problem_text.specs.File.{TextFile, IsFile}
use Rattle.report_reader.specs.declared.turns.CutSizes.{CutSizes}
use Rattle.report_reader.specs.Steps.{IsRead}
use Rattle.report_reader.specs.TurnReading.{cut_sizes, turns_from}
use Rattle.report_reader.proofs.reader.read_cut.Goals as goal

pub read_turns-requires-clause-many : goal.read_turns-requires-clause-many
read_turns-requires-clause-many c =
    let file : IsFile c.args.file.now = rw (← c.file.view_is) c.file.invariant in
    let named = file.named in
    let names = ap (λ (f : TextFile). length f.names) c.file.view_is in
    let whole = ap (λ (f : TextFile). length f.problem.sizes) c.file.view_is in
    let sizes = ap (λ (p : Dcop). length p.sizes) c.problem.view_is in
    let given = ap length c.as_slice.ensures in
    let long = length-ones_at c.args.cut.now c.as_slice.result.now in
    let made = ap (λ (s : CutSizes). length s.slice) c.in_ok-sizes.ensures in
    omega (arith, named, names, whole, sizes, given, long, made)

pub returns : goal.returns
returns c =
    let names = ap (λ (f : TextFile). f.names) c.file.view_is in
    let given : c.as_slice.result.now ≡ c.args.file.now.problem.sizes = c.as_slice.ensures ∙ ap (λ (p : Dcop). p.sizes) c.problem.view_is ∙ ap (λ (f : TextFile). f.problem.sizes) c.file.view_is in
    let sizes : c.in_ok-sizes.sizes ≡ cut_sizes c.args.file.now.problem.sizes c.args.cut.now = c.in_ok-sizes.ensures ∙ ap (λ (ss : List ℕ). cut_sizes ss c.args.cut.now) given in
    subst (λ (s : CutSizes). IsRead (turns_from c.args.file.now.names s c.args.lines.now) c.read_turns.result c.read_turns.new.lines) sizes
    (subst (λ (ns : List (List ℕ)). IsRead (turns_from ns c.in_ok-sizes.sizes c.args.lines.now) c.read_turns.result c.read_turns.new.lines) names c.read_turns.ensures)
