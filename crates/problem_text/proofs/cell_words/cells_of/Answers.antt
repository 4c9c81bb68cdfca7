use Rattle.std.proofs.Common.{◌≡◌, ◌≤◌, ℕ, List, Option, length, take, sym, ap, ◌∙◌, arith}
use Rattle.std.proofs.lemmas.List.{length-take-le}
use Rattle.problem_text.specs.Lines.{words}
use Rattle.problem_text.specs.Tables.{numbers_of}
use Rattle.problem_text.proofs.CellLaws.{words-short, behind, behind-is, told, told-read, kept-short}
use Rattle.problem_text.proofs.cell_words.cells_of.Goals as goal

pub loop-number-init : goal.loop-number-init
loop-number-init c =
    let h : length (words c.args.text.now) ≤ length c.args.text.now = words-short c.args.text.now in
    let run = c.short_run-run.result in
    let new = c.short_run-run.new.cells in
    let left = numbers_of (words run.after.now) in
    let size : length new ≡ c.in_ok-cells.cells.len = c.short_run-run.ensures.size ∙ c.as_mut_slice.ensures.len in
    let read : behind (take run.count new) left ≡ numbers_of (words c.args.text.now) = behind-is (take run.count new) left ∙ sym c.short_run-run.ensures.numbers in
    let many : run.count ≡ length (take run.count new) = sym (length-take-le run.count new (omega (arith, c.short_run-run.ensures.size, c.short_run-run.ensures.count))) in
    let kept = kept-short c.in_ok-cells.cells.len new c.in_ok-cells.cells.items c.truncate.new.self.items run.count size c.truncate.ensures.items in (
      told-read (take run.count new) run.count run.greatest left many c.short_run-run.ensures.greatest ∙ ap (λ (o : Option (List ℕ)). told 0 0 o) read,
      omega (arith, h, c.short_run-run.ensures.words),
      λ few. ap (λ (xs : List ℕ). behind xs left) kept ∙ read,
    )
