use Rattle.std.proofs.Common.{rules, ◌≡◌, ℕ, List, Ok, Err, get_or, drop, refl, sym, ap, ◌∙◌}
use Rattle.problem_text.specs.Lines.{words}
use Rattle.run_log.specs.LogReading.{Reads}
use Rattle.report_reader.specs.TurnLine.{values_told}
use Rattle.report_reader.proofs.TurnLineLaws.{told-refused, told-more, told-over, told-full}
use Rattle.report_reader.proofs.turn_line.values_of.Goals as goal

pub returns-in_err-value : goal.returns-in_err-value
returns-in_err-value c =
    let told : Reads (Err c.in_err-value.field-0.0) (values_told c.args.sizes.now (words c.args.text.now)) =
    told-refused c.args.sizes.now c.loop-size.values.items c.loop-size.size-index (get_or c.args.sizes.now c.loop-size.size-index 0) c.in_err-value.field-0.0 (words c.loop-size.rest.now) (words c.in-Some.after.now) c.in-Some.word.now _ c.loop-size-test.true refl c.in-Some.ensures c.in_err-value.ensures c.loop-size.invariant in
    search rules

pub loop-size-preserved : goal.loop-size-preserved
loop-size-preserved c =
    told-more c.args.sizes.now c.loop-size.values.items c.push.new.self.items c.loop-size.size-index (get_or c.args.sizes.now c.loop-size.size-index 0) c.in_ok-value.value (words c.loop-size.rest.now) (words c.in-Some.after.now) c.in-Some.word.now _ c.loop-size-test.true refl c.in-Some.ensures c.in_ok-value.ensures c.in_ok-push.ensures.items c.loop-size.invariant

pub returns-in_default : goal.returns-in_default
returns-in_default c =
    let read : values_told c.args.sizes.now (words c.args.text.now) ≡ Ok c.loop-size.values.items =
    told-over (drop c.loop-size.size-index c.args.sizes.now) c.loop-size.values.items (words c.loop-size.rest.now) _ c.in_default.ensures c.loop-size.invariant in
    read ∙ ap (λ (vs : List ℕ). Ok vs) (sym c.from_vec.ensures)

pub returns : goal.returns
returns c =
    let read : values_told c.args.sizes.now (words c.args.text.now) ≡ Ok c.loop-size.values.items =
    told-full c.args.sizes.now c.loop-size.values.items c.loop-size.size-index (words c.loop-size.rest.now) _ c.loop-size-test.false c.loop-size.invariant in
    read ∙ ap (λ (vs : List ℕ). Ok vs) (sym c.from_vec-2.ensures)
