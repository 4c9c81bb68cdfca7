-- What words ask for is within the options' ranges.
use Rattle.std.proofs.Common.{◌≡◌, ℕ, List, Result, Ok, Err, Option, Some, None, IfSome, ◌≤◌, refl, sym, subst, ◌∙◌, arith}
use Rattle.solve_words.specs.declared.fault.WordFault.{WordFault}
use Rattle.program_frame.specs.declared.setting.OptionName.TheVariants.{Error, Budget, Cells, Better}
use Rattle.program_frame.specs.declared.setting.Setting.{Setting}
use Rattle.program_frame.specs.Settings.{number_given}
use Rattle.answer_io.specs.Input.{SourceState}
use Rattle.program_frame.specs.Questions.{IsQuestion}
use Rattle.program_frame.specs.declared.question.Question.{Question}
use Rattle.program_frame.specs.declared.question.Question.TheVariants.{Text}
use Rattle.program_frame.specs.Words.{unless_fault, settings_told}
use Rattle.program_frame.proofs.RangeLaws.{IsBetween, AreWithin, shape, told-within, number-between, or-between}
use Rattle.search_stages.specs.Asked.{error_limit, node_limit, fewest_cells, cell_limit, IsServed}
use Rattle.search_stages.specs.declared.asked.Asked.{Asked}
use Rattle.search_top.specs.Words.{search_settings, asked_by, search_answer_to}

served : (settings : List Setting) → AreWithin settings × (shape settings ≡ shape search_settings) → IsServed (asked_by settings)
served settings told =
    let error = or-between 0 error_limit 0 (number_given Error settings) (number-between search_settings settings Error 0 error_limit told refl) (omega arith, omega arith) in
    let budget = or-between 1 node_limit 100000000 (number_given Budget settings) (number-between search_settings settings Budget 1 node_limit told refl) (omega arith, omega arith) in
    let cells = or-between fewest_cells cell_limit 16777216 (number_given Cells settings) (number-between search_settings settings Cells fewest_cells cell_limit told refl) (omega arith, omega arith) in
    record {
      error = error.1;
      some = budget.0;
      few = budget.1;
      cells = cells.0;
      room = cells.1;
      better = most (number_given Better settings) (number-between search_settings settings Better 0 error_limit told refl);
    }
  where
    most : (number : Option ℕ) → IfSome number (IsBetween 0 error_limit) → IfSome number (λ sum. sum ≤ error_limit)
    most None is = tt
    most (Some number) is = is.1

asked-served : (told : Result (List Setting) WordFault) (asked : Asked) → ((settings : List Setting) → told ≡ Ok settings → AreWithin settings × (shape settings ≡ shape search_settings))
    → unless_fault told (λ settings. Ok (asked_by settings)) ≡ Ok asked → IsServed asked
asked-served (Ok settings) asked within is =
    let same : asked_by settings ≡ asked = cc is in
    subst IsServed same (served settings (within settings refl))
asked-served (Err fault) asked within is = cc

words-served : (words : List (List ℕ)) (asked : Asked) → search_answer_to words ≡ Ok asked → IsServed asked
words-served words asked is = asked-served (settings_told search_settings words) asked (λ settings told. told-within search_settings words settings told (tt, (tt, (tt, (tt, (tt, tt)))))) is

-- what a question asks for is in these ranges too
pub question-served : (words : List (List ℕ)) (told : Result Asked WordFault) (before after : SourceState) (question : Question Asked) (asked : Asked) (bytes : List ℕ) → told ≡ search_answer_to words
    → IsQuestion told before after question → question ≡ Text asked bytes → IsServed asked
question-served words told before after question asked bytes same asks is =
    words-served words asked (sym same ∙ (subst (λ (q : Question Asked). IsQuestion told before after q) is asks).0)
