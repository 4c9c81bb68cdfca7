use Rattle.std.proofs.Common.{Ok, Some, None, map, string_bytes, sym, ◌∙◌, ap, subst}
use Rattle.solve_words.specs.Reading.{IsRead}
use Rattle.solve_words.specs.Names.{verb_named}
use Rattle.solve_words.proofs.AnswerLaws.{answer_to-read}
use Rattle.solve_words.proofs.reading.read_words.Goals as goal

pub returns-in-Some-first_refused-clause-answer : goal.returns-in-Some-first_refused-clause-answer
returns-in-Some-first_refused-clause-answer c =
    let rest = map (λ w. string_bytes w) c.in-Some.pairs.now in
    let read : IsRead c.in-Some-named.verb rest c.as_slice-settings.result.now =
    subst (IsRead c.in-Some-named.verb rest) (sym c.as_slice-settings.ensures.value) c.in_ok-settings.ensures.whole in
    sym (answer_to-read _ (string_bytes c.in-Some.first.now) rest c.in-Some-named.verb c.method.result c.as_slice-settings.result.now (Some c.in-Some-first_refused.index)
    (ap (λ ws. map (λ w. string_bytes w) ws) c.in-Some.ensures.cases.0)
    (c.in-Some-named.ensures ∙ ap verb_named c.as_str.ensures.value) read c.method.ensures c.in-Some-first_refused.ensures)

pub returns-clause-answer : goal.returns-clause-answer
returns-clause-answer c =
    let rest = map (λ w. string_bytes w) c.in-Some.pairs.now in
    let read : IsRead c.in-Some-named.verb rest c.as_slice-settings.result.now =
    subst (IsRead c.in-Some-named.verb rest) (sym c.as_slice-settings.ensures.value) c.in_ok-settings.ensures.whole in
    ap Ok c.command.ensures.same
    ∙ sym (answer_to-read _ (string_bytes c.in-Some.first.now) rest c.in-Some-named.verb c.method.result c.as_slice-settings.result.now None
    (ap (λ ws. map (λ w. string_bytes w) ws) c.in-Some.ensures.cases.0)
    (c.in-Some-named.ensures ∙ ap verb_named c.as_str.ensures.value) read c.method.ensures c.in-None.ensures)
