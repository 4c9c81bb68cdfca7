use Rattle.std.proofs.Common.{ap, sym, ◌∙◌, Some}
use Rattle.solve_words.proofs.SettingLaws.{given-within}
use Rattle.solve_words.proofs.reading.number.Goals as goal

pub returns-in-Some-Number-clause-least : goal.returns-in-Some-Number-clause-least
returns-in-Some-Number-clause-least c =
    (given-within c.args.settings.now c.word.result.now c.args.quantity _ c.in-Some-Number.number c.requires c.word.ensures
    (sym c.find_setting.ensures ∙ c.in-Some-Number.is ∙ ap Some c.in-Some-Number.field-0-is)).0

pub returns-in-Some-Number-clause-within : goal.returns-in-Some-Number-clause-within
returns-in-Some-Number-clause-within c =
    (given-within c.args.settings.now c.word.result.now c.args.quantity _ c.in-Some-Number.number c.requires c.word.ensures
    (sym c.find_setting.ensures ∙ c.in-Some-Number.is ∙ ap Some c.in-Some-Number.field-0-is)).1
