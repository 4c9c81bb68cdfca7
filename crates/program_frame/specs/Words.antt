-- Words that are pairs of an option and its value: the values that they give, or their first fault.
use Rattle.std.specs.Prelude.{ℕ, ◌+◌, ◌*◌, nat_lt, ◌||◌, List, [], ◌∷◌, Option, Some, None, Result, Ok, Err, is_some, count_by, if◌then◌else◌}
use Rattle.dcop_base.specs.NumberWord.{number_of}
use Rattle.solve_words.specs.Names.{format_named}
use Rattle.solve_words.specs.declared.command.Format as forms
use Rattle.solve_words.specs.declared.fault.WordFault.{WordFault}
use Rattle.solve_words.specs.declared.fault.WordFault.TheVariants.{Bad}
use Rattle.solve_words.specs.declared.fault.WordKind.TheVariants.{UnknownOption, NoValue, Twice, BadNumber, OutOfRange, BadChoice}
use Rattle.program_frame.specs.Settings.{setting_named, given_to}
use Rattle.program_frame.specs.declared.setting.Setting.{Setting}
use Rattle.program_frame.specs.declared.setting.Takes.{Takes}
use Rattle.program_frame.specs.declared.setting.Takes.TheVariants as takes
use Rattle.program_frame.specs.declared.setting.OptionValue.{OptionValue}
use Rattle.program_frame.specs.declared.setting.OptionValue.TheVariants.{Number, Format}

-- the place of the word after the pairs that gave these values, counted from 1
abbrev pub place_behind : List Setting → ℕ
place_behind settings = 1 + 2 * count_by (λ setting. is_some setting.value) settings

-- what the next step makes of a value, or the fault if there is one instead of the value
abbrev pub unless_fault : {A B : Type 0} → Result A WordFault → (A → Result B WordFault) → Result B WordFault
unless_fault (Ok value) next = next value
unless_fault (Err fault) next = Err fault

-- the kind of value that the named option takes; or the fault of the word at this place, if no
-- option has that name or the option has a value already
abbrev pub option_new : ℕ → Option Setting → Result Takes WordFault
option_new at None = Err (Bad at UnknownOption)
option_new at (Some option) = if is_some option.value then Err (Bad at Twice) else Ok option.takes

-- what an option takes, if the word at this place names one that has no value yet; otherwise the
-- fault of the word
abbrev pub option_told : ℕ → List Setting → List ℕ → Result Takes WordFault
option_told at settings word = option_new at (setting_named word settings)

-- a number from `least` to `most`, or the fault of the word at this place
abbrev pub number_within : ℕ → ℕ → ℕ → Option ℕ → Result ℕ WordFault
number_within at least most None = Err (Bad at BadNumber)
number_within at least most (Some number) =
    if nat_lt number least || nat_lt most number then Err (Bad at OutOfRange) else Ok number

-- a format that exists, or the fault of the word at this place
abbrev pub format_known : ℕ → Option forms.Format → Result forms.Format WordFault
format_known at None = Err (Bad at BadChoice)
format_known at (Some format) = Ok format

-- the value that the word at this place gives an option that takes this, or the fault of the word
abbrev pub value_told : ℕ → Takes → List ℕ → Result OptionValue WordFault
value_told at (takes.Number least most) word =
    unless_fault (number_within at least most (number_of word)) (λ number. Ok (Number number))
value_told at takes.Format word = unless_fault (format_known at (format_named word)) (λ format. Ok (Format format))

-- the options with the values that the pairs of these words give, or the first fault of the words
abbrev pub settings_told : List Setting → List (List ℕ) → Result (List Setting) WordFault
settings_told settings [] = Ok settings
settings_told settings (name ∷ []) =
    unless_fault (option_told (place_behind settings) settings name) (λ taken. Err (Bad (place_behind settings) NoValue))
settings_told settings (name ∷ word ∷ words) =
    unless_fault (option_told (place_behind settings) settings name)
    (λ taken. unless_fault (value_told (place_behind settings + 1) taken word) (λ value. settings_told (given_to name value settings) words))
