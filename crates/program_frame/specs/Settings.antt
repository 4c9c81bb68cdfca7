-- Options of a program, with the values that words give them.
use Rattle.std.specs.Prelude.{ℕ, List, [], ◌∷◌, Option, Some, None, codes, bytes_eq, find, option_and_then, if◌then◌else◌}
use Rattle.solve_words.specs.declared.command.Format as forms
use Rattle.program_frame.specs.declared.setting.OptionName.{OptionName}
use Rattle.program_frame.specs.declared.setting.OptionName.TheVariants as names
use Rattle.program_frame.specs.declared.setting.Takes.TheVariants as takes
use Rattle.program_frame.specs.declared.setting.OptionValue.{OptionValue}
use Rattle.program_frame.specs.declared.setting.OptionValue.TheVariants.{Number, Format}
use Rattle.program_frame.specs.declared.setting.Setting.{Setting}

-- the word that names an option
abbrev pub word_of : OptionName → List ℕ
word_of names.Tries = codes "--tries"
word_of names.Seed = codes "--seed"
word_of names.Error = codes "--error"
word_of names.Budget = codes "--budget"
word_of names.Cells = codes "--cells"
word_of names.Better = codes "--better"
word_of names.From = codes "--from"
word_of names.To = codes "--to"
word_of names.Format = codes "--format"

-- an option that takes a number from `least` to `most`; it has no value yet
abbrev pub number_setting : OptionName → ℕ → ℕ → Setting
number_setting name least most = record { name = name; takes = takes.Number least most; value = None }

-- the option `--format`; it has no value yet
abbrev pub format_setting : Setting
format_setting = record { name = names.Format; takes = takes.Format; value = None }

-- the first option that a word names
abbrev pub setting_named : List ℕ → List Setting → Option Setting
setting_named word settings = find (λ setting. bytes_eq (word_of setting.name) word) settings

-- the options, after the first one that a word names is given a value
abbrev pub given_to : List ℕ → OptionValue → List Setting → List Setting
given_to word value [] = []
given_to word value (setting ∷ later) =
    if bytes_eq (word_of setting.name) word then record setting { value = Some value } ∷ later else setting ∷ given_to word value later

-- the number that a value is
abbrev pub number_in : OptionValue → Option ℕ
number_in (Number number) = Some number
number_in (Format format) = None

-- the format that a value is
abbrev pub format_in : OptionValue → Option forms.Format
format_in (Number number) = None
format_in (Format format) = Some format

-- the value of an option, if it has one
abbrev pub value_given : OptionName → List Setting → Option OptionValue
value_given name settings = option_and_then (λ setting. setting.value) (setting_named (word_of name) settings)

-- the number that is given for an option, if one is
abbrev pub number_given : OptionName → List Setting → Option ℕ
number_given name settings = option_and_then number_in (value_given name settings)

-- the format that is given, if one is
abbrev pub format_given : List Setting → Option forms.Format
format_given settings = option_and_then format_in (value_given names.Format settings)
