-- The values of options: the value that is given, or the default.
use Rattle.std.specs.Prelude.{ℕ, Bool, false, List, Option, Some, None, find, bytes_eq}
use Rattle.solve_words.specs.Options.{word_of, numbers_of}
use Rattle.solve_words.specs.Settings.{option_of}
use Rattle.solve_words.specs.declared.command.Choice.{Choice}
use Rattle.solve_words.specs.declared.command.Choice.TheVariants.{Auto}
use Rattle.solve_words.specs.declared.command.Format as forms
use Rattle.solve_words.specs.declared.command.Format.TheVariants.{Dcop}
use Rattle.solve_words.specs.declared.options.WordOption.{WordOption}
use Rattle.solve_words.specs.declared.options.WordOption.TheVariants as options
use Rattle.solve_words.specs.declared.options.Quantity.{Quantity}
use Rattle.solve_words.specs.declared.settings.Setting.{Setting}
use Rattle.solve_words.specs.declared.settings.Setting.TheVariants.{Method, Certificate, Format, After, Number}

-- the setting of an option, if it is given
abbrev pub given : WordOption → List Setting → Option Setting
given option settings =
    find (λ setting. bytes_eq (word_of (option_of setting)) (word_of option)) settings

-- the number that is set, or this one
abbrev pub number_or : ℕ → Option Setting → ℕ
number_or default (Some (Number quantity number)) = number
number_or default _ = default

-- the method that is set, or this one
abbrev pub method_or : Choice → Option Setting → Choice
method_or default (Some (Method choice)) = choice
method_or default _ = default

-- whether a certificate is requested, if that is set, and otherwise this
abbrev pub certificate_or : Bool → Option Setting → Bool
certificate_or default (Some (Certificate wanted)) = wanted
certificate_or default _ = default

-- the format that is set, or this one
abbrev pub format_or : forms.Format → Option Setting → forms.Format
format_or default (Some (Format format)) = format
format_or default _ = default

-- the number of events that is set, or this one
abbrev pub after_or : Option ℕ → Option Setting → Option ℕ
after_or default (Some (After events)) = Some events
after_or default _ = default

-- the number of an option
abbrev pub number_in : Quantity → List Setting → ℕ
number_in quantity s = number_or (numbers_of quantity).default (given (options.Number quantity) s)

-- the method: auto if none is given
abbrev pub method_in : List Setting → Choice
method_in s = method_or Auto (given options.Method s)

-- whether a certificate is requested: no if the option is not given
abbrev pub certificate_in : List Setting → Bool
certificate_in s = certificate_or false (given options.Certificate s)

-- the text format of the problem: this product's own if none is given
abbrev pub format_in : List Setting → forms.Format
format_in s = format_or Dcop (given options.Format s)

-- how many events are replayed: all if no number is given
abbrev pub after_in : List Setting → Option ℕ
after_in s = after_or None (given options.After s)
