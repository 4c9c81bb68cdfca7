-- The words of `dcop_trace`: what they ask for, or their first fault.
use Rattle.std.specs.Prelude.{ℕ, List, [], ◌∷◌, Result, Ok, unwrap_or}
use Rattle.solve_words.specs.declared.command.Format.TheVariants.{Dcop}
use Rattle.solve_words.specs.declared.fault.WordFault.{WordFault}
use Rattle.program_frame.specs.Settings.{number_setting, format_setting, number_given, format_given}
use Rattle.program_frame.specs.declared.setting.OptionName.TheVariants.{From, To}
use Rattle.program_frame.specs.declared.setting.Setting.{Setting}
use Rattle.program_frame.specs.Words.{unless_fault, settings_told}
use Rattle.trace_top.specs.declared.words.Asked.{Asked}

-- the greatest number of an event that words can ask for
abbrev pub event_limit : ℕ
event_limit = 1000000000

-- the options of the program
abbrev pub trace_settings : List Setting
trace_settings = number_setting From 0 event_limit ∷ number_setting To 0 event_limit ∷ format_setting ∷ []

-- what is asked for: what was given, and otherwise the default: all events, and problem text
abbrev pub asked_by : List Setting → Asked
asked_by settings = record {
  from = unwrap_or (number_given From settings) 0;
  to = unwrap_or (number_given To settings) event_limit;
  format = unwrap_or (format_given settings) Dcop;
}

-- what words ask for, or their first fault
abbrev pub trace_answer_to : List (List ℕ) → Result Asked WordFault
trace_answer_to words = unless_fault (settings_told trace_settings words) (λ settings. Ok (asked_by settings))
