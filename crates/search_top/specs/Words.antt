-- The words of `dcop_search`: what they ask for, or their first fault.
use Rattle.std.specs.Prelude.{ℕ, List, [], ◌∷◌, Result, Ok, unwrap_or}
use Rattle.solve_words.specs.declared.command.Format.TheVariants.{Dcop}
use Rattle.solve_words.specs.declared.fault.WordFault.{WordFault}
use Rattle.program_frame.specs.Settings.{number_setting, format_setting, number_given, format_given}
use Rattle.program_frame.specs.declared.setting.OptionName.TheVariants.{Error, Budget, Cells, Better}
use Rattle.program_frame.specs.declared.setting.Setting.{Setting}
use Rattle.program_frame.specs.Words.{unless_fault, settings_told}
use Rattle.search_stages.specs.Asked.{error_limit, node_limit, fewest_cells, cell_limit}
use Rattle.search_stages.specs.declared.asked.Asked.{Asked}

-- the options of the program
abbrev pub search_settings : List Setting
search_settings =
    number_setting Error 0 error_limit ∷ number_setting Budget 1 node_limit ∷ number_setting Cells fewest_cells cell_limit
    ∷ number_setting Better 0 error_limit ∷ format_setting ∷ []

-- what is asked for, with the default for each value that was not given
abbrev pub asked_by : List Setting → Asked
asked_by settings = record {
  error = unwrap_or (number_given Error settings) 0;
  budget = unwrap_or (number_given Budget settings) 100000000;
  cells = unwrap_or (number_given Cells settings) 16777216;
  better = number_given Better settings;
  format = unwrap_or (format_given settings) Dcop;
}

-- the answer to words
abbrev pub search_answer_to : List (List ℕ) → Result Asked WordFault
search_answer_to words = unless_fault (settings_told search_settings words) (λ settings. Ok (asked_by settings))
