-- The words of `dcop_order`: what they ask for, or their first fault.
use Rattle.std.specs.Prelude.{ℕ, List, [], ◌∷◌, Result, Ok, unwrap_or}
use Rattle.dcop_base.specs.Limits.{seed_limit}
use Rattle.solve_words.specs.declared.fault.WordFault.{WordFault}
use Rattle.program_frame.specs.Settings.{number_setting, number_given}
use Rattle.program_frame.specs.declared.setting.OptionName.TheVariants.{Tries, Seed}
use Rattle.program_frame.specs.declared.setting.Setting.{Setting}
use Rattle.program_frame.specs.Words.{unless_fault, settings_told}
use Rattle.order_top.specs.declared.words.Asked.{Asked}

-- the most changed orders that are tried
abbrev pub tries_limit : ℕ
tries_limit = 1000000

-- the options of the program
abbrev pub order_settings : List Setting
order_settings = number_setting Tries 0 tries_limit ∷ number_setting Seed 0 seed_limit ∷ []

-- what is asked for: what was given, and the default of what was not
abbrev pub asked_by : List Setting → Asked
asked_by settings = record {
  tries = unwrap_or (number_given Tries settings) 20000;
  seed = unwrap_or (number_given Seed settings) 0;
}

-- what words ask for, or their first fault
abbrev pub order_answer_to : List (List ℕ) → Result Asked WordFault
order_answer_to words = unless_fault (settings_told order_settings words) (λ settings. Ok (asked_by settings))
