-- What the words after a command set.
use Rattle.std.specs.Prelude.{ℕ, List, [], ◌∷◌, Option, Some, None, map, option_map, option_and_then, filter_map}
use Rattle.dcop_base.specs.NumberWord.{number_of}
use Rattle.solve_words.specs.Names.{choice_named, format_named, yes_or_no}
use Rattle.solve_words.specs.Options.{option_named}
use Rattle.solve_words.specs.declared.options.WordOption.{WordOption}
use Rattle.solve_words.specs.declared.options.WordOption.TheVariants as options
use Rattle.solve_words.specs.declared.settings.Setting.{Setting}
use Rattle.solve_words.specs.declared.settings.Setting.TheVariants.{Method, Certificate, Format, After, Number}

-- a word in the position of an option, and the word after it if there is one
pub record Pair : Type 0 where
  pub name : List ℕ
  pub value : Option (List ℕ)

-- the pair of these words
abbrev pub pair_of : List ℕ → Option (List ℕ) → Pair
pair_of name value = record { name = name; value = value }

-- words divided into pairs
abbrev pub pairs_of : List (List ℕ) → List Pair
pairs_of [] = []
pairs_of (name ∷ []) = pair_of name None ∷ []
pairs_of (name ∷ value ∷ words) = pair_of name (Some value) ∷ pairs_of words

-- the words in the positions of options
abbrev pub names_of : List Pair → List (List ℕ)
names_of pairs = map (λ pair. pair.name) pairs

-- the option of a setting
abbrev pub option_of : Setting → WordOption
option_of (Method choice) = options.Method
option_of (Certificate wanted) = options.Certificate
option_of (Format format) = options.Format
option_of (After events) = options.After
option_of (Number quantity number) = options.Number quantity

-- what a word sets an option to
abbrev pub setting_by : WordOption → List ℕ → Option Setting
setting_by options.Method word = option_map Method (choice_named word)
setting_by options.Certificate word = option_map Certificate (yes_or_no word)
setting_by options.Format word = option_map Format (format_named word)
setting_by options.After word = option_map After (number_of word)
setting_by (options.Number quantity) word = option_map (Number quantity) (number_of word)

-- what a pair sets
abbrev pub setting_of : Pair → Option Setting
setting_of pair =
    option_and_then (λ option. option_and_then (setting_by option) pair.value)
    (option_named pair.name)

-- what pairs set, in their order
abbrev pub settings_of : List Pair → List Setting
settings_of pairs = filter_map setting_of pairs
