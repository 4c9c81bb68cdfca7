-- What the reading of one pair and of all pairs promises.
use Rattle.std.specs.Prelude.{◌≡◌, ℕ, List, [], map, Option, Some, None, Result, Ok, Err, All}
use Rattle.solve_words.specs.Options.{word_of, IsNumberOf}
use Rattle.solve_words.specs.Settings.{Pair, pairs_of, names_of, option_of, setting_of, settings_of}
use Rattle.solve_words.specs.Faults.{pair_fault, pairs_fault}
use Rattle.solve_words.specs.declared.verb.Verb.{Verb}
use Rattle.solve_words.specs.declared.settings.Setting.{Setting}
use Rattle.solve_words.specs.declared.settings.Setting.TheVariants.{Number}
use Rattle.solve_words.specs.declared.fault.WordFault.{WordFault}
use Rattle.solve_words.specs.declared.fault.WordFault.TheVariants.{Bad, NoMemory}

-- a setting's number is one that its option takes
abbrev pub IsWithin : Setting → Type 0
IsWithin (Number quantity number) = IsNumberOf quantity number
IsWithin _ = Unit {0}

-- the words that name the options of settings
abbrev pub words_of : List Setting → List (List ℕ)
words_of settings = map (λ setting. word_of (option_of setting)) settings

-- a fault is this one, or memory runs out
abbrev pub IsFault : WordFault → Option WordFault → Type 0
IsFault NoMemory first = Unit {0}
IsFault (Bad at kind) first = first ≡ Some (Bad at kind)

-- these words have no fault and give these settings
pub record IsRead (verb : Verb) (words : List (List ℕ)) (settings : List Setting) : Type 0 where
  pub sound : pairs_fault verb [] (pairs_of words) ≡ None
  pub items : settings ≡ settings_of (pairs_of words)
  pub names : words_of settings ≡ names_of (pairs_of words)
  pub within : All IsWithin settings

-- a pair after pairs with these names has no fault and gives this setting, or has this fault
abbrev pub ReadsPair : Verb → List (List ℕ) → Pair → Result Setting WordFault → Type 0
ReadsPair verb earlier pair (Ok setting) =
    (pair_fault verb earlier pair ≡ None) × (setting_of pair ≡ Some setting)
    × (word_of (option_of setting) ≡ pair.name) × IsWithin setting
ReadsPair verb earlier pair (Err fault) = pair_fault verb earlier pair ≡ Some fault
