-- The first fault of the pairs of words, which start at the second word.
use Rattle.std.specs.Prelude.{ℕ, ◌+◌, ◌*◌, ◌||◌, Bool, not, nat_lt, List, [], ◌∷◌, ◌++◌, length, Option, Some, None, if◌then◌else◌, is_some, option_map, bytes_eq}
use Rattle.std.specs.List.{list_any}
use Rattle.std.specs.Option.{option_or}
use Rattle.dcop_base.specs.NumberWord.{number_of}
use Rattle.solve_words.specs.Names.{choice_named, format_named, yes_or_no}
use Rattle.solve_words.specs.Options.{option_named, most_replayed, numbers_of}
use Rattle.solve_words.specs.Standing.{belongs_to}
use Rattle.solve_words.specs.Settings.{Pair}
use Rattle.solve_words.specs.declared.verb.Verb.{Verb}
use Rattle.solve_words.specs.declared.options.WordOption.{WordOption}
use Rattle.solve_words.specs.declared.options.WordOption.TheVariants.{Method, Certificate, Format, After, Number}
use Rattle.solve_words.specs.declared.fault.WordKind.{WordKind}
use Rattle.solve_words.specs.declared.fault.WordKind.TheVariants.{UnknownOption, NoValue, Twice, BadNumber, OutOfRange, BadChoice, NotWith}
use Rattle.solve_words.specs.declared.fault.WordFault.{WordFault}
use Rattle.solve_words.specs.declared.fault.WordFault.TheVariants.{Bad}

-- what is wrong with a word that must be a number in this range
abbrev pub range_fault : ℕ → ℕ → Option ℕ → Option WordKind
range_fault least most None = Some BadNumber
range_fault least most (Some number) =
    if nat_lt number least || nat_lt most number then Some OutOfRange else None

-- what is wrong with a choice: nothing if it is one of the option's words
abbrev pub choice_fault : Bool → Option WordKind
choice_fault known = if known then None else Some BadChoice

-- what is wrong with an option's value
abbrev pub value_fault : WordOption → List ℕ → Option WordKind
value_fault Method word = choice_fault (is_some (choice_named word))
value_fault Certificate word = choice_fault (is_some (yes_or_no word))
value_fault Format word = choice_fault (is_some (format_named word))
value_fault After word = range_fault 0 most_replayed (number_of word)
value_fault (Number quantity) word =
    range_fault (numbers_of quantity).least (numbers_of quantity).most (number_of word)

-- the fault of the value of an option at this position
abbrev pub given_fault : ℕ → WordOption → Option (List ℕ) → Option WordFault
given_fault at option None = Some (Bad at NoValue)
given_fault at option (Some word) = option_map (Bad (at + 1)) (value_fault option word)

-- the first fault of a pair at this position, after pairs with these names: the option is unknown,
-- or the command does not take it, or it is given again, or it has no value, or its value has a
-- fault
abbrev pub option_fault : Verb → List (List ℕ) → ℕ → Pair → Option WordOption → Option WordFault
option_fault verb earlier at pair None = Some (Bad at UnknownOption)
option_fault verb earlier at pair (Some option) =
    if not (belongs_to verb option) then Some (Bad at NotWith)
    else (if list_any (λ name. bytes_eq name pair.name) earlier then Some (Bad at Twice)
    else given_fault at option pair.value)

-- the first fault of the pair after pairs with these names
abbrev pub pair_fault : Verb → List (List ℕ) → Pair → Option WordFault
pair_fault verb earlier pair =
    option_fault verb earlier (2 + 2 * length earlier) pair (option_named pair.name)

-- the first fault of the pairs after pairs with these names
abbrev pub pairs_fault : Verb → List (List ℕ) → List Pair → Option WordFault
pairs_fault verb earlier [] = None
pairs_fault verb earlier (pair ∷ pairs) =
    option_or (pair_fault verb earlier pair) (pairs_fault verb (earlier ++ pair.name ∷ []) pairs)
