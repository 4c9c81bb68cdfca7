-- The command that words give, or their first fault.
use Rattle.std.specs.Prelude.{◌≡◌, ℕ, ◌+◌, ◌*◌, Bool, false, not, List, [], ◌∷◌, Option, Some, None, Result, Ok, Err, option_map, unwrap_or, position}
use Rattle.std.specs.Option.{option_or}
use Rattle.solve_words.specs.Names.{verb_named}
use Rattle.solve_words.specs.Options.{option_named}
use Rattle.solve_words.specs.Standing.{stands_with}
use Rattle.solve_words.specs.Settings.{Pair, pairs_of, names_of, settings_of}
use Rattle.solve_words.specs.Faults.{pairs_fault}
use Rattle.solve_words.specs.Values.{number_in, method_in, certificate_in, format_in, after_in}
use Rattle.solve_words.specs.declared.command.Choice.{Choice}
use Rattle.solve_words.specs.declared.command.Command.{Command}
use Rattle.solve_words.specs.declared.command.Command.TheVariants.{Solve, Tree, Check, Replay, Drill, Upgrade, Edit}
use Rattle.solve_words.specs.declared.verb.Verb.{Verb}
use Rattle.solve_words.specs.declared.verb.Verb.TheVariants as verbs
use Rattle.solve_words.specs.declared.options.Quantity.TheVariants.{Workers, Error, Budget, Nodes, Seed, Vars, Size, Degree, Top, Cells}
use Rattle.solve_words.specs.declared.settings.Setting.{Setting}
use Rattle.solve_words.specs.declared.fault.WordKind.TheVariants.{NoCommand, UnknownCommand, NotWith}
use Rattle.solve_words.specs.declared.fault.WordFault.{WordFault}
use Rattle.solve_words.specs.declared.fault.WordFault.TheVariants.{Bad, NoMemory}

-- the command with these settings
abbrev pub command_of : Verb → List Setting → Command
command_of verbs.Solve s =
    Solve (method_in s) (number_in Workers s) (number_in Error s) (number_in Budget s)
    (number_in Nodes s) (certificate_in s) (format_in s) (number_in Cells s)
command_of verbs.Tree s = Tree (number_in Workers s) (format_in s)
command_of verbs.Check s = Check (format_in s)
command_of verbs.Replay s = Replay (after_in s) (format_in s)
command_of verbs.Drill s =
    Drill (method_in s) (number_in Workers s) (number_in Error s) (number_in Budget s)
    (number_in Nodes s) (number_in Seed s) (number_in Vars s) (number_in Size s)
    (number_in Degree s) (number_in Top s) (number_in Cells s)
command_of verbs.Upgrade s = Upgrade (format_in s)
command_of verbs.Edit s = Edit

-- whether a word names an option that may not be given with a method
abbrev pub is_refused : Choice → List ℕ → Bool
is_refused method name =
    unwrap_or (option_map (λ option. not (stands_with method option)) (option_named name)) false

-- the fault of the first pair whose option may not be given with the method
abbrev pub method_fault : List Pair → Option WordFault
method_fault pairs =
    option_map (λ k. Bad (2 + 2 * k) NotWith)
    (position (is_refused (method_in (settings_of pairs))) (names_of pairs))

-- the fault if there is one, and the command otherwise
abbrev pub answer_unless : Option WordFault → Command → Result Command WordFault
answer_unless (Some fault) command = Err fault
answer_unless None command = Ok command

-- the answer to the pairs of words after the word of a command
abbrev pub answer_behind : List (List ℕ) → Option Verb → Result Command WordFault
answer_behind words None = Err (Bad 1 UnknownCommand)
answer_behind words (Some verb) =
    let pairs = pairs_of words in
    answer_unless (option_or (pairs_fault verb [] pairs) (method_fault pairs))
    (command_of verb (settings_of pairs))

-- the answer to words
abbrev pub answer_to : List (List ℕ) → Result Command WordFault
answer_to [] = Err (Bad 1 NoCommand)
answer_to (word ∷ words) = answer_behind words (verb_named word)

-- a result is the answer to these words, unless memory runs out
abbrev pub Answers : List (List ℕ) → Result Command WordFault → Type 0
Answers words (Err NoMemory) = Unit {0}
Answers words answer = answer ≡ answer_to words
