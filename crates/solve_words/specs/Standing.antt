-- The table of options, continued: the commands and the methods with which they can be given.
use Rattle.std.specs.Prelude.{Bool, true, false, not, List, [], ◌∷◌}
use Rattle.std.specs.List.{list_any}
use Rattle.solve_words.specs.declared.verb.Verb.{Verb}
use Rattle.solve_words.specs.declared.verb.Verb.TheVariants.{Solve, Tree, Check, Replay, Drill, Upgrade, Edit}
use Rattle.solve_words.specs.declared.command.Choice.{Choice}
use Rattle.solve_words.specs.declared.command.Choice.TheVariants.{Plain, Dpop, Adopt, Auto, Cut}
use Rattle.solve_words.specs.declared.options.WordOption.{WordOption}
use Rattle.solve_words.specs.declared.options.WordOption.TheVariants.{Method, Certificate, Format, After, Number}
use Rattle.solve_words.specs.declared.options.Quantity.TheVariants.{Workers, Error, Budget, Nodes, Seed, Vars, Size, Degree, Top, Cells}

-- the commands that take an option
abbrev pub commands_of : WordOption → List Verb
commands_of Method = Solve ∷ Drill ∷ []
commands_of Certificate = Solve ∷ []
commands_of Format = Solve ∷ Tree ∷ Check ∷ Replay ∷ Upgrade ∷ []
commands_of After = Replay ∷ []
commands_of (Number Workers) = Solve ∷ Tree ∷ Drill ∷ []
commands_of (Number Error) = Solve ∷ Drill ∷ []
commands_of (Number Budget) = Solve ∷ Drill ∷ []
commands_of (Number Nodes) = Solve ∷ Drill ∷ []
commands_of (Number Seed) = Drill ∷ []
commands_of (Number Vars) = Drill ∷ []
commands_of (Number Size) = Drill ∷ []
commands_of (Number Degree) = Drill ∷ []
commands_of (Number Top) = Drill ∷ []
commands_of (Number Cells) = Solve ∷ Drill ∷ []

-- the methods with which an option may not be given
abbrev pub refused_with : WordOption → List Choice
refused_with Certificate = Plain ∷ []
refused_with (Number Error) = Plain ∷ Dpop ∷ Cut ∷ []
refused_with (Number Budget) = Plain ∷ Dpop ∷ Cut ∷ []
refused_with (Number Nodes) = Plain ∷ Cut ∷ []
refused_with (Number Cells) = Plain ∷ Dpop ∷ Adopt ∷ Auto ∷ []
refused_with _ = []

-- whether two commands are the same
abbrev pub is_verb : Verb → Verb → Bool
is_verb Solve Solve = true
is_verb Tree Tree = true
is_verb Check Check = true
is_verb Replay Replay = true
is_verb Drill Drill = true
is_verb Upgrade Upgrade = true
is_verb Edit Edit = true
is_verb _ _ = false

-- whether two methods are the same
abbrev pub is_method : Choice → Choice → Bool
is_method Plain Plain = true
is_method Dpop Dpop = true
is_method Adopt Adopt = true
is_method Auto Auto = true
is_method Cut Cut = true
is_method _ _ = false

-- whether a command takes the option
abbrev pub belongs_to : Verb → WordOption → Bool
belongs_to verb option = list_any (is_verb verb) (commands_of option)

-- whether the option may be given with a method
abbrev pub stands_with : Choice → WordOption → Bool
stands_with method option = not (list_any (is_method method) (refused_with option))
