-- The ranges of a command's numbers.
use Rattle.solve_words.specs.Options.{IsNumberOf}
use Rattle.solve_words.specs.declared.command.Command.{Command}
use Rattle.solve_words.specs.declared.command.Command.TheVariants.{Solve, Tree, Drill}
use Rattle.solve_words.specs.declared.options.Quantity.TheVariants.{Workers, Error, Budget, Nodes, Seed, Vars, Size, Degree, Top, Cells}

-- each number of a command is one that its option takes
abbrev pub IsInRange : Command → Type 0
IsInRange (Solve method workers error budget nodes certificate format cells) =
    IsNumberOf Workers workers × IsNumberOf Error error × IsNumberOf Budget budget × IsNumberOf Nodes nodes
    × IsNumberOf Cells cells
IsInRange (Tree workers format) = IsNumberOf Workers workers
IsInRange (Drill method workers error budget nodes seed vars size degree top cells) =
    IsNumberOf Workers workers × IsNumberOf Error error × IsNumberOf Budget budget × IsNumberOf Nodes nodes
    × IsNumberOf Seed seed × IsNumberOf Vars vars × IsNumberOf Size size × IsNumberOf Degree degree
    × IsNumberOf Top top × IsNumberOf Cells cells
IsInRange _ = Unit {0}
