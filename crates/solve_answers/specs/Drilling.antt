-- The command `drill`: which problem it makes, and how it solves it.
use Rattle.std.specs.Prelude.{false, Option, Some, None}
use Rattle.instance_make.specs.Limits.{CanMake}
use Rattle.instance_make.specs.Generator.{made_problem}
use Rattle.problem_text.specs.File.{TextFile}
use Rattle.problem_text.specs.Numbered.{numbered_file}
use Rattle.solve_words.specs.declared.command.Command.{Command}
use Rattle.solve_words.specs.declared.command.Command.TheVariants as commands
use Rattle.solve_answers.specs.Served.{task_by, IsFileTaskInRange}
use Rattle.solve_answers.specs.declared.drilling.Drill.{Drill}

-- the file that is made for a drill
abbrev pub made_for : Drill → TextFile
made_for drill = numbered_file (made_problem drill.seed drill.vars drill.size drill.degree drill.top)

-- the problem that a command asks to make and the task on it: the task of `solve` with the same
-- options and no certificate
abbrev pub drill_of : Command → Option Drill
drill_of (commands.Drill method workers error budget nodes seed vars size degree top cells) =
    Some (record { seed = seed; vars = vars; size = size; degree = degree; top = top; task = task_by method error budget false cells })
drill_of _ = None

-- a problem can be made for this drill, and its task is in its range
abbrev pub IsDrillInRange : Drill → Type 0
IsDrillInRange drill = CanMake drill.vars drill.size drill.degree drill.top × IsFileTaskInRange drill.task
