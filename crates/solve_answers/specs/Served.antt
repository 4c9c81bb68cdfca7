-- The task of each command on an input.
use Rattle.std.specs.Prelude.{ℕ, Bool, ◌≤◌, Option, Some, None}
use Rattle.dcop_base.specs.Limits.{amount_limit, budget_limit, joined_limit, size_limit}
use Rattle.solve_words.specs.declared.command.Command.{Command}
use Rattle.solve_words.specs.declared.command.Command.TheVariants.{Solve, Tree, Check, Replay, Upgrade, Edit}
use Rattle.solve_words.specs.declared.command.Choice.{Choice}
use Rattle.solve_words.specs.declared.command.Choice.TheVariants.{Plain, Dpop, Adopt, Auto, Cut}
use Rattle.solve_answers.specs.declared.task.Task.{Task}
use Rattle.solve_answers.specs.declared.task.Task.TheVariants.{File, Check as CheckReport, Replay as ReplayReport, Edit as EditLines}
use Rattle.solve_answers.specs.declared.task.FileTask.{FileTask}
use Rattle.solve_answers.specs.declared.task.FileTask.TheVariants as tasks

-- the task of a method on a file, with or without a certificate
abbrev pub task_by : Choice → ℕ → ℕ → Bool → ℕ → FileTask
task_by Plain error budget certified limit = tasks.Plain
task_by Dpop error budget certified limit = tasks.Dpop certified
task_by Adopt error budget certified limit = tasks.Adopt error budget certified
task_by Auto error budget certified limit = tasks.Auto error budget certified
task_by Cut error budget certified limit = tasks.Cut limit certified

-- the task of a command on an input, for each command but `drill`, which reads none; `edit` takes
-- problem text, and the others take either format
abbrev pub task_of : Command → Option Task
task_of (Solve method workers error budget nodes certificate format cells) = Some (File format (task_by method error budget certificate cells))
task_of (Tree workers format) = Some (File format tasks.Tree)
task_of (Check format) = Some (CheckReport format)
task_of (Replay after format) = Some (ReplayReport format after)
task_of (Upgrade format) = Some (File format tasks.Upgrade)
task_of Edit = Some EditLines
task_of _ = None

-- the numbers of a task are in the range of their options: error, budget, and the limit of a cut,
-- which is at least the greatest domain size that a problem may have
abbrev pub IsFileTaskInRange : FileTask → Type 0
IsFileTaskInRange (tasks.Adopt error budget certified) = (error ≤ amount_limit) × (budget ≤ budget_limit)
IsFileTaskInRange (tasks.Auto error budget certified) = (error ≤ amount_limit) × (budget ≤ budget_limit)
IsFileTaskInRange (tasks.Cut limit certified) = (size_limit ≤ limit) × (limit ≤ joined_limit)
IsFileTaskInRange _ = Unit {0}

-- the numbers of a task are in their range
abbrev pub IsTaskInRange : Task → Type 0
IsTaskInRange (File format task) = IsFileTaskInRange task
IsTaskInRange _ = Unit {0}
