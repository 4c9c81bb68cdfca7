-- Every command has a task on an input, or a drill.
use Rattle.std.proofs.Common.{◌≡◌, None}
use Rattle.solve_words.specs.declared.command.Command.{Command}
use Rattle.solve_words.specs.declared.command.Command.TheVariants.{Solve, Tree, Check, Replay, Drill, Upgrade, Edit}
use Rattle.solve_answers.specs.Drilling.{drill_of}
use Rattle.solve_answers.specs.Served.{task_of}

pub command_served : (command : Command) → task_of command ≡ None → ¬ (drill_of command ≡ None)
command_served (Solve method workers error budget nodes certificate format cells) unread undrilled = cc unread
command_served (Tree workers format) unread undrilled = cc unread
command_served (Check format) unread undrilled = cc unread
command_served (Replay after format) unread undrilled = cc unread
command_served (Upgrade format) unread undrilled = cc unread
command_served Edit unread undrilled = cc unread
command_served (Drill method workers error budget nodes seed vars size degree top cells) unread undrilled = cc undrilled
