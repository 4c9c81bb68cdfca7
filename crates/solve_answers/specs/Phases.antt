-- The phases of a task on a problem.
use Rattle.std.specs.Prelude.{ℕ}
use Rattle.dcop_base.specs.Problem.{Dcop}
use Rattle.delivery_core.specs.declared.start.Start.{Start}
use Rattle.solve_agents.specs.Phases.{IsNoPhase, IsPhaseByDpop, IsPhaseByAdopt, IsPhaseByAuto}
use Rattle.solve_answers.specs.declared.task.FileTask.{FileTask}
use Rattle.solve_answers.specs.declared.task.FileTask.TheVariants as tasks

-- a phase of a task in which agents run in several nodes, by its method
abbrev pub IsPhaseOf : FileTask → Dcop → Start → ℕ → Type 0
IsPhaseOf (tasks.Dpop certified) p = IsPhaseByDpop p
IsPhaseOf (tasks.Adopt error budget certified) p = IsPhaseByAdopt p error budget
IsPhaseOf (tasks.Auto error budget certified) p = IsPhaseByAuto p error budget
IsPhaseOf task p = IsNoPhase
