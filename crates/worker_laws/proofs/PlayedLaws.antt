-- Cells that were played have made a run.
use Rattle.std.proofs.Common.{ℕ, ◌<◌, List, [], ◌∷◌, ◌++◌, refl, sym, subst, arith}
use Rattle.protocol_steps.specs.declared.run_end.RunEnd.{RunEnd}
use Rattle.protocol_steps.specs.declared.run_end.RunEnd.TheVariants.{Still}
use Rattle.protocol_steps.specs.View.{View}
use Rattle.worker_laws.specs.Cells.{CellState, EachAre}
use Rattle.worker_laws.specs.Visits.{IsQuiet}
use Rattle.worker_laws.specs.CellRounds.{AreSettled, AreStarted, IsCellRound, AreCellRounds, total}
use Rattle.worker_laws.specs.CellRuns.{IsCellEnd, MakesARun}
use Rattle.worker_laws.specs.Played.{ArePlayed, PlayedCellsMakeRuns}
use Rattle.worker_laws.proofs.VisitLaws.{totals_add}
use Rattle.worker_laws.proofs.CellRunLaws.{workers_make_a_run}
use Rattle.worker_laws.proofs.EndLaws.{cells_tell_ends}
use Rattle.worker_laws.proofs.IdleLaws.{idle_rounds_leave_nothing}

-- one more round of cells
cell_rounds_push : (budget : ℕ) (a b c : List CellState) (rounds : List (List CellState)) → AreCellRounds budget a rounds b → total b < budget → IsCellRound b c → AreCellRounds budget a (rounds ++ c ∷ []) c
cell_rounds_push budget a b c [] same less round = subst (λ (cells : List CellState). AreCellRounds budget cells (c ∷ []) c) (sym same) (less, round, refl)
cell_rounds_push budget a b c (next ∷ rounds) are less round = (are.0, are.1, cell_rounds_push budget next b c rounds are.2 less round)

more : (budget : ℕ) (started now next : List CellState) → ArePlayed budget started now → total now < budget → IsCellRound now next → ArePlayed budget started next
more budget started now next p less round = record { rounds = p.rounds ++ next ∷ []; are = cell_rounds_push budget started now next p.rounds p.are less round }

ends : (budget : ℕ) (made : List View) (started now last : List CellState) (answer : RunEnd) → AreStarted made started → ArePlayed budget started now
    → EachAre IsQuiet now last → AreSettled last → IsCellEnd budget last answer → MakesARun budget made last answer
ends budget made started now last answer starts p quiet settled told =
    let run = workers_make_a_run budget made started now last p.rounds starts p.are quiet settled in
    (run.0, run.1, cells_tell_ends budget made last run.0 answer run.1 told)

pub played_cells_make_runs : PlayedCellsMakeRuns
played_cells_make_runs = record {
  none = λ budget cells. record { rounds = []; are = refl };
  more = more;
  ends = ends;
  rests = λ budget made started now next last starts p less round same quiet settled awake.
      let still = totals_add.quiet next last quiet in
      ends budget made started next last (Still (total last)) starts (more budget started now next p less round) quiet settled
      (refl, awake, omega (arith, same, still, less), idle_rounds_leave_nothing now next last round same quiet);
}
