-- What agents come to that cells are run of.
use Rattle.std.proofs.Common.{◌≡◌, ℕ, List, subst, ◌∙◌}
use Rattle.std.specs.declared.dyn_box.DynBox.{DynBox}
use Rattle.std.specs.declared.alloc.Global.{Global}
use Rattle.protocol_steps.specs.declared.run_end.RunEnd.{RunEnd}
use Rattle.protocol_steps.specs.declared.run_end.RunEnd.TheVariants.{AllEnded, Spent, Still}
use Rattle.protocol_steps.specs.declared.outcome.Outcome.{Outcome}
use Rattle.protocol_steps.specs.View.{View}
use Rattle.protocol_steps.specs.Network.{Network}
use Rattle.protocol_steps.specs.Effect.{deliveries}
use Rattle.protocol_steps.specs.RunEnds.{IsRunEnd}
use Rattle.protocol_steps.specs.Outcomes.{HaveRun}
use Rattle.worker_laws.specs.Cells.{CellState}
use Rattle.worker_laws.specs.CellRounds.{total}
use Rattle.worker_laws.specs.CellRuns.{MakesARun, IsCellOutcome}
use Rattle.worker_laws.specs.WorkerLaws.{CellsTellOutcomes}
use Rattle.agent_cells.specs.declared.cell.Cell.{Cell}
use Rattle.agent_workers.specs.Joined.{states_of}
use Rattle.agent_workers.specs.Run.{views_of}
use Rattle.agent_links.specs.Ready.{deliveries_in}

end_tells : (budget : ℕ) (net : Network) (end : RunEnd) → IsRunEnd budget net end → deliveries_in end ≡ deliveries net
end_tells budget net (AllEnded n) stops = stops.0
end_tells budget net (Spent n) stops = stops.0
end_tells budget net (Still n) stops = stops.0

-- a run of cells tells how many messages they took
pub run_tells : (budget : ℕ) (made : List View) (cells : List CellState) (end : RunEnd) → MakesARun budget made cells end → deliveries_in end ≡ total cells
run_tells budget made cells end run = end_tells budget run.0 end run.2 ∙ run.1.delivered

have_run : (budget : ℕ) (made : List View) (cells : List CellState) (end : RunEnd) (outcome : Outcome) → CellsTellOutcomes → MakesARun budget made cells end → IsCellOutcome cells outcome → HaveRun budget made outcome
have_run budget made cells end outcome tell ran cell = record {
  rounds = ran.1.in_rounds.pieces;
  end = ran.0;
  how = end;
  are_rounds = ran.1.in_rounds.rounds;
  stopped = ran.2;
  told = tell budget made cells ran.0 outcome ran.1 cell;
}

-- what agents come to, as it is read from cells that have run
pub have_run_of : {X : Type 0} {F : X → Type 0} (M : DynBox X Global F → View) (budget : ℕ) (made : List View) (before after read : List (Cell X F)) (end : RunEnd) (outcome : Outcome)
    → CellsTellOutcomes → views_of M before ≡ made → MakesARun budget (views_of M before) (states_of M after) end → read ≡ after → IsCellOutcome (states_of M read) outcome → HaveRun budget made outcome
have_run_of {X} {F} M budget made before after read end outcome tell are ran same cell =
    have_run budget made (states_of M after) end outcome tell (subst (λ (vs : List View). MakesARun budget vs (states_of M after) end) are ran)
    (subst (λ (cs : List (Cell X F)). IsCellOutcome (states_of M cs) outcome) same cell)
