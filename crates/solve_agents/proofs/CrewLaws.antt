-- What agents come to that cells are run of.
use Rattle.std.proofs.Common.{◌≡◌, ℕ, ◌<◌, ◌≤◌, Bool, ◌==◌, if◌then◌else◌, List, [], ◌∷◌, ◌++◌, map, length, Option, Some, None, IfSome, is_some, Result, Ok, Err, IfOk, refl, sym, ap, subst, ◌∙◌, inl, inr, arith}
use Rattle.std.proofs.lemmas.Bool.{cases_Bool}
use Rattle.std.proofs.lemmas.List.{length-map, length-set}
use Rattle.std.proofs.lemmas.Option.{same_Some}
use Rattle.std.specs.declared.dyn_box.DynBox.{DynBox}
use Rattle.std.specs.declared.alloc.Global.{Global}
use Rattle.dcop_base.specs.Limits.{variable_limit}
use Rattle.dcop_base.specs.declared.memory.NoMemory.{NoMemory}
use Rattle.protocol_steps.specs.declared.run_end.RunEnd.{RunEnd}
use Rattle.protocol_steps.specs.declared.run_end.RunEnd.TheVariants.{AllEnded, Spent, Still}
use Rattle.protocol_steps.specs.declared.outcome.Outcome.{Outcome}
use Rattle.protocol_steps.specs.View.{View}
use Rattle.protocol_steps.specs.Step.{start_of}
use Rattle.protocol_steps.specs.Network.{Desk, Network, start_state}
use Rattle.protocol_steps.specs.Run.{run, journal}
use Rattle.protocol_steps.specs.JournalStamps.{journal_at}
use Rattle.protocol_steps.specs.declared.event.Event.{Event}
use Rattle.protocol_steps.specs.declared.event.Take.{Take}
use Rattle.protocol_steps.specs.declared.event.Entry.{Entry}
use Rattle.protocol_steps.proofs.EventLaws.{begins}
use Rattle.protocol_steps.specs.Effect.{deliveries}
use Rattle.protocol_steps.specs.RunEnds.{IsRunEnd}
use Rattle.protocol_steps.specs.Outcomes.{HaveRun}
use Rattle.worker_laws.specs.Cells.{CellState}
use Rattle.worker_laws.specs.CellRounds.{total}
use Rattle.worker_laws.specs.CellRuns.{journals_of, MakesARun, IsRunOfCells, IsCellOutcome}
use Rattle.worker_laws.specs.Merges.{AscendsAbove, IsMerge, JournalsMerge, entries_in, events_in}
use Rattle.worker_laws.specs.WorkerLaws.{CellsTellOutcomes}
use Rattle.run_log.specs.declared.log.LogEvent.{LogEvent}
use Rattle.run_log.specs.Laws.{MergedStampsAreRight}
use Rattle.run_log.specs.Logs.{entry_of, entries_of, events_of}
use Rattle.solve_methods.specs.Kept.{IsLogOf, HaveLogged}
use Rattle.solve_methods.specs.declared.adopt.Logged.{Logged}
use Rattle.agent_cells.specs.declared.cell.Cell.{Cell}
use Rattle.agent_cells.specs.State.{state_of}
use Rattle.agent_workers.specs.Joined.{states_of}
use Rattle.agent_workers.specs.Run.{views_of}
use Rattle.agent_links.specs.Ready.{deliveries_in}

end_tells : (budget : ℕ) (net : Network) (end : RunEnd) → IsRunEnd budget net end → deliveries_in end ≡ deliveries net
end_tells budget net (AllEnded n) stops = stops.0
end_tells budget net (Spent n) stops = stops.0
end_tells budget net (Still n) stops = stops.0

-- a run of cells tells how many messages they took
run_tells : (budget : ℕ) (made : List View) (cells : List CellState) (end : RunEnd) → MakesARun budget made cells end → deliveries_in end ≡ total cells
run_tells budget made cells end run = end_tells budget run.0 end run.2 ∙ run.1.delivered

abbrev have_run : (budget : ℕ) (made : List View) (cells : List CellState) (end : RunEnd) (outcome : Outcome) → CellsTellOutcomes → MakesARun budget made cells end → IsCellOutcome cells outcome → HaveRun budget made outcome
have_run budget made cells end outcome tell ran cell = record {
  rounds = ran.1.in_rounds.pieces;
  end = ran.0;
  how = end;
  are_rounds = ran.1.in_rounds.rounds;
  stopped = ran.2;
  told = tell budget made cells ran.0 outcome ran.1 cell;
}

-- an agent's desk at the start
abbrev desk_of : View → Desk
desk_of v = record { sent = (start_of v).sends; takes = [] }

-- a run takes no desk away
desks_stay : (net end : Network) (es : List Event) → run net es ≡ Some end → length end.desks ≡ length net.desks
desks_stay net end [] leads = ap (λ (other : Network). length other.desks) (sym (same_Some net end leads))
desks_stay net end (e ∷ es) leads =
    let first = begins net end e es leads in
    desks_stay first.next end es first.rest ∙ ap (λ (other : Network). length other.desks) (sym first.first.after) ∙ length-set net.desks e.agent _

-- in a run of cells there is a cell for each agent
run_sized : (budget : ℕ) (made : List View) (cells : List CellState) (end : RunEnd) → JournalsMerge → MakesARun budget made cells end → length cells ≡ length made
run_sized budget made cells end merges ran =
    let merged = (merges (journals_of cells) ran.1.right.ascend).some in
    sym ran.1.sized ∙ desks_stay (start_state made) ran.0 (events_in merged.0) (ran.1.merges merged.0 merged.1) ∙ length-map made desk_of

module _ {X : Type 0} {F : X → Type 0} (M : DynBox X Global F → View) (budget : ℕ) (before after read : List (Cell X F)) (end : RunEnd) (ran : MakesARun budget (views_of M before) (states_of M after) end) (same : read ≡ after) where
  -- cells that are read when they have run are as many as before
  read_sized : JournalsMerge → length read ≡ length before
  read_sized merges =
      let size : length (states_of M after) ≡ length (views_of M before) = run_sized budget (views_of M before) (states_of M after) end merges ran in
      let old : length (views_of M before) ≡ length before = length-map before (λ c. (state_of M c).view) in
      let new : length (states_of M after) ≡ length after = length-map after (state_of M) in
      ap (λ (cs : List (Cell X F)). length cs) same ∙ sym new ∙ size ∙ old

  pub read_few : JournalsMerge → length before ≤ variable_limit → length read ≤ variable_limit
  read_few merges few = let size = read_sized merges in omega (arith, size, few)

  pub read_some : JournalsMerge → 0 < length before → 0 < length read
  read_some merges some = let size = read_sized merges in omega (arith, size, some)

  -- they tell how many messages they took
  pub read_told : deliveries_in end ≡ total (states_of M read)
  read_told = subst (λ (cs : List (Cell X F)). deliveries_in end ≡ total (states_of M cs)) (sym same) (run_tells budget (views_of M before) (states_of M after) end ran)

  -- and the stamps of each journal ascend
  pub read_ascends : (i : ℕ) → AscendsAbove 0 (journal_at (journals_of (states_of M read)) i)
  read_ascends i = subst (λ (cs : List (Cell X F)). AscendsAbove 0 (journal_at (journals_of (states_of M cs)) i)) (sym same) (ran.1.right.ascend i)

-- journals that are copied from cells are the cells' journals
copied : {X : Type 0} {F : X → Type 0} (M : DynBox X Global F → View) (cells : List (Cell X F)) → map (λ c. (state_of M c).journal) cells ≡ journals_of (states_of M cells)
copied M [] = refl
copied M (c ∷ cs) = ap (λ (js : List (List Entry)). (state_of M c).journal ∷ js) (copied M cs)

module _ {X : Type 0} {F : X → Type 0} (M : DynBox X Global F → View) (cells : List (Cell X F)) (journals : List (List Entry)) (are : journals ≡ map (λ c. (state_of M c).journal) cells) where
  pub journals_ascend : ((i : ℕ) → AscendsAbove 0 (journal_at (journals_of (states_of M cells)) i)) → (i : ℕ) → AscendsAbove 0 (journal_at journals i)
  journals_ascend ascend i = subst (λ (js : List (List Entry)). AscendsAbove 0 (journal_at js i)) (sym (are ∙ copied M cells)) (ascend i)

  pub merge_of : (log : List LogEvent) → IsMerge journals (entries_of log) → IsMerge (journals_of (states_of M cells)) (entries_of log)
  merge_of log merged = subst (λ (js : List (List Entry)). IsMerge js (entries_of log)) (are ∙ copied M cells) merged

-- what the entries of one agent in a log take is its journal
entries_take : (i : ℕ) (log : List LogEvent) → map (λ (e : Entry). e.takes) (entries_in i (entries_of log)) ≡ journal i (events_of log)
entries_take i [] = refl
entries_take i (e ∷ log) = elim (cases_Bool (e.agent == i)) [
  | inl mine ↦
      ap (λ (b : Bool). map (λ (x : Entry). x.takes) ((if b then (entry_of e).1 ∷ [] else []) ++ entries_in i (entries_of log))) mine
      ∙ ap (λ (ts : List (List Take)). e.takes ∷ ts) (entries_take i log)
      ∙ sym (ap (λ (b : Bool). (if b then e.takes ∷ [] else []) ++ journal i (events_of log)) mine)
  | inr other ↦
      ap (λ (b : Bool). map (λ (x : Entry). x.takes) ((if b then (entry_of e).1 ∷ [] else []) ++ entries_in i (entries_of log))) other
      ∙ entries_take i log
      ∙ sym (ap (λ (b : Bool). (if b then e.takes ∷ [] else []) ++ journal i (events_of log)) other)
]

-- the merged journals of cells are the log of the run that the cells have made
log_of_run : (budget : ℕ) (made : List View) (cells : List CellState) (net : Network) (log : List LogEvent) → MergedStampsAreRight → (ran : IsRunOfCells budget made cells net) → IsMerge (journals_of cells) (entries_of log)
    → IsLogOf made ran.in_rounds.pieces net log
log_of_run budget made cells net log stamps ran merged = record {
  same = λ i. sym (entries_take i log) ∙ ap (λ (es : List Entry). map (λ (e : Entry). e.takes) es) (merged.whole i) ∙ ran.in_rounds.agree i;
  stamped = stamps budget made cells net log ran merged;
}

-- the merged journals of such cells, where they are merged
kept_log : (budget : ℕ) (made : List View) (cells : List CellState) (net : Network) (log : Option (List LogEvent)) → MergedStampsAreRight → (ran : IsRunOfCells budget made cells net) → IfSome log (λ events. IsMerge (journals_of cells) (entries_of events))
    → IfSome log (IsLogOf made ran.in_rounds.pieces net)
kept_log budget made cells net None stamps ran merged = tt
kept_log budget made cells net (Some log) stamps ran merged = log_of_run budget made cells net log stamps ran merged

-- what agents come to that cells are run of, with the merged journals of the cells, where they are merged, as the log of that run
have_logged : (budget : ℕ) (made : List View) (cells : List CellState) (end : RunEnd) (ran : Logged) → CellsTellOutcomes → MergedStampsAreRight
    → MakesARun budget made cells end → IsCellOutcome cells ran.outcome → IfSome ran.log (λ events. IsMerge (journals_of cells) (entries_of events))
    → HaveLogged budget made (is_some ran.log) ran
have_logged budget made cells end ran tell stamps makes cell merged = record {
  run = have_run budget made cells end ran.outcome tell makes cell;
  asked = refl;
  kept = kept_log budget made cells makes.0 ran.log stamps makes.1 merged;
}

-- the same of what is read from cells that have run
module _ {X : Type 0} {F : X → Type 0} (M : DynBox X Global F → View) (budget : ℕ) (made : List View) (before after read : List (Cell X F)) (end : RunEnd) (certified : Bool)
    (tell : CellsTellOutcomes) (stamps : MergedStampsAreRight) (are : views_of M before ≡ made) (makes : MakesARun budget (views_of M before) (states_of M after) end) (same : read ≡ after) where
  pub have_logged_of : (ran : Logged) → IsCellOutcome (states_of M read) ran.outcome → is_some ran.log ≡ certified → IfSome ran.log (λ events. IsMerge (journals_of (states_of M read)) (entries_of events))
      → HaveLogged budget made certified ran
  have_logged_of ran cell asked merged =
      subst (λ (b : Bool). HaveLogged budget made b ran) asked
      (have_logged budget made (states_of M after) end ran tell stamps (subst (λ (vs : List View). MakesARun budget vs (states_of M after) end) are makes)
      (subst (λ (cs : List (Cell X F)). IsCellOutcome (states_of M cs) ran.outcome) same cell)
      (subst (λ (cs : List (Cell X F)). IfSome ran.log (λ events. IsMerge (journals_of (states_of M cs)) (entries_of events))) same merged))

  -- unless memory was wanted
  pub have_logged_by : (r : Result Logged NoMemory) → IfOk r (λ ran. IsCellOutcome (states_of M read) ran.outcome) → IfOk r (λ ran. is_some ran.log ≡ certified)
      → IfOk r (λ ran. IfSome ran.log (λ events. IsMerge (journals_of (states_of M read)) (entries_of events))) → IfOk r (HaveLogged budget made certified)
  have_logged_by (Ok ran) cell asked merged = have_logged_of ran cell asked merged
  have_logged_by (Err refused) cell asked merged = tt
