-- A run of cells, by its start and its rounds.
use Rattle.std.proofs.Common.{◌≡◌, ℕ, ◌+◌, ◌<◌, ◌≤◌, ◌&&◌, Bool, false, Some, None, List, [], ◌∷◌, length, set, get_or, slice_get, refl, sym, ap, ap₂, subst, ◌∙◌, inl, inr, arith, length-set, ◌++◌}
use Rattle.std.specs.List.{list_all}
use Rattle.std.proofs.lemmas.Bool.{cases_lt}
use Rattle.std.proofs.lemmas.Option.{slice_get_within, slice_get-get_or}
use Rattle.std.proofs.lemmas.List.{length-map}
use Rattle.std.proofs.lemmas.List.Sums.{sum_by-cons}
use Rattle.std.specs.declared.dyn_box.DynBox.{DynBox}
use Rattle.std.specs.declared.alloc.Global.{Global}
use Rattle.protocol_steps.specs.declared.run_end.RunEnd.{RunEnd}
use Rattle.protocol_steps.specs.declared.run_end.RunEnd.TheVariants.{AllEnded, Spent, Still}
use Rattle.protocol_steps.specs.View.{View, ended_of}
use Rattle.worker_laws.specs.Cells.{CellState, IsWired, EachAre}
use Rattle.worker_laws.specs.Visits.{IsStarted, IsQuiet}
use Rattle.worker_laws.specs.CellRounds.{AreSettled, AreStarted, IsCellRound, AreCellRounds, taken_by, total}
use Rattle.worker_laws.specs.CellRuns.{all_ended, MakesARun}
use Rattle.worker_laws.specs.OneNode.{home, IsPartRound, IsSettling}
use Rattle.worker_laws.specs.Played.{ArePlayed}
use Rattle.worker_laws.proofs.VisitLaws.{totals_add}
use Rattle.worker_laws.proofs.NodeLaws.{one_node_is_all}
use Rattle.worker_laws.proofs.PlayedLaws.{played_cells_make_runs}
use Rattle.agent_cells.specs.declared.cell.Cell.{Cell}
use Rattle.agent_cells.specs.declared.fault.VisitFault.TheVariants.{StampEnd}
use Rattle.agent_cells.specs.State.{state_of, begun_in, fault_in, IsCell}
use Rattle.agent_workers.specs.Joined.{states_of, EachIs, EachBecomes, HasBegun, IsSameCell, AreCellsJoined}
use Rattle.agent_workers.specs.Settled.{HaveSettled}
use Rattle.dcop_base.specs.Limits.{budget_limit}
use Rattle.agent_workers.specs.Turns.{SomeFailed}
use Rattle.agent_workers.specs.Broken.{HasFailedStart, HaveStartedPartly, HaveBrokenOff}
use Rattle.agent_workers.proofs.BrokenLaws.{no_end}
use Rattle.agent_workers.specs.Run.{views_of, HasStarted, AreStarting, AreBusy, AreDue, ArePlayedIn, AreDulyPlayed, ArePlayedOut, EndIdle, AtStill, AreIdle, RestsAtStill}
use Rattle.agent_workers.proofs.ListLaws.{map_back, each_are, one_at}
use Rattle.agent_workers.proofs.CellLaws.{keeps_none, keeps_then}
use Rattle.agent_workers.proofs.JoinLaws.{stood, joined_still}
use Rattle.agent_workers.proofs.SettleLaws.{settling}
use Rattle.agent_workers.specs.Shared.{IsSharedRound, ArePlayedShared}
use Rattle.agent_workers.proofs.PlayLaws.{set_back}
use Rattle.agent_workers.proofs.SharedLaws.{SharedSoFar, so_far_none, so_far_more}

-- cells that stay quiet have ended exactly if they had
still_ended : (now last : List CellState) → EachAre IsQuiet now last → all_ended last ≡ all_ended now
still_ended [] [] q = refl
still_ended [] (y ∷ ys) q = absurd q
still_ended (x ∷ xs) [] q = absurd q
still_ended (x ∷ xs) (y ∷ ys) q = ap₂ (λ (v : View) (b : Bool). ended_of v && b) q.0.viewed (still_ended xs ys q.1)

plainly : (budget : ℕ) (Such : List CellState → List (List CellState) → Type 0) (started now : List CellState) → ArePlayedIn budget Such started now → ArePlayed budget started now
plainly budget Such started now p = record { rounds = p.rounds; are = p.are }

-- one round more
rounds_push : (budget : ℕ) (a b c : List CellState) (rounds : List (List CellState)) → AreCellRounds budget a rounds b → total b < budget → IsCellRound b c → AreCellRounds budget a (rounds ++ c ∷ []) c
rounds_push budget a b c [] same less round = subst (λ (cells : List CellState). AreCellRounds budget cells (c ∷ []) c) (sym same) (less, round, refl)
rounds_push budget a b c (next ∷ rounds) are less round = (are.0, are.1, rounds_push budget next b c rounds are.2 less round)

busy_push : (budget : ℕ) (a b c : List CellState) (rounds : List (List CellState)) → AreCellRounds budget a rounds b → AreBusy a rounds → all_ended b ≡ false → total b < total c → AreBusy a (rounds ++ c ∷ [])
busy_push budget a b c [] same busy awake more = subst (λ (cells : List CellState). AreBusy cells (c ∷ [])) (sym same) (awake, more, tt)
busy_push budget a b c (next ∷ rounds) are busy awake more = (busy.0, busy.1, busy_push budget next b c rounds are.2 busy.2 awake more)

due_push : (budget : ℕ) (a b c : List CellState) (rounds : List (List CellState)) → AreCellRounds budget a rounds b → AreBusy a rounds → all_ended b ≡ false → AreDue a (rounds ++ c ∷ [])
due_push budget a b c [] same busy awake = subst (λ (cells : List CellState). AreDue cells (c ∷ [])) (sym same) (awake, (λ some. absurd (some refl)), tt)
due_push budget a b c (next ∷ rounds) are busy awake = (busy.0, (λ _. busy.1), due_push budget next b c rounds are.2 busy.2 awake)

due_busy : (a : List CellState) (rounds : List (List CellState)) → AreBusy a rounds → AreDue a rounds
due_busy a [] busy = tt
due_busy a (next ∷ rounds) busy = (busy.0, (λ _. busy.1), due_busy next rounds busy.2)

-- one round more, which took nothing
idle_push : (budget : ℕ) (a b c : List CellState) (rounds : List (List CellState)) → AreCellRounds budget a rounds b → total c ≡ total b → EndIdle a (rounds ++ c ∷ [])
idle_push budget a b c [] same none = none ∙ ap total (sym same)
idle_push budget a b c (next ∷ []) are none = none ∙ ap total (sym are.2)
idle_push budget a b c (next ∷ (later ∷ rounds)) are none = idle_push budget next b c (later ∷ rounds) are.2 none

pub none_played : (budget : ℕ) (cells : List CellState) → ArePlayedIn budget AreBusy cells cells
none_played budget cells = record { rounds = []; are = refl; such = tt }

pub all_played : (budget : ℕ) (started now : List CellState) → ArePlayedIn budget AreBusy started now → ArePlayedIn budget AreDue started now
all_played budget started now p = record { rounds = p.rounds; are = p.are; such = due_busy started p.rounds p.such }

pub busy_played : (budget : ℕ) (started now : List CellState) → ArePlayedIn budget AreBusy started now → ArePlayed budget started now
busy_played budget started now p = plainly budget AreBusy started now p

-- a run that was played out, with every link settled once more
pub played_run : (budget : ℕ) (made : List View) (started now last : List CellState) (answer : RunEnd) → AreStarted made started → ArePlayedOut budget started now answer
    → EachAre IsQuiet now last → AreSettled last → MakesARun budget made last answer
played_run budget made started now last (AllEnded n) starts p quiet settled =
    let still = totals_add.quiet now last quiet in
    played_cells_make_runs.ends budget made started now last (AllEnded n) starts (plainly budget AreDue started now p.played) quiet settled (p.stopped.0 ∙ sym still, still_ended now last quiet ∙ p.stopped.1)
played_run budget made started now last (Spent n) starts p quiet settled =
    let still = totals_add.quiet now last quiet in
    let spent = p.stopped.2 in
    played_cells_make_runs.ends budget made started now last (Spent n) starts (plainly budget AreDue started now p.played) quiet settled (p.stopped.0 ∙ sym still, still_ended now last quiet ∙ p.stopped.1, omega (arith, still, spent))
played_run budget made started now last (Still n) starts p quiet settled =
    let still = totals_add.quiet now last quiet in
    let idle = p.stopped.2 in
    subst (λ (k : ℕ). MakesARun budget made last (Still k)) (still ∙ sym p.stopped.0)
    (played_cells_make_runs.rests budget made started idle.before now last starts idle.played idle.less idle.round idle.none quiet settled (still_ended now last quiet ∙ p.stopped.1))

-- cells that have started have taken nothing
pub none_taken : (made : List View) (cells : List CellState) → EachAre IsStarted made cells → total cells ≡ 0
none_taken [] [] s = refl
none_taken [] (c ∷ cs) s = absurd s
none_taken (v ∷ vs) [] s = absurd s
none_taken (v ∷ vs) (c ∷ cs) s =
    let sum = sum_by-cons (λ (x : CellState). taken_by x.journal) c cs in
    let own : taken_by c.journal ≡ 0 = ap taken_by s.0.noted in
    let rest = none_taken vs cs s.1 in
    omega (arith, sum, own, rest)

module _ {X : Type 0} {F : X → Type 0} (M : DynBox X Global F → View) where
  -- whether all have ended, cell by cell
  pub ended_states : (cells : List (Cell X F)) → all_ended (states_of M cells) ≡ list_all (λ (c : Cell X F). ended_of (state_of M c).view) cells
  ended_states [] = refl
  ended_states (c ∷ cells) = ap (λ (b : Bool). ended_of (state_of M c).view && b) (ended_states cells)

  pub same_all : (cells : List (Cell X F)) → EachBecomes IsSameCell cells cells
  same_all cells = record { size = refl; each = λ i a b e f. subst (λ (c : Cell X F). IsSameCell a c) (one_at cells i a b e f) (record { me = refl; links = keeps_none M a }) }

  pub start_none : (cells : List (Cell X F)) → AreStarting M 0 cells cells
  start_none cells = record { same = same_all cells; started = λ i a b e f lt. absurd (omega (arith, lt)); rest = λ i a b e f le. one_at cells i b a f e }

  -- a cell that has not had its turn has not changed
  stands : (k : ℕ) (before now : List (Cell X F)) (d : Cell X F) → AreStarting M k before now → (lt : k < length now) → (a : Cell X F) → slice_get before k ≡ Some a → get_or now k d ≡ a
  stands k before now d s lt a e = s.rest k a (get_or now k d) e (slice_get-get_or now k d lt) (omega arith)

  at_turn : (P : Cell X F → Type 0) (k : ℕ) (before now : List (Cell X F)) (d : Cell X F) → AreStarting M k before now → k < length now → EachIs P before → P (get_or now k d)
  at_turn P k before now d s lt each =
      let a = stood M IsSameCell before now s.same k (get_or now k d) (slice_get-get_or now k d lt) in
      subst P (sym (stands k before now d s lt a.0 a.1)) (each.each k a.0 a.1)

  pub sound_at : (k : ℕ) (before now : List (Cell X F)) (d : Cell X F) → AreStarting M k before now → k < length now → EachIs (λ c. IsCell M c) before → IsCell M (get_or now k d)
  sound_at k before now d s lt each = at_turn (λ c. IsCell M c) k before now d s lt each

  pub fresh_at : (k : ℕ) (before now : List (Cell X F)) (d : Cell X F) → AreStarting M k before now → k < length now → EachIs (λ c. begun_in c ≡ false) before → begun_in (get_or now k d) ≡ false
  fresh_at k before now d s lt each = at_turn (λ c. begun_in c ≡ false) k before now d s lt each

  pub same_more : (k : ℕ) (before now : List (Cell X F)) (d y : Cell X F) → AreStarting M k before now → k < length now → IsSameCell (get_or now k d) y → EachBecomes IsSameCell before (set now k y)
  same_more k before now d y s lt same = record {
    size = length-set now k y ∙ s.same.size;
    each = λ i a b e f. elim (set_back now k y i b lt f) [
      | inl here ↦ subst (λ (c : Cell X F). IsSameCell a c) (sym here.1) (subst (λ (c : Cell X F). IsSameCell c y) (stands k before now d s lt a (ap (slice_get before) (sym here.0) ∙ e)) same)
      | inr out ↦ s.same.each i a b e out.1
    ];
  }

  pub start_more : (k : ℕ) (before now : List (Cell X F)) (d y : Cell X F) → AreStarting M k before now → k < length now → HasStarted M (get_or now k d) y → AreStarting M (k + 1) before (set now k y)
  start_more k before now d y s lt started = record {
    same = same_more k before now d y s lt started.same;
    started = λ i a b e f in_i. elim (set_back now k y i b lt f) [
      | inl here ↦ subst (λ (c : Cell X F). HasStarted M a c) (sym here.1) (subst (λ (c : Cell X F). HasStarted M c y) (stands k before now d s lt a (ap (slice_get before) (sym here.0) ∙ e)) started)
      | inr out ↦ let ne = out.0 in s.started i a b e out.1 (omega (arith, in_i, ne))
    ];
    rest = λ i a b e f le. elim (set_back now k y i b lt f) [
      | inl here ↦ let at = here.0 in absurd (omega (arith, at, le))
      | inr out ↦ s.rest i a b e out.1 (omega (arith, le))
    ];
  }

  -- each cell is sound, whether its agent has started or not
  pub sound_so_far : (k : ℕ) (before now : List (Cell X F)) → AreStarting M k before now → EachIs (λ c. IsCell M c) before → EachIs (λ c. IsCell M c) now
  sound_so_far k before now s each = record {
    each = λ i b is.
        let a = stood M IsSameCell before now s.same i b is in
        elim (cases_lt i k) [
          | inl done ↦ (s.started i a.0 b a.1 is done).begun.cell
          | inr ahead ↦ subst (λ (c : Cell X F). IsCell M c) (sym (s.rest i a.0 b a.1 is ahead)) (each.each i a.0 a.1)
        ];
  }

  pub sound_more : (k : ℕ) (before now : List (Cell X F)) (y : Cell X F) → AreStarting M k before now → k < length now → EachIs (λ c. IsCell M c) before → IsCell M y → EachIs (λ c. IsCell M c) (set now k y)
  sound_more k before now y s lt each sound = record {
    each = λ i b is. elim (set_back now k y i b lt is) [
      | inl here ↦ subst (λ (c : Cell X F). IsCell M c) (sym here.1) sound
      | inr out ↦ (sound_so_far k before now s each).each i b out.1
    ];
  }

  -- the start of the next cell failed
  pub start_partly : (k : ℕ) (before now : List (Cell X F)) (d y : Cell X F) → AreStarting M k before now → k < length now → HasFailedStart M (get_or now k d) y → HaveStartedPartly M before (set now k y)
  start_partly k before now d y s lt failed = record {
    done = k;
    inside = let size = s.same.size in omega (arith, lt, size);
    started = λ i a b e f in_i. elim (set_back now k y i b lt f) [
      | inl here ↦ let at = here.0 in absurd (omega (arith, at, in_i))
      | inr out ↦ s.started i a b e out.1 in_i
    ];
    failed = λ a b e f. elim (set_back now k y k b lt f) [
      | inl here ↦ subst (λ (c : Cell X F). HasFailedStart M a c) (sym here.1) (subst (λ (c : Cell X F). HasFailedStart M c y) (stands k before now d s lt a e) failed)
      | inr out ↦ absurd (out.0 refl)
    ];
    rest = λ i a b e f ahead. elim (set_back now k y i b lt f) [
      | inl here ↦ let at = here.0 in absurd (omega (arith, at, ahead))
      | inr out ↦ s.rest i a b e out.1 (omega (arith, ahead))
    ];
  }

  -- the same cells, after two steps
  pub same_then : (a b c : List (Cell X F)) → EachBecomes IsSameCell a b → EachBecomes IsSameCell b c → EachBecomes IsSameCell a c
  same_then a b c s t = record {
    size = t.size ∙ s.size;
    each = λ i x z e f.
        let y = stood M IsSameCell b c t i z f in
        let one = s.each i x y.0 e y.1 in
        record { me = y.2.me ∙ one.me; links = keeps_then M x y.0 z one.links y.2.links };
  }

  pub start_all : (k : ℕ) (before now : List (Cell X F)) → length before ≤ k → AreStarting M k before now → EachBecomes (HasStarted M) before now
  start_all k before now le s = record { size = s.same.size; each = λ i a b e f. let lt = slice_get_within before i a e in s.started i a b e f (omega (arith, lt, le)) }

  -- what has started, as plain values
  pub starts : (before after : List (Cell X F)) → AreCellsJoined M 1 before → EachBecomes (HasStarted M) before after → AreStarted (views_of M before) (states_of M after)
  starts before after j s =
      let same : EachBecomes IsSameCell before after = record { size = s.size; each = λ i a b e f. (s.each i a b e f).same } in
      let joined = joined_still M 1 before after j same in
      record {
        started = each_are IsStarted (λ c. (state_of M c).view) (state_of M) before after s.size (λ i a b e f. (s.each i a b e f).started);
        wired = λ i c e.
            let x = map_back (state_of M) after i c e in
            subst (λ (n : ℕ). IsWired n i c) (sym (length-map after (state_of M))) (subst (λ (y : CellState). IsWired (length after) i y) x.2 (joined.wired i x.0 x.1));
      }

  pub begun_all : (before after : List (Cell X F)) → EachBecomes (HasStarted M) before after → EachIs (HasBegun M) after
  begun_all before after s = record { each = λ i b is. (stood M (HasStarted M) before after s i b is).2.begun }

  pub joined_all : (before after : List (Cell X F)) → AreCellsJoined M 1 before → EachBecomes (HasStarted M) before after → AreCellsJoined M 1 after
  joined_all before after j s = joined_still M 1 before after j (record { size = s.size; each = λ i a b e f. (s.each i a b e f).same })

  pub none_yet : (before after : List (Cell X F)) → AreCellsJoined M 1 before → EachBecomes (HasStarted M) before after → total (states_of M after) ≡ 0
  none_yet before after j s = none_taken (views_of M before) (states_of M after) (starts before after j s).started

  -- a round with one node
  pub whole_round : (before after : List (Cell X F)) → IsPartRound (home 1 (length before)) (states_of M before) (states_of M after) → IsCellRound (states_of M before) (states_of M after)
  whole_round before after r = one_node_is_all.round (states_of M before) (states_of M after) (subst (λ (n : ℕ). IsPartRound (home 1 n) (states_of M before) (states_of M after)) (sym (length-map before (state_of M))) r)

  -- the run of cells that were started, played out and settled
  pub whole_run : (budget : ℕ) (before begun now last : List (Cell X F)) (answer : RunEnd) → AreCellsJoined M 1 before → EachBecomes (HasStarted M) before begun
      → ArePlayedOut budget (states_of M begun) (states_of M now) answer → HaveSettled M (home 1 (length now)) (length now) now last → MakesARun budget (views_of M before) (states_of M last) answer
  whole_run budget before begun now last answer j s p settled =
      let made = settling M (home 1 (length now)) now last settled in
      let one = one_node_is_all.settling (states_of M now) (states_of M last) (subst (λ (n : ℕ). IsSettling (home 1 n) (states_of M now) (states_of M last)) (sym (length-map now (state_of M))) made) in
      played_run budget (views_of M before) (states_of M begun) (states_of M now) (states_of M last) answer (starts before begun j s) p one.0 one.1

  -- one round more, which took something if it is not the last
  pub played_on : (budget n : ℕ) (started now next : List (Cell X F)) → ArePlayedIn budget AreBusy (states_of M started) (states_of M now) → n ≡ total (states_of M now) → n < budget → all_ended (states_of M now) ≡ false
      → IsPartRound (home 1 (length now)) (states_of M now) (states_of M next) → ArePlayedIn budget AreDue (states_of M started) (states_of M next)
  played_on budget n started now next p is less awake round = record {
    rounds = p.rounds ++ states_of M next ∷ [];
    are = rounds_push budget (states_of M started) (states_of M now) (states_of M next) p.rounds p.are (omega (arith, is, less)) (whole_round now next round);
    such = due_push budget (states_of M started) (states_of M now) (states_of M next) p.rounds p.are p.such awake;
  }

  -- rounds so far, each of at most `workers` parts
  pub record PlayedSoFar (workers budget : ℕ) (started now : List (Cell X F)) : Type 0 where
    pub played : ArePlayedIn budget AreBusy (states_of M started) (states_of M now)
    pub shared : SharedSoFar M workers played.rounds started now

  pub shared_none : (workers budget : ℕ) (cells : List (Cell X F)) → ArePlayedShared M workers budget cells cells
  shared_none workers budget cells = record { rounds = []; shared = refl; are = refl; due = tt }

  pub so_far_start : (workers budget : ℕ) (cells : List (Cell X F)) → PlayedSoFar workers budget cells cells
  so_far_start workers budget cells = record { played = record { rounds = []; are = refl; such = tt }; shared = so_far_none M workers cells }

  pub so_far_on : (workers most budget n : ℕ) (started now next : List (Cell X F)) → most ≤ workers → PlayedSoFar workers budget started now → n ≡ total (states_of M now) → n < budget → all_ended (states_of M now) ≡ false
      → total (states_of M now) < total (states_of M next) → IsPartRound (home 1 (length now)) (states_of M now) (states_of M next) → IsSharedRound M most (home 1 (length now)) now next → PlayedSoFar workers budget started next
  so_far_on workers most budget n started now next le s is less awake more round parts = record {
    played = record {
      rounds = s.played.rounds ++ states_of M next ∷ [];
      are = rounds_push budget (states_of M started) (states_of M now) (states_of M next) s.played.rounds s.played.are (omega (arith, is, less)) (whole_round now next round);
      such = busy_push budget (states_of M started) (states_of M now) (states_of M next) s.played.rounds s.played.are s.played.such awake more;
    };
    shared = so_far_more M workers most s.played.rounds started now next le s.shared parts;
  }

  -- the rounds of a run that has ended
  shared_whole : (workers budget : ℕ) (states : List (List CellState)) (started now : List (Cell X F)) → SharedSoFar M workers states started now → AreCellRounds budget (states_of M started) states (states_of M now) → AreDue (states_of M started) states → ArePlayedShared M workers budget started now
  shared_whole workers budget states started now s are due = record {
    rounds = s.rounds;
    shared = s.shared;
    are = subst (λ (zs : List (List CellState)). AreCellRounds budget (states_of M started) zs (states_of M now)) (sym s.same) are;
    due = subst (AreDue (states_of M started)) (sym s.same) due;
  }

  pub shared_all : (workers budget : ℕ) (started now : List (Cell X F)) → PlayedSoFar workers budget started now → ArePlayedShared M workers budget started now
  shared_all workers budget started now s = shared_whole workers budget s.played.rounds started now s.shared s.played.are (due_busy (states_of M started) s.played.rounds s.played.such)

  pub shared_on : (workers most budget n : ℕ) (started now next : List (Cell X F)) → most ≤ workers → PlayedSoFar workers budget started now → n ≡ total (states_of M now) → n < budget → all_ended (states_of M now) ≡ false
      → IsPartRound (home 1 (length now)) (states_of M now) (states_of M next) → IsSharedRound M most (home 1 (length now)) now next → ArePlayedShared M workers budget started next
  shared_on workers most budget n started now next le s is less awake round parts =
      shared_whole workers budget (s.played.rounds ++ states_of M next ∷ []) started next (so_far_more M workers most s.played.rounds started now next le s.shared parts)
      (rounds_push budget (states_of M started) (states_of M now) (states_of M next) s.played.rounds s.played.are (omega (arith, is, less)) (whole_round now next round))
      (due_push budget (states_of M started) (states_of M now) (states_of M next) s.played.rounds s.played.are s.played.such awake)

  pub due_run : (budget : ℕ) (before begun now last : List (Cell X F)) (answer : RunEnd) → AreCellsJoined M 1 before → EachBecomes (HasStarted M) before begun
      → ArePlayedOut budget (states_of M begun) (states_of M now) answer → HaveSettled M (home 1 (length now)) (length now) now last → AreDulyPlayed budget (views_of M before) (states_of M last)
  due_run budget before begun now last answer j s p settled =
      let made = settling M (home 1 (length now)) now last settled in
      let one = one_node_is_all.settling (states_of M now) (states_of M last) (subst (λ (n : ℕ). IsSettling (home 1 n) (states_of M now) (states_of M last)) (sym (length-map now (state_of M))) made) in
      record { started = states_of M begun; played = states_of M now; starts = starts before begun j s; rounds = p.played; quiet = one.0; settled = one.1 }

  -- one round more, which took nothing, and with which playing stopped
  pub idle_on : (budget n : ℕ) (started now next : List (Cell X F)) → ArePlayedIn budget AreBusy (states_of M started) (states_of M now) → n ≡ total (states_of M now) → n < budget → all_ended (states_of M now) ≡ false
      → IsPartRound (home 1 (length now)) (states_of M now) (states_of M next) → total (states_of M next) ≡ total (states_of M now) → AreIdle budget (states_of M started) (states_of M next)
  unfolding played_on
  idle_on budget n started now next p is less awake round none =
      record { played = played_on budget n started now next p is less awake round; idle = idle_push budget (states_of M started) (states_of M now) (states_of M next) p.rounds p.are none }

  -- a run that answers Still
  pub still_run : (budget : ℕ) (before begun now last : List (Cell X F)) (answer : RunEnd) → AreCellsJoined M 1 before → EachBecomes (HasStarted M) before begun → ArePlayedOut budget (states_of M begun) (states_of M now) answer
      → AtStill answer (AreIdle budget (states_of M begun) (states_of M now)) → HaveSettled M (home 1 (length now)) (length now) now last → RestsAtStill budget (views_of M before) (states_of M last) answer
  still_run budget before begun now last (AllEnded n) j s p idle settled = record { rest = tt }
  still_run budget before begun now last (Spent n) j s p idle settled = record { rest = tt }
  still_run budget before begun now last (Still n) j s p idle settled =
      let made = settling M (home 1 (length now)) now last settled in
      let one = one_node_is_all.settling (states_of M now) (states_of M last) (subst (λ (n : ℕ). IsSettling (home 1 n) (states_of M now) (states_of M last)) (sym (length-map now (state_of M))) made) in
      record {
        rest = record {
          duly = record { started = states_of M begun; played = states_of M now; starts = starts before begun j s; rounds = idle.played; quiet = one.0; settled = one.1 };
          idle = idle.idle;
          awake = still_ended (states_of M now) (states_of M last) one.0 ∙ p.stopped.1;
        };
      }

  -- cells that have not failed
  pub fine_all : (before after : List (Cell X F)) → EachBecomes (HasStarted M) before after → EachIs (λ c. fault_in c ≡ None) after
  fine_all before after s = record { each = λ i b is. (stood M (HasStarted M) before after s i b is).2.fine }

  pub fine_still : (before after : List (Cell X F)) → EachBecomes (λ a b. fault_in a ≡ None → fault_in b ≡ None) before after → EachIs (λ c. fault_in c ≡ None) before → EachIs (λ c. fault_in c ≡ None) after
  fine_still before after e fine = record { each = λ i b is. let a = stood M _ before after e i b is in a.2 (fine.each i a.0 a.1) }

  -- no run breaks off because stamps end
  pub never_ends : (workers budget : ℕ) (before begun now last : List (Cell X F)) → budget ≤ budget_limit → AreCellsJoined M 1 before → EachBecomes (HasStarted M) before begun → HaveBrokenOff M StampEnd workers budget (states_of M begun) now
      → AreCellsJoined M 1 now → HaveSettled M (home 1 (length now)) (length now) now last → SomeFailed StampEnd now → ⊥
  never_ends workers budget before begun now last within j s broken joined settled failed =
      let made = settling M (home 1 (length now)) now last settled in
      let one = one_node_is_all.settling (states_of M now) (states_of M last) (subst (λ (n : ℕ). IsSettling (home 1 n) (states_of M now) (states_of M last)) (sym (length-map now (state_of M))) made) in
      no_end M workers budget (views_of M before) (states_of M begun) now (states_of M last) (starts before begun j s) broken joined one.0 one.1 within failed
