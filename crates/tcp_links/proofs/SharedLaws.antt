-- Rounds in nodes, in parts.
use Rattle.std.proofs.Common.{◌≡◌, ℕ, ◌<◌, ◌≤◌, false, Option, Some, None, List, [], ◌∷◌, ◌++◌, map, length, refl, sym, subst, arith}
use Rattle.std.specs.Prelude.{IfSome}
use Rattle.std.specs.declared.dyn_box.DynBox.{DynBox}
use Rattle.std.specs.declared.alloc.Global.{Global}
use Rattle.protocol_steps.specs.declared.run_end.RunEnd.{RunEnd}
use Rattle.protocol_steps.specs.View.{View}
use Rattle.worker_laws.specs.Cells.{CellState}
use Rattle.worker_laws.specs.CellRounds.{total}
use Rattle.worker_laws.specs.CellRuns.{all_ended}
use Rattle.worker_laws.specs.OneNode.{home}
use Rattle.agent_cells.specs.declared.cell.Cell.{Cell}
use Rattle.agent_workers.specs.Joined.{states_of, EachBecomes}
use Rattle.agent_workers.specs.Settled.{StaysQuiet}
use Rattle.agent_workers.specs.Run.{HasStarted, AreBusy, AreDue}
use Rattle.agent_workers.specs.Shared.{IsSharedRound}
use Rattle.agent_workers.proofs.JoinLaws.{each_stays_then}
use Rattle.tcp_links.specs.Shared.{IfEnded, IsSharedOver, AreSharedOver, ArePlayedSharedOver, HaveRunSharedOver}

pub if_ended : (P : Type 0) (end : Option RunEnd) (answer : RunEnd) → end ≡ Some answer → P → IfEnded end P
if_ended P end answer is p = subst (λ (e : Option RunEnd). IfEnded e P) (sym is) p

pub if_broken : (P : Type 0) (end : Option RunEnd) → end ≡ None → IfEnded end P
if_broken P end is = subst (λ (e : Option RunEnd). IfEnded e P) (sym is) tt

pub where_ended : (P : Type 0) (end : Option RunEnd) (answer : RunEnd) → end ≡ Some answer → IfEnded end P → P
where_ended P end answer is p = subst (λ (e : Option RunEnd). IfEnded e P) is p

due_busy : (a : List CellState) (rounds : List (List CellState)) → AreBusy a rounds → AreDue a rounds
due_busy a [] busy = tt
due_busy a (next ∷ rounds) busy = (busy.0, (λ _. busy.1), due_busy next rounds busy.2)

module _ {X : Type 0} {F : X → Type 0} (M : DynBox X Global F → View) where
  pub shared_over : (workers most nodes same : ℕ) (before ready after : List (Cell X F)) → most ≤ workers → same ≡ nodes → EachBecomes (StaysQuiet M) before ready → IsSharedRound M most (home same (length ready)) ready after → IsSharedOver M workers nodes before after
  shared_over workers most nodes same before ready after le is quiet round =
      let at : IsSharedRound M most (home nodes (length ready)) ready after = subst (λ (n : ℕ). IsSharedRound M most (home n (length ready)) ready after) is round in
      record {
        ready = ready;
        quiet = quiet;
        round = record { middle = at.middle; quiet = at.quiet; settling = at.settling; size = at.size; played = at.played; few = let few = at.few in omega (arith, few, le) };
      }

  -- a round that an earlier call has told of
  pub shared_at : (workers most nodes same : ℕ) (before after : List (Cell X F)) (o : Option ℕ) (taken : ℕ) → most ≤ workers → same ≡ nodes → o ≡ Some taken → IfSome o (λ _. IsSharedOver M most same before after) → IsSharedOver M workers nodes before after
  shared_at workers most nodes same before after o taken le is some told =
      let x : IsSharedOver M most same before after = subst (λ (p : Option ℕ). IfSome p (λ _. IsSharedOver M most same before after)) some told in
      shared_over workers most nodes same before x.ready after le is x.quiet x.round

  -- one round more
  push : (workers nodes : ℕ) (a : List (Cell X F)) (rounds : List (List (Cell X F))) (b c : List (Cell X F)) → AreSharedOver M workers nodes a rounds b → IsSharedOver M workers nodes b c → AreSharedOver M workers nodes a (rounds ++ c ∷ []) c
  push workers nodes a [] b c same round = subst (λ (cells : List (Cell X F)). AreSharedOver M workers nodes cells (c ∷ []) c) same (round, refl)
  push workers nodes a (next ∷ rounds) b c are round = (are.0, push workers nodes next rounds b c are.1 round)

  busy_push : (workers nodes : ℕ) (a : List (Cell X F)) (rounds : List (List (Cell X F))) (b c : List (Cell X F)) → AreSharedOver M workers nodes a rounds b → AreBusy (states_of M a) (map (states_of M) rounds) → all_ended (states_of M b) ≡ false
      → total (states_of M b) < total (states_of M c) → AreBusy (states_of M a) (map (states_of M) (rounds ++ c ∷ []))
  busy_push workers nodes a [] b c same busy awake more = subst (λ (cells : List (Cell X F)). AreBusy (states_of M cells) (states_of M c ∷ [])) same (awake, more, tt)
  busy_push workers nodes a (next ∷ rounds) b c are busy awake more = (busy.0, busy.1, busy_push workers nodes next rounds b c are.1 busy.2 awake more)

  due_push : (workers nodes : ℕ) (a : List (Cell X F)) (rounds : List (List (Cell X F))) (b c : List (Cell X F)) → AreSharedOver M workers nodes a rounds b → AreBusy (states_of M a) (map (states_of M) rounds) → all_ended (states_of M b) ≡ false
      → AreDue (states_of M a) (map (states_of M) (rounds ++ c ∷ []))
  due_push workers nodes a [] b c same busy awake = subst (λ (cells : List (Cell X F)). AreDue (states_of M cells) (states_of M c ∷ [])) same (awake, (λ some. absurd (some refl)), tt)
  due_push workers nodes a (next ∷ rounds) b c are busy awake = (busy.0, (λ _. busy.1), due_push workers nodes next rounds b c are.1 busy.2 awake)

  -- rounds so far, of which each took something
  pub record SharedSoFar (workers nodes : ℕ) (started now : List (Cell X F)) : Type 0 where
    pub rounds : List (List (Cell X F))
    pub shared : AreSharedOver M workers nodes started rounds now
    pub busy : AreBusy (states_of M started) (map (states_of M) rounds)

  pub shared_start : (workers nodes : ℕ) (cells : List (Cell X F)) → SharedSoFar workers nodes cells cells
  shared_start workers nodes cells = record { rounds = []; shared = refl; busy = tt }

  pub shared_all : (workers nodes : ℕ) (started now : List (Cell X F)) → SharedSoFar workers nodes started now → ArePlayedSharedOver M workers nodes started now
  shared_all workers nodes started now s = record { rounds = s.rounds; shared = s.shared; due = due_busy (states_of M started) (map (states_of M) s.rounds) s.busy }

  module _ (workers nodes : ℕ) (started now next : List (Cell X F)) (s : SharedSoFar workers nodes started now) (awake : all_ended (states_of M now) ≡ false) (round : IsSharedOver M workers nodes now next) where
    pub shared_more : total (states_of M now) < total (states_of M next) → SharedSoFar workers nodes started next
    shared_more more = record {
      rounds = s.rounds ++ next ∷ [];
      shared = push workers nodes started s.rounds now next s.shared round;
      busy = busy_push workers nodes started s.rounds now next s.shared s.busy awake more;
    }

    pub shared_last : ArePlayedSharedOver M workers nodes started next
    shared_last = record {
      rounds = s.rounds ++ next ∷ [];
      shared = push workers nodes started s.rounds now next s.shared round;
      due = due_push workers nodes started s.rounds now next s.shared s.busy awake;
    }

  pub run_shared : (workers nodes : ℕ) (made started played ready last : List (Cell X F)) (end : Option RunEnd) (answer : RunEnd) → end ≡ Some answer → EachBecomes (HasStarted M) made started → IfEnded end (ArePlayedSharedOver M workers nodes started played)
      → EachBecomes (StaysQuiet M) played ready → EachBecomes (StaysQuiet M) ready last → HaveRunSharedOver M workers nodes made last
  run_shared workers nodes made started played ready last end answer is starts rounds quiet settled = record {
    started = started;
    played = played;
    starts = starts;
    rounds = where_ended (ArePlayedSharedOver M workers nodes started played) end answer is rounds;
    quiet = each_stays_then M played ready last quiet settled;
  }
