-- A round of cells, by its settling and its sprints.
use Rattle.std.proofs.Common.{◌≡◌, ℕ, ◌+◌, ◌*◌, ◌≤◌, Result, Ok, Err, None, List, length, ◌∙◌, arith}
use Rattle.std.specs.Prelude.{IfOk}
use Rattle.std.proofs.lemmas.List.{length-map}
use Rattle.std.proofs.lemmas.Map.Keys.{sorted_from_strictly_increasing}
use Rattle.std.proofs.lemmas.Map.Views.{length-le_from_below}
use Rattle.std.specs.declared.dyn_box.DynBox.{DynBox}
use Rattle.std.specs.declared.alloc.Global.{Global}
use Rattle.protocol_steps.specs.View.{View}
use Rattle.protocol_steps.specs.Rounds.{most_events}
use Rattle.worker_laws.specs.Cells.{Lane, peers}
use Rattle.worker_laws.specs.Sprints.{IsSprint}
use Rattle.worker_laws.specs.CellRounds.{total}
use Rattle.worker_laws.specs.OneNode.{home, IsPartRound}
use Rattle.worker_laws.proofs.VisitLaws.{totals_add}
use Rattle.agent_cells.specs.declared.cell.Cell.{Cell}
use Rattle.agent_cells.specs.declared.fault.VisitFault.{VisitFault}
use Rattle.agent_cells.specs.State.{state_of, fault_in, IsCell}
use Rattle.agent_workers.specs.Joined.{states_of, EachIs, EachBecomes, HasBegun, IsSameCell, AreCellsJoined}
use Rattle.agent_workers.specs.Settled.{StaysQuiet, HaveSettled}
use Rattle.agent_workers.specs.Turns.{sprint_limit, IsReady, StaysReady, HasSprinted, HavePlayed}
use Rattle.agent_workers.proofs.ListLaws.{each_are}
use Rattle.agent_workers.proofs.CellLaws.{keeps_then}
use Rattle.agent_workers.proofs.JoinLaws.{stood, quiet_same, joined_still}
use Rattle.agent_workers.proofs.PlayLaws.{still_fine}
use Rattle.agent_workers.proofs.SettleLaws.{settling}

module _ {X : Type 0} {F : X → Type 0} (M : DynBox X Global F → View) where
  -- the cells of joined cells have few peers
  pub ready_from : (nodes : ℕ) (cells : List (Cell X F)) → AreCellsJoined M nodes cells → EachIs (HasBegun M) cells → EachIs (IsReady M) cells
  ready_from nodes cells j begun = record {
    each = λ i c is. record {
      begun = begun.each i c is;
      few =
          let wired = j.wired i c is in
          let ns : List ℕ = peers (state_of M c).taken in
          let short = length-le_from_below (length cells) ns (sorted_from_strictly_increasing ns wired.ascend) wired.below in
          let long = length-map (state_of M c).taken (λ (l : Lane). l.peer) in
          let all = j.few in
          omega (arith, short, long, all);
    };
  }

  pub sound_from : (cells : List (Cell X F)) → EachIs (HasBegun M) cells → EachIs (λ c. IsCell M c) cells
  sound_from cells begun = record { each = λ i c is. (begun.each i c is).cell }

  pub begun_still : (before after : List (Cell X F)) → EachIs (HasBegun M) before → EachBecomes (StaysQuiet M) before after → EachIs (HasBegun M) after
  begun_still before after begun e = record {
    each = λ i b is.
        let a = stood M (StaysQuiet M) before after e i b is in
        let old = begun.each i a.0 a.1 in
        record { cell = a.2.cell old.cell; begun = a.2.begun ∙ old.begun };
  }

  pub begun_from : (before after : List (Cell X F)) → EachBecomes (StaysReady M) before after → EachIs (HasBegun M) after
  begun_from before after e = record { each = λ i b is. (stood M (StaysReady M) before after e i b is).2.ready.begun }

  pub same_from : (before after : List (Cell X F)) → EachBecomes (StaysReady M) before after → EachBecomes IsSameCell before after
  same_from before after e = record { size = e.size; each = λ i a b is_a is_b. (e.each i a b is_a is_b).same }

  pub same_after : (before mid after : List (Cell X F)) → EachBecomes (StaysQuiet M) before mid → EachBecomes (StaysReady M) mid after → EachBecomes IsSameCell before after
  same_after before mid after q r = record {
    size = r.size ∙ q.size;
    each = λ i a c e f.
        let b = stood M (StaysReady M) mid after r i c f in
        let old = q.each i a b.0 e b.1 in
        record { me = b.2.same.me ∙ old.quiet.me; links = keeps_then M a b.0 c old.links b.2.same.links };
  }

  -- settled cells are ready
  pub ready_mid : (nodes : ℕ) (before mid : List (Cell X F)) → AreCellsJoined M nodes before → EachIs (HasBegun M) before → EachBecomes (StaysQuiet M) before mid → EachIs (IsReady M) mid
  ready_mid nodes before mid j begun q = ready_from nodes mid (joined_still M nodes before mid j (quiet_same M before mid q)) (begun_still before mid begun q)

  pub joined_after : (nodes : ℕ) (before mid after : List (Cell X F)) → AreCellsJoined M nodes before → EachBecomes (StaysQuiet M) before mid → EachBecomes (StaysReady M) mid after → AreCellsJoined M nodes after
  joined_after nodes before mid after j q r = joined_still M nodes mid after (joined_still M nodes before mid j (quiet_same M before mid q)) (same_from mid after r)

  -- what a round has done, if it did not fail
  pub record RoundMade (nodes n : ℕ) (before after : List (Cell X F)) : Type 0 where
    pub round : IsPartRound (home nodes (length before)) (states_of M before) (states_of M after)
    pub counted : total (states_of M after) ≡ total (states_of M before) + n
    pub most : n ≤ length before * sprint_limit
    pub fine : EachBecomes (λ a b. fault_in a ≡ None → fault_in b ≡ None) before after

  round_made : (nodes n : ℕ) (before mid after : List (Cell X F)) → HaveSettled M (home nodes (length before)) (length before) before mid → HavePlayed M n mid after → RoundMade nodes n before after
  round_made nodes n before mid after s p =
      let settled = settling M (home nodes (length before)) before mid s in
      let size : length mid ≡ length before = s.quiet.size in
      record {
        round = record {
          middle = states_of M mid;
          settling = settled;
          sprints = each_are (IsSprint most_events) (state_of M) (state_of M) mid after p.sprints.size (λ i a b e f. (p.sprints.each i a b e f).sprint);
        };
        counted = let now = p.counted in let still = totals_add.quiet (states_of M before) (states_of M mid) settled.quiet in omega (arith, now, still);
        most = let most = p.most in omega (arith, most, size);
        fine = record {
          size = p.sprints.size ∙ size;
          each = λ i a c e f none.
              let b = stood M (HasSprinted M most_events) mid after p.sprints i c f in
              still_fine M b.0 c b.2.fault ((s.quiet.each i a b.0 e b.1).fault ∙ none);
        };
      }

  pub made : (nodes : ℕ) (r : Result ℕ VisitFault) (before mid after : List (Cell X F)) → HaveSettled M (home nodes (length before)) (length before) before mid → IfOk r (λ n. HavePlayed M n mid after) → IfOk r (λ n. RoundMade nodes n before after)
  made nodes (Ok n) before mid after s p = round_made nodes n before mid after s p
  made nodes (Err f) before mid after s p = tt
