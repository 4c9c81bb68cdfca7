-- The start and each activation of an ADOPT agent.
use Rattle.std.proofs.Common.{ℕ, ◌-◌, true, nat_lt, List, Option}
use Rattle.std.specs.List.{fold}
use Rattle.dcop_base.specs.declared.knowledge.Private.{Private}
use Rattle.pseudotree.specs.declared.agent.Place.{Place}
use Rattle.adopt_context.specs.Context.{Context}
use Rattle.adopt_context.specs.Bounds.{Entry, entry_at}
use Rattle.protocol_steps.specs.declared.message.Message.{Message}
use Rattle.protocol_steps.specs.Adopt.{AdoptView, new_adopt}
use Rattle.protocol_steps.specs.AdoptBounds.{lower_of, best_lower, restore}
use Rattle.protocol_steps.specs.AdoptMessage.{adopt_message}
use Rattle.protocol_steps.specs.AdoptStep.{choose, closed, adopt_start, adopt_step}
use Rattle.run_laws.proofs.BoundLaws.{lowest_within}
use Rattle.run_laws.proofs.Every.{Every}
use Rattle.run_laws.proofs.AdoptAgentLaws.{IsKept, Brings, IsMid, restored_mid, choose_mid, closed_mid, batch_mid, valued_mid, new_mid}
use Rattle.run_laws.proofs.HeldLaws.{AreInRange, IsHeld, IsPaid, IsClosed, restored_held, choose_held, allotted_closed, settle_closed}

module _ (own : Private) (place : Place) (error : ℕ) (Q : Context → ℕ → ℕ → Entry → Type 0) (M : ℕ → ℕ → Context → ℕ → Option ℕ → Type 0) (keeps : IsKept Q M) where
  abbrev Mid : AdoptView → Type 0
  Mid v = IsMid own place error Q M keeps v

  pub ranges : (v : AdoptView) → Mid v → AreInRange v
  ranges v a d k = keeps.range v.known d k (entry_at v.rows d k) (a.entries d k)

  -- what holds of an agent after an activation
  pub record IsDone (v : AdoptView) : Type 0 where
    pub mid : Mid v
    pub closed : IsClosed v

  pub closed_done : (v : AdoptView) → Mid v → IsDone (closed v)
  closed_done v a =
      let before : Mid (restore v) = restored_mid own place error Q M keeps v a in
      let chosen : Mid (choose (restore v)) = choose_mid own place error Q M keeps (restore v) before in
      let held : IsHeld (choose (restore v)) × IsPaid (choose (restore v)) = choose_held (restore v) (ranges (restore v) before) (restored_held v (ranges v a)) in
      record {
        mid = closed_mid own place error Q M keeps v a;
        closed = settle_closed _ (allotted_closed (choose (restore v)) chosen.value_low (ranges (choose (restore v)) chosen) held.0 held.1);
      }

  pub step_done : (v : AdoptView) (ls : List (ℕ × Message)) → Mid v → Every (λ l. Brings M own place l.0 l.1) ls → IsDone (adopt_step v ls).view
  step_done v ls a all = closed_done (fold (λ w l. adopt_message w l.0 l.1) v ls) (batch_mid own place error Q M keeps ls v a all)

  pub start_done : IsDone (adopt_start (new_adopt own place error)).view
  start_done =
      let made : AdoptView = new_adopt own place error in
      let a = valued_mid own place error Q M keeps made (best_lower made) (new_mid own place error Q M keeps) (lowest_within nat_lt (lower_of made) (own.size - 1)) in
      closed_done (record made { value = best_lower made; phase = record made.phase { started = true } }) (record {
        own_is = a.own_is;
        place_is = a.place_is;
        error_is = a.error_is;
        value_low = a.value_low;
        fits_known = a.fits_known;
        rows_long = a.rows_long;
        wide = a.wide;
        entries = a.entries;
      })
