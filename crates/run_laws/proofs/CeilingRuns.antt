-- In a run of ADOPT the ceiling holds of every agent but the root.
use Rattle.std.proofs.Common.{◌≡◌, ℕ, ◌<◌, Bool, true, false, ◌==◌, List, [], ◌∷◌, length, Some, sym, ap, subst, ◌∙◌, inl, inr}
use Rattle.std.specs.List.{slice_get}
use Rattle.std.proofs.lemmas.Bool.{cases_eq, true≢false, false≢true}
use Rattle.std.proofs.lemmas.Option.{same_Some}
use Rattle.dcop_base.specs.Problem.{Dcop}
use Rattle.dcop_base.specs.Knowledge.{private_of}
use Rattle.dcop_base.specs.Whole.{IsProblem}
use Rattle.pseudotree.specs.declared.agent.Place.{Place}
use Rattle.pseudotree.specs.Pseudotree.{IsPseudotree}
use Rattle.adopt_context.specs.Context.{Context}
use Rattle.protocol_steps.specs.declared.message.Message.{Message}
use Rattle.protocol_steps.specs.declared.event.Event.{Event}
use Rattle.protocol_steps.specs.Adopt.{AdoptView, is_root}
use Rattle.protocol_steps.specs.AdoptBounds.{best_lower}
use Rattle.protocol_steps.specs.AdoptStep.{closed, adopt_start}
use Rattle.protocol_steps.specs.Network.{Network, start_state, batch}
use Rattle.protocol_steps.specs.Run.{run}
use Rattle.protocol_steps.specs.View.{AdoptKind}
use Rattle.protocol_steps.proofs.EventLaws.{Happens, begins}
use Rattle.protocol_steps.specs.TreeAgents.{place_at, adopt_agents}
use Rattle.run_laws.proofs.AdoptAgentLaws.{batch_mid, closed_mid}
use Rattle.run_laws.proofs.PlacedLaws.{IsFair, IsBrought, keeps_fair, Mid}
use Rattle.run_laws.proofs.DigestLaws.{Digest, Open, Ending, digest_by, digest, handled, closed_digest}
use Rattle.run_laws.proofs.AdoptRunSteps.{IsGood, brought, effect, own_at, advances, new_one, first_at, starts}
use Rattle.run_laws.proofs.PairRuns.{same_view}
use Rattle.run_laws.proofs.CeilingLaws.{Ceiling, batch_ceiling, closed_ceiling}

-- an agent whose digest is open has not taken TERMINATE
open_untold : (b : Bool) (last t : ℕ) (x : Context) → digest_by b last x ≡ Open t → b ≡ true → ⊥
open_untold false last t x h told = false≢true told
open_untold true last t x h told = true≢false (ap is_ending h)
  where
    is_ending : Digest → Bool
    is_ending (Open t) = false
    is_ending (Ending t c) = true

module _ (p : Dcop) (paths : List (List ℕ)) (problem : IsProblem p) (pseudo : IsPseudotree p paths) (error : ℕ) where
  -- the ceiling holds of the agent of i, where it is not the root
  abbrev pub IsUnder : (i : ℕ) → i < length p.sizes → AdoptView → Type 0
  IsUnder i lt v = is_root v ≡ false → Ceiling p paths problem pseudo error i lt v

  -- it holds of all agents of a network
  abbrev pub AreUnder : Network → Type 0
  AreUnder net = (i : ℕ) (lt : i < length p.sizes) (v : AdoptView) → slice_get net.views i ≡ Some (AdoptKind v) → IsUnder i lt v

  module _ (net after : Network) (e : Event) (good : IsGood p paths problem pseudo error net) (h : Happens net e after) (low : AreUnder net) where
    abbrev ls : List (ℕ × Message)
    ls = batch net.desks e.agent e.takes

    own_under : (lt : e.agent < length p.sizes) (v : AdoptView) → slice_get after.views e.agent ≡ Some (AdoptKind v) → IsUnder e.agent lt v
    own_under lt v at =
        let there = good.agents e.agent lt in
        let old : AdoptView = there.view in
        let mid : Mid p paths problem pseudo error e.agent lt old = there.settled.mid in
        let some = brought p paths problem pseudo error net after e good h lt in
        let w : AdoptView = handled old ls in
        let next : Mid p paths problem pseudo error e.agent lt w =
        batch_mid (private_of p e.agent) (place_at p paths e.agent) error (IsFair p paths problem pseudo error e.agent lt) (IsBrought p paths problem pseudo error e.agent lt) (keeps_fair p paths problem pseudo error e.agent lt)
        ls old mid some in
        let last : Mid p paths problem pseudo error e.agent lt (closed w) =
        closed_mid (private_of p e.agent) (place_at p paths e.agent) error (IsFair p paths problem pseudo error e.agent lt) (IsBrought p paths problem pseudo error e.agent lt) (keeps_fair p paths problem pseudo error e.agent lt) w next in
        subst (λ (x : AdoptView). IsUnder e.agent lt x)
        (same_view (slice_get after.views e.agent) (closed w) v (own_at p paths problem pseudo error net after e good h lt) at)
        (λ inner.
        let before : is_root old ≡ false = ap (λ (q : Place). length q.path == 0) (mid.place_is ∙ sym last.place_is) ∙ inner in
        let between : is_root w ≡ false = ap (λ (q : Place). length q.path == 0) (next.place_is ∙ sym last.place_is) ∙ inner in
        closed_ceiling p paths problem pseudo error e.agent lt w next between
        (batch_ceiling p paths problem pseudo error e.agent lt ls old mid some before (low e.agent lt old there.at before)))

    under_now : AreUnder after
    under_now i = elim (cases_eq i e.agent) [
      | inl same ↦ subst (λ (k : ℕ). (lt : k < length p.sizes) (v : AdoptView) → slice_get after.views k ≡ Some (AdoptKind v) → IsUnder k lt v) (sym same) own_under
      | inr other ↦ λ lt v at. low i lt v (sym ((effect p paths problem pseudo error net after e good h).others i (λ q. other (sym q))) ∙ at)
    ]

  under_on : (net end : Network) (es : List Event) → IsGood p paths problem pseudo error net → AreUnder net → run net es ≡ Some end → AreUnder end
  under_on net end [] good low r = subst AreUnder (same_Some net end r) low
  under_on net end (e ∷ es) good low r =
      let b = begins net end e es r in
      under_on b.next end es (advances p paths problem pseudo error net b.next e good b.first) (under_now net b.next e good b.first low) b.rest

  under_first : AreUnder (start_state (adopt_agents p paths error))
  under_first i lt v at inner told room =
      let made : AdoptView = new_one p paths problem pseudo error i in
      let same : (adopt_start made).view ≡ v =
      same_view (slice_get (start_state (adopt_agents p paths error)).views i) (adopt_start made).view v (first_at p paths problem pseudo error i lt) at in
      let open_one : digest v ≡ Open 0 = sym (ap digest same) ∙ closed_digest (record made { value = best_lower made; phase = record made.phase { started = true } }) in
      absurd (open_untold v.told v.last 0 v.known open_one told)

  -- so it holds at the end of a run
  pub run_under : (end : Network) (es : List Event) → run (start_state (adopt_agents p paths error)) es ≡ Some end → AreUnder end
  run_under end es r = under_on (start_state (adopt_agents p paths error)) end es (starts p paths problem pseudo error) under_first r
