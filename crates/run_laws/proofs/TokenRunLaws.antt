-- The law on runs of token agents.
use Rattle.std.proofs.Common.{◌≡◌, ℕ, ◌+◌, ◌-◌, ◌*◌, ◌<◌, ◌≤◌, Bool, true, false, ◌&&◌, eqb, zero-add, if◌then◌else◌, List, [], ◌∷◌, length, Option, Some, None, refl, sym, ap, ap₂, subst, ◌∙◌, inl, inr, arith}
use Rattle.std.specs.List.{slice_get}
use Rattle.std.proofs.lemmas.Bool.{cases_eq, cases_lt, eq-eqb, ne_eqb, true≢false}
use Rattle.std.proofs.lemmas.Option.{none-some}
use Rattle.std.proofs.lemmas.List.{length-map}
use Rattle.std.proofs.lemmas.Map.Steps.{le-length_from_below}
use Rattle.dcop_base.specs.Table.{has}
use Rattle.dcop_base.specs.Problem.{Dcop}
use Rattle.dcop_base.specs.Whole.{IsProblem}
use Rattle.dcop_base.specs.declared.knowledge.Private.{Private}
use Rattle.pseudotree.specs.DepthFirst.{Visit, search_of}
use Rattle.protocol_steps.specs.declared.event.Event.{Event}
use Rattle.protocol_steps.specs.Token.{TokenView}
use Rattle.protocol_steps.specs.View.{View, TokenKind, OfToken, ended_of}
use Rattle.protocol_steps.specs.Network.{Network, start_state, waiting}
use Rattle.protocol_steps.specs.Effect.{pending_at, pending, SomePending, has_ended, deliveries}
use Rattle.protocol_steps.specs.TreeAgents.{token_agents}
use Rattle.run_laws.specs.TokenRun.{IsTokenRun, is_token, is_done, tokens, dones}
use Rattle.run_laws.specs.TokenAgents.{AreAgents, FoundPlaces}
use Rattle.run_laws.specs.TokenLaws.{HoldsOfTokens, TokenRuns}
use Rattle.run_laws.proofs.Serial.{Flight, Serial, ticks, IsLive, Leads}
use Rattle.run_laws.proofs.SerialLaws.{ticks_add, Counted, counted}
use Rattle.run_laws.proofs.MemberLaws.{either_way, only, or_none, at_most}
use Rattle.run_laws.proofs.Visits.{vars, fresh, Call, Visited, Found}
use Rattle.run_laws.proofs.VisitLaws.{grown_has, grown_path}
use Rattle.run_laws.proofs.SearchRuns.{searched}
use Rattle.run_laws.proofs.NetworkLaws.{message_on}
use Rattle.run_laws.proofs.TokenRunSteps.{RunsOn, runs_on, waits_for}
use Rattle.run_laws.proofs.TokenStartLaws.{first_state, starts, none_delivered}
use Rattle.run_laws.proofs.PlaceLaws.{tree, linked, all_seen, place_is}
use Rattle.run_laws.proofs.SoundLaws.{IsSound, sound_ticks, sound_first}
use Rattle.protocol_steps.proofs.DeliveredLaws.{all_pass, one_passes}
use Rattle.run_laws.proofs.DeliveredLaws.{told}

module _ (p : Dcop) (problem : IsProblem p) where
  abbrev first_seen : List Visit
  first_seen = record { var = 0; path = [] } ∷ []

  first_call : Call p first_seen [] [] 0 [] (fresh p)
  first_call = record {
    shape = refl;
    distinct = refl;
    below = λ u h. let same = only 0 u h in let least = problem.some in omega (arith, same, least);
    apart = refl;
    inside = λ u h. absurd (cc);
    agree = λ u lt near. refl;
    closed = λ x u h out lt near. absurd (true≢false (sym h ∙ out));
    fresh_views = λ u h. refl;
    placed = refl;
    nested = record {
      seen = λ x h. absurd (cc);
      tops = λ x h. absurd (cc);
      deep = λ x h. absurd (cc);
      ascend = tt;
      lower = λ x u h. absurd (cc);
    };
  }

  -- the whole search, by tokens
  whole : Visited p first_seen (search_of p) [] [] 0 [] (fresh p)
  whole = searched p problem.few (length p.sizes) first_seen [] [] 0 [] (fresh p) first_call (omega arith)

  everyone : (v : ℕ) → v < length p.sizes → has (vars (search_of p)) v ≡ true
  everyone = all_seen p problem (grown_has first_seen (search_of p) whole.grown 0 refl) (grown_path first_seen (search_of p) whole.grown 0 refl)

  size_is : whole.count ≡ length p.sizes - 1
  size_is =
      let few = at_most (vars (search_of p)) (length p.sizes) whole.distinct whole.below in
      let many = le-length_from_below (vars (search_of p)) (length p.sizes) (λ q lt. either_way (vars (search_of p)) q ∙ everyone q lt) in
      omega (arith, few, many, whole.size, length-map (search_of p) (λ (s : Visit). s.var))

  abbrev rounds : ℕ
  rounds = whole.count + whole.count

  abbrev last_state : Serial
  last_state = record { views = whole.views; flight = None; tokens = whole.count; dones = whole.count }

  leads : Leads (length p.sizes) (first_state p) last_state rounds
  leads = whole.leads 0 0 whole.count whole.count rounds (sym (zero-add whole.count)) (sym (zero-add whole.count)) refl

  found : (i : ℕ) → i < length p.sizes → Found p (search_of p) i (whole.views i)
  found i lt = whole.found i (everyone i lt) (elim (cases_eq i 0) [
    | inl root ↦ inl root
    | inr other ↦ inr (or_none (eqb 0 i) false (ne_eqb 0 i (λ e. other (sym e))) refl)
  ])

  module _ (es : List Event) (end : Network) (r : IsTokenRun p es end) where
    on : RunsOn (length p.sizes) (start_state (token_agents p)) end (first_state p) (length es)
    on = runs_on (length p.sizes) (start_state (token_agents p)) end (first_state p) es (starts p problem.some) r

    abbrev now : Serial
    now = ticks (length es) (first_state p)

    -- no event after the last message was taken
    within : length es ≤ rounds
    within = elim (cases_lt rounds (length es)) [
      | inl more ↦ let f = on.flying rounds more in absurd (none-some f.0 (sym (ap (λ (s : Serial). s.flight) leads.is) ∙ f.1))
      | inr le ↦ le
    ]

    rest_is : ticks (rounds - length es) now ≡ last_state
    rest_is = let le = within in sym (ticks_add (length es) (rounds - length es) rounds (first_state p) (omega (arith, le))) ∙ leads.is

    before : Counted (first_state p) now (length es)
    before = counted (length es) (first_state p)

    after : Counted now last_state (rounds - length es)
    after = subst (λ (s : Serial). Counted now s (rounds - length es)) rest_is (counted (rounds - length es) now)

    tokens_are : tokens end ≡ now.tokens
    tokens_are = told (length p.sizes) end now on.now is_token ∙ on.now.tokens

    dones_are : dones end ≡ now.dones
    dones_are = told (length p.sizes) end now on.now is_done ∙ on.now.dones

    view_at : (i : ℕ) → i < length p.sizes → slice_get end.views i ≡ Some (TokenKind (now.views i))
    view_at = on.now.views

    sound : IsSound p now
    sound = sound_ticks p (length es) (first_state p) (sound_first p problem.some)

    agents : AreAgents p end.views
    agents i lt =
        let at = sound.agents i in (
          TokenKind (now.views i),
          view_at i lt,
          record {
            made = ap (λ (x : Private × Bool × Bool). OfToken x.0) at.lasts;
            started = ap (λ (x : Private × Bool × Bool). x.1) at.lasts;
            not_failed = ap (λ (x : Private × Bool × Bool). x.2) at.lasts;
            beside = at.beside;
          },
        )

    -- where a message is under way, it is pending, and not all have ended
    live_pending : IsLive (length p.sizes) now → SomePending end
    live_pending l = record {
      to = l.flight.to;
      from = l.flight.from;
      to_agent = let lt = l.to in let size = on.now.count in omega (arith, lt, size);
      from_agent = let lt = l.from in let size = on.now.count in omega (arith, lt, size);
      some = λ none. nothing (sym here ∙ none);
    } where
      here : pending end l.flight.to l.flight.from ≡ l.flight.message ∷ []
      here =
          ap (λ (o : Option View). pending_at end l.flight.to l.flight.from o) (view_at l.flight.to l.to)
          ∙ ap (λ (b : Bool). if b then [] else waiting end.desks l.flight.to l.flight.from) l.awake
          ∙ waits_for (length p.sizes) end now on.now l.flight.to l.flight.from l.to
          ∙ ap (λ (o : Option Flight). message_on o l.flight.from l.flight.to) l.is
          ∙ ap₂ (λ (a : Bool) (b : Bool). if a && b then l.flight.message ∷ [] else []) (eq-eqb l.flight.from l.flight.from refl) (eq-eqb l.flight.to l.flight.to refl)

      nothing : l.flight.message ∷ [] ≡ [] → ⊥
      nothing e = cc

    live_open : IsLive (length p.sizes) now → has_ended end ≡ true → ⊥
    live_open l h = true≢false (sym (one_passes ended_of end.views l.flight.to (TokenKind (now.views l.flight.to)) h (view_at l.flight.to l.to)) ∙ l.awake)

    -- after the last message the places are found
    ended_views : length es ≡ rounds → now ≡ last_state
    ended_views e = ap (λ (k : ℕ). ticks k (first_state p)) e ∙ leads.is

    view_last : length es ≡ rounds → (i : ℕ) → i < length p.sizes → slice_get end.views i ≡ Some (TokenKind (whole.views i))
    view_last e i lt = view_at i lt ∙ ap (λ (s : Serial). Some (TokenKind (s.views i))) (ended_views e)

    all_ended : length es ≡ rounds → has_ended end ≡ true
    all_ended e = all_pass ended_of end.views (λ i lt.
        let size = on.now.count in
        let inside : i < length p.sizes = omega (arith, lt, size) in
        (TokenKind (whole.views i), view_last e i inside, ap (λ (v : TokenView). v.phase.ended) (found i inside).is))

    places : length es ≡ rounds → FoundPlaces p end.views
    places e i lt = (TokenKind (whole.views i), view_last e i lt, place_is p problem whole.below i lt (whole.views i) (found i lt))

    not_yet : has_ended end ≡ false → SomePending end
    not_yet h = elim (cases_lt (length es) rounds) [
      | inl more ↦ live_pending (leads.live (length es) more)
      | inr le ↦ let most = within in absurd (true≢false (sym (all_ended (omega (arith, le, most))) ∙ h))
    ]

    too_early : has_ended end ≡ false → deliveries end < 2 * (length p.sizes - 1)
    too_early h = elim (cases_lt (length es) rounds) [
      | inl more ↦ omega (arith, more, on.delivered, none_delivered p problem.some, size_is)
      | inr le ↦ let most = within in absurd (true≢false (sym (all_ended (omega (arith, le, most))) ∙ h))
    ]

    is_last : has_ended end ≡ true → length es ≡ rounds
    is_last h = elim (cases_lt (length es) rounds) [
      | inl more ↦ absurd (live_open (leads.live (length es) more) h)
      | inr le ↦ let most = within in omega (arith, le, most)
    ]

    pub holds : HoldsOfTokens p end
    holds = record {
      few_tokens = omega (arith, tokens_are, after.tokens, size_is);
      few_dones = omega (arith, dones_are, after.dones, size_is);
      nothing_else = let most = within in omega (arith, tokens_are, dones_are, before.both, after.both, on.delivered, none_delivered p problem.some, most);
      sized = on.now.count;
      agents = agents;
      pending = not_yet;
      early = too_early;
      whole = λ h.
          let e = is_last h in
          let same = ended_views e in
          record {
            all_tokens = tokens_are ∙ ap (λ (s : Serial). s.tokens) same ∙ size_is;
            all_dones = dones_are ∙ ap (λ (s : Serial). s.dones) same ∙ size_is;
            places = places e;
          };
    }

pub token_runs : TokenRuns
token_runs = record { runs = holds; pseudotree = tree; linked = linked }
