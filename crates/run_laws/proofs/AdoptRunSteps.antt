-- Each event of a run of ADOPT keeps what holds of all agents and of all that was sent.
use Rattle.std.proofs.Common.{◌≡◌, ℕ, ◌<◌, cond, ◌==◌, List, [], ◌∷◌, map, length, take, Option, Some, zero-add, refl, sym, ap, subst, ◌∙◌, inl, inr, arith}
use Rattle.std.specs.List.{slice_get, range_with_len}
use Rattle.std.specs.Option.{option_map}
use Rattle.std.proofs.lemmas.Bool.{cases_eq, cases_lt, eqb-true}
use Rattle.std.proofs.lemmas.Option.{same_Some, slice_get-map, slice_get-get_or, slice_get_within, slice_get_past}
use Rattle.std.proofs.lemmas.List.{length-map, length-set}
use Rattle.std.proofs.lemmas.List.FromFn.{length-range_with_len, get_or-range_with_len}
use Rattle.dcop_base.specs.Problem.{Dcop}
use Rattle.dcop_base.specs.Knowledge.{private_of}
use Rattle.dcop_base.specs.Whole.{IsProblem}
use Rattle.pseudotree.specs.Pseudotree.{IsPseudotree}
use Rattle.protocol_steps.specs.declared.message.Message.{Message}
use Rattle.protocol_steps.specs.declared.event.Take.{Take}
use Rattle.protocol_steps.specs.declared.event.Event.{Event}
use Rattle.protocol_steps.specs.Agent.{Stepped}
use Rattle.protocol_steps.specs.Adopt.{AdoptView, new_adopt}
use Rattle.protocol_steps.specs.AdoptStep.{adopt_start, adopt_step}
use Rattle.protocol_steps.specs.View.{View, AdoptKind}
use Rattle.protocol_steps.specs.Step.{as_kind, start_of, step_of}
use Rattle.protocol_steps.specs.Network.{Desk, Network, start_state, messages_to, sent_at, link, waiting, taken_from, takes_at, next_letters, batch}
use Rattle.protocol_steps.specs.Run.{run}
use Rattle.protocol_steps.specs.Links.{step_in, IsEffect, IsBegun}
use Rattle.protocol_steps.proofs.EventLaws.{Happens, happens_to, begins}
use Rattle.protocol_steps.proofs.LinkLaws.{links_grow}
use Rattle.protocol_steps.specs.TreeAgents.{place_at, adopt_agents}
use Rattle.run_laws.proofs.Every.{Every, every_append, every_take, every_drop, every_if, every_map, every_flat_map, every_from, every_then}
use Rattle.run_laws.proofs.AdoptAgentLaws.{Brings}
use Rattle.run_laws.proofs.AdoptStepLaws.{IsDone, step_done, start_done}
use Rattle.run_laws.proofs.PlacedLaws.{IsFair, IsBrought, keeps_fair}
use Rattle.run_laws.proofs.SayLaws.{Says, said_to, says_brings, sends_said}

one_step : (v : AdoptView) (ls : List (ℕ × Message)) → step_of (AdoptKind v) ls ≡ as_kind AdoptKind (adopt_step v ls)
unfolding step_of
one_step v ls = refl

pub one_start : (v : AdoptView) → start_of (AdoptKind v) ≡ as_kind AdoptKind (adopt_start v)
unfolding start_of
one_start v = refl

abbrev begun_desk : View → Desk
begun_desk v = record { sent = (start_of v).sends; takes = [] }

module _ (p : Dcop) (paths : List (List ℕ)) (problem : IsProblem p) (pseudo : IsPseudotree p paths) (error : ℕ) where
  -- what holds of the agent of i after each activation
  abbrev pub Settled : (i : ℕ) → i < length p.sizes → AdoptView → Type 0
  Settled i lt v = IsDone (private_of p i) (place_at p paths i) error (IsFair p paths problem pseudo error i lt) (IsBrought p paths problem pseudo error i lt) (keeps_fair p paths problem pseudo error i lt) v

  -- an agent of a network
  pub record IsThere (views : List View) (i : ℕ) (lt : i < length p.sizes) : Type 0 where
    pub view : AdoptView
    pub at : slice_get views i ≡ Some (AdoptKind view)
    pub settled : Settled i lt view

  -- a network of ADOPT agents
  pub record IsGood (net : Network) : Type 0 where
    pub count : length net.views ≡ length p.sizes
    pub agents : (i : ℕ) (lt : i < length p.sizes) → IsThere net.views i lt
    pub said : (i j : ℕ) → Every (Says p paths j) (link net.desks j i)

  pub batch_said : (ds : List Desk) (i : ℕ) (ts : List Take) → ((j : ℕ) → Every (Says p paths j) (link ds j i)) → Every (λ l. Says p paths l.0 l.1) (batch ds i ts)
  batch_said ds i ts said =
      every_flat_map (λ (l : ℕ × Message). Says p paths l.0 l.1) (λ t. next_letters ds i t) ts
      (every_from (λ t. Every (λ (l : ℕ × Message). Says p paths l.0 l.1) (next_letters ds i t)) ts
      (λ t. every_map (λ (l : ℕ × Message). Says p paths l.0 l.1) (λ m. (t.from, m)) (take t.count (waiting ds i t.from))
      (every_take (Says p paths t.from) t.count (waiting ds i t.from) (every_drop (Says p paths t.from) (taken_from t.from (takes_at (slice_get ds i))) (link ds t.from i) (said t.from)))))

  module _ (net after : Network) (e : Event) (is : IsGood net) (h : Happens net e after) where
    pub effect : IsEffect net e after
    effect = links_grow.happens net after e (happens_to net after e h)

    pub inside : e.agent < length p.sizes
    inside = let within = slice_get_within net.views e.agent h.view h.views in let count = is.count in omega (arith, within, count)

    abbrev pub letters : List (ℕ × Message)
    letters = batch net.desks e.agent e.takes

    letters_said : Every (λ l. Says p paths l.0 l.1) letters
    letters_said = batch_said net.desks e.agent e.takes (λ j. is.said e.agent j)

    pub brought : (lt : e.agent < length p.sizes) → Every (λ l. Brings (IsBrought p paths problem pseudo error e.agent lt) (private_of p e.agent) (place_at p paths e.agent) l.0 l.1) letters
    brought lt =
        every_then (λ (l : ℕ × Message). Says p paths l.0 l.1) (λ l. Brings (IsBrought p paths problem pseudo error e.agent lt) (private_of p e.agent) (place_at p paths e.agent) l.0 l.1) letters
        (λ l. says_brings p paths problem pseudo error e.agent lt l.0 l.1) letters_said

    pub step_is : (lt : e.agent < length p.sizes) → step_in net e effect.view ≡ as_kind AdoptKind (adopt_step (is.agents e.agent lt).view letters)
    step_is lt =
        ap (λ (v : View). step_of v letters) (same_Some effect.view (AdoptKind (is.agents e.agent lt).view) (sym effect.before ∙ (is.agents e.agent lt).at))
        ∙ one_step (is.agents e.agent lt).view letters

    stepped : (lt : e.agent < length p.sizes) → Settled e.agent lt (adopt_step (is.agents e.agent lt).view letters).view
    stepped lt =
        step_done (private_of p e.agent) (place_at p paths e.agent) error (IsFair p paths problem pseudo error e.agent lt) (IsBrought p paths problem pseudo error e.agent lt) (keeps_fair p paths problem pseudo error e.agent lt)
        (is.agents e.agent lt).view letters (is.agents e.agent lt).settled.mid (brought lt)

    pub own_at : (lt : e.agent < length p.sizes) → slice_get after.views e.agent ≡ Some (AdoptKind (adopt_step (is.agents e.agent lt).view letters).view)
    own_at lt = effect.stepped ∙ ap (λ (s : Stepped View). Some s.view) (step_is lt)

    own_now : (lt : e.agent < length p.sizes) → IsThere after.views e.agent lt
    own_now lt = record {
      view = (adopt_step (is.agents e.agent lt).view letters).view;
      at = own_at lt;
      settled = stepped lt;
    }

    agents_now : (i : ℕ) (lt : i < length p.sizes) → IsThere after.views i lt
    agents_now i = elim (cases_eq i e.agent) [
      | inl same ↦ subst (λ (k : ℕ). (lt : k < length p.sizes) → IsThere after.views k lt) (sym same) own_now
      | inr other ↦ λ lt. record {
        view = (is.agents i lt).view;
        at = effect.others i (λ q. other (sym q)) ∙ (is.agents i lt).at;
        settled = (is.agents i lt).settled;
      }
    ]

    sent_now : Every (λ s. Says p paths e.agent s.1) (step_in net e effect.view).sends
    sent_now =
        subst (λ (s : Stepped View). Every (λ (x : ℕ × Message). Says p paths e.agent x.1) s.sends) (sym (step_is inside))
        (sends_said p paths problem pseudo error e.agent inside (adopt_step (is.agents e.agent inside).view letters).view (stepped inside).mid)

    said_now : (i j : ℕ) → Every (Says p paths j) (link after.desks j i)
    said_now i j =
        subst (λ (ms : List Message). Every (Says p paths j) ms) (sym (effect.sent i j))
        (every_append (Says p paths j) (link net.desks j i) (cond (e.agent == j) (messages_to i (step_in net e effect.view).sends) [])
        (is.said i j)
        (every_if (Says p paths j) (e.agent == j) (messages_to i (step_in net e effect.view).sends)
        (λ here. subst (λ (k : ℕ). Every (Says p paths k) (messages_to i (step_in net e effect.view).sends)) (eqb-true e.agent j here) (said_to (Says p paths e.agent) i (step_in net e effect.view).sends sent_now))))

    pub advances : IsGood after
    advances = record {
      count =
          subst (λ (z : Network). length z.views ≡ length net.views) h.after (length-set net.views e.agent (step_of h.view (batch net.desks e.agent e.takes)).view)
          ∙ is.count;
      agents = agents_now;
      said = said_now;
    }

  -- so does a run
  pub runs_on : (net end : Network) (es : List Event) → IsGood net → run net es ≡ Some end → IsGood end
  runs_on net end [] is r = subst IsGood (same_Some net end r) is
  runs_on net end (e ∷ es) is r =
      let b = begins net end e es r in
      runs_on b.next end es (advances net b.next e is b.first) b.rest

  abbrev pub new_one : ℕ → AdoptView
  new_one i = new_adopt (private_of p i) (place_at p paths i) error

  pub made_at : (i : ℕ) → i < length p.sizes → slice_get (adopt_agents p paths error) i ≡ Some (AdoptKind (new_one i))
  made_at i lt =
      let long = length-range_with_len 0 (length p.sizes) in
      slice_get-map (λ (k : ℕ). AdoptKind (new_one k)) (range_with_len 0 (length p.sizes)) i
      ∙ ap (option_map (λ (k : ℕ). AdoptKind (new_one k)))
      (slice_get-get_or (range_with_len 0 (length p.sizes)) i 0 (omega (arith, lt, long))
      ∙ ap (λ (k : ℕ). Some k) (get_or-range_with_len 0 (length p.sizes) i 0 lt ∙ zero-add i))

  agents_long : length (adopt_agents p paths error) ≡ length p.sizes
  agents_long = length-map (range_with_len 0 (length p.sizes)) (λ (k : ℕ). AdoptKind (new_one k)) ∙ length-range_with_len 0 (length p.sizes)

  pub started : (i : ℕ) (lt : i < length p.sizes) → Settled i lt (adopt_start (new_one i)).view
  started i lt =
      start_done (private_of p i) (place_at p paths i) error (IsFair p paths problem pseudo error i lt) (IsBrought p paths problem pseudo error i lt) (keeps_fair p paths problem pseudo error i lt)

  pub begun : IsBegun (adopt_agents p paths error)
  begun = links_grow.begun (adopt_agents p paths error)

  -- each agent after its start
  pub first_at : (i : ℕ) → i < length p.sizes → slice_get (start_state (adopt_agents p paths error)).views i ≡ Some (AdoptKind (adopt_start (new_one i)).view)
  first_at i lt =
      slice_get-map (λ (v : View). (start_of v).view) (adopt_agents p paths error) i
      ∙ ap (option_map (λ (v : View). (start_of v).view)) (made_at i lt)
      ∙ ap (λ (s : Stepped View). Some s.view) (one_start (new_one i))

  said_first : (i j : ℕ) → Every (Says p paths j) (link (start_state (adopt_agents p paths error)).desks j i)
  said_first i j = elim (cases_lt j (length p.sizes)) [
    | inl lt ↦
        subst (λ (ms : List Message). Every (Says p paths j) ms)
        (sym (begun.sent i j (AdoptKind (new_one j)) (made_at j lt) ∙ ap (λ (s : Stepped View). messages_to i s.sends) (one_start (new_one j))))
        (said_to (Says p paths j) i (adopt_start (new_one j)).sends (sends_said p paths problem pseudo error j lt (adopt_start (new_one j)).view (started j lt).mid))
    | inr past ↦
        subst (λ (o : Option Desk). Every (Says p paths j) (messages_to i (sent_at o)))
        (sym (slice_get_past (map begun_desk (adopt_agents p paths error)) j (let long = length-map (adopt_agents p paths error) begun_desk in let all = agents_long in omega (arith, past, long, all)))) tt
  ]

  pub starts : IsGood (start_state (adopt_agents p paths error))
  starts = record {
    count = length-map (adopt_agents p paths error) (λ (v : View). (start_of v).view) ∙ agents_long;
    agents = λ i lt. record {
      view = (adopt_start (new_one i)).view;
      at = first_at i lt;
      settled = started i lt;
    };
    said = said_first;
  }
