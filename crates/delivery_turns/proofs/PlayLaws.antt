-- Rounds: turn by turn, and round by round until playing stops.
use Rattle.std.proofs.Common.{◌≡◌, ◌≢◌, ℕ, suc, ◌+◌, ◌-◌, ◌<◌, ◌≤◌, Bool, true, false, ◌==◌, ◌||◌, nat_le, if◌then◌else◌, List, [], ◌∷◌, ◌++◌, length, min, Option, Some, refl, sym, ap, subst, ◌∙◌, inl, inr, arith}
use Rattle.std.specs.List.{fold, flat_map, range_with_len, list_all}
use Rattle.std.proofs.lemmas.Bool.{cases_lt, ne_eqb, le-leb, lt-leb}
use Rattle.std.proofs.lemmas.List.{append-nil, append_assoc, length-append, length-map}
use Rattle.std.proofs.lemmas.List.Sums.{fold-append}
use Rattle.std.proofs.lemmas.List.Concat.{flat_map-append}
use Rattle.std.proofs.lemmas.List.Elements.{All-nil, All-append}
use Rattle.dcop_base.specs.Problem.{Dcop}
use Rattle.protocol_steps.specs.declared.event.Event.{Event}
use Rattle.protocol_steps.specs.declared.event.Take.{Take}
use Rattle.protocol_steps.specs.View.{View, ended_of}
use Rattle.protocol_steps.specs.Network.{Network}
use Rattle.protocol_steps.specs.Run.{happen, run}
use Rattle.protocol_steps.specs.Effect.{effect, has_ended, deliveries}
use Rattle.protocol_steps.specs.Rounds.{AreShares}
use Rattle.delivery_core.specs.State.{CoreView}
use Rattle.delivery_core.specs.NetworkState.{most_counted}
use Rattle.delivery_turns.specs.Turns.{turn_takes, turn, turns, round, after, stops, PlaysTo, IsPlayed}
use Rattle.delivery_core.specs.Shown.{IsCore}
use Rattle.delivery_turns.specs.CoreTurns.{LeadsCore, Turned, PlaysRound, Playing, is_over}
use Rattle.delivery_core.proofs.RunLaws.{is_state}

-- runs one after another
pub run_join : (net mid : Network) (es fs : List Event) → run net es ≡ Some mid → run net (es ++ fs) ≡ run mid fs
run_join net mid es fs so = fold-append happen (Some net) es fs ∙ ap (λ (o : Option Network). fold happen o fs) so

pub leads_join : (p : Dcop) (net mid end : Network) (es fs : List Event) (s t : CoreView) → LeadsCore p net es mid s → LeadsCore p mid fs end t → LeadsCore p net (es ++ fs) end t
leads_join p net mid end es fs s t a b = record {
  ran = run_join net mid es fs a.ran ∙ b.ran;
  is = fold-append effect net es fs ∙ ap (λ (n : Network). fold effect n fs) a.is ∙ b.is;
  core = b.core;
  more = let all = length-append es fs in let x = a.more in let y = b.more in omega (arith, all, x, y);
  bounded = All-append (λ (e : Event). AreShares e.takes) es fs a.bounded b.bounded;
}

pub turned_none : (p : Dcop) (net : Network) (s : CoreView) → IsCore p net s → (h : Turned p net 0 s) × ([] ≡ h.es)
turned_none p net s core =
    let size : length net.views ≡ length p.sizes - 0 = ap (λ (vs : List View). length vs) (sym core.shows.views) ∙ length-map s.seats (λ x. x.view) ∙ core.shows.size ∙ omega arith in (
      record {
        es = [];
        mid = net;
        leads = record { ran = refl; is = refl; core = core; more = omega arith; bounded = All-nil (λ (e : Event). AreShares e.takes) };
        few = omega arith;
        left = ap (λ (n : ℕ). turns net (range_with_len 0 n)) size;
      },
      refl,
    )

one_event : (b : Bool) (e : Event) → length (if b then [] else e ∷ []) ≤ 1
one_event true e = omega arith
one_event false e = omega arith

-- a turn has at most one event
turn_one : (net : Network) (k : ℕ) → length (turn net k) ≤ 1
turn_one net k = let ts : List Take = turn_takes net k in one_event (length ts == 0) (record { agent = k; takes = ts })

-- the turn of the next agent
pub turned_next : (p : Dcop) (net : Network) (k : ℕ) (s t : CoreView) → (h : Turned p net k s) → (mid : Network) → LeadsCore p h.mid (turn h.mid k) mid t → k < length p.sizes
    → (now : Turned p net (k + 1) t) × (h.es ++ turn h.mid k ≡ now.es)
turned_next p net k s t h mid leads lt =
    let fs : List Event = turn h.mid k in
    let rest : List ℕ = range_with_len (k + 1) (length p.sizes - (k + 1)) in
    let cut : length p.sizes - k ≡ suc (length p.sizes - (k + 1)) = omega (arith, lt) in (
      record {
        es = h.es ++ fs;
        mid = mid;
        leads = leads_join p net h.mid mid h.es fs s t h.leads leads;
        few = let all = length-append h.es fs in let old = h.few in let own = turn_one h.mid k in omega (arith, all, old, own);
        left = h.left
            ∙ ap (λ (n : ℕ). h.es ++ turns h.mid (range_with_len k n)) cut
            ∙ ap (λ (n : Network). h.es ++ (fs ++ turns n rest)) leads.is
            ∙ sym (append_assoc h.es fs (turns mid rest));
      },
      refl,
    )

-- the turns of all agents
pub turned_all : (p : Dcop) (net : Network) (k : ℕ) (s : CoreView) → (h : Turned p net k s) → length p.sizes ≤ k → (mid : Network) × LeadsCore p net (round net) mid s × (h.es ≡ round net)
turned_all p net k s h le =
    let none : length p.sizes - k ≡ 0 = omega (arith, le) in
    let all : round net ≡ h.es = h.left ∙ ap (λ (n : ℕ). h.es ++ turns h.mid (range_with_len k n)) none ∙ append-nil h.es in
    (h.mid, subst (λ (es : List Event). LeadsCore p net es h.mid s) (sym all) h.leads, sym all)

capped : (b d m : ℕ) → b ≤ m → nat_le b (min d m) ≡ nat_le b d
capped b d m le = elim (cases_lt d b) [
  | inl lt ↦ lt-leb b (min d m) (omega (arith, lt)) ∙ sym (lt-leb b d lt)
  | inr ge ↦ le-leb b (min d m) (omega (arith, ge, le)) ∙ sym (le-leb b d ge)
]

pub over_is : (p : Dcop) (budget : ℕ) (net : Network) (s : CoreView) → budget ≤ most_counted → IsCore p net s → is_over budget s ≡ (has_ended net || nat_le budget (deliveries net))
over_is p budget net s le core =
    ap (λ (vs : List View). list_all ended_of vs || nat_le budget s.delivered) core.shows.views
    ∙ ap (λ (b : Bool). has_ended net || b) (ap (λ (n : ℕ). nat_le budget n) core.delivered ∙ capped budget (deliveries net) most_counted le)

pub stops_over : (budget : ℕ) (net : Network) → (has_ended net || nat_le budget (deliveries net)) ≡ true → stops budget net ≡ true
stops_over budget net over = ap (λ (b : Bool). b || (length (round net) == 0)) over

or_true : (b : Bool) → (b || true) ≡ true
or_true true = refl
or_true false = refl

pub empty_by : (es : List Event) → length es ≡ 0 → es ≡ []
empty_by [] h = refl
empty_by (e ∷ es) h = absurd (omega (arith, h))

pub stops_spent : (budget : ℕ) (net : Network) → budget ≤ deliveries net → stops budget net ≡ true
stops_spent budget net le = stops_over budget net (ap (λ (b : Bool). has_ended net || b) (le-leb budget (deliveries net) le) ∙ or_true (has_ended net))

pub stops_still : (budget : ℕ) (net : Network) → round net ≡ [] → stops budget net ≡ true
stops_still budget net none =
    ap (λ (es : List Event). has_ended net || nat_le budget (deliveries net) || (length es == 0)) none ∙ or_true (has_ended net || nat_le budget (deliveries net))

goes_on : (budget : ℕ) (net : Network) → (has_ended net || nat_le budget (deliveries net)) ≡ false → (length (round net) == 0) ≡ false → stops budget net ≡ false
goes_on budget net over some = ap (λ (b : Bool). b || (length (round net) == 0)) over ∙ some

pub playing_none : (p : Dcop) (budget : ℕ) (first : Network) (s : CoreView) (events : List Event) → events ≡ [] → IsCore p first s → Playing p budget first 0 s events
playing_none p budget first s events none core = record {
  pieces = [];
  mid = first;
  ran = ap (λ (es : List Event). run first es) none;
  core = core;
  joined = none;
  spent = omega arith;
  next = λ rest end h. h;
}

-- a round was played, with some event
pub playing_next : (p : Dcop) (budget : ℕ) (first : Network) (k : ℕ) (s t : CoreView) (events new : List Event) → Playing p budget first k s events → budget ≤ most_counted → is_over budget s ≡ false
    → PlaysRound s events t new → length new ≢ length events → Playing p budget first (k + 1) t new
playing_next p budget first k s t events new h le over plays grown =
    let one = plays p h.mid h.core in
    let es : List Event = round h.mid in
    let size : length new ≡ length events + length es = ap (λ (fs : List Event). length fs) one.2 ∙ length-append events es in
    let some : length es ≡ 0 → ⊥ = λ e. grown (omega (arith, e, size)) in
    let on : stops budget h.mid ≡ false = goes_on budget h.mid (sym (over_is p budget h.mid s le h.core) ∙ over) (ne_eqb (length es) 0 some) in
    record {
      pieces = h.pieces ++ es ∷ [];
      mid = one.0;
      ran = ap (λ (fs : List Event). run first fs) one.2 ∙ run_join first h.mid events es h.ran ∙ one.1.ran;
      core = one.1.core;
      joined = one.2 ∙ ap (λ (fs : List Event). fs ++ es) h.joined
          ∙ ap (λ (fs : List Event). flat_map (λ gs. gs) h.pieces ++ fs) (sym (append-nil es))
          ∙ sym (flat_map-append (λ (gs : List Event). gs) h.pieces (es ∷ []));
      spent = let more = one.1.more in let spent = h.spent in elim (cases_lt 0 (length es)) [ inl lt ↦ omega (arith, more, spent, lt) | inr none ↦ absurd (some (omega (arith, none))) ];
      next = λ rest end plays_on.
          let joined : (h.pieces ++ es ∷ []) ++ rest ≡ h.pieces ++ es ∷ rest = append_assoc h.pieces (es ∷ []) rest in
          let from : PlaysTo budget (after h.mid es) rest end = subst (λ (n : Network). PlaysTo budget n rest end) (sym one.1.is) plays_on in
          subst (λ (ps : List (List Event)). PlaysTo budget first ps end) (sym joined) (h.next (es ∷ rest) end (on, refl, from));
    }

-- playing stops
pub played : (p : Dcop) (budget : ℕ) (first : Network) (k : ℕ) (s : CoreView) (events : List Event) → (h : Playing p budget first k s events) → stops budget h.mid ≡ true → IsPlayed budget first events s
played p budget first k s events h stop = record {
  end = h.mid;
  pieces = h.pieces;
  plays = subst (λ (ps : List (List Event)). PlaysTo budget first ps h.mid) (append-nil h.pieces) (h.next [] h.mid (stop, refl));
  joined = h.joined;
  leads = h.ran;
  shows = is_state p h.mid s h.core;
}

-- a round had no event
pub played_still : (p : Dcop) (budget : ℕ) (first : Network) (k : ℕ) (s t : CoreView) (events new : List Event) → Playing p budget first k s events → PlaysRound s events t new → length new ≡ length events
    → IsPlayed budget first new t
played_still p budget first k s t events new h plays same =
    let one = plays p h.mid h.core in
    let es : List Event = round h.mid in
    let size : length new ≡ length events + length es = ap (λ (fs : List Event). length fs) one.2 ∙ length-append events es in
    let none : es ≡ [] = empty_by es (omega (arith, same, size)) in
    let still : h.mid ≡ one.0 = sym (ap (λ (fs : List Event). after h.mid fs) none) ∙ one.1.is in
    let kept : new ≡ events = one.2 ∙ ap (λ (fs : List Event). events ++ fs) none ∙ append-nil events in
    let now : IsCore p h.mid t = subst (λ (n : Network). IsCore p n t) (sym still) one.1.core in
    let h_new : Playing p budget first k t events = record { pieces = h.pieces; mid = h.mid; ran = h.ran; core = now; joined = h.joined; spent = h.spent; next = h.next } in
    subst (λ (fs : List Event). IsPlayed budget first fs t) (sym kept) (played p budget first k t events h_new (stops_still budget h.mid none))
