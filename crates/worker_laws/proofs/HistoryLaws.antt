-- The history of cells that are played in rounds: each agent's activations since the start, and the run that they are, piece by piece.
use Rattle.std.proofs.Common.{◌≡◌, ℕ, ◌+◌, ◌-◌, ◌≤◌, ◌<◌, false, min, ◌==◌, if◌then◌else◌, List, [], ◌∷◌, ◌++◌, map, length, Option, Some, refl, sym, ap, ap₂, subst, ◌∙◌, inl, inr, arith}
use Rattle.std.specs.List.{All, slice_get, fold, flat_map, sum_by}
use Rattle.std.proofs.Math.Path.{fun_ext}
use Rattle.std.proofs.lemmas.Bool.{cases_lt}
use Rattle.std.proofs.lemmas.Option.{slice_get_within}
use Rattle.std.proofs.lemmas.List.{append-nil, length-append, map-append}
use Rattle.std.proofs.lemmas.List.Concat.{flat_map-append}
use Rattle.std.proofs.lemmas.List.Elements.{All-nil}
use Rattle.std.proofs.lemmas.List.Sums.{fold-append}
use Rattle.protocol_steps.specs.declared.message.Message.{Message}
use Rattle.protocol_steps.specs.declared.event.Take.{Take}
use Rattle.protocol_steps.specs.declared.event.Event.{Event}
use Rattle.protocol_steps.specs.View.{View, ended_of}
use Rattle.protocol_steps.specs.Network.{Desk, Network, start_state, takes_at}
use Rattle.protocol_steps.specs.Effect.{deliveries}
use Rattle.protocol_steps.specs.Run.{journal}
use Rattle.protocol_steps.specs.Rounds.{most_events, link_share, IsRound, AreRounds}
use Rattle.protocol_steps.specs.Stamps.{Gain, Deed, Account, do_one}
use Rattle.protocol_steps.specs.Deeds.{takes_of, event_of, AreDeeds, posted_to, gained_from}
use Rattle.protocol_steps.specs.StampLaw.{IsPrefix, TakenIsPrefix, desk_of, Shows}
use Rattle.protocol_steps.proofs.JournalStampLaws.{starts_show, journal_of_deeds}
use Rattle.worker_laws.specs.Cells.{CellState, lane, peers, known_from, IsWired, EachAre}
use Rattle.worker_laws.specs.Visits.{IsStarted, IsQuiet}
use Rattle.worker_laws.specs.Acts.{moment, moved, journal_of}
use Rattle.worker_laws.specs.Sprints.{TakesFew, IsSprint}
use Rattle.worker_laws.specs.CellRounds.{IsSettled, AreSettled, AreStarted, taken_by, total, IsCellRound, AreCellRounds}
use Rattle.worker_laws.proofs.LaneLaws.{lane_none}
use Rattle.worker_laws.proofs.VisitLaws.{totals_add}
use Rattle.worker_laws.proofs.SortLaws.{OfAgent}
use Rattle.worker_laws.proofs.EachLaws.{each_long, each_back, there, same_sums, chosen, SprintBy, chosen_at, chosen_past}
use Rattle.worker_laws.proofs.TakeLaws.{deed_agent, deed_stamp, gains_in, gains_are, takes_in}
use Rattle.worker_laws.proofs.TellLaws.{first, starts, no_peer, Tells, tells_start, tells_quiet, allows, tells_later}
use Rattle.worker_laws.proofs.PieceLaws.{next, Piece, piece, round_of}

-- what an event of agent i takes
abbrev own_takes : ℕ → Event → List (List Take)
own_takes i e = if e.agent == i then e.takes ∷ [] else []

-- the accounts of all agents after these activations
abbrev pub reached : List View → (ℕ → List Deed) → ℕ → Account
reached made own i = fold do_one (first made i) (own i)

-- the run so far, in rounds
pub record Ran (budget : ℕ) (made : List View) (own : ℕ → List Deed) : Type 0 where
  pub net : Network
  pub pieces : List (List Event)
  pub rounds : AreRounds budget (start_state made) pieces net
  pub shows : Shows (length made) net (reached made own)
  pub agree : (i : ℕ) → journal i (flat_map (λ es. es) pieces) ≡ map (λ (d : Deed). takes_of d.gains) (own i)

-- each agent's activations since the start, which its cell tells; and, where what was taken is a first part of what was sent, the run so far
pub record History (budget : ℕ) (made : List View) (cells : List CellState) : Type 0 where
  pub own : ℕ → List Deed
  pub none : (i : ℕ) → length made ≤ i → own i ≡ []
  pub sized : length cells ≡ length made
  pub tells : (i : ℕ) (c : CellState) → slice_get cells i ≡ Some c → Tells made i (own i) c
  pub ran : TakenIsPrefix (reached made own) → Ran budget made own

-- each agent's activations since the start, which its cell tells
pub record Told (made : List View) (own : ℕ → List Deed) (cells : List CellState) : Type 0 where
  pub none : (i : ℕ) → length made ≤ i → own i ≡ []
  pub sized : length cells ≡ length made
  pub tells : (i : ℕ) (c : CellState) → slice_get cells i ≡ Some c → Tells made i (own i) c

pub told_by : (budget : ℕ) (made : List View) (cells : List CellState) (h : History budget made cells) → Told made h.own cells
told_by budget made cells h = record { none = h.none; sized = h.sized; tells = h.tells }

-- cells that have started
pub begun : (budget : ℕ) (made : List View) (cells : List CellState) → AreStarted made cells → History budget made cells
begun budget made cells s =
    let long : length made ≡ length cells = each_long IsStarted made cells s.started in
    record {
      own = λ i. [];
      none = λ i le. refl;
      sized = sym long;
      tells = λ i c e.
          let v = each_back IsStarted made cells s.started i c e in
          tells_start made i v.0 c v.1 (subst (λ (n : ℕ). IsWired n i c) (sym long) (s.wired i c e)) v.2;
      ran = λ prefix. record {
        net = start_state made;
        pieces = [];
        rounds = refl;
        shows = (starts_show made (first made) (starts made)).0;
        agree = λ i. refl;
      };
    }

-- quiet changes nothing of it
pub quiet_on : (budget : ℕ) (made : List View) (before after : List CellState) → History budget made before → EachAre IsQuiet before after → History budget made after
quiet_on budget made before after h q = record {
  own = h.own;
  none = h.none;
  sized = sym (each_long IsQuiet before after q) ∙ h.sized;
  tells = λ i c e. let b = each_back IsQuiet before after q i c e in tells_quiet made i (h.own i) b.0 c (h.tells i b.0 b.1) b.2;
  ran = h.ran;
}

-- where what each cell took is a first part of what was sent to it, this holds of the accounts
pub told_prefix : (made : List View) (own : ℕ → List Deed) (cells : List CellState) → Told made own cells
    → ((i j : ℕ) (to from : CellState) → slice_get cells i ≡ Some to → slice_get cells j ≡ Some from → IsPrefix (lane j to.taken) (lane i from.sent)) → TakenIsPrefix (reached made own)
told_prefix made own cells h prefixes i j =
    let sized = h.sized in
    elim (cases_lt i (length made)) [
      | inr out ↦
          let idle : (reached made own i).gains ≡ [] = ap (λ (ds : List Deed). (fold do_one (first made i) ds).gains) (h.none i out) ∙ (starts made).idle i in
          nothing (gained_from j (reached made own i).gains) (ap (gained_from j) idle)
      | inl in_i ↦
          let to = there cells i (omega (arith, in_i, sized)) in
          let told = h.tells i to.0 to.1 in
          elim (cases_lt j (length made)) [
            | inr out ↦
                nothing (gained_from j (reached made own i).gains)
                (sym (told.taken j) ∙ lane_none j to.0.taken (no_peer (length made) j (peers to.0.taken) told.wired.below out))
            | inl in_j ↦
                let from = there cells j (omega (arith, in_j, sized)) in
                let prefix : IsPrefix (lane j to.0.taken) (lane i from.0.sent) = prefixes i j to.0 from.0 to.1 from.1 in
                (prefix.0, ap (λ (es : List (ℕ × Message)). es ++ prefix.0) (sym (told.taken j)) ∙ prefix.1 ∙ (h.tells j from.0 from.1).sent i)
          ]
    ]
  where
    nothing : (es : List (ℕ × Message)) → es ≡ [] → IsPrefix es (posted_to i (reached made own j).posted)
    nothing es e = (posted_to i (reached made own j).posted, ap (λ (fs : List (ℕ × Message)). fs ++ posted_to i (reached made own j).posted) e)

-- so it does where every link is settled
pub settled_prefix : (budget : ℕ) (made : List View) (cells : List CellState) (h : History budget made cells) → AreSettled cells → TakenIsPrefix (reached made h.own)
settled_prefix budget made cells h settled =
    told_prefix made h.own cells (told_by budget made cells h) (λ i j to from e f. let on : IsSettled i j to from = settled i j to from e f in (on.waiting, on.whole))

-- the deliveries of a network of these accounts are what the cells' journals take
pub delivered_told : (made : List View) (own : ℕ → List Deed) (cells : List CellState) → Told made own cells → (net : Network) → Shows (length made) net (reached made own) → deliveries net ≡ total cells
delivered_told made own cells h net shows =
    same_sums (λ (x : Desk). sum_by (λ (t : Take). t.count) x.takes) (λ (c : CellState). taken_by c.journal) net.desks cells (shows.size ∙ sym h.sized)
    (λ i x c at e.
    let sized = h.sized in
    let inside = slice_get_within cells i c e in
    let lt : i < length made = omega (arith, inside, sized) in
    let desk : Some x ≡ Some (desk_of (reached made own i)) = sym at ∙ shows.desks i lt in
    let told = h.tells i c e in
    let takes = takes_in (first made i) (own i) in
    let idle : sum_by (λ (t : Take). t.count) (takes_of (first made i).gains) ≡ 0 = ap (λ (gs : List Gain). sum_by (λ (t : Take). t.count) (takes_of gs)) ((starts made).idle i) in
    let left : sum_by (λ (t : Take). t.count) x.takes ≡ sum_by (λ (t : Take). t.count) (takes_of (reached made own i).gains) = ap (λ (o : Option Desk). sum_by (λ (t : Take). t.count) (takes_at o)) desk in
    let right : taken_by c.journal ≡ taken_by (journal_of (own i)) = ap taken_by told.noted in
    omega (arith, takes, idle, left, right))

pub delivered_total : (budget : ℕ) (made : List View) (cells : List CellState) (h : History budget made cells) (net : Network) → Shows (length made) net (reached made h.own) → deliveries net ≡ total cells
delivered_total budget made cells h net shows = delivered_told made h.own cells (told_by budget made cells h) net shows

-- one more round
pub rounds_push : (budget : ℕ) (a b c : Network) (pieces : List (List Event)) (es : List Event) → AreRounds budget a pieces b → deliveries b < budget → IsRound b es c → AreRounds budget a (pieces ++ es ∷ []) c
rounds_push budget a b c [] es same less round =
    subst (λ (x : Network). AreRounds budget x (es ∷ []) c) (sym same) (less, (c, round, refl))
rounds_push budget a b c (fs ∷ pieces) es rounds less round = (rounds.0, (rounds.1.0, rounds.1.1, rounds_push budget rounds.1.0 b c pieces es rounds.1.2 less round))

module _ (budget : ℕ) (made : List View) (middle after : List CellState) (h : History budget made middle) (settled : AreSettled middle) (sprints : EachAre (IsSprint most_events) middle after)
    (less : total middle < budget) where
  abbrev n : ℕ
  n = length made

  abbrev now : ℕ → Account
  now = reached made h.own

  -- the activations of the round
  abbrev new : ℕ → List Deed
  new = chosen most_events middle after sprints

  abbrev both : ℕ → List Deed
  both i = h.own i ++ new i

  long : length middle ≡ length after
  long = each_long (IsSprint most_events) middle after sprints

  new_none : (i : ℕ) → n ≤ i → new i ≡ []
  new_none i le = let sized = h.sized in chosen_past most_events middle after sprints i (omega (arith, le, sized))

  -- a cell of the round before it and after it
  record Pair (i : ℕ) : Type 0 where
    old : CellState
    old_at : slice_get middle i ≡ Some old
    young : CellState
    young_at : slice_get after i ≡ Some young
    sprint : SprintBy most_events old (new i) young

  pair : (i : ℕ) → i < n → Pair i
  pair i lt =
      let sized = h.sized in
      let size = long in
      let old = there middle i (omega (arith, lt, sized)) in
      let young = there after i (omega (arith, lt, sized, size)) in
      record { old = old.0; old_at = old.1; young = young.0; young_at = young.1; sprint = chosen_at most_events middle after sprints i old.0 young.0 old.1 young.1 }

  tells_next : (i : ℕ) (c : CellState) → slice_get after i ≡ Some c → Tells made i (both i) c
  tells_next i c e =
      let sized = h.sized in
      let size = long in
      let inside = slice_get_within after i c e in
      let lt : i < n = omega (arith, inside, sized, size) in
      let old = there middle i (omega (arith, lt, sized)) in
      tells_later made i (h.own i) old.0 (h.tells i old.0 old.1) lt (new i) c (chosen_at most_events middle after sprints i old.0 c old.1 e).later

  of_new : (i : ℕ) → OfAgent deed_agent deed_stamp i (new i)
  of_new i = elim (cases_lt i n) [
    | inl lt ↦
        let p = pair i lt in
        second i (h.own i) (new i) (tells_next i p.young p.young_at).agent
    | inr le ↦ subst (λ (ds : List Deed). OfAgent deed_agent deed_stamp i ds) (sym (new_none i le)) tt
  ]
    where
      second : (i : ℕ) (ds es : List Deed) → OfAgent deed_agent deed_stamp i (ds ++ es) → OfAgent deed_agent deed_stamp i es
      second i [] es all = all
      second i (d ∷ ds) es all = second i ds es all.1

  allowed_new : (i : ℕ) → AreDeeds n (now i) (new i)
  allowed_new i = elim (cases_lt i n) [
    | inl lt ↦ let p = pair i lt in allows made i (h.own i) p.old (h.tells i p.old p.old_at) lt (new i) p.sprint.later.acts
    | inr le ↦ subst (λ (ds : List Deed). AreDeeds n (now i) ds) (sym (new_none i le)) tt
  ]

  few_new : (i : ℕ) → length (new i) ≤ most_events
  few_new i = elim (cases_lt i n) [
    | inl lt ↦ (pair i lt).sprint.few
    | inr le ↦ let nothing : length (new i) ≡ 0 = ap length (new_none i le) in omega (arith, nothing)
  ]

  share_new : (i : ℕ) → All TakesFew (new i)
  share_new i = elim (cases_lt i n) [
    | inl lt ↦ (pair i lt).sprint.bounded
    | inr le ↦ subst (λ (ds : List Deed). All TakesFew ds) (sym (new_none i le)) (All-nil TakesFew)
  ]

  prefix : TakenIsPrefix now
  prefix = settled_prefix budget made middle h settled

  so_far : Ran budget made h.own
  so_far = h.ran prefix

  -- what a cell knew to wait was all, up to 64, and its sprint took it
  serves : (i j : ℕ) → i < n → j < n → ended_of (now i).view ≡ false
      → min link_share (length (posted_to i (now j).posted) - length (gained_from j (now i).gains)) ≤ length (gained_from j (gains_in (new i)))
  serves i j in_i in_j live =
      let p = pair i in_i in
      let q = pair j in_j in
      let told = h.tells i p.old p.old_at in
      let link : IsSettled i j p.old q.old = settled i j p.old q.old p.old_at q.old_at in
      let awake : ended_of p.old.view ≡ false = ap ended_of told.viewed ∙ live in
      let served : known_from j p.old.known ≤ length (gained_from j (moved p.old (new i)).gains) = p.sprint.served awake j in
      let gains : length (gained_from j (moved p.old (new i)).gains) ≡ length (gained_from j (gains_in (new i))) = ap (λ (gs : List Gain). length (gained_from j gs)) (gains_are (moment p.old) (new i)) in
      let known = link.known in
      let whole : length (gained_from j (now i).gains) + length link.waiting ≡ length (posted_to i (now j).posted) =
      sym (length-append (gained_from j (now i).gains) link.waiting)
      ∙ ap (λ (es : List (ℕ × Message)). length (es ++ link.waiting)) (sym (told.taken j)) ∙ ap length (link.whole ∙ (h.tells j q.old q.old_at).sent i) in
      omega (arith, served, gains, known, whole)

  same_next : next now new ≡ reached made both
  same_next = fun_ext (λ i. sym (fold-append do_one (first made i) (h.own i) (new i)))

  ran_next : TakenIsPrefix (reached made both) → Ran budget made both
  ran_next later =
      let p : Piece n so_far.net now new = piece n so_far.net now new so_far.shows prefix of_new allowed_new new_none (subst TakenIsPrefix (sym same_next) later) in
      let round = round_of n so_far.net now new so_far.shows prefix p few_new share_new serves in
      let count = delivered_total budget made middle h so_far.net so_far.shows in
      record {
        net = p.end;
        pieces = so_far.pieces ++ map event_of p.deeds ∷ [];
        rounds = rounds_push budget (start_state made) so_far.net p.end so_far.pieces (map event_of p.deeds) so_far.rounds (omega (arith, count, less)) round;
        shows = subst (λ (f : ℕ → Account). Shows n p.end f) same_next p.shows;
        agree = λ i.
            ap (journal i) (flat_map-append (λ (es : List Event). es) so_far.pieces (map event_of p.deeds ∷ []) ∙ ap (λ (es : List Event). flat_map (λ fs. fs) so_far.pieces ++ es) (append-nil (map event_of p.deeds)))
            ∙ flat_map-append (own_takes i) (flat_map (λ fs. fs) so_far.pieces) (map event_of p.deeds)
            ∙ ap₂ (λ (a : List (List Take)) (b : List (List Take)). a ++ b) (so_far.agree i) (journal_of_deeds i p.deeds ∙ ap (λ (ds : List Deed). map (λ (d : Deed). takes_of d.gains) ds) (p.own_is i))
            ∙ sym (map-append (λ (d : Deed). takes_of d.gains) (h.own i) (new i));
      }

  -- the history after the round
  pub sprinted : History budget made after
  sprinted = record {
    own = both;
    none = λ i le. ap₂ (λ (ds : List Deed) (es : List Deed). ds ++ es) (h.none i le) (new_none i le);
    sized = sym long ∙ h.sized;
    tells = tells_next;
    ran = ran_next;
  }

-- a round of cells
pub round_on : (budget : ℕ) (made : List View) (before after : List CellState) → History budget made before → total before < budget → IsCellRound before after → History budget made after
round_on budget made before after h less r =
    let quiet = quiet_on budget made before r.middle h r.quiet in
    let same = totals_add.quiet before r.middle r.quiet in
    sprinted budget made r.middle after quiet r.settled r.sprints (omega (arith, less, same))

pub rounds_on : (budget : ℕ) (made : List View) (before after : List CellState) (rounds : List (List CellState)) → History budget made before → AreCellRounds budget before rounds after → History budget made after
rounds_on budget made before after [] h same = subst (λ (cells : List CellState). History budget made cells) same h
rounds_on budget made before after (mid ∷ rounds) h r = rounds_on budget made mid after rounds (round_on budget made before mid h r.0 r.1) r.2
