-- The stamps after an event are those of the network after it.
use Rattle.std.proofs.Common.{◌≡◌, ℕ, ◌+◌, ◌-◌, ◌<◌, ◌≤◌, Bool, true, false, max, ◌==◌, nat_le, if◌then◌else◌, List, ◌++◌, map, length, drop, replicate, get_or, Some, None, refl, sym, ap, subst, ◌∙◌, inl, inr, ◌⊎◌, arith}
use Rattle.std.specs.List.{fold, slice_get, slice_set, list_any, All}
use Rattle.std.proofs.lemmas.Bool.{cases_Bool, eqb-true, eqb-false, leb-false, false≢true}
use Rattle.std.proofs.lemmas.List.{append-nil, length-append, length-set, length-replicate, drop-drop}
use Rattle.std.proofs.lemmas.List.Folds.{list_any_at}
use Rattle.std.proofs.lemmas.Option.{slice_get_within, get_or_from_slice_get}
use Rattle.dcop_base.specs.Limits.{amount_limit, count_limit}
use Rattle.dcop_base.specs.Problem.{Dcop}
use Rattle.dcop_base.specs.Graph.{neighbours}
use Rattle.protocol_steps.specs.declared.event.Take.{Take}
use Rattle.protocol_steps.specs.View.{ended_of}
use Rattle.protocol_steps.specs.Network.{Network, taken_from, link}
use Rattle.protocol_steps.specs.Effect.{effect}
use Rattle.protocol_steps.specs.Links.{taken_at, taken_in_event}
use Rattle.protocol_steps.specs.Run.{event_fault, form_fault, too_many, ascends_from}
use Rattle.protocol_steps.proofs.RunLaws.{happens_next}
use Rattle.protocol_steps.proofs.EventLaws.{Happens, happens_from, get_same, get_other}
use Rattle.protocol_steps.proofs.AccountLaws.{form_parts}
use Rattle.run_log.specs.declared.log.LogEvent.{LogEvent}
use Rattle.run_log.specs.Logs.{event_of}
use Rattle.run_log.specs.LogStamps.{LinkStamps, next_stamps, taken_stamps, right_stamp, stamps_after}
use Rattle.delivery_core.specs.State.{CoreView, count_waiting}
use Rattle.delivery_core.specs.Shown.{IsCore}
use Rattle.delivery_core.proofs.ShownLaws.{both_none}
use Rattle.log_replay.specs.Queues.{QueueView, StampsView, queue_to, stamps_of, row_at, stamps_at, receivers, take_off, greatest_by, stamp_by, stamps_taken, filled, stamps_sent}
use Rattle.log_replay.specs.Following.{AreStamps}
use Rattle.log_replay.proofs.MaxLaws.{greatest, greatest_append, greatest_take, greatest_drop, greatest_replicate, greatest_all}
use Rattle.log_replay.proofs.QueueLaws.{queue_filled, fill_receivers}
use Rattle.log_replay.proofs.RowLaws.{row_same, row_other, off_size, all_off, all_to, greatest_is}
use Rattle.log_replay.proofs.SentLaws.{taken_sent, count_is, none_waits, none_for_itself, effect_is, sent_none, sent_grows, joined}

-- senders that are there, by index
pub all_known : (n : ℕ) (ts : List Take) → list_any (λ t. nat_le n t.from) ts ≡ false → All (λ t. t.from < n) ts
all_known n ts known k d lt =
    elim (cases_Bool (nat_le n (get_or ts k d).from)) [
      | inl over ↦ absurd (false≢true (sym known ∙ list_any_at (λ (t : Take). nat_le n t.from) ts k d lt over))
      | inr below ↦ leb-false n (get_or ts k d).from below
    ]

last_case : (b : Bool) (most stamp last : ℕ) → stamp ≤ most → last ≤ most → (if b then stamp else last) ≤ most
last_case true most stamp last h k = h
last_case false most stamp last h k = k

module _ (p : Dcop) (net : Network) (s : LinkStamps) (v : StampsView) (e : LogEvent) (are : AreStamps p net s v) (agents : length net.views ≡ length p.sizes) (desks : length net.desks ≡ length p.sizes) (fine : event_fault net (event_of e) ≡ None) where
  abbrev n : ℕ
  n = length p.sizes

  abbrev next : Network
  next = effect net (event_of e)

  happens : Happens net (event_of e) next
  happens = happens_from net next (event_of e) (happens_next net (event_of e) fine)

  form : form_fault (length net.desks) (ended_of happens.view) e.takes ≡ None
  form = (both_none (form_fault (length net.desks) (ended_of happens.view) e.takes) (too_many net.desks e.agent e.takes) happens.fine).0

  pub agent_there : e.agent < n
  agent_there = let lt = slice_get_within net.views e.agent happens.view happens.views in omega (arith, lt, agents)

  pub senders_there : list_any (λ t. nat_le n t.from) e.takes ≡ false
  senders_there = subst (λ (m : ℕ). list_any (λ t. nat_le m t.from) e.takes ≡ false) desks (form_parts (length net.desks) (ended_of happens.view) e.takes form).0

  in_rows : list_any (λ t. nat_le (length v.rows) t.from) e.takes ≡ false
  in_rows = subst (λ (m : ℕ). list_any (λ t. nat_le m t.from) e.takes ≡ false) (sym are.size) senders_there

  ascend : ascends_from 0 e.takes ≡ true
  ascend = (form_parts (length net.desks) (ended_of happens.view) e.takes form).1

  -- the right stamp
  pub right_is : stamp_by v e.agent e.takes ≡ right_stamp net s e
  right_is =
      let last : get_or v.last e.agent 0 ≡ s.last e.agent = get_or_from_slice_get v.last e.agent (s.last e.agent) 0 (are.last e.agent agent_there) in
      let W : ℕ → List ℕ = λ (j : ℕ). drop (taken_at net.desks e.agent j) (s.sent e.agent j) in
      let most : greatest_by e.agent v.rows e.takes ≡ greatest (taken_stamps net s e.agent e.takes) =
      greatest_is e.agent 0 W v.rows e.takes in_rows ascend (λ j le. are.queues e.agent j agent_there) in
      ap (λ (k : ℕ). max k (greatest_by e.agent v.rows e.takes) + 1) last ∙ ap (λ (k : ℕ). max (s.last e.agent) k + 1) most

  -- a bound on all stamps
  module _ (most : ℕ) (few : (i : ℕ) → s.last i ≤ most) (bounded : (i j : ℕ) → greatest (s.sent i j) ≤ most) where
    taken_within : greatest (taken_stamps net s e.agent e.takes) ≤ most
    taken_within = greatest_all (next_stamps net s e.agent) most e.takes (λ t.
        let sent : List ℕ = s.sent e.agent t.from in
        let left : List ℕ = drop (taken_at net.desks e.agent t.from) sent in
        let a = greatest_take t.count left in
        let b = greatest_drop (taken_at net.desks e.agent t.from) sent in
        let c = bounded e.agent t.from in
        omega (arith, a, b, c))

    pub right_within : stamp_by v e.agent e.takes ≤ most + 1
    right_within =
        let last = few e.agent in
        let same = right_is in
        let taken = taken_within in
        omega (arith, last, same, taken)

  pub right_few : stamp_by v e.agent e.takes ≤ count_limit
  right_few = let within = right_within amount_limit are.few are.bounded in omega (arith, within)

  -- a bound on all stamps after the event
  pub last_within : (most : ℕ) → e.stamp ≤ most → (i : ℕ) → s.last i ≤ most → (stamps_after net s e next).last i ≤ most
  last_within most stamp i last = last_case (e.agent == i) most e.stamp (s.last i) stamp last

  pub sent_within : (most : ℕ) → e.stamp ≤ most → (i j : ℕ) → greatest (s.sent i j) ≤ most → greatest ((stamps_after net s e next).sent i j) ≤ most
  sent_within most stamp i j sent =
      let more : ℕ = length (link next.desks j i) - length (link net.desks j i) in
      let a = greatest_append (s.sent i j) (replicate more e.stamp) in
      let b = greatest_replicate more e.stamp in
      omega (arith, a, b, sent, stamp)

  module _ (core : CoreView) (after : IsCore p next core) (small : e.stamp ≤ amount_limit) where
    abbrev rows : List (List QueueView)
    rows = fold (take_off e.agent) v.rows e.takes

    abbrev full : List QueueView
    full = map (filled core e.agent e.stamp) (row_at rows e.agent)

    abbrev later : LinkStamps
    later = stamps_after net s e next

    abbrev old : ℕ → ℕ → ℕ
    old i j = length (link net.desks j i)

    abbrev new : ℕ → ℕ → ℕ
    new i j = length (link next.desks j i)

    rows_size : length rows ≡ n
    rows_size = off_size e.agent v.rows e.takes ∙ are.size

    agent_in : e.agent < length rows
    agent_in = let lt = agent_there in let size = rows_size in omega (arith, lt, size)

    row_to : (j : ℕ) → j < n → receivers (row_at rows j) ≡ neighbours p j
    row_to j lt = all_to e.agent v.rows e.takes j in_rows ∙ are.receivers j lt

    grown : (i j : ℕ) → old i j ≤ new i j
    grown i j = sent_grows net (event_of e) fine i j

    taken_now : (i j : ℕ) → taken_at next.desks i j ≡ taken_at net.desks i j + taken_in_event e.agent i j e.takes
    taken_now i j = (effect_is net (event_of e) fine).taken i j

    left : (i j : ℕ) → i < n → stamps_at rows i j ≡ drop (taken_at next.desks i j) (s.sent i j)
    left i j lt =
        all_off e.agent v.rows e.takes i j in_rows
        ∙ ap (λ (ns : List ℕ). drop (taken_in_event e.agent i j e.takes) ns) (are.queues i j lt)
        ∙ drop-drop (taken_in_event e.agent i j e.takes) (taken_at net.desks i j) (s.sent i j)
        ∙ ap (λ (k : ℕ). drop k (s.sent i j)) (sym (taken_now i j))

    -- of the agent itself nothing waits for itself, and of the others no more is taken than was there
    within : (i : ℕ) → i < n → (taken_at next.desks i e.agent ≤ old i e.agent) ⊎ (new i e.agent ≤ taken_at next.desks i e.agent)
    within i lt = elim (cases_Bool (e.agent == i)) [
      | inl same ↦ inr (subst (λ (k : ℕ). new k e.agent ≤ taken_at next.desks k e.agent) (eqb-true e.agent i same) (none_for_itself p next core after e.agent agent_there))
      | inr other ↦ (let none : taken_in_event e.agent i e.agent e.takes ≡ 0 = ap (λ (b : Bool). if b then taken_from e.agent e.takes else 0) other in
          let now = taken_now i e.agent in
          let before = are.taken i e.agent lt in
          inl (omega (arith, none, now, before)))
    ]

    queue_case : (b : Bool) (i j : ℕ) → (e.agent == j) ≡ b → i < n → stamps_at (slice_set rows e.agent full) i j ≡ drop (taken_at next.desks i j) (later.sent i j)
    queue_case true i j h lt =
        subst (λ (k : ℕ). stamps_at (slice_set rows e.agent full) i k ≡ drop (taken_at next.desks i k) (later.sent i k)) (eqb-true e.agent j h)
        (ap (λ (row : List QueueView). stamps_of (queue_to i row)) (row_same rows e.agent full agent_in)
        ∙ queue_filled core i e.agent e.stamp (row_at rows e.agent) (none_waits p next core after i e.agent (row_at rows e.agent) lt (row_to e.agent agent_there))
        ∙ ap (λ (ns : List ℕ). ns ++ replicate (count_waiting core i e.agent - length ns) e.stamp) (left i e.agent lt)
        ∙ ap (λ (k : ℕ). drop (taken_at next.desks i e.agent) (s.sent i e.agent) ++ replicate (k - length (drop (taken_at next.desks i e.agent) (s.sent i e.agent))) e.stamp) (count_is p next core after i e.agent lt)
        ∙ joined (taken_at next.desks i e.agent) (old i e.agent) (new i e.agent) e.stamp (s.sent i e.agent) (are.many i e.agent) (within i lt) (grown i e.agent))
    queue_case false i j h lt =
        let none : new i j - old i j ≡ 0 = (let same = sent_none net (event_of e) fine i j h in omega (arith, same)) in
        ap (λ (row : List QueueView). stamps_of (queue_to i row)) (row_other rows e.agent j full h)
        ∙ left i j lt
        ∙ ap (λ (ns : List ℕ). drop (taken_at next.desks i j) ns) (sym (append-nil (s.sent i j)) ∙ ap (λ (k : ℕ). s.sent i j ++ replicate k e.stamp) (sym none))

    last_at : (b : Bool) (i : ℕ) → (e.agent == i) ≡ b → i < n → slice_get (slice_set v.last e.agent e.stamp) i ≡ Some (if b then e.stamp else s.last i)
    last_at true i h lt =
        subst (λ (k : ℕ). slice_get (slice_set v.last e.agent e.stamp) k ≡ Some e.stamp) (eqb-true e.agent i h) (get_same v.last e.agent (s.last e.agent) e.stamp (are.last e.agent agent_there))
    last_at false i h lt = get_other v.last e.agent i e.stamp (eqb-false e.agent i h) ∙ are.last i lt

    to_at : (b : Bool) (j : ℕ) → (e.agent == j) ≡ b → j < n → receivers (row_at (slice_set rows e.agent full) j) ≡ neighbours p j
    to_at true j h lt =
        subst (λ (k : ℕ). receivers (row_at (slice_set rows e.agent full) k) ≡ neighbours p k) (eqb-true e.agent j h)
        (ap receivers (row_same rows e.agent full agent_in) ∙ fill_receivers core e.agent e.stamp (row_at rows e.agent) ∙ row_to e.agent agent_there)
    to_at false j h lt = ap receivers (row_other rows e.agent j full h) ∙ row_to j lt

    pub are_after : AreStamps p next later (stamps_sent core e.agent e.stamp (stamps_taken e.agent e.takes v))
    are_after = record {
      size = length-set rows e.agent full ∙ rows_size;
      last = λ i lt. last_at (e.agent == i) i refl lt;
      receivers = λ j lt. to_at (e.agent == j) j refl lt;
      queues = λ i j lt. queue_case (e.agent == j) i j refl lt;
      many = λ i j.
          let a = length-append (s.sent i j) (replicate (new i j - old i j) e.stamp) in
          let b = length-replicate (new i j - old i j) e.stamp in
          let c = are.many i j in
          let d = grown i j in
          omega (arith, a, b, c, d);
      taken = λ i j lt. taken_sent p next core after i j lt;
      few = λ i. last_within amount_limit small i (are.few i);
      bounded = λ i j. sent_within amount_limit small i j (are.bounded i j);
    }
