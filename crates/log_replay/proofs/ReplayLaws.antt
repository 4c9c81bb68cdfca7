-- One more event of a log that is replayed.
use Rattle.std.proofs.Common.{◌≡◌, ℕ, ◌+◌, ◌<◌, ◌≤◌, Bool, true, false, ◌==◌, if◌then◌else◌, List, ◌∷◌, length, take, drop, get_or, Option, Some, None, Err, refl, sym, ap, subst, ◌∙◌, arith}
use Rattle.std.specs.List.{All}
use Rattle.std.specs.Option.{option_map, is_some}
use Rattle.std.proofs.lemmas.Bool.{true≢false, false≢true}
use Rattle.std.proofs.lemmas.List.{length-map, get_or-map, drop_more, drop_all, take_all}
use Rattle.std.proofs.lemmas.Option.{slice_get-map, slice_get_read, slice_get_within}
use Rattle.dcop_base.specs.Limits.{amount_limit, count_limit}
use Rattle.dcop_base.specs.Problem.{Dcop}
use Rattle.protocol_steps.specs.declared.event.Event.{Event}
use Rattle.protocol_steps.specs.declared.event.EventFault.{EventFault}
use Rattle.protocol_steps.specs.View.{View}
use Rattle.protocol_steps.specs.Network.{Network, start_state}
use Rattle.protocol_steps.specs.Effect.{effect}
use Rattle.protocol_steps.specs.Run.{event_fault, happen, run}
use Rattle.protocol_steps.proofs.RunLaws.{happens_next}
use Rattle.run_log.specs.declared.log.LogEvent.{LogEvent}
use Rattle.run_log.specs.Logs.{event_of, events_of}
use Rattle.run_log.specs.LogStamps.{LinkStamps, StampDifference, start_stamps, right_stamp, stamps_after, follows, order_difference, event_difference, or_later, stamp_difference}
use Rattle.delivery_core.specs.State.{SeatView, CoreView}
use Rattle.delivery_core.specs.Faults.{FirstFault}
use Rattle.delivery_core.specs.Shown.{IsCore, Advances, Refuses}
use Rattle.delivery_core.proofs.RunLaws.{run_more}
use Rattle.log_replay.specs.declared.fault.WrongStamp.{WrongStamp}
use Rattle.log_replay.specs.declared.wrong.Moment.{Moment}
use Rattle.log_replay.specs.Queues.{StampsView, stamp_by, stamps_taken, stamps_sent, first_stamps}
use Rattle.log_replay.specs.Following.{AreStamps}
use Rattle.log_replay.specs.Wrong.{difference_of, moment_of, place_fault, stamp_fault}
use Rattle.log_replay.specs.declared.fault.LogFault.{LogFault}
use Rattle.log_replay.specs.declared.fault.LogFault.TheVariants.{BadEvent, BadStamp, NoMemory}
use Rattle.log_replay.specs.Replays.{first_wrong, ReplaysLog}
use Rattle.log_replay.specs.Steps.{Plays, Follows, Stamped, Replayed}
use Rattle.log_replay.proofs.FollowLaws.{all_known, agent_there, senders_there, right_is, right_few, are_after}
use Rattle.log_replay.proofs.StartLaws.{are_first}

-- what is wrong, as the definitions have it
abbrev told : Option WrongStamp → Option StampDifference
told o = option_map difference_of o

place_same : (k : ℕ) (m : LogEvent) (e : LogEvent) (b : Bool) → follows m e ≡ b → told (if b then None else Some (record { at = k; left = e.stamp; right = m.stamp })) ≡ (if b then None else Some (record { event = k; left = e.stamp; right = m.stamp }))
place_same k m e true h = refl
place_same k m e false h = refl

place_told : (k : ℕ) (prior : Option LogEvent) (e : LogEvent) → told (place_fault k (option_map moment_of prior) e) ≡ order_difference k prior e
place_told k None e = refl
place_told k (Some m) e = place_same k m e (follows m e) refl

stamp_same : (k right : ℕ) (prior : Option LogEvent) (e : LogEvent) (b : Bool)
    → told (if b then place_fault k (option_map moment_of prior) e else Some (record { at = k; left = e.stamp; right = right })) ≡ (if b then order_difference k prior e else Some (record { event = k; left = e.stamp; right = right }))
stamp_same k right prior e true = place_told k prior e
stamp_same k right prior e false = refl

stamp_told : (k right : ℕ) (prior : Option LogEvent) (e : LogEvent) → told (stamp_fault k right (option_map moment_of prior) e) ≡ event_difference k right prior e
stamp_told k right prior e = stamp_same k right prior e (e.stamp == right)

-- a test for no fault
pub none_is : (o : Option WrongStamp) → is_some o ≡ false → o ≡ None
none_is None h = refl
none_is (Some w) h = absurd (true≢false h)

pub some_is : (o : Option WrongStamp) → is_some o ≡ true → (wrong : WrongStamp) × (o ≡ Some wrong)
some_is None h = absurd (false≢true h)
some_is (Some w) h = (w, refl)

-- the same under other names
pub named_so : (p : Dcop) (first : Network) (log : List LogEvent) (k : ℕ) (core : CoreView) (stamps again : StampsView) (before then_before : Option Moment) (found then_found : Option WrongStamp)
    → again ≡ stamps → then_before ≡ before → then_found ≡ found → Replayed p first log k core stamps before found → Replayed p first log k core again then_before then_found
named_so p first log k core stamps again before then_before found then_found a b f was =
    subst (λ (v : StampsView). Replayed p first log k core v then_before then_found) (sym a)
    (subst (λ (m : Option Moment). Replayed p first log k core stamps m then_found) (sym b)
    (subst (λ (o : Option WrongStamp). Replayed p first log k core stamps before o) (sym f) was))

-- at the start
pub replayed_none : (p : Dcop) (made : List View) (log : List LogEvent) (core : CoreView) → IsCore p (start_state made) core → Replayed p (start_state made) log 0 core (first_stamps p core) None None
replayed_none p made log core is = record {
  net = start_state made;
  ran = refl;
  core_is = is;
  stamped = (start_stamps (start_state made), None, are_first p made core is, refl, refl);
}

event_at : (log : List LogEvent) (k : ℕ) (e : LogEvent) → k < length log → e ≡ get_or log k e → event_of e ≡ get_or (events_of log) k (event_of e)
event_at log k e lt is = ap event_of is ∙ sym (get_or-map event_of log k e (event_of e) lt)

module _ (p : Dcop) (first : Network) (log : List LogEvent) (k : ℕ) (core new : CoreView) (stamps later : StampsView) (before : Option Moment) (found next : Option WrongStamp) (e : LogEvent)
    (was : Replayed p first log k core stamps before found) (lt : k < length log) (is : e ≡ get_or log k e) where
  abbrev after : Network
  after = effect was.net (event_of e)

  ran_more : event_fault was.net (event_of e) ≡ None → run first (take (k + 1) (events_of log)) ≡ Some after
  ran_more fine = run_more first was.net (events_of log) k (event_of e) (let size = length-map log event_of in omega (arith, lt, size)) (event_at log k e lt is) was.ran fine

  rest : drop k log ≡ e ∷ drop (k + 1) log
  rest = drop_more log k e lt ∙ ap (λ (x : LogEvent). x ∷ drop (k + 1) log) (sym is)

  -- the event is refused
  pub first_refused : (fault : EventFault) → Refuses core (event_of e) fault → FirstFault first (events_of log) k fault
  first_refused fault refused = record {
    middle = was.net;
    before = was.ran;
    event = event_of e;
    is = slice_get-map event_of log k ∙ ap (option_map event_of) (slice_get_read log (length log) k e refl lt is);
    unlawful = refused p was.net was.core_is;
  }

  pub play_refused : (fault : LogFault) → Plays {A = Unit {0}} core (k + 1) e new (Err fault) → ReplaysLog first log (Err fault)
  play_refused (BadEvent at fault) h = (k, h.0, first_refused fault h.1)
  play_refused (BadStamp wrong) h = absurd h
  play_refused NoMemory h = tt

  -- it has happened, and a stamp was wrong before
  pub replayed_more : (wrong : WrongStamp) → found ≡ Some wrong → Advances core (event_of e) new → Replayed p first log (k + 1) new stamps (Some (moment_of e)) found
  replayed_more wrong some happened =
      let h = happened p was.net was.core_is in
      record {
        net = after;
        ran = ran_more h.0;
        core_is = h.1;
        stamped = subst (λ (o : Option WrongStamp). Stamped p first log (k + 1) after stamps (Some (moment_of e)) o) (sym some)
            (subst (λ (o : Option WrongStamp). Stamped p first log k was.net stamps before o) some was.stamped);
      }

  module _ (none : found ≡ None) (happened : Advances core (event_of e) new) where
    fine : event_fault was.net (event_of e) ≡ None
    fine = (happened p was.net was.core_is).0

    now : IsCore p after new
    now = (happened p was.net was.core_is).1

    right : Stamped p first log k was.net stamps before None
    right = subst (λ (o : Option WrongStamp). Stamped p first log k was.net stamps before o) none was.stamped

    abbrev s : LinkStamps
    s = right.0

    abbrev prior : Option LogEvent
    prior = right.1

    are : AreStamps p was.net s stamps
    are = right.2

    agents : length was.net.views ≡ length p.sizes
    agents =
        let views = ap (λ (vs : List View). length vs) was.core_is.shows.views in
        let size = length-map core.seats (λ (x : SeatView). x.view) in
        let many = was.core_is.shows.size in
        omega (arith, views, size, many)

    desks : length was.net.desks ≡ length p.sizes
    desks = was.core_is.shows.desks ∙ was.core_is.shows.size

    pub agent_in_last : e.agent < length stamps.last
    agent_in_last = slice_get_within stamps.last e.agent (s.last e.agent) (are.last e.agent (agent_there p was.net s stamps e are agents desks fine))

    pub agent_in_rows : e.agent < length stamps.rows
    agent_in_rows = let lt = agent_there p was.net s stamps e are agents desks fine in let size = are.size in omega (arith, lt, size)

    pub senders_in_rows : All (λ t. t.from < length stamps.rows) e.takes
    senders_in_rows = subst (λ (n : ℕ). All (λ t. t.from < n) e.takes) (sym are.size) (all_known (length p.sizes) e.takes (senders_there p was.net s stamps e are agents desks fine))

    pub right_in_count : stamp_by stamps e.agent e.takes ≤ count_limit
    right_in_count = right_few p was.net s stamps e are agents desks fine

    abbrev behind : Option StampDifference
    behind = stamp_difference (k + 1 + 1) (happen (Some was.net) (event_of e)) (stamps_after was.net s e after) (Some e) (drop (k + 1) log)

    whole : first_wrong first log ≡ or_later (event_difference (k + 1) (right_stamp was.net s e) prior e) behind
    whole = right.4 ∙ ap (λ (es : List LogEvent). stamp_difference (k + 1) (Some was.net) s prior es) rest

    follow_at : (small : e.stamp ≤ amount_limit) (o : Option WrongStamp) → told o ≡ event_difference (k + 1) (right_stamp was.net s e) prior e
        → (o ≡ None → later ≡ stamps_sent new e.agent e.stamp (stamps_taken e.agent e.takes stamps)) → Stamped p first log (k + 1) after later (Some (moment_of e)) o
    follow_at small None same sends = (
      stamps_after was.net s e after,
      Some e,
      subst (λ (v : StampsView). AreStamps p after (stamps_after was.net s e after) v) (sym (sends refl)) (are_after p was.net s stamps e are agents desks fine new now small),
      refl,
      whole ∙ ap (λ (d : Option StampDifference). or_later d behind) (sym same)
          ∙ ap (λ (o : Option Network). stamp_difference (k + 1 + 1) o (stamps_after was.net s e after) (Some e) (drop (k + 1) log)) (happens_next was.net (event_of e) fine),
    )
    follow_at small (Some wrong) same sends = whole ∙ ap (λ (d : Option StampDifference). or_later d behind) (sym same)

    -- it has happened, and its stamp was looked at
    pub replayed_next : e.stamp ≤ amount_limit → Follows new (k + 1) before e stamps later next → Replayed p first log (k + 1) new later (Some (moment_of e)) next
    replayed_next small follows = record {
      net = after;
      ran = ran_more fine;
      core_is = now;
      stamped = follow_at small next
          (ap told follows.0
          ∙ ap (λ (m : Option Moment). told (stamp_fault (k + 1) (stamp_by stamps e.agent e.takes) m e)) right.3
          ∙ ap (λ (n : ℕ). told (stamp_fault (k + 1) n (option_map moment_of prior) e)) (right_is p was.net s stamps e are agents desks fine)
          ∙ stamp_told (k + 1) (right_stamp was.net s e) prior e)
          follows.1;
    }

-- at the end
module _ (p : Dcop) (first : Network) (log : List LogEvent) (k : ℕ) (core : CoreView) (stamps : StampsView) (before : Option Moment) (found : Option WrongStamp) (was : Replayed p first log k core stamps before found) (past : length log ≤ k) where
  pub ran_all : run first (events_of log) ≡ Some was.net
  ran_all = ap (λ (es : List Event). run first es) (sym (take_all k (events_of log) (let size = length-map log event_of in omega (arith, size, past)))) ∙ was.ran

  pub all_right : found ≡ None → first_wrong first log ≡ None
  all_right none =
      let right = subst (λ (o : Option WrongStamp). Stamped p first log k was.net stamps before o) none was.stamped in
      right.4 ∙ ap (λ (es : List LogEvent). stamp_difference (k + 1) (Some was.net) right.0 right.1 es) (drop_all k log past)

  pub one_wrong : (wrong : WrongStamp) → found ≡ Some wrong → first_wrong first log ≡ Some (difference_of wrong)
  one_wrong wrong some = subst (λ (o : Option WrongStamp). Stamped p first log k was.net stamps before o) some was.stamped
