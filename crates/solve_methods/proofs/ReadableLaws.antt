-- The stamps of a log are no greater than the number of its events, and what a report of ADOPT tells is small.
use Rattle.std.proofs.Common.{◌≡◌, ℕ, ◌+◌, ◌-◌, ◌*◌, ◌≤◌, max, Bool, true, false, ◌==◌, if◌then◌else◌, List, [], ◌∷◌, ◌++◌, map, length, take, drop, replicate, Option, Some, None, refl, sym, ap, subst, ◌∙◌, arith}
use Rattle.std.specs.List.{All, fold, flat_map, range_with_len}
use Rattle.std.proofs.lemmas.Bool.{eqb-true}
use Rattle.std.proofs.lemmas.Option.{none-some}
use Rattle.std.proofs.lemmas.List.{length-map}
use Rattle.std.proofs.lemmas.List.FromFn.{length-range_with_len}
use Rattle.std.proofs.lemmas.List.Elements.{All-nil, All-cons, All-head, All-tail, All-append, All-replicate, All-take, All-drop, All-weaker}
use Rattle.std.proofs.lemmas.Nat.{mul-le}
use Rattle.dcop_base.specs.Limits.{amount_limit, budget_limit, variable_limit}
use Rattle.dcop_base.specs.Problem.{Dcop}
use Rattle.dcop_base.specs.Whole.{IsProblem}
use Rattle.pseudotree.specs.DepthFirst.{dfs}
use Rattle.protocol_steps.specs.declared.event.Take.{Take}
use Rattle.protocol_steps.specs.declared.event.Event.{Event}
use Rattle.protocol_steps.specs.View.{View}
use Rattle.protocol_steps.specs.Network.{Network, start_state, link}
use Rattle.protocol_steps.specs.Effect.{effect, deliveries}
use Rattle.protocol_steps.specs.Links.{taken_at}
use Rattle.protocol_steps.specs.Run.{happen, run}
use Rattle.protocol_steps.specs.Rounds.{most_events, link_share, AreShares, TakeShares}
use Rattle.protocol_steps.specs.RoundBounds.{round_share, RoundsAreBounded}
use Rattle.protocol_steps.specs.TreeAgents.{adopt_agents}
use Rattle.protocol_steps.proofs.EventLaws.{begins, happens_to}
use Rattle.worker_laws.proofs.CellStampLaws.{run_delivers}
use Rattle.run_log.specs.declared.log.LogEvent.{LogEvent}
use Rattle.run_log.specs.Logs.{event_of, events_of}
use Rattle.run_log.specs.Laws.{IsStampedRun}
use Rattle.run_log.specs.LogStamps.{LinkStamps, StampDifference, start_stamps, next_stamps, taken_stamps, right_stamp, stamps_after, order_difference, event_difference, or_later, stamp_difference}
use Rattle.problem_text.specs.File.{TextFile}
use Rattle.certificate_text.specs.declared.certificate.Certificate.{Certificate}
use Rattle.certificate_text.specs.declared.certificate.Certificate.TheVariants.{Log}
use Rattle.certificate_text.specs.declared.report.Report.{Report}
use Rattle.minimised_problem.specs.Goal.{problem_solved}
use Rattle.minimised_problem.proofs.SolvedLaws.{solved_sizes}
use Rattle.solve_methods.specs.Certified.{IsLogFor, IsLoggedBy, IsLogged}
use Rattle.solve_methods.specs.Adopt.{IsAdoptReport}
use Rattle.solve_methods.specs.Readable.{IsSmallEvent}
use Rattle.minimised_problem.specs.LogHolds.{agents_for}

abbrev AtMost : ℕ → ℕ → Type 0
AtMost m k = k ≤ m

-- no stamp in a network is above m
record AreWithin (m : ℕ) (s : LinkStamps) : Type 0 where
  last : (i : ℕ) → s.last i ≤ m
  sent : (i j : ℕ) → All (AtMost m) (s.sent i j)

start_within : (net : Network) → AreWithin 0 (start_stamps net)
start_within net = record { last = λ i. omega arith; sent = λ i j. All-replicate (AtMost 0) (length (link net.desks j i)) 0 (omega arith) }

-- the greatest of what is taken
greatest_within : (m k : ℕ) (ks : List ℕ) → k ≤ m → All (AtMost m) ks → fold max k ks ≤ m
greatest_within m k [] le h = le
greatest_within m k (x ∷ ks) le h =
    let first : x ≤ m = All-head (AtMost m) x ks h in
    greatest_within m (max k x) ks (omega (arith, le, first)) (All-tail (AtMost m) x ks h)

taken_within : (m : ℕ) (net : Network) (s : LinkStamps) (i : ℕ) (ts : List Take) → AreWithin m s → All (AtMost m) (taken_stamps net s i ts)
taken_within m net s i [] w = All-nil (AtMost m)
taken_within m net s i (t ∷ ts) w =
    All-append (AtMost m) (next_stamps net s i t) (taken_stamps net s i ts)
    (All-take (AtMost m) t.count (drop (taken_at net.desks i t.from) (s.sent i t.from)) (All-drop (AtMost m) (taken_at net.desks i t.from) (s.sent i t.from) (w.sent i t.from)))
    (taken_within m net s i ts w)

right_within : (m : ℕ) (net : Network) (s : LinkStamps) (e : LogEvent) → AreWithin m s → right_stamp net s e ≤ m + 1
right_within m net s e w =
    let last = w.last e.agent in
    let taken = greatest_within m 0 (taken_stamps net s e.agent e.takes) (omega arith) (taken_within m net s e.agent e.takes w) in
    omega (arith, last, taken)

after_within : (m : ℕ) (net after : Network) (s : LinkStamps) (e : LogEvent) → AreWithin m s → e.stamp ≤ m + 1 → AreWithin (m + 1) (stamps_after net s e after)
after_within m net after s e w le = record {
  last = λ i. by_own (e.agent == i) e.stamp (s.last i) le (w.last i);
  sent = λ i j.
      let more : ℕ = length (link after.desks j i) - length (link net.desks j i) in
      All-append (AtMost (m + 1)) (s.sent i j) (replicate more e.stamp) (All-weaker (AtMost m) (AtMost (m + 1)) (λ k h. omega (arith, h)) (s.sent i j) (w.sent i j))
      (All-replicate (AtMost (m + 1)) more e.stamp le);
}
  where
    by_own : (b : Bool) (k l : ℕ) → k ≤ m + 1 → l ≤ m → (if b then k else l) ≤ m + 1
    by_own true k l a b = a
    by_own false k l a b = omega (arith, b)

both_none : (a b : Option StampDifference) → or_later a b ≡ None → (a ≡ None) × (b ≡ None)
both_none None b h = (refl, h)
both_none (Some d) b h = absurd (none-some d (sym h))

right_by : (b : Bool) (d : StampDifference) (o : Option StampDifference) → (if b then o else Some d) ≡ None → b ≡ true
right_by true d o h = refl
right_by false d o h = absurd (none-some d (sym h))

abbrev StampedWithin : ℕ → LogEvent → Type 0
StampedWithin m e = e.stamp ≤ m

stamps_few : (k m : ℕ) (net end : Network) (s : LinkStamps) (before : Option LogEvent) (log : List LogEvent) → AreWithin m s → run net (events_of log) ≡ Some end → stamp_difference k (Some net) s before log ≡ None
    → All (StampedWithin (m + length log)) log
stamps_few k m net end s before [] w leads right = All-nil (StampedWithin (m + 0))
stamps_few k m net end s before (e ∷ log) w leads right =
    let s' : LinkStamps = stamps_after net s e (effect net (event_of e)) in
    let none = both_none (event_difference k (right_stamp net s e) before e) (stamp_difference (k + 1) (happen (Some net) (event_of e)) s' (Some e) log) right in
    let same : e.stamp ≡ right_stamp net s e = eqb-true e.stamp (right_stamp net s e)
    (right_by (e.stamp == right_stamp net s e) (record { event = k; left = e.stamp; right = right_stamp net s e }) (order_difference k before e) none.0) in
    let within = right_within m net s e w in
    let small : e.stamp ≤ m + 1 = omega (arith, same, within) in
    let b = begins net end (event_of e) (events_of log) leads in
    let rest : All (StampedWithin ((m + 1) + length log)) log =
    stamps_few (k + 1) (m + 1) b.next end s' (Some e) log (after_within m net (effect net (event_of e)) s e w small) b.rest
    (subst (λ (o : Option Network). stamp_difference (k + 1) o s' (Some e) log ≡ None) (happens_to net b.next (event_of e) b.first) none.1) in
    All-cons (StampedWithin (m + length (e ∷ log))) e log (omega (arith, small))
    (All-weaker (StampedWithin ((m + 1) + length log)) (StampedWithin (m + length (e ∷ log))) (λ f h. omega (arith, h)) log rest)

-- so none is above the number of messages taken
log_stamps : (made : List View) (log : List LogEvent) (end : Network) → IsStampedRun made log end → All (StampedWithin (deliveries end)) log
log_stamps made log end is =
    let few = stamps_few 1 0 (start_state made) end (start_stamps (start_state made)) None log (start_within (start_state made)) is.leads is.right in
    let long = length-map log event_of in
    let delivers = run_delivers (start_state made) end (events_of log) is.leads in
    All-weaker (StampedWithin (0 + length log)) (StampedWithin (deliveries end)) (λ e h. omega (arith, h, long, delivers)) log few

share_log : (log : List LogEvent) → TakeShares (events_of log) → All (λ e. AreShares e.takes) log
share_log [] h = All-nil (λ (e : LogEvent). AreShares e.takes)
share_log (e ∷ log) h =
    All-cons (λ (f : LogEvent). AreShares f.takes) e log (All-head (λ (f : Event). AreShares f.takes) (event_of e) (events_of log) h)
    (share_log log (All-tail (λ (f : Event). AreShares f.takes) (event_of e) (events_of log) h))

both_of : (log : List LogEvent) → All (StampedWithin amount_limit) log → All (λ e. AreShares e.takes) log → All IsSmallEvent log
both_of [] a b = All-nil IsSmallEvent
both_of (e ∷ log) a b =
    All-cons IsSmallEvent e log (All-head (StampedWithin amount_limit) e log a, All-head (λ (f : LogEvent). AreShares f.takes) e log b)
    (both_of log (All-tail (StampedWithin amount_limit) e log a) (All-tail (λ (f : LogEvent). AreShares f.takes) e log b))

-- as many agents as variables, and few of them take little in a round
agents_few : (p : Dcop) (error : ℕ) → length (adopt_agents p (dfs p) error) ≡ length p.sizes
agents_few p error = length-map (range_with_len 0 (length p.sizes)) _ ∙ length-range_with_len 0 (length p.sizes)

round_small : (n : ℕ) → n ≤ variable_limit → round_share n ≤ 2048000000
round_small n le = mul-le (link_share * n) (most_events * n) 64000 32000 (omega (arith, le)) (omega (arith, le))

logged_by : (certified : Bool) (file : TextFile) (rounds : List (List Event)) (end : Network) (report : Report) (log : List LogEvent) → IsLogged certified file rounds end report → report.certificate ≡ Some (Log log)
    → IsLogFor file rounds end report log
logged_by false file rounds end report log is has = absurd (none-some (Log log) (sym is ∙ has))
logged_by true file rounds end report log is has = subst (λ (o : Option Certificate). IsLoggedBy file rounds end report o) has is

pub reports_small : RoundsAreBounded → (file : TextFile) (error budget : ℕ) (certified : Bool) (report : Report) → IsProblem file.problem → budget ≤ budget_limit → IsAdoptReport file error budget certified report
    → (report.deliveries ≤ amount_limit) × ((log : List LogEvent) → report.certificate ≡ Some (Log log) → All IsSmallEvent log)
reports_small bounded file error budget certified report whole within is =
    let p : Dcop = problem_solved file in
    let made : List View = adopt_agents p (dfs p) error in
    let many = agents_few p error in
    let sizes = ap (λ (ss : List ℕ). length ss) (solved_sizes file.goal file.problem) in
    let few = whole.few in
    let most = bounded.delivered budget made is.end is.play.rounds is.play.in_rounds in
    let share = round_small (length made) (omega (arith, many, sizes, few)) in
    let told = is.told.delivered in
    let small : deliveries is.end ≤ amount_limit = omega (arith, most, share, within) in (
      omega (arith, told, small),
      λ log has.
          let logged = logged_by certified file is.play.rounds is.end report log is.certificate has in
          let shares = bounded.same (events_of log) (flat_map (λ es. es) is.play.rounds) logged.run.same (bounded.shares budget (start_state made) is.end is.play.rounds is.play.in_rounds) in
          both_of log
          (All-weaker (StampedWithin (deliveries is.end)) (StampedWithin amount_limit) (λ e h. omega (arith, h, small)) log (log_stamps (agents_for file report.error) log is.end logged.run.stamped))
          (share_log log shares),
    )
