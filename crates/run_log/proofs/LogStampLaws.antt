-- Activations by stamp have right stamps as a log, and so have the merged journals of a run of cells.
use Rattle.std.proofs.Common.{◌≡◌, ℕ, ◌+◌, ◌<◌, Bool, true, ◌==◌, if◌then◌else◌, nat_lt, ◌&&◌, List, [], ◌∷◌, ◌++◌, map, length, Option, Some, None, refl, sym, ap, subst, ◌∙◌, inl, inr, arith}
use Rattle.std.specs.List.{fold}
use Rattle.std.proofs.lemmas.Bool.{cases_eq, cases_lt, eq-eqb, ne_eqb, lt-ltb, or_left, or_right, and_from}
use Rattle.std.proofs.lemmas.Option.{slice_get_cases}
use Rattle.std.proofs.lemmas.List.{append_assoc, length-map, get_or_past}
use Rattle.protocol_steps.specs.declared.message.Message.{Message}
use Rattle.protocol_steps.specs.declared.event.Event.{Event}
use Rattle.protocol_steps.specs.declared.event.Entry.{Entry}
use Rattle.protocol_steps.specs.View.{View}
use Rattle.protocol_steps.specs.Step.{start_of}
use Rattle.protocol_steps.specs.Network.{Network, start_state}
use Rattle.protocol_steps.specs.Effect.{effect}
use Rattle.protocol_steps.specs.Run.{happen, run}
use Rattle.protocol_steps.specs.Stamps.{Gain, Deed, Account, account_of, do_one}
use Rattle.protocol_steps.specs.Deeds.{event_of as event_done, IsDeed, AreDeeds, deeds_of, after_all, posted_to, gained_from}
use Rattle.protocol_steps.specs.StampLaw.{IsPrefix, TakenIsPrefix, ByStampFrom, Shows, EndsAt}
use Rattle.protocol_steps.specs.JournalStamps.{journal_at, deeds_from, AreEnough}
use Rattle.protocol_steps.proofs.EventLaws.{Happens, happens_from}
use Rattle.protocol_steps.proofs.StampLaws.{after_one, same_after, next_prefix, still_prefix, longer_prefix, deeds_next, deed_now, stamps_order}
use Rattle.protocol_steps.proofs.JournalStampLaws.{starts_show}
use Rattle.worker_laws.specs.Cells.{CellState}
use Rattle.worker_laws.specs.Merges.{ComesBefore, ComesFirst, IsOrdered, IsMerge, events_in}
use Rattle.worker_laws.specs.CellRuns.{journals_of, IsRunOfCells}
use Rattle.worker_laws.proofs.EachLaws.{there}
use Rattle.worker_laws.proofs.TakeLaws.{gains_in, gains_are}
use Rattle.run_log.specs.declared.log.LogEvent.{LogEvent}
use Rattle.run_log.specs.Logs.{entry_of, entries_of, event_of, events_of}
use Rattle.run_log.specs.LogStamps.{LinkStamps, StampDifference, start_stamps, right_stamp, stamps_after, follows, order_difference, event_difference, or_later, stamp_difference, HasRightStamps}
use Rattle.run_log.specs.Laws.{MergedStampsAreRight}
use Rattle.run_log.proofs.TakenLaws.{logged, deeds_in, deeds_own, told_again, deeds_by_stamp, gained_first, none_gained}
use Rattle.run_log.proofs.StampStepLaws.{Marks, right_is, marks_after, marks_start}

-- each event follows the one before it
abbrev pub Followed : Option LogEvent → List LogEvent → Type 0
Followed before [] = Unit {0}
Followed before (e ∷ log) = ((k : ℕ) → order_difference k before e ≡ None) × Followed (Some e) log

follows_before : (a b : LogEvent) → ComesBefore (entry_of a) (entry_of b) → follows a b ≡ true
follows_before a b h = elim h [
  | inl low ↦ or_left (nat_lt a.stamp b.stamp) (a.stamp == b.stamp && nat_lt a.agent b.agent) (lt-ltb a.stamp b.stamp low)
  | inr tie ↦
      or_right (nat_lt a.stamp b.stamp) (a.stamp == b.stamp && nat_lt a.agent b.agent)
      (and_from (a.stamp == b.stamp) (nat_lt a.agent b.agent) (eq-eqb a.stamp b.stamp tie.0) (lt-ltb a.agent b.agent tie.1))
]

followed_behind : (e : LogEvent) (log : List LogEvent) → ComesFirst (entry_of e) (entries_of log) → IsOrdered (entries_of log) → Followed (Some e) log
followed_behind e [] first h = tt
followed_behind e (f ∷ log) first h = (
  λ k. ap (λ (b : Bool). let d : StampDifference = record { event = k; left = f.stamp; right = e.stamp } in if b then None else Some d) (follows_before e f first.0),
  followed_behind f log h.0 h.1,
)

-- and so do those of a log in order
pub followed : (log : List LogEvent) → IsOrdered (entries_of log) → Followed None log
followed [] h = tt
followed (e ∷ log) h = (λ k. refl, followed_behind e log h.0 h.1)

-- the network after one activation of a run
pub record Next (n : ℕ) (net : Network) (now : ℕ → Account) (d : Deed) : Type 0 where
  pub net_is : Network
  pub happens : happen (Some net) (event_done d) ≡ Some net_is
  pub effected : effect net (event_done d) ≡ net_is
  pub shows : Shows n net_is (after_one now d)

effect_is : (net one : Network) (e : Event) → Happens net e one → effect net e ≡ one
effect_is net one e h = rw (h.views, h.desks) h.after

-- one activation that its agent's account allows
pub own_alone : (n : ℕ) (now : ℕ → Account) (d : Deed) → IsDeed n (now d.agent) d → (i : ℕ) → AreDeeds n (now i) (deeds_of i (d ∷ []))
own_alone n now d deed i = elim (cases_eq d.agent i) [
  | inl same ↦
      subst (λ (b : Bool). AreDeeds n (now i) ((if b then d ∷ [] else []) ++ [])) (sym (eq-eqb d.agent i same))
      (subst (λ (k : ℕ). AreDeeds n (now k) (d ∷ [])) same (deed, tt))
  | inr other ↦ subst (λ (b : Bool). AreDeeds n (now i) ((if b then d ∷ [] else []) ++ [])) (sym (ne_eqb d.agent i other)) tt
]

-- it leads to a network, which the accounts after it show
pub next_of : (n : ℕ) (net : Network) (now : ℕ → Account) (d : Deed) → Shows n net now → TakenIsPrefix now → IsDeed n (now d.agent) d → TakenIsPrefix (after_one now d) → Next n net now d
next_of n net now d shows before deed taken =
    let ends : EndsAt n net (d ∷ []) (after_all now (d ∷ [])) =
    stamps_order n net now ((d ∷ []) ∷ []) shows before (own_alone n now d deed) ((omega arith, tt), subst TakenIsPrefix (same_after now d []) taken, tt) in
    record {
      net_is = ends.end;
      happens = ends.leads;
      effected = effect_is net ends.end (event_done d) (happens_from net ends.end (event_done d) ends.leads);
      shows = subst (λ (f : ℕ → Account). Shows n ends.end f) (sym (same_after now d [])) ends.shows;
    }

none_first : (a b : Option StampDifference) → a ≡ None → b ≡ None → or_later a b ≡ None
none_first a b p q = subst (λ (o : Option StampDifference). or_later o b ≡ None) (sym p) q

no_difference : (k right : ℕ) (before : Option LogEvent) (e : LogEvent) → e.stamp ≡ right → order_difference k before e ≡ None → event_difference k right before e ≡ None
no_difference k right before e same after =
    ap (λ (b : Bool). let d : StampDifference = record { event = k; left = e.stamp; right = right } in if b then order_difference k before e else Some d) (eq-eqb e.stamp right same) ∙ after

-- activations that the accounts allow, by stamp, have right stamps
pub right_from : (n k : ℕ) (ds : List Deed) (b : ℕ) (net : Network) (now : ℕ → Account) (s : LinkStamps) (last : Option LogEvent) → Shows n net now → TakenIsPrefix now
    → ((i : ℕ) → AreDeeds n (now i) (deeds_of i ds)) → ByStampFrom b ds → TakenIsPrefix (after_all now ds) → Marks n now s → Followed last (map logged ds)
    → stamp_difference k (Some net) s last (map logged ds) ≡ None
right_from n k [] b net now s last shows before deeds sorted after marks follow = refl
right_from n k (d ∷ ds) b net now s last shows before deeds sorted after marks follow =
    let i : ℕ = d.agent in
    let x : Account = now i in
    let e : LogEvent = logged d in
    let deed = deed_now n now d ds (deeds i) in
    let next : (j : ℕ) → IsPrefix (gained_from j d.gains) (before i j).0 = λ j. next_prefix now d ds j (before i j) deed.right sorted.1 after in
    let taken : TakenIsPrefix (after_one now d) = still_prefix now d before (λ j. longer_prefix j x.gains d.gains (posted_to i (now j).posted) (before i j) (next j)) in
    let one = next_of n net now d shows before deed taken in
    let later : TakenIsPrefix (after_all (after_one now d) ds) = subst TakenIsPrefix (sym (same_after now d ds)) after in
    let rest : stamp_difference (k + 1) (Some one.net_is) (stamps_after net s e one.net_is) (Some e) (map logged ds) ≡ None =
    right_from n (k + 1) ds d.stamp one.net_is (after_one now d) (stamps_after net s e one.net_is) (Some e) one.shows taken (λ j. deeds_next n now d ds j (deeds j)) sorted.1 later
    (marks_after n net one.net_is now s d shows one.shows marks) follow.1 in
    none_first (event_difference k (right_stamp net s e) last e) (stamp_difference (k + 1) (happen (Some net) (event_of e)) (stamps_after net s e (effect net (event_of e))) (Some e) (map logged ds))
    (no_difference k (right_stamp net s e) last e (right_is n net now s d shows marks deed before next) (follow.0 k))
    (subst (λ (o : Option Network). stamp_difference (k + 1) o (stamps_after net s e (effect net (event_of e))) (Some e) (map logged ds) ≡ None) (sym one.happens)
    (subst (λ (a : Network). stamp_difference (k + 1) (Some one.net_is) (stamps_after net s e a) (Some e) (map logged ds) ≡ None) (sym one.effected) rest))

module _ (budget : ℕ) (made : List View) (cells : List CellState) (end : Network) (log : List LogEvent) (r : IsRunOfCells budget made cells end) (m : IsMerge (journals_of cells) (entries_of log)) where
  abbrev n : ℕ
  n = length made

  abbrev now : ℕ → Account
  now = r.right.now

  abbrev taken : ℕ → ℕ → List (ℕ × Message)
  taken = r.right.taken

  abbrev all : List Deed
  all = deeds_in taken log

  -- the activations of each agent are those of its journal
  abbrev own : ℕ → List Deed
  own i = deeds_from i (taken i) (journal_at (journals_of cells) i)

  own_is : (i : ℕ) → deeds_of i all ≡ own i
  own_is i = deeds_own i taken log ∙ ap (deeds_from i (taken i)) (m.whole i)

  allowed : (i : ℕ) → AreDeeds n (now i) (deeds_of i all)
  allowed i = subst (λ (ds : List Deed). AreDeeds n (now i) ds) (sym (own_is i)) (r.right.allowed i)

  again : map logged all ≡ log
  again = told_again taken log (λ i. subst (AreEnough (taken i)) (sym (m.whole i)) (r.right.enough i))

  sized : length cells ≡ n
  sized = sym (length-map cells (λ (c : CellState). c.journal)) ∙ r.in_rounds.sized

  -- what each agent took is a first part of what was sent to it
  reached_gains : (i j : ℕ) → gained_from j (after_all now all i).gains ≡ gained_from j (gains_in (own i))
  reached_gains i j =
      ap (λ (ds : List Deed). gained_from j (fold do_one (now i) ds).gains) (own_is i)
      ∙ ap (gained_from j) (gains_are (now i) (own i) ∙ ap (λ (gs : List Gain). gs ++ gains_in (own i)) (r.right.starts.idle i))

  nothing : (i j : ℕ) → gained_from j (gains_in (own i)) ≡ [] → IsPrefix (gained_from j (after_all now all i).gains) (posted_to i (after_all now all j).posted)
  nothing i j e = (posted_to i (after_all now all j).posted, ap (λ (es : List (ℕ × Message)). es ++ posted_to i (after_all now all j).posted) (reached_gains i j ∙ e))

  prefix : TakenIsPrefix (after_all now all)
  prefix i j = elim (cases_lt i n) [
    | inr out ↦
        let size = sized in
        let long = length-map cells (λ (c : CellState). c.journal) in
        nothing i j (ap (λ (es : List Entry). gained_from j (gains_in (deeds_from i (taken i) es))) (get_or_past (journals_of cells) i [] (omega (arith, out, size, long))))
    | inl in_i ↦
        elim (cases_lt j n) [
          | inr out ↦ nothing i j (none_gained n j (now i) (own i) (r.right.allowed i) out)
          | inl in_j ↦
              let size = sized in
              let to = there cells i (omega (arith, in_i, size)) in
              let from = there cells j (omega (arith, in_j, size)) in
              let link_is = r.links i j to.0 from.0 to.1 from.1 in
              let first = gained_first n i (now i) (taken i) (journal_at (journals_of cells) i) (r.right.allowed i) (r.right.enough i) j in
              let sent : posted_to i (after_all now all j).posted ≡ posted_to i (fold do_one (now j) (own j)).posted = ap (λ (ds : List Deed). posted_to i (fold do_one (now j) ds).posted) (own_is j) in
              longer (gained_from j (after_all now all i).gains) (gained_from j (gains_in (own i))) (taken i j) (posted_to i (after_all now all j).posted) (reached_gains i j) first (
                link_is.prefix.0,
                ap (λ (es : List (ℕ × Message)). es ++ link_is.prefix.0) (r.right.lists i j to.0 to.1) ∙ link_is.prefix.1 ∙ r.right.sent j i from.0 from.1 ∙ sym sent,
              )
        ]
  ]
    where
      longer : (es fs ls ps : List (ℕ × Message)) → es ≡ fs → IsPrefix fs ls → IsPrefix ls ps → IsPrefix es ps
      longer es fs ls ps same a b = (
        a.0 ++ b.0,
        ap (λ (gs : List (ℕ × Message)). gs ++ (a.0 ++ b.0)) same ∙ sym (append_assoc fs a.0 b.0) ∙ ap (λ (gs : List (ℕ × Message)). gs ++ b.0) a.1 ∙ b.1,
      )

  started : (i : ℕ) → i < n → (v : View) × (now i ≡ account_of v)
  started i lt = elim (slice_get_cases made i).1 [
    | inl there ↦ (there.0, r.right.starts.started i there.0 there.2)
    | inr past ↦ absurd (omega (arith, past.0, lt))
  ]

  right : HasRightStamps made log
  right =
      let show = starts_show made now r.right.starts in
      let marks : Marks n now (start_stamps (start_state made)) =
      marks_start n (start_state made) now show.0 (λ i lt. ap (λ (x : Account). x.stamp) (started i lt).1) (λ i lt. ((start_of (started i lt).0).sends, ap (λ (x : Account). x.posted) (started i lt).1)) in
      subst (λ (l : List LogEvent). stamp_difference 1 (Some (start_state made)) (start_stamps (start_state made)) None l ≡ None) again
      (right_from n 1 all 0 (start_state made) now (start_stamps (start_state made)) None show.0 show.1 allowed (deeds_by_stamp taken log m.ordered) prefix marks
      (subst (λ (l : List LogEvent). Followed None l) (sym again) (followed log m.ordered)))

events_same : (log : List LogEvent) → events_in (entries_of log) ≡ events_of log
events_same [] = refl
events_same (e ∷ log) = ap (λ (es : List Event). event_of e ∷ es) (events_same log)

pub merged_stamps_are_right : MergedStampsAreRight
merged_stamps_are_right budget made cells end log r m = record {
  leads = ap (λ (es : List Event). run (start_state made) es) (sym (events_same log)) ∙ r.merges (entries_of log) m;
  right = right budget made cells end log r m;
}
