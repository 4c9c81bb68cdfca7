-- One piece: new activations of all agents, by stamp and then agent, are a run from the network of their accounts, and a round.
use Rattle.std.proofs.Common.{◌≡◌, ℕ, ◌+◌, ◌-◌, ◌≤◌, ◌<◌, Bool, true, false, min, ◌==◌, if◌then◌else◌, List, [], ◌∷◌, ◌++◌, map, length, drop, Option, Some, refl, sym, ap, subst, ◌∙◌, inl, inr, arith}
use Rattle.std.specs.List.{All, slice_get, fold, flat_map}
use Rattle.std.proofs.Math.Path.{fun_ext}
use Rattle.std.proofs.Math.Seq.{drop-nil}
use Rattle.std.proofs.lemmas.Bool.{cases_Bool, cases_lt, eq-eqb}
use Rattle.std.proofs.lemmas.Option.{slice_get_within}
use Rattle.std.proofs.lemmas.List.{append-nil, length-append, length-map}
use Rattle.std.proofs.lemmas.List.Elements.{All-nil, All-cons, All-head, All-tail, All-weaker, All-map}
use Rattle.protocol_steps.specs.declared.message.Message.{Message}
use Rattle.protocol_steps.specs.declared.event.Take.{Take}
use Rattle.protocol_steps.specs.declared.event.Event.{Event}
use Rattle.protocol_steps.specs.View.{ended_of}
use Rattle.protocol_steps.specs.Network.{Desk, Network, messages_to, taken_from, sent_at, takes_at, waiting}
use Rattle.protocol_steps.specs.Effect.{pending_at, pending}
use Rattle.protocol_steps.specs.Run.{run, journal}
use Rattle.protocol_steps.specs.Rounds.{most_events, link_share, taken_in, AreShares, TakeShares, IsRound}
use Rattle.protocol_steps.specs.Stamps.{Gain, Deed, Account, do_one}
use Rattle.protocol_steps.specs.Deeds.{takes_of, event_of, AreDeeds, deeds_of, after_all, posted_to, gained_from}
use Rattle.protocol_steps.specs.StampLaw.{TakenIsPrefix, ByStampFrom, Shows, EndsAt}
use Rattle.protocol_steps.proofs.StampLaws.{waits_by, stamps_order}
use Rattle.protocol_steps.proofs.JournalStampLaws.{journal_of_deeds}
use Rattle.worker_laws.specs.Sprints.{TakesFew}
use Rattle.worker_laws.proofs.SortLaws.{Before, First, Ordered, Above, Rising, OfAgent, Sorted, sorted}
use Rattle.worker_laws.proofs.EachLaws.{past}
use Rattle.worker_laws.proofs.TakeLaws.{deed_agent, deed_stamp, gains_in, taken_of}

-- right stamps rise
deeds_above : (n k : ℕ) (x : Account) (ds : List Deed) → k ≤ x.stamp → AreDeeds n x ds → Above deed_agent deed_stamp k ds
deeds_above n k x [] le h = tt
deeds_above n k x (d ∷ ds) le h = let right = h.0.right in (omega (arith, le, right), deeds_above n k (do_one x d) ds (omega (arith, le, right)) h.1)

pub deeds_rise : (n : ℕ) (x : Account) (ds : List Deed) → AreDeeds n x ds → Rising deed_agent deed_stamp ds
deeds_rise n x [] h = tt
deeds_rise n x (d ∷ ds) h = (deeds_above n d.stamp (do_one x d) ds (omega arith) h.1, deeds_rise n (do_one x d) ds h.1)

-- ordered activations are by stamp
by_stamp_from : (d : Deed) (ds : List Deed) → First deed_agent deed_stamp d ds → Ordered deed_agent deed_stamp ds → ByStampFrom d.stamp ds
by_stamp_from d [] h k = tt
by_stamp_from d (e ∷ es) h k = (low d e h.0, by_stamp_from e es k.0 k.1)
  where
    low : (d e : Deed) → Before deed_agent deed_stamp d e → d.stamp ≤ e.stamp
    low d e b = elim b [ inl less ↦ omega (arith, less) | inr same ↦ let is = same.0 in omega (arith, is) ]

pub by_stamp : (ds : List Deed) → Ordered deed_agent deed_stamp ds → ByStampFrom 0 ds
by_stamp [] h = tt
by_stamp (d ∷ ds) h = (omega arith, by_stamp_from d ds h.0 h.1)

-- the accounts after new activations
abbrev pub next : (ℕ → Account) → (ℕ → List Deed) → ℕ → Account
next now new i = fold do_one (now i) (new i)

-- the new activations as one run
pub record Piece (n : ℕ) (net : Network) (now : ℕ → Account) (new : ℕ → List Deed) : Type 0 where
  pub deeds : List Deed
  pub ordered : Ordered deed_agent deed_stamp deeds
  pub own_is : (i : ℕ) → deeds_of i deeds ≡ new i
  pub end : Network
  pub leads : run net (map event_of deeds) ≡ Some end
  pub shows : Shows n end (next now new)

module _ (n : ℕ) (net : Network) (now : ℕ → Account) (new : ℕ → List Deed) (shows : Shows n net now) (before : TakenIsPrefix now)
    (of : (i : ℕ) → OfAgent deed_agent deed_stamp i (new i)) (allowed : (i : ℕ) → AreDeeds n (now i) (new i)) (none : (i : ℕ) → n ≤ i → new i ≡ []) (after : TakenIsPrefix (next now new)) where
  abbrev all : Sorted deed_agent deed_stamp n new
  all = sorted deed_agent deed_stamp n new (λ i lt. of i) (λ i lt. deeds_rise n (now i) (new i) (allowed i))

  all_own : (i : ℕ) → deeds_of i all.all ≡ new i
  all_own i = elim (cases_lt i n) [ inl lt ↦ all.own_is i lt | inr le ↦ all.none i le ∙ sym (none i le) ]

  all_next : after_all now all.all ≡ next now new
  all_next = fun_ext (λ i. ap (λ (ds : List Deed). fold do_one (now i) ds) (all_own i))

  pub piece : Piece n net now new
  piece =
      let ends : EndsAt n net (all.all ++ []) (after_all now (all.all ++ [])) =
      stamps_order n net now (all.all ∷ []) shows before
      (λ i. subst (λ (ds : List Deed). AreDeeds n (now i) ds) (sym (ap (deeds_of i) (append-nil all.all) ∙ all_own i)) (allowed i))
      (by_stamp all.all all.ordered, subst TakenIsPrefix (sym all_next) after, tt) in
      let whole : EndsAt n net all.all (after_all now all.all) = subst (λ (ds : List Deed). EndsAt n net ds (after_all now ds)) (append-nil all.all) ends in
      record {
        deeds = all.all;
        ordered = all.ordered;
        own_is = all_own;
        end = whole.end;
        leads = whole.leads;
        shows = subst (λ (f : ℕ → Account). Shows n whole.end f) all_next whole.shows;
      }

-- what waits on a link, by lengths
pub left_long : (n : ℕ) (net : Network) (now : ℕ → Account) → Shows n net now → TakenIsPrefix now → (i j : ℕ) → i < n → j < n
    → length (waiting net.desks i j) + length (gained_from j (now i).gains) ≡ length (posted_to i (now j).posted)
left_long n net now shows before i j in_i in_j =
    let p = before i j in
    let waits : length (waiting net.desks i j) ≡ length p.0 = ap length (waits_by n net now shows i j in_i in_j p) ∙ length-map p.0 (λ (e : ℕ × Message). e.1) in
    let both : length (gained_from j (now i).gains) + length p.0 ≡ length (posted_to i (now j).posted) = sym (length-append (gained_from j (now i).gains) p.0) ∙ ap length p.1 in
    omega (arith, waits, both)

-- nothing waits of who is no agent
none_waits : (n : ℕ) (net : Network) (now : ℕ → Account) → Shows n net now → (i j : ℕ) → n ≤ j → waiting net.desks i j ≡ []
none_waits n net now shows i j le =
    let size = shows.size in
    ap (λ (o : Option Desk). drop (taken_from j (takes_at (slice_get net.desks i))) (messages_to i (sent_at o))) (past net.desks j (omega (arith, le, size)))
    ∙ drop-nil (taken_from j (takes_at (slice_get net.desks i)))

-- activations take shares, where those of each agent do
few_in_all : (ds : List Deed) → ((i : ℕ) → All TakesFew (deeds_of i ds)) → All TakesFew ds
few_in_all [] h = All-nil TakesFew
few_in_all (d ∷ ds) h =
    let first : All TakesFew (d ∷ deeds_of d.agent ds) =
    subst (λ (b : Bool). All TakesFew ((if b then d ∷ [] else []) ++ deeds_of d.agent ds)) (eq-eqb d.agent d.agent refl) (h d.agent) in
    All-cons TakesFew d ds (All-head TakesFew d (deeds_of d.agent ds) first) (few_in_all ds (λ i. later (d.agent == i) d (deeds_of i ds) (h i)))
  where
    later : (b : Bool) (d : Deed) (ds : List Deed) → All TakesFew ((if b then d ∷ [] else []) ++ ds) → All TakesFew ds
    later true d ds h = All-tail TakesFew d ds h
    later false d ds h = h

deed_shares : (d : Deed) → TakesFew d → AreShares (takes_of d.gains)
deed_shares d h = All-map (λ (t : Take). t.count ≤ link_share) (λ (g : Gain). record { from = g.from; count = length g.envelopes }) d.gains h

share_events : (ds : List Deed) → All TakesFew ds → TakeShares (map event_of ds)
share_events ds h = All-map (λ (e : Event). AreShares e.takes) event_of ds (All-weaker TakesFew (λ (d : Deed). AreShares (takes_of d.gains)) deed_shares ds h)

-- such a run is a round, where no agent has too many activations or takes too much in one, and those of an agent that had not ended serve its links
pub round_of : (n : ℕ) (net : Network) (now : ℕ → Account) (new : ℕ → List Deed) → Shows n net now → TakenIsPrefix now → (p : Piece n net now new)
    → ((i : ℕ) → length (new i) ≤ most_events)
    → ((i : ℕ) → All TakesFew (new i))
    → ((i j : ℕ) → i < n → j < n → ended_of (now i).view ≡ false
    → min link_share (length (posted_to i (now j).posted) - length (gained_from j (now i).gains)) ≤ length (gained_from j (gains_in (new i))))
    → IsRound net (map event_of p.deeds) p.end
round_of n net now new shows before p short shares serves = record {
  leads = p.leads;
  few = λ i.
      let long : length (journal i (map event_of p.deeds)) ≡ length (new i) = ap length (journal_is i) ∙ length-map (new i) (λ (d : Deed). takes_of d.gains) in
      let low = short i in
      omega (arith, long, low);
  bounded = share_events p.deeds (few_in_all p.deeds (λ i. subst (λ (ds : List Deed). All TakesFew ds) (sym (p.own_is i)) (shares i)));
  served = λ i j alive.
      let size = p.shows.agents in
      let in_end = slice_get_within p.end.views i alive.0 alive.1 in
      let in_i : i < n = omega (arith, in_end, size) in
      let taken : taken_in i j (map event_of p.deeds) ≡ length (gained_from j (gains_in (new i))) = ap (λ (tss : List (List Take)). taken_from j (flat_map (λ ts. ts) tss)) (journal_is i) ∙ taken_of j (new i) in
      let is_pending : pending net i j ≡ (if ended_of (now i).view then [] else waiting net.desks i j) = ap (pending_at net i j) (shows.views i in_i) in
      elim (cases_Bool (ended_of (now i).view)) [
        | inl done ↦
            let nothing : length (pending net i j) ≡ 0 = ap length (is_pending ∙ ap (λ (b : Bool). if b then [] else waiting net.desks i j) done) in
            omega (arith, nothing)
        | inr live ↦
            let waits : length (pending net i j) ≡ length (waiting net.desks i j) = ap length (is_pending ∙ ap (λ (b : Bool). if b then [] else waiting net.desks i j) live) in
            elim (cases_lt j n) [
              | inl in_j ↦
                  let left = left_long n net now shows before i j in_i in_j in
                  let least = serves i j in_i in_j live in
                  omega (arith, waits, left, least, taken)
              | inr out ↦
                  let nothing : length (waiting net.desks i j) ≡ 0 = ap length (none_waits n net now shows i j out) in
                  omega (arith, waits, nothing)
            ]
      ];
}
  where
    journal_is : (i : ℕ) → journal i (map event_of p.deeds) ≡ map (λ (d : Deed). takes_of d.gains) (new i)
    journal_is i = journal_of_deeds i p.deeds ∙ ap (λ (ds : List Deed). map (λ (d : Deed). takes_of d.gains) ds) (p.own_is i)
