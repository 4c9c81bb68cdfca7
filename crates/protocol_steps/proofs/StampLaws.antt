-- The stamp law: activations by piece and by stamp are a run, since what is taken has a lower stamp than what is sent later.
use Rattle.std.proofs.Common.{◌≡◌, ℕ, ◌+◌, ◌<◌, Bool, ◌==◌, if◌then◌else◌, max, List, [], ◌∷◌, ◌++◌, map, length, drop, Option, Some, None, refl, sym, ap, subst, ◌∙◌, inl, inr, arith}
use Rattle.std.specs.List.{slice_get, slice_set, fold}
use Rattle.std.proofs.Math.Path.{fun_ext}
use Rattle.std.proofs.lemmas.Bool.{cases_Bool, cases_eq, ne_eqb, eq-eqb, eqb-true}
use Rattle.std.proofs.lemmas.List.{append-nil, append_assoc, append_cancel_left, map-append, length-set}
use Rattle.std.proofs.lemmas.List.Concat.{flat_map-append}
use Rattle.std.proofs.lemmas.List.Sums.{fold-append}
use Rattle.protocol_steps.specs.declared.message.Message.{Message}
use Rattle.protocol_steps.specs.declared.event.Take.{Take}
use Rattle.protocol_steps.specs.declared.event.Event.{Event}
use Rattle.protocol_steps.specs.declared.event.EventFault.{EventFault}
use Rattle.protocol_steps.specs.View.{View, ended_of}
use Rattle.protocol_steps.specs.Step.{step_of}
use Rattle.protocol_steps.specs.Network.{Desk, Network, messages_to, taken_from, sent_at, takes_at, waiting}
use Rattle.protocol_steps.specs.Effect.{desk_after, network_after}
use Rattle.protocol_steps.specs.Run.{or_else, form_fault, too_many, happen, run}
use Rattle.protocol_steps.specs.Stamps.{Gain, Deed, Posted, Account, post, letters_of, do_one}
use Rattle.protocol_steps.specs.Deeds.{takes_of, event_of, greatest_of, IsDeed, AreDeeds, own_deed, deeds_of, after_all, posted_to, gained_from, gain_from, envelope_to}
use Rattle.protocol_steps.specs.StampLaw.{IsPrefix, TakenIsPrefix, ByStampFrom, all_of, desk_of, Shows, StampsOrder}
use Rattle.protocol_steps.proofs.EventLaws.{Happens, happens_to, get_same, get_other}
use Rattle.protocol_steps.proofs.AccountLaws.{within, Later, sent_later, taken_later, high_posted, low_gained, plain, sent_plain, taken_count, drop_front, all_next, form_parts}

-- all accounts after one activation
abbrev pub after_one : (ℕ → Account) → Deed → ℕ → Account
after_one now d i = fold do_one (now i) (own_deed i d)

pub same_after : (now : ℕ → Account) (d : Deed) (ds : List Deed) → after_all (after_one now d) ds ≡ after_all now (d ∷ ds)
same_after now d ds = fun_ext (λ i. sym (fold-append do_one (now i) (own_deed i d) (deeds_of i ds)))

pub same_pieces : (now : ℕ → Account) (ds es : List Deed) → after_all (after_all now ds) es ≡ after_all now (ds ++ es)
same_pieces now ds es = fun_ext (λ i.
    sym (fold-append do_one (now i) (deeds_of i ds) (deeds_of i es)) ∙ ap (λ (all : List Deed). fold do_one (now i) all) (sym (flat_map-append (own_deed i) ds es)))

-- what was taken before, taken off both sides
regroup : (g m l r p q u : List (ℕ × Message)) → (g ++ m) ++ l ++ r ≡ p ++ q → g ++ u ≡ p → m ++ (l ++ r) ≡ u ++ q
regroup g m l r p q u e now =
    append_cancel_left g (m ++ (l ++ r)) (u ++ q)
    (sym (append_assoc g m (l ++ r)) ∙ sym (append_assoc (g ++ m) l r) ∙ e ∙ ap (λ (xs : List (ℕ × Message)). xs ++ q) (sym now) ∙ append_assoc g u q)

-- the account of an activation's own agent, after it and later ones
own_account : (now : ℕ → Account) (d : Deed) (ds : List Deed) → after_all now (d ∷ ds) d.agent ≡ fold do_one (do_one (now d.agent) d) (deeds_of d.agent ds)
own_account now d ds = ap (λ (own : Bool). fold do_one (now d.agent) ((if own then d ∷ [] else []) ++ deeds_of d.agent ds)) (eq-eqb d.agent d.agent refl)

-- what an activation takes is the first part of what waits
pub next_prefix : (now : ℕ → Account) (d : Deed) (ds : List Deed) (j : ℕ) → (before : IsPrefix (gained_from j (now d.agent).gains) (posted_to d.agent (now j).posted))
    → d.stamp ≡ max (now d.agent).stamp (greatest_of d.gains) + 1 → ByStampFrom d.stamp ds → TakenIsPrefix (after_all now (d ∷ ds)) → IsPrefix (gained_from j d.gains) before.0
next_prefix now d ds j before right sorted after =
    let i : ℕ = d.agent in
    let x : Account = now i in
    let l : Later (now j).posted (after_all now (d ∷ ds) j).posted d.stamp = sent_later (d ∷ ds) (now j) d.stamp j (omega arith, sorted) in
    let k = taken_later (deeds_of i ds) (do_one x d) in
    let end = after i j in
    let gains : gained_from j (after_all now (d ∷ ds) i).gains ≡ (gained_from j x.gains ++ gained_from j d.gains) ++ gained_from j k.more =
    ap (λ (y : Account). gained_from j y.gains) (own_account now d ds)
    ∙ ap (λ (gs : List Gain). gained_from j gs) k.is
    ∙ flat_map-append (gain_from j) (x.gains ++ d.gains) k.more
    ∙ ap (λ (es : List (ℕ × Message)). es ++ gained_from j k.more) (flat_map-append (gain_from j) x.gains d.gains) in
    let posted : posted_to i (after_all now (d ∷ ds) j).posted ≡ posted_to i (now j).posted ++ posted_to i l.more =
    ap (λ (ps : List Posted). posted_to i ps) l.is ∙ flat_map-append (envelope_to i) (now j).posted l.more in
    let whole : (gained_from j x.gains ++ gained_from j d.gains) ++ gained_from j k.more ++ end.0 ≡ posted_to i (now j).posted ++ posted_to i l.more =
    ap (λ (es : List (ℕ × Message)). es ++ end.0) (sym gains) ∙ end.1 ∙ posted in
    within d.stamp (gained_from j d.gains) (gained_from j k.more ++ end.0) before.0 (posted_to i l.more)
    (regroup (gained_from j x.gains) (gained_from j d.gains) (gained_from j k.more) end.0 (posted_to i (now j).posted) (posted_to i l.more) before.0 whole before.1)
    (low_gained j d.stamp d.gains (omega (arith, right)))
    (high_posted i d.stamp l.more l.high)

-- after an activation, what was taken is still a first part of what was sent
pub still_prefix : (now : ℕ → Account) (d : Deed) → TakenIsPrefix now → ((j : ℕ) → IsPrefix (gained_from j ((now d.agent).gains ++ d.gains)) (posted_to d.agent (now j).posted)) → TakenIsPrefix (after_one now d)
still_prefix now d before own i j =
    let taken : IsPrefix (gained_from j (after_one now d i).gains) (posted_to i (now j).posted) = elim (cases_Bool (d.agent == i)) [
      | inl mine ↦
          let same : d.agent ≡ i = eqb-true d.agent i mine in
          subst (λ (own_one : Bool). IsPrefix (gained_from j (fold do_one (now i) (if own_one then d ∷ [] else [])).gains) (posted_to i (now j).posted)) (sym mine)
          (subst (λ (k : ℕ). IsPrefix (gained_from j ((now k).gains ++ d.gains)) (posted_to k (now j).posted)) same (own j))
      | inr other ↦
          subst (λ (own_one : Bool). IsPrefix (gained_from j (fold do_one (now i) (if own_one then d ∷ [] else [])).gains) (posted_to i (now j).posted)) (sym other) (before i j)
    ] in
    let l : Later (now j).posted (after_all now (d ∷ []) j).posted 0 = sent_later (d ∷ []) (now j) 0 j (omega arith, tt) in
    let all : (after_all now (d ∷ []) j) ≡ after_one now d j = ap (λ (ds : List Deed). fold do_one (now j) ds) (append-nil (own_deed j d)) in
    let posted : posted_to i (after_one now d j).posted ≡ posted_to i (now j).posted ++ posted_to i l.more =
    ap (λ (y : Account). posted_to i y.posted) (sym all) ∙ ap (λ (ps : List Posted). posted_to i ps) l.is ∙ flat_map-append (envelope_to i) (now j).posted l.more in (
      taken.0 ++ posted_to i l.more,
      sym (append_assoc (gained_from j (after_one now d i).gains) taken.0 (posted_to i l.more)) ∙ ap (λ (es : List (ℕ × Message)). es ++ posted_to i l.more) taken.1 ∙ sym posted,
    )

-- what waits on a link is what was sent and not taken, by the accounts
pub waits_by : (n : ℕ) (net : Network) (now : ℕ → Account) → Shows n net now → (i j : ℕ) → i < n → j < n → (before : IsPrefix (gained_from j (now i).gains) (posted_to i (now j).posted))
    → waiting net.desks i j ≡ plain before.0
waits_by n net now shows i j in_i in_j before =
    ap (λ (o : Option Desk). drop (taken_from j (takes_at o)) (messages_to i (sent_at (slice_get net.desks j)))) (shows.desks i in_i)
    ∙ ap (λ (o : Option Desk). drop (taken_from j (takes_of (now i).gains)) (messages_to i (sent_at o))) (shows.desks j in_j)
    ∙ ap (λ (k : ℕ). drop k (messages_to i (desk_of (now j)).sent)) (taken_count j (now i).gains)
    ∙ ap (λ (ms : List Message). drop (length (gained_from j (now i).gains)) ms) (sent_plain i (now j).posted ∙ ap (λ (es : List (ℕ × Message)). plain es) (sym before.1))
    ∙ drop_front (gained_from j (now i).gains) before.0

pub unposted : (stamp : ℕ) (sends : List (ℕ × Message)) → map (λ p. (p.to, p.envelope.1)) (post stamp sends) ≡ sends
unposted stamp [] = refl
unposted stamp (p ∷ ps) = ap (λ (xs : List (ℕ × Message)). p ∷ xs) (unposted stamp ps)

-- the desk of an account after one more activation
desk_next : (x : Account) (d : Deed) → desk_after (desk_of x) (step_of x.view (letters_of d.gains)).sends (takes_of d.gains) ≡ desk_of (do_one x d)
desk_next x d =
    let sends : List (ℕ × Message) = (step_of x.view (letters_of d.gains)).sends in
    let sent : (desk_of x).sent ++ sends ≡ (desk_of (do_one x d)).sent =
    ap (λ (ps : List (ℕ × Message)). (desk_of x).sent ++ ps) (sym (unposted d.stamp sends)) ∙ sym (map-append (λ (p : Posted). (p.to, p.envelope.1)) x.posted (post d.stamp sends)) in
    ap (λ (ps : List (ℕ × Message)). let y : Desk = record { sent = ps; takes = takes_of x.gains ++ takes_of d.gains } in y) sent
    ∙ ap (λ (ts : List Take). let y : Desk = record { sent = (desk_of (do_one x d)).sent; takes = ts } in y) (sym (map-append (λ (g : Gain). let t : Take = record { from = g.from; count = length g.envelopes } in t) x.gains d.gains))

-- the view and the desk that the accounts show after one more activation
view_after : (views : List View) (now : ℕ → Account) (d : Deed) (j : ℕ) (v : View) → slice_get views j ≡ Some (now j).view → slice_get views d.agent ≡ Some v
    → slice_get (slice_set views d.agent (do_one (now d.agent) d).view) j ≡ Some (after_one now d j).view
view_after views now d j v at own = elim (cases_eq d.agent j) [
  | inl same ↦
      subst (λ (b : Bool). slice_get (slice_set views d.agent (do_one (now d.agent) d).view) j ≡ Some (fold do_one (now j) (if b then d ∷ [] else [])).view) (sym (eq-eqb d.agent j same))
      (subst (λ (k : ℕ). slice_get (slice_set views d.agent (do_one (now d.agent) d).view) k ≡ Some (do_one (now k) d).view) same (get_same views d.agent v (do_one (now d.agent) d).view own))
  | inr other ↦
      subst (λ (b : Bool). slice_get (slice_set views d.agent (do_one (now d.agent) d).view) j ≡ Some (fold do_one (now j) (if b then d ∷ [] else [])).view) (sym (ne_eqb d.agent j other))
      (get_other views d.agent j (do_one (now d.agent) d).view other ∙ at)
]

desks_after : (desks : List Desk) (now : ℕ → Account) (d : Deed) (j : ℕ) (x : Desk) → slice_get desks j ≡ Some (desk_of (now j)) → slice_get desks d.agent ≡ Some x
    → slice_get (slice_set desks d.agent (desk_after (desk_of (now d.agent)) (step_of (now d.agent).view (letters_of d.gains)).sends (takes_of d.gains))) j ≡ Some (desk_of (after_one now d j))
desks_after desks now d j x at own =
    subst (λ (y : Desk). slice_get (slice_set desks d.agent y) j ≡ Some (desk_of (after_one now d j))) (sym (desk_next (now d.agent) d)) (elim (cases_eq d.agent j) [
      | inl same ↦
          subst (λ (b : Bool). slice_get (slice_set desks d.agent (desk_of (do_one (now d.agent) d))) j ≡ Some (desk_of (fold do_one (now j) (if b then d ∷ [] else [])))) (sym (eq-eqb d.agent j same))
          (subst (λ (k : ℕ). slice_get (slice_set desks d.agent (desk_of (do_one (now d.agent) d))) k ≡ Some (desk_of (do_one (now k) d))) same (get_same desks d.agent x (desk_of (do_one (now d.agent) d)) own))
      | inr other ↦
          subst (λ (b : Bool). slice_get (slice_set desks d.agent (desk_of (do_one (now d.agent) d))) j ≡ Some (desk_of (fold do_one (now j) (if b then d ∷ [] else [])))) (sym (ne_eqb d.agent j other))
          (get_other desks d.agent j (desk_of (do_one (now d.agent) d)) other ∙ at)
    ])

-- a first part, and then more of what is left
pub longer_prefix : (j : ℕ) (gs hs : List Gain) (all : List (ℕ × Message)) (before : IsPrefix (gained_from j gs) all) → IsPrefix (gained_from j hs) before.0 → IsPrefix (gained_from j (gs ++ hs)) all
longer_prefix j gs hs all before next = (
  next.0,
  ap (λ (es : List (ℕ × Message)). es ++ next.0) (flat_map-append (gain_from j) gs hs)
      ∙ append_assoc (gained_from j gs) (gained_from j hs) next.0
      ∙ ap (λ (es : List (ℕ × Message)). gained_from j gs ++ es) next.1
      ∙ before.1,
)

or_none : (a b : Option EventFault) → a ≡ None → b ≡ None → or_else a b ≡ None
or_none a b p q = subst (λ (o : Option EventFault). or_else o b ≡ None) (sym p) q

-- one activation as a lawful event
record Done (n : ℕ) (net : Network) (now : ℕ → Account) (d : Deed) : Type 0 where
  next : Network
  happens : Happens net (event_of d) next
  shows : Shows n next (after_one now d)
  taken : TakenIsPrefix (after_one now d)

one_deed : (n : ℕ) (net : Network) (now : ℕ → Account) (d : Deed) (ds : List Deed) → Shows n net now → TakenIsPrefix now → IsDeed n (now d.agent) d
    → ByStampFrom d.stamp ds → TakenIsPrefix (after_all now (d ∷ ds)) → Done n net now d
one_deed n net now d ds shows before deed sorted after =
    let i : ℕ = d.agent in
    let x : Account = now i in
    let ts : List Take = takes_of d.gains in
    let form = form_parts n (ended_of x.view) ts deed.form in
    let next : (j : ℕ) → IsPrefix (gained_from j d.gains) (before i j).0 = λ j. next_prefix now d ds j (before i j) deed.right sorted after in
    let there = all_next n net.desks i 0 d.gains form.0 form.1 (λ j le lt. record {
      rest = plain (next j).0;
      is = waits_by n net now shows i j deed.known lt (before i j) ∙ ap (λ (es : List (ℕ × Message)). plain es) (sym (next j).1) ∙ map-append (λ (e : ℕ × Message). e.1) (gained_from j d.gains) (next j).0;
    }) in
    let view : View = (step_of x.view (letters_of d.gains)).view in
    let desk : Desk = desk_after (desk_of x) (step_of x.view (letters_of d.gains)).sends ts in
    record {
      next = network_after net (event_of d) x.view (desk_of x) (letters_of d.gains);
      happens = record {
        view = x.view;
        desk = desk_of x;
        views = shows.views i deed.known;
        desks = shows.desks i deed.known;
        fine = or_none (form_fault (length net.desks) (ended_of x.view) ts) (too_many net.desks i ts)
            (subst (λ (k : ℕ). form_fault k (ended_of x.view) ts ≡ None) (sym shows.size) deed.form) there.0;
        after = ap (λ (ls : List (ℕ × Message)). network_after net (event_of d) x.view (desk_of x) ls) there.1;
      };
      shows = record {
        agents = length-set net.views i view ∙ shows.agents;
        size = length-set net.desks i desk ∙ shows.size;
        views = λ j lt. view_after net.views now d j x.view (shows.views j lt) (shows.views i deed.known);
        desks = λ j lt. desks_after net.desks now d j (desk_of x) (shows.desks j lt) (shows.desks i deed.known);
      };
      taken = still_prefix now d before (λ j. longer_prefix j x.gains d.gains (posted_to i (now j).posted) (before i j) (next j));
    }

-- what the account of each agent allows, after one activation
pub deeds_next : (n : ℕ) (now : ℕ → Account) (d : Deed) (ds : List Deed) (i : ℕ) → AreDeeds n (now i) (deeds_of i (d ∷ ds)) → AreDeeds n (after_one now d i) (deeds_of i ds)
deeds_next n now d ds i h = elim (cases_Bool (d.agent == i)) [
  | inl mine ↦
      let mine_h : AreDeeds n (now i) (d ∷ deeds_of i ds) = subst (λ (b : Bool). AreDeeds n (now i) ((if b then d ∷ [] else []) ++ deeds_of i ds)) mine h in
      subst (λ (b : Bool). AreDeeds n (fold do_one (now i) (if b then d ∷ [] else [])) (deeds_of i ds)) (sym mine) mine_h.1
  | inr other ↦
      subst (λ (b : Bool). AreDeeds n (fold do_one (now i) (if b then d ∷ [] else [])) (deeds_of i ds)) (sym other)
      (subst (λ (b : Bool). AreDeeds n (now i) ((if b then d ∷ [] else []) ++ deeds_of i ds)) other h)
]

pub deed_now : (n : ℕ) (now : ℕ → Account) (d : Deed) (ds : List Deed) → AreDeeds n (now d.agent) (deeds_of d.agent (d ∷ ds)) → IsDeed n (now d.agent) d
deed_now n now d ds h =
    let own : AreDeeds n (now d.agent) (d ∷ deeds_of d.agent ds) = subst (λ (b : Bool). AreDeeds n (now d.agent) ((if b then d ∷ [] else []) ++ deeds_of d.agent ds)) (eq-eqb d.agent d.agent refl) h in
    own.0

-- one piece is a run
record Ran (n : ℕ) (net : Network) (now : ℕ → Account) (ds more : List Deed) : Type 0 where
  next : Network
  leads : run net (map event_of ds) ≡ Some next
  shows : Shows n next (after_all now ds)
  deeds : (i : ℕ) → AreDeeds n (after_all now ds i) (deeds_of i more)

piece_runs : (n : ℕ) (ds more : List Deed) (b : ℕ) (net : Network) (now : ℕ → Account) → Shows n net now → TakenIsPrefix now → ((i : ℕ) → AreDeeds n (now i) (deeds_of i (ds ++ more)))
    → ByStampFrom b ds → TakenIsPrefix (after_all now ds) → Ran n net now ds more
piece_runs n [] more b net now shows before deeds sorted after = record { next = net; leads = refl; shows = shows; deeds = deeds }
piece_runs n (d ∷ ds) more b net now shows before deeds sorted after =
    let done = one_deed n net now d ds shows before (deed_now n now d (ds ++ more) (deeds d.agent)) sorted.1 after in
    let later : TakenIsPrefix (after_all (after_one now d) ds) = subst TakenIsPrefix (sym (same_after now d ds)) after in
    let ran = piece_runs n ds more d.stamp done.next (after_one now d) done.shows done.taken (λ i. deeds_next n now d (ds ++ more) i (deeds i)) sorted.1 later in
    record {
      next = ran.next;
      leads = subst (λ (o : Option Network). fold happen o (map event_of ds) ≡ Some ran.next) (sym (happens_to net done.next (event_of d) done.happens)) ran.leads;
      shows = subst (λ (f : ℕ → Account). Shows n ran.next f) (same_after now d ds) ran.shows;
      deeds = λ i. subst (λ (f : ℕ → Account). AreDeeds n (f i) (deeds_of i more)) (same_after now d ds) (ran.deeds i);
    }

pub stamps_order : StampsOrder
stamps_order n net now [] shows before deeds pieces = record { end = net; leads = refl; shows = shows }
stamps_order n net now (ds ∷ pieces) shows before deeds h =
    let ran = piece_runs n ds (all_of pieces) 0 net now shows before deeds h.0 h.1 in
    let rest = stamps_order n ran.next (after_all now ds) pieces ran.shows h.1 ran.deeds h.2 in
    record {
      end = rest.end;
      leads =
          ap (λ (es : List Event). run net es) (map-append event_of ds (all_of pieces))
          ∙ fold-append happen (Some net) (map event_of ds) (map event_of (all_of pieces))
          ∙ ap (λ (o : Option Network). fold happen o (map event_of (all_of pieces))) ran.leads
          ∙ rest.leads;
      shows = subst (λ (f : ℕ → Account). Shows n rest.end f) (same_pieces now ds (all_of pieces)) rest.shows;
    }
