-- What a cell has become after a visit.
use Rattle.std.proofs.Common.{◌≡◌, ℕ, zero, suc, ◌+◌, ◌*◌, ◌<◌, ◌≤◌, Bool, true, false, Option, Some, None, List, [], ◌∷◌, ◌++◌, length, take, drop, max, refl, sym, ap, ap₂, subst, ◌∙◌, inl, arith}
use Rattle.std.specs.Prelude.{◌==◌, if◌then◌else◌}
use Rattle.std.specs.List.{All, Contains, fold}
use Rattle.std.specs.List.Sorted.{IsStrictlyIncreasing}
use Rattle.std.proofs.lemmas.Bool.{true≢false, ne_eqb}
use Rattle.std.proofs.lemmas.List.{append-nil}
use Rattle.std.proofs.lemmas.List.Elements.{All-nil}
use Rattle.std.proofs.Math.ListN.{drop_of_length-le}
use Rattle.std.proofs.Math.Seq.{take-length}
use Rattle.dcop_base.specs.Table.{has}
use Rattle.dcop_base.specs.declared.knowledge.Private.{Private}
use Rattle.protocol_steps.specs.declared.message.Message.{Message}
use Rattle.protocol_steps.specs.declared.event.Take.{Take}
use Rattle.protocol_steps.specs.View.{View, TokenKind, DpopKind, AdoptKind, Origin, OfToken, OfDpop, OfAdopt, made_of, private_of, started_of, ended_of}
use Rattle.protocol_steps.specs.Machine.{MayReact, IsBatch, IsStart}
use Rattle.protocol_steps.specs.Step.{start_of, step_of}
use Rattle.protocol_steps.specs.Stamps.{Deed, Account, post, letters_of, do_one}
use Rattle.protocol_steps.specs.Deeds.{posted_to, gained_from}
use Rattle.protocol_steps.proofs.StartedLaws.{start_starts, step_started}
use Rattle.worker_laws.specs.Cells.{CellState, Lane, peers, lane, grown, known_from}
use Rattle.protocol_steps.specs.Run.{ascends_from, has_nothing}
use Rattle.protocol_steps.specs.Rounds.{link_share}
use Rattle.worker_laws.specs.Visits.{IsFew, IsFrom, IsTo, IsStarted, IsQuiet, IsVisit}
use Rattle.worker_laws.specs.Acts.{moment, IsLater}
use Rattle.worker_laws.proofs.LaneLaws.{lane_grown, has_from_contains}
use Rattle.worker_laws.proofs.VisitLaws.{quiet_later, event_later, later_then}
use Rattle.agent_cells.specs.declared.fault.VisitFault.{VisitFault}
use Rattle.agent_cells.specs.Receivers.{GoToNeighbours}
use Rattle.agent_cells.specs.Links.{Tail, Head, lanes_sent, lanes_taken, known_of, AreSameTails, AreSameHeads}
use Rattle.agent_cells.specs.Collected.{HasCollected}
use Rattle.agent_cells.specs.Handled.{IsHandled, IsAtEnd}
use Rattle.agent_cells.specs.Failed.{HasReachedEnd}
use Rattle.agent_cells.specs.State.{IsFreshCell, HasHistory, IsSoundCell}
use Rattle.agent_cells.proofs.FoundLaws.{are_gains, either-none}

-- an agent knows what it was made from
private_in : Origin → Private
private_in (OfToken own) = own
private_in (OfDpop own place) = own
private_in (OfAdopt own place error) = own

private-made : (v : View) → private_of v ≡ private_in (made_of v)
unfolding private_in
private-made (TokenKind v) = refl
private-made (DpopKind v) = refl
private-made (AdoptKind v) = refl

pub same_private : (v w : View) → made_of w ≡ made_of v → private_of w ≡ private_of v
same_private v w e = private-made w ∙ ap private_in e ∙ sym (private-made v)

-- the same ends lead to the same peers
pub tails_peers : (xs ys : List Tail) → AreSameTails xs ys → peers (lanes_sent ys) ≡ peers (lanes_sent xs)
tails_peers [] [] s = refl
tails_peers [] (y ∷ ys) s = let no : suc (length ys) ≡ 0 = s.size in absurd (omega arith)
tails_peers (x ∷ xs) [] s = let no : 0 ≡ suc (length xs) = s.size in absurd (omega arith)
tails_peers (x ∷ xs) (y ∷ ys) s =
    let size : suc (length ys) ≡ suc (length xs) = s.size in
    ap₂ (λ (n : ℕ) (ns : List ℕ). n ∷ ns) (s.each 0 x (omega arith)).peer
    (tails_peers xs ys (record { size = omega (arith, size); each = λ k d lt. s.each (suc k) d (omega (arith, lt)) }))

pub heads_peers : (xs ys : List Head) → AreSameHeads xs ys → peers (lanes_taken ys) ≡ peers (lanes_taken xs)
heads_peers [] [] s = refl
heads_peers [] (y ∷ ys) s = let no : suc (length ys) ≡ 0 = s.size in absurd (omega arith)
heads_peers (x ∷ xs) [] s = let no : 0 ≡ suc (length xs) = s.size in absurd (omega arith)
heads_peers (x ∷ xs) (y ∷ ys) s =
    let size : suc (length ys) ≡ suc (length xs) = s.size in
    ap₂ (λ (n : ℕ) (ns : List ℕ). n ∷ ns) (s.each 0 x (omega arith)).peer
    (heads_peers xs ys (record { size = omega (arith, size); each = λ k d lt. s.each (suc k) d (omega (arith, lt)) }))

-- a cell that has a history has started
all-started : (x : Account) (ds : List Deed) → started_of (fold do_one x ds).view ≡ started_of x.view
all-started x [] = refl
all-started x (d ∷ ds) = all-started (do_one x d) ds ∙ step_started x.view (letters_of d.gains)

pub has_started : (s : CellState) → HasHistory s → started_of s.view ≡ true
has_started s h = ap started_of h.later.viewed ∙ all-started (moment h.first) h.deeds ∙ ap started_of h.started.viewed ∙ start_starts h.made

pub may_react : (s : CellState) → HasHistory s → ended_of s.view ≡ false → MayReact s.view
may_react s h live = inl (has_started s h, live)

-- a visit goes on with the history
visit-later : (n : ℕ) (s t : CellState) → IsVisit s n t → (ds : List Deed) × IsLater s ds t
visit-later zero s t v = ([], quiet_later s t (v.idle refl))
visit-later (suc n) s t v = (_, event_later s t v.gains (v.event (omega arith)))

pub history_on : (s t : CellState) (n : ℕ) → HasHistory s → IsVisit s n t → HasHistory t
history_on s t n h v =
    let l = visit-later n s t v in
    record { made = h.made; unstarted = h.unstarted; first = h.first; deeds = h.deeds ++ l.0; started = h.started; later = later_then h.first s t h.deeds l.0 h.later l.1 }

pub history_begins : (v : View) (s : CellState) → started_of v ≡ false → IsStarted v s → HasHistory s
history_begins v s new h = record { made = v; unstarted = new; first = s; deeds = []; started = h; later = quiet_later s s (record { me = refl; viewed = refl; stamped = refl; noted = refl; sent = refl; taken = refl }) }

-- the invariant after a call
pub sound_on : (begun begun_on : Bool) (fault fault_on : Option VisitFault) (s t : CellState) → IsSoundCell begun fault s → begun_on ≡ true → made_of t.view ≡ made_of s.view → t.me ≡ s.me
    → peers t.sent ≡ peers s.sent → peers t.taken ≡ peers s.taken → (fault_on ≡ None → HasHistory t) → IsSoundCell begun_on fault_on t
sound_on begun begun_on fault fault_on s t i b made me sent taken history =
    let same = same_private s.view t.view made in
    record {
      me = ap (λ (p : Private). p.me) same ∙ i.me ∙ sym me;
      sent = sent ∙ i.sent ∙ sym (ap (λ (p : Private). p.neighbours) same);
      taken = taken ∙ i.taken ∙ sym (ap (λ (p : Private). p.neighbours) same);
      ascend = subst (λ (p : Private). IsStrictlyIncreasing p.neighbours) (sym same) i.ascend;
      fresh = λ e. absurd (true≢false (sym b ∙ e));
      unfailed = λ e. absurd (true≢false (sym b ∙ e));
      running = λ _ none. history none;
    }

-- a visit that found nothing, and one that found something
pub visited_none : (s t : CellState) (n : ℕ) (hs gs : List Head) (letters : List (ℕ × Message)) (takes : List Take) (greatest : ℕ) → IsStrictlyIncreasing (peers (lanes_taken hs))
    → HasCollected hs gs letters takes greatest → n ≡ length letters → n ≡ 0 → s.taken ≡ lanes_taken hs → ((j : ℕ) → known_from j s.known ≤ known_from j (known_of hs)) → t.taken ≡ lanes_taken gs
    → t.me ≡ s.me → t.view ≡ s.view → t.stamp ≡ s.stamp → t.journal ≡ s.journal → t.sent ≡ s.sent → IsVisit s n t
visited_none s t n hs gs letters takes greatest up c count nothing old known new me view stamp journal sent =
    let g = are_gains hs gs letters takes greatest up c in
    record {
      gains = g.gains;
      counted = count ∙ g.counted;
      each = g.each;
      few = omega (arith, nothing);
      served = λ j. let a = known j in let b = g.served j in omega (arith, a, b);
      idle = λ _. record { me = me; viewed = view; stamped = stamp; noted = journal; sent = sent; taken = new ∙ g.idle (sym count ∙ nothing) ∙ sym old };
      event = λ (some : 0 < n). absurd (omega (arith, some, nothing));
    }

-- a visit that knew of nothing and took nothing
pub visited_idle : (s t : CellState) → ((j : ℕ) → known_from j s.known ≡ 0) → t.me ≡ s.me → t.view ≡ s.view → t.stamp ≡ s.stamp → t.journal ≡ s.journal → t.sent ≡ s.sent → t.taken ≡ s.taken → IsVisit s 0 t
visited_idle s t none me view stamp journal sent taken = record {
  gains = [];
  counted = refl;
  each = All-nil IsFew;
  few = omega arith;
  served = λ j. let a = none j in omega (arith, a);
  idle = λ _. record { me = me; viewed = view; stamped = stamp; noted = journal; sent = sent; taken = taken };
  event = λ (some : 0 < 0). absurd (omega (arith, some));
}

pub visited_some : (s m t : CellState) (n : ℕ) (hs gs : List Head) (letters : List (ℕ × Message)) (takes : List Take) (greatest : ℕ) → IsStrictlyIncreasing (peers (lanes_taken hs))
    → HasCollected hs gs letters takes greatest → n ≡ length letters → 0 < n → s.taken ≡ lanes_taken hs → ((j : ℕ) → known_from j s.known ≤ known_from j (known_of hs)) → t.taken ≡ lanes_taken gs
    → t.me ≡ s.me → ended_of s.view ≡ false → (private_of s.view).neighbours ≡ peers s.taken
    → m.view ≡ s.view → m.stamp ≡ s.stamp → m.journal ≡ s.journal → m.sent ≡ s.sent → IsHandled m letters takes greatest t → IsVisit s n t
visited_some s m t n hs gs letters takes greatest up c count positive old known new me live near view stamp journal sent h =
    let some : 0 < length letters = omega (arith, count, positive) in
    let g = are_gains hs gs letters takes greatest up c in
    let sends : h.sends ≡ (step_of s.view (letters_of g.gains)).sends = h.step.sent ∙ ap (λ (v : View). (step_of v letters).sends) view ∙ ap (λ ls. (step_of s.view ls).sends) g.letters_are in
    let receivers : All (IsTo (peers s.taken)) h.sends = subst (λ (ns : List ℕ). All (IsTo ns) h.sends) (ap (λ (v : View). (private_of v).neighbours) view ∙ near) h.receivers.each in
    record {
      gains = g.gains;
      counted = count ∙ g.counted;
      each = g.each;
      few = subst (λ (ls : List Lane). n ≤ link_share * length ls) (sym old) (let f = g.few in omega (arith, f, count));
      served = λ j. let a = known j in let b = g.served j in omega (arith, a, b);
      idle = λ (none : n ≡ 0). absurd (omega (arith, none, positive));
      event = λ _. record {
        live = live;
        some = subst (λ (ts : List Take). has_nothing ts ≡ false) g.takes_are (g.some some);
        ascend = subst (λ (ts : List Take). ascends_from 0 ts ≡ true) g.takes_are g.ascend;
        senders = subst (λ (ls : List Lane). All (IsFrom (peers ls)) g.gains) (sym old) g.senders;
        receivers = subst (λ (ps : List (ℕ × Message)). All (IsTo (peers s.taken)) ps) sends receivers;
        me = me;
        viewed = h.step.viewed ∙ ap (λ (v : View). (step_of v letters).view) view ∙ ap (λ ls. (step_of s.view ls).view) g.letters_are;
        stamped = h.stamped ∙ ap (λ k. max k greatest + 1) stamp ∙ ap (λ k. max s.stamp k + 1) g.greatest_is;
        noted = h.noted ∙ ap₂ (λ es ts. es ++ record { stamp = t.stamp; takes = ts } ∷ []) journal g.takes_are;
        sent = h.sent ∙ ap₂ (λ ps ls. grown (λ j. posted_to j (post t.stamp ps)) ls) sends sent;
        taken = new ∙ g.grown ∙ ap (grown (λ j. gained_from j g.gains)) (sym old);
      };
    }

pub reached_end : (s m t : CellState) (n : ℕ) (hs gs : List Head) (letters : List (ℕ × Message)) (takes : List Take) (greatest : ℕ) → IsStrictlyIncreasing (peers (lanes_taken hs))
    → HasCollected hs gs letters takes greatest → n ≡ length letters → 0 < n → s.taken ≡ lanes_taken hs → t.taken ≡ lanes_taken gs
    → m.view ≡ s.view → m.stamp ≡ s.stamp → m.journal ≡ s.journal → m.sent ≡ s.sent → IsAtEnd m greatest t → HasReachedEnd s t
reached_end s m t n hs gs letters takes greatest up c count positive old new view stamp journal sent e =
    let g = are_gains hs gs letters takes greatest up c in
    record {
      gains = g.gains;
      senders = subst (λ (ls : List Lane). All (IsFrom (peers ls)) g.gains) (sym old) g.senders;
      each = g.each;
      some = let k = g.counted in omega (arith, positive, count, k);
      last = sym (ap₂ (λ (x y : ℕ). max x y) stamp g.greatest_is) ∙ e.last;
      taken = new ∙ g.grown ∙ ap (grown (λ j. gained_from j g.gains)) (sym old);
      viewed = e.viewed ∙ view;
      stamped = e.stamped ∙ stamp;
      sent = e.sent ∙ sent;
      noted = e.noted ∙ journal;
    }

-- the batch of what was found
pub is_batch : (v : View) (n : ℕ) (hs gs : List Head) (letters : List (ℕ × Message)) (takes : List Take) (greatest : ℕ) → IsStrictlyIncreasing (peers (lanes_taken hs))
    → HasCollected hs gs letters takes greatest → (private_of v).neighbours ≡ peers (lanes_taken hs) → n ≡ length letters → 0 < n → IsBatch v letters
is_batch v n hs gs letters takes greatest up c near count positive = (are_gains hs gs letters takes greatest up c).batch v near (omega (arith, count, positive))

-- a fresh cell
lanes-empty : (ls : List Lane) (j : ℕ) → All (λ l. l.messages ≡ []) ls → lane j ls ≡ []
lanes-empty [] j h = refl
lanes-empty (l ∷ ls) j h = ap₂ (λ (xs ys : List (ℕ × Message)). xs ++ ys)
    (ap (λ (es : List (ℕ × Message)). if l.peer == j then es else []) (h 0 l (omega arith)) ∙ sym (either-none (l.peer == j)))
    (lanes-empty ls j (λ k d lt. h (suc k) d (omega (arith, lt))))

pub fresh_cell : (s : CellState) → started_of s.view ≡ false → (private_of s.view).me ≡ s.me → peers s.sent ≡ (private_of s.view).neighbours → peers s.taken ≡ (private_of s.view).neighbours
    → IsStrictlyIncreasing (private_of s.view).neighbours → s.stamp ≡ 0 → s.journal ≡ [] → All (λ l. l.messages ≡ []) s.sent → All (λ l. l.messages ≡ []) s.taken → IsSoundCell false None s
fresh_cell s started me sent taken up stamp journal unsent untaken = record {
  me = me;
  sent = sent;
  taken = taken;
  ascend = up;
  fresh = λ _. record { started = started; stamp = stamp; journal = journal; sent = λ j. lanes-empty s.sent j unsent; taken = λ j. lanes-empty s.taken j untaken };
  unfailed = λ _. refl;
  running = λ (e : false ≡ true). absurd (true≢false (sym e));
}

-- nothing is sent to an agent that is not among the receivers
unposted : (among : List ℕ) (j : ℕ) (ps : List (ℕ × Message)) → All (λ p. Contains among p.0) ps → has among j ≡ false → posted_to j (post 0 ps) ≡ []
unposted among j [] h none = refl
unposted among j (p ∷ ps) h none =
    let apart : (p.0 == j) ≡ false = ne_eqb p.0 j (λ (e : p.0 ≡ j). true≢false (sym (has_from_contains among j (subst (λ (n : ℕ). Contains among n) e (h 0 p (omega arith)))) ∙ none)) in
    ap₂ (λ (b : Bool) (es : List (ℕ × Message)). (if b then (0, p.1) ∷ [] else []) ++ es) apart (unposted among j ps (λ k d lt. h (suc k) d (omega (arith, lt))) none)

-- a cell that has started
pub started_cell : (s t : CellState) (sends : List (ℕ × Message)) → IsFreshCell s → IsStrictlyIncreasing (peers s.sent) → peers s.sent ≡ (private_of s.view).neighbours → peers t.taken ≡ (private_of s.view).neighbours
    → IsStart s.view t.view sends → GoToNeighbours s.view sends → t.stamp ≡ s.stamp → t.journal ≡ s.journal → t.taken ≡ s.taken
    → t.sent ≡ grown (λ j. posted_to j (post 0 sends)) s.sent → IsStarted s.view t
started_cell s t sends f up tails heads start go stamp journal taken sent =
    let same : sends ≡ (start_of s.view).sends = start.sent in
    record {
      viewed = start.viewed;
      stamped = stamp ∙ f.stamp;
      noted = journal ∙ f.journal;
      sent = λ j. ap (lane j) sent ∙ lane_grown j (λ i. posted_to i (post 0 sends)) s.sent up (λ none. unposted (peers s.sent) j sends (subst (λ (ns : List ℕ). All (IsTo ns) sends) (sym tails) go.each) none)
          ∙ ap (λ es. es ++ posted_to j (post 0 sends)) (f.sent j) ∙ ap (λ ps. posted_to j (post 0 ps)) same;
      taken = λ j. ap (lane j) taken ∙ f.taken j;
      receivers = subst (λ (ps : List (ℕ × Message)). All (IsTo (peers t.taken)) ps) same (subst (λ (ns : List ℕ). All (IsTo ns) sends) (sym heads) go.each);
    }

-- the peers of a cell's heads ascend
pub ascending : (begun : Bool) (fault : Option VisitFault) (s : CellState) (hs : List Head) (gs : List Head) → IsSoundCell begun fault s → s.taken ≡ lanes_taken hs → gs ≡ hs → IsStrictlyIncreasing (peers (lanes_taken gs))
ascending begun fault s hs gs i old same = subst (λ (ns : List ℕ). IsStrictlyIncreasing ns) (sym (ap (λ xs. peers (lanes_taken xs)) same ∙ sym (ap peers old) ∙ i.taken)) i.ascend

-- a list written back over one of its length
pub written : {A : Type 0} (n : ℕ) (xs ys zs : List A) → n ≡ length xs → length ys ≡ length zs → zs ≡ xs → take n (ys ++ drop (length ys) xs) ≡ ys
written n xs ys zs len size same =
    let all : length xs ≤ length ys = omega (arith, size, ap length same) in
    let whole : n ≡ length ys = omega (arith, len, size, ap length same) in
    ap (λ ws. take n (ys ++ ws)) (drop_of_length-le xs all) ∙ ap (take n) (append-nil ys) ∙ ap (λ k. take k ys) whole ∙ take-length ys

-- a fault is one
pub failed : {P : Type 0} (f : VisitFault) → Some f ≡ None → P
failed f e = absurd (cc)

-- settling a link changes nothing on which the invariant depends
pub sound_quiet : (begun : Bool) (fault : Option VisitFault) (s t : CellState) → IsSoundCell begun fault s → IsQuiet s t → IsSoundCell begun fault t
sound_quiet begun fault s t i q = record {
  me = ap (λ (v : View). (private_of v).me) q.viewed ∙ i.me ∙ sym q.me;
  sent = ap peers q.sent ∙ i.sent ∙ sym (ap (λ (v : View). (private_of v).neighbours) q.viewed);
  taken = ap peers q.taken ∙ i.taken ∙ sym (ap (λ (v : View). (private_of v).neighbours) q.viewed);
  ascend = subst (λ (v : View). IsStrictlyIncreasing (private_of v).neighbours) (sym q.viewed) i.ascend;
  fresh = λ b. let f = i.fresh b in record {
    started = ap started_of q.viewed ∙ f.started;
    stamp = q.stamped ∙ f.stamp;
    journal = q.noted ∙ f.journal;
    sent = λ j. ap (lane j) q.sent ∙ f.sent j;
    taken = λ j. ap (lane j) q.taken ∙ f.taken j;
  };
  unfailed = i.unfailed;
  running = λ b none. let h = i.running b none in
      record { made = h.made; unstarted = h.unstarted; first = h.first; deeds = h.deeds ++ []; started = h.started; later = later_then h.first s t h.deeds [] h.later (quiet_later s t q) };
}
