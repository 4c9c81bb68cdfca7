-- A turn: what the code takes of an inbox is what the turn takes in the network, and its event is
-- lawful.
use Rattle.std.proofs.Common.{◌≡◌, ℕ, zero, suc, ◌+◌, ◌<◌, ◌≤◌, Bool, true, false, cond, ◌==◌, ◌&&◌, nat_le, if◌then◌else◌, List, [], ◌∷◌, ◌++◌, length, min, Option, Some, None, refl, sym, ap, subst, ◌∙◌, inl, inr, arith}
use Rattle.std.specs.List.{slice_get, slice_index_or, filter, flat_map, range_with_len, list_any, Contains}
use Rattle.std.proofs.lemmas.Bool.{false≢true, cases_eq, ne_eqb, eq-eqb, eqb-false, le-ltb, le-leb, lt-leb, or_parts}
use Rattle.std.proofs.lemmas.Option.{slice_get_within, get_or_from_slice_get}
use Rattle.std.proofs.lemmas.List.{append-nil, length-map}
use Rattle.std.proofs.lemmas.List.Elements.{All-nil, All-cons, All-append}
use Rattle.std.proofs.lemmas.List.Sums.{sum_by-cons}
use Rattle.dcop_base.specs.Problem.{Dcop}
use Rattle.dcop_base.specs.Graph.{neighbours, are_neighbours}
use Rattle.protocol_steps.specs.declared.message.Message.{Message}
use Rattle.protocol_steps.specs.declared.event.Take.{Take}
use Rattle.protocol_steps.specs.declared.event.Event.{Event}
use Rattle.protocol_steps.specs.declared.event.EventFault.{EventFault}
use Rattle.protocol_steps.specs.View.{View, ended_of}
use Rattle.protocol_steps.specs.Network.{Network, waiting}
use Rattle.protocol_steps.specs.Run.{or_else, form_fault, has_nothing, ascends_from}
use Rattle.protocol_steps.specs.Effect.{effect, pending, pending_at, deliveries}
use Rattle.letter_queues.specs.Links.{LinkView, link_from, waiting_on, waiting_from}
use Rattle.letter_queues.specs.Inboxes.{senders, short_in}
use Rattle.letter_queues.specs.Takes.{take_some, inbox_takes}
use Rattle.delivery_core.specs.State.{SeatView, CoreView, inbox_of}
use Rattle.delivery_core.specs.SeatEvents.{seat_fault, core_fault}
use Rattle.protocol_steps.specs.Rounds.{link_share, AreShares}
use Rattle.delivery_turns.specs.Turns.{turn_takes, event_with, turn}
use Rattle.delivery_core.specs.Takes.{seat_takes}
use Rattle.delivery_turns.specs.CoreTurns.{LeadsCore}
use Rattle.delivery_core.specs.Shown.{ShowsNetwork, IsCore}
use Rattle.delivery_core.proofs.NearLaws.{from_filter}
use Rattle.delivery_core.proofs.ShownLaws.{there_is, view_there, waits_is, fault_same}
use Rattle.delivery_core.proofs.ActLaws.{waits_of, seated}
use Rattle.delivery_core.proofs.CountLaws.{counts, deliveries_after}
use Rattle.protocol_steps.proofs.RunLaws.{happens_next}

-- numbers that ascend, from b on
abbrev AscFrom : ℕ → List ℕ → Type 0
AscFrom b [] = Unit {0}
AscFrom b (x ∷ xs) = (b ≤ x) × AscFrom (x + 1) xs

asc_lower : (a b : ℕ) (xs : List ℕ) → a ≤ b → AscFrom b xs → AscFrom a xs
asc_lower a b [] le h = tt
asc_lower a b (x ∷ xs) le h = (omega (arith, le, h.0), h.1)

asc_step : (b : Bool) (a : ℕ) (xs : List ℕ) → AscFrom (a + 1) xs → AscFrom a (cond b (a ∷ xs) xs)
asc_step true a xs h = (omega arith, h)
asc_step false a xs h = asc_lower a (a + 1) xs (omega arith) h

filter_asc : (f : ℕ → Bool) (a n : ℕ) → AscFrom a (filter f (range_with_len a n))
filter_asc f a zero = tt
filter_asc f a (suc n) = asc_step (f a) a (filter f (range_with_len (a + 1) n)) (filter_asc f (a + 1) n)

flat_same : (g h : ℕ → List Take) (b : ℕ) (js : List ℕ) → AscFrom b js → ((j : ℕ) → b ≤ j → g j ≡ h j) → flat_map g js ≡ flat_map h js
flat_same g h b [] asc same = refl
flat_same g h b (j ∷ js) asc same =
    ap (λ (ts : List Take). ts ++ flat_map g js) (same j asc.0)
    ∙ ap (λ (ts : List Take). h j ++ ts) (flat_same g h (j + 1) js asc.1 (λ k le. same k (omega (arith, le, asc.0))))

-- what is taken of one sender
abbrev by_sender : List LinkView → ℕ → List Take
by_sender ls j = take_some j (length (waiting_from ls j))

here_case : (l : LinkView) (ls : List LinkView) → waiting_from (l ∷ ls) l.from ≡ l.waiting
here_case l ls = ap (λ (b : Bool). waiting_on (cond b (Some l) (link_from l.from ls))) (eq-eqb l.from l.from refl)

other_case : (l : LinkView) (ls : List LinkView) (j : ℕ) → l.from + 1 ≤ j → waiting_from (l ∷ ls) j ≡ waiting_from ls j
other_case l ls j le = ap (λ (b : Bool). waiting_on (cond b (Some l) (link_from j ls))) (ne_eqb l.from j (λ e. omega (arith, e, le)))

inbox_by : (b : ℕ) (ls : List LinkView) → AscFrom b (senders ls) → inbox_takes ls ≡ flat_map (by_sender ls) (senders ls)
inbox_by b [] asc = refl
inbox_by b (l ∷ ls) asc =
    ap (λ (ms : List (ℕ × Message)). take_some l.from (length ms) ++ inbox_takes ls) (sym (here_case l ls))
    ∙ ap (λ (ts : List Take). by_sender (l ∷ ls) l.from ++ ts)
    (inbox_by (l.from + 1) ls asc.1
    ∙ flat_same (by_sender ls) (by_sender (l ∷ ls)) (l.from + 1) (senders ls) asc.1 (λ j le. ap (λ (ms : List (ℕ × Message)). take_some j (length ms)) (sym (other_case l ls j le))))

filter_flat : (f : ℕ → Bool) (g : ℕ → List Take) (b : Bool) (x : ℕ) (xs : List ℕ) → f x ≡ b → (f x ≡ false → g x ≡ []) → flat_map g (filter f xs) ≡ flat_map g xs
    → flat_map g (cond b (x ∷ filter f xs) (filter f xs)) ≡ g x ++ flat_map g xs
filter_flat f g true x xs h none ih = ap (λ (ts : List Take). g x ++ ts) ih
filter_flat f g false x xs h none ih = ih ∙ ap (λ (ts : List Take). ts ++ flat_map g xs) (sym (none h))

flat_filter : (f : ℕ → Bool) (g : ℕ → List Take) (xs : List ℕ) → ((j : ℕ) → f j ≡ false → g j ≡ []) → flat_map g (filter f xs) ≡ flat_map g xs
flat_filter f g [] none = refl
flat_filter f g (x ∷ xs) none = filter_flat f g (f x) x xs refl (none x) (flat_filter f g xs none)

not_cons : (m : ℕ × Message) (ms : List (ℕ × Message)) → [] ≡ m ∷ ms → ⊥
not_cons m ms h = absurd (cc)

no_takes : (f : ℕ → Bool) (ls : List LinkView) (j : ℕ) (ms : List (ℕ × Message)) → waiting_from ls j ≡ ms → (Contains (senders ls) j → f j ≡ true) → f j ≡ false → by_sender ls j ≡ []
no_takes f ls j [] h near none = ap (λ (ns : List (ℕ × Message)). take_some j (length ns)) h
no_takes f ls j (m ∷ ms) h near none = absurd (false≢true (sym none ∙ near (waits_of ls j (λ e. not_cons m ms (sym e ∙ h)))))

takes_range : (p : Dcop) (i : ℕ) (ls : List LinkView) → senders ls ≡ neighbours p i → inbox_takes ls ≡ flat_map (by_sender ls) (range_with_len 0 (length p.sizes))
takes_range p i ls links =
    let f : ℕ → Bool = are_neighbours p i in
    let all : List ℕ = range_with_len 0 (length p.sizes) in
    inbox_by 0 ls (subst (λ (ns : List ℕ). AscFrom 0 ns) (sym links) (filter_asc f 0 (length p.sizes)))
    ∙ ap (λ (ns : List ℕ). flat_map (by_sender ls) ns) links
    ∙ flat_filter f (by_sender ls) all (λ j none. no_takes f ls j (waiting_from ls j) refl (λ c. (from_filter f all j (subst (λ (ns : List ℕ). Contains ns j) links c)).0) none)

flat_cong : (g h : ℕ → List Take) (js : List ℕ) → ((j : ℕ) → g j ≡ h j) → flat_map g js ≡ flat_map h js
flat_cong g h [] same = refl
flat_cong g h (j ∷ js) same = ap (λ (ts : List Take). ts ++ flat_map g js) (same j) ∙ ap (λ (ts : List Take). h j ++ ts) (flat_cong g h js same)

none_taken : (js : List ℕ) → [] ≡ flat_map (λ j. take_some j 0) js
none_taken [] = refl
none_taken (j ∷ js) = none_taken js

-- takes of some agent's senders, from a on: their form is right, and they ask for what waits
record Fine (n a : ℕ) (ls : List LinkView) (ts : List Take) : Type 0 where
  known : list_any (λ t. nat_le n t.from) ts ≡ false
  counted : list_any (λ t. t.count == 0) ts ≡ false
  asc : (b : ℕ) → b ≤ a → ascends_from b ts ≡ true
  short : short_in ls ts ≡ None

fine_step : (b : Bool) (n a : ℕ) (ls : List LinkView) (ts : List Take) → (length (waiting_from ls a) == 0) ≡ b → a < n → Fine n (a + 1) ls ts
    → Fine n a ls ((if b then [] else record { from = a; count = min (length (waiting_from ls a)) link_share } ∷ []) ++ ts)
fine_step true n a ls ts h lt f = record { known = f.known; counted = f.counted; asc = λ b le. f.asc b (omega (arith, le)); short = f.short }
fine_step false n a ls ts h lt f =
    let c : ℕ = length (waiting_from ls a) in
    let some : c ≡ 0 → ⊥ = eqb-false c 0 h in
    let least : min c link_share ≡ 0 → ⊥ = λ e. some (omega (arith, e)) in
    record {
      known = rw (lt-leb n a lt) f.known;
      counted = rw (ne_eqb (min c link_share) 0 least) f.counted;
      asc = λ b le. rw (le-leb b a le) (f.asc (a + 1) (omega arith));
      short = rw (le-ltb c (min c link_share) (omega arith)) f.short;
    }

fine_takes : (m a n : ℕ) (ls : List LinkView) → a + m ≤ n → Fine n a ls (flat_map (by_sender ls) (range_with_len a m))
fine_takes zero a n ls le = record { known = refl; counted = refl; asc = λ b lt. refl; short = refl }
fine_takes (suc m) a n ls le =
    fine_step (length (waiting_from ls a) == 0) n a ls (flat_map (by_sender ls) (range_with_len (a + 1) m)) refl (omega (arith, le)) (fine_takes m (a + 1) n ls (omega (arith, le)))

form_ok : (n : ℕ) (ended : Bool) (ts : List Take) → list_any (λ t. nat_le n t.from) ts ≡ false → ended ≡ false → has_nothing ts ≡ false → ascends_from 0 ts ≡ true → form_fault n ended ts ≡ None
form_ok n ended ts a b c d = rw (a, b, c, d) refl

open_by : (b : Bool) (ts : List Take) → (length (if b then [] else ts) == 0) ≡ false → (b ≡ false) × ((if b then [] else ts) ≡ ts)
open_by true ts h = absurd (false≢true (sym h))
open_by false ts h = (refl, refl)

counts_some : (ts : List Take) → has_nothing ts ≡ false → 1 ≤ counts ts
counts_some [] h = absurd (false≢true (sym h))
counts_some (t ∷ ts) h =
    let parts = or_parts (length (t ∷ ts) == 0) (list_any (λ u. u.count == 0) (t ∷ ts)) h in
    let first = or_parts (t.count == 0) (list_any (λ u. u.count == 0) ts) parts.1 in
    let some : t.count ≡ 0 → ⊥ = eqb-false t.count 0 first.0 in
    let sum : counts (t ∷ ts) ≡ t.count + counts ts = sum_by-cons (λ (u : Take). u.count) t ts in
    elim (cases_eq t.count 0) [ inl e ↦ absurd (some e) | inr e ↦ omega (arith, sum, e) ]

-- an agent takes at most 64 messages of one sender
abbrev IsShare : Take → Type 0
IsShare t = t.count ≤ link_share

some_shares : (j count : ℕ) (b : Bool) → AreShares (if b then [] else record { from = j; count = min count link_share } ∷ [])
some_shares j count true = All-nil IsShare
some_shares j count false = All-cons IsShare (record { from = j; count = min count link_share }) [] (omega arith) (All-nil IsShare)

inbox_shares : (ls : List LinkView) → AreShares (inbox_takes ls)
inbox_shares [] = All-nil IsShare
inbox_shares (l ∷ ls) = All-append IsShare (take_some l.from (length l.waiting)) (inbox_takes ls) (some_shares l.from (length l.waiting) (length l.waiting == 0)) (inbox_shares ls)

seat_shares : (x : SeatView) → AreShares (seat_takes x)
seat_shares x = by_ended (ended_of x.view)
  where
    by_ended : (b : Bool) → AreShares (if b then [] else inbox_takes x.inbox)
    by_ended true = All-nil IsShare
    by_ended false = inbox_shares x.inbox

module _ (p : Dcop) (net : Network) (seats : List SeatView) (s : ShowsNetwork p net seats) (i : ℕ) (x : SeatView) (here : slice_get seats i ≡ Some x) where
  inside : i < length seats
  inside = slice_get_within seats i x here

  links : senders x.inbox ≡ neighbours p i
  links = ap (λ (o : Option SeatView). senders (inbox_of o)) (sym here) ∙ s.links i inside

  size : length net.views ≡ length p.sizes
  size = ap (λ (vs : List View). length vs) (sym s.views) ∙ length-map seats (λ y. y.view) ∙ s.size

  waits : (j : ℕ) → length (waiting_from x.inbox j) ≡ length (waiting net.desks i j)
  waits j =
      ap (λ (o : Option SeatView). length (waiting_from (inbox_of o) j)) (sym here)
      ∙ ap (λ (ms : List (ℕ × Message)). length ms) (waits_is p net seats s i j inside)
      ∙ length-map (waiting net.desks i j) (λ m. (j, m))

  by_ended : (b : Bool) → (if b then [] else inbox_takes x.inbox) ≡ flat_map (λ j. take_some j (length (if b then [] else waiting net.desks i j))) (range_with_len 0 (length p.sizes))
  by_ended true = none_taken (range_with_len 0 (length p.sizes))
  by_ended false =
      takes_range p i x.inbox links
      ∙ flat_cong (by_sender x.inbox) (λ j. take_some j (length (waiting net.desks i j))) (range_with_len 0 (length p.sizes)) (λ j. ap (λ (n : ℕ). take_some j n) (waits j))

  -- the agent takes what its turn takes
  pub turn_same : seat_takes x ≡ turn_takes net i
  turn_same =
      by_ended (ended_of x.view)
      ∙ ap (λ (o : Option View). flat_map (λ j. take_some j (length (pending_at net i j o))) (range_with_len 0 (length p.sizes))) (sym (view_there p net seats s i (Some x) here))
      ∙ ap (λ (n : ℕ). flat_map (λ j. take_some j (length (pending net i j))) (range_with_len 0 n)) (sym size)

  -- its event is the one with what the agent takes
  pub turn_by : turn net i ≡ event_with i (seat_takes x)
  turn_by = ap (λ (ts : List Take). event_with i ts) (sym turn_same)

  module _ (some : (length (seat_takes x) == 0) ≡ false) where
    opened : (ended_of x.view ≡ false) × (seat_takes x ≡ inbox_takes x.inbox)
    opened = open_by (ended_of x.view) (inbox_takes x.inbox) some

    fine : Fine (length seats) 0 x.inbox (seat_takes x)
    fine = subst (λ (ts : List Take). Fine (length seats) 0 x.inbox ts) (sym (opened.1 ∙ takes_range p i x.inbox links)) (fine_takes (length p.sizes) 0 (length seats) x.inbox (omega (arith, s.size)))

    nonempty : has_nothing (seat_takes x) ≡ false
    nonempty = rw some fine.counted

    abbrev e : Event
    e = record { agent = i; takes = seat_takes x }

    -- and that is lawful
    pub turn_lawful : core_fault seats e ≡ None
    turn_lawful =
        ap (λ (o : Option SeatView). seat_fault (length seats) (seat_takes x) o) here
        ∙ ap (λ (f : Option EventFault). or_else f (short_in x.inbox (seat_takes x)))
        (form_ok (length seats) (ended_of x.view) (seat_takes x) fine.known opened.0 nonempty (fine.asc 0 (omega arith)))
        ∙ fine.short

    turn_is : turn net i ≡ e ∷ []
    turn_is = turn_by ∙ ap (λ (b : Bool). if b then [] else e ∷ []) some

    counted_more : deliveries net + 1 ≤ deliveries (effect net e)
    counted_more =
        let after = deliveries_after p net seats s e (seated seats e turn_lawful) in
        let one = counts_some (seat_takes x) nonempty in
        omega (arith, after, one)

    -- so the turn leads on
    pub turn_leads : (new : CoreView) → IsCore p (effect net e) new → (mid : Network) × LeadsCore p net (turn net i) mid new
    turn_leads new core = subst (λ (es : List Event). (mid : Network) × LeadsCore p net es mid new) (sym turn_is) (
      effect net e,
      record {
        ran = happens_next net e (fault_same p net seats s e ∙ turn_lawful);
        is = refl;
        core = core;
        more = counted_more;
        bounded = All-cons (λ (f : Event). AreShares f.takes) e [] (seat_shares x) (All-nil (λ (f : Event). AreShares f.takes));
      },
    )

  -- if nothing is pending the turn is empty
  pub turn_none : (length (seat_takes x) == 0) ≡ true → turn net i ≡ []
  turn_none none = turn_by ∙ ap (λ (b : Bool). if b then [] else record { agent = i; takes = seat_takes x } ∷ []) none

-- an agent that takes nothing has no event
pub turn_still : (p : Dcop) (net : Network) (seats : List SeatView) → ShowsNetwork p net seats → (i : ℕ) → i < length seats → ((d : SeatView) → seat_takes (slice_index_or seats i d) ≡ []) → turn net i ≡ []
turn_still p net seats s i lt none =
    let x = there_is seats i lt in
    let takes : seat_takes x.0 ≡ [] = sym (ap seat_takes (get_or_from_slice_get seats i x.0 x.0 x.1)) ∙ none x.0 in
    turn_none p net seats s i x.0 x.1 (ap (λ (ts : List Take). length ts == 0) takes)

pub none_leads : (p : Dcop) (net : Network) (es : List Event) (s : CoreView) → IsCore p net s → es ≡ [] → (mid : Network) × LeadsCore p net es mid s
none_leads p net es s core none = subst (λ (fs : List Event). (mid : Network) × LeadsCore p net fs mid s) (sym none) (net, record { ran = refl; is = refl; core = core; more = omega arith; bounded = All-nil (λ (e : Event). AreShares e.takes) })

-- a turn has an event if something is taken
some_event : (i : ℕ) (ts : List Take) (b : Bool) → (length {A = Event} (if b then [] else (record { agent = i; takes = ts } ∷ [])) == 0) ≡ b
some_event i ts true = refl
some_event i ts false = refl

pub none_with : (i : ℕ) (ts : List Take) → (length (event_with i ts) == 0) ≡ (length ts == 0)
none_with i ts = some_event i ts (length ts == 0)

-- if nothing is taken nothing is added, and otherwise the event is
pub added_none : (before es : List Event) (i : ℕ) (ts : List Take) → es ≡ event_with i ts → (length ts == 0) ≡ true → before ≡ before ++ es
added_none before es i ts with none =
    sym (ap (λ (fs : List Event). before ++ fs) (with ∙ ap (λ (b : Bool). if b then [] else (record { agent = i; takes = ts } ∷ [])) none) ∙ append-nil before)

pub added_one : (before es : List Event) (i : ℕ) (ts : List Take) → es ≡ event_with i ts → (length ts == 0) ≡ false → before ++ (record { agent = i; takes = ts } ∷ []) ≡ before ++ es
added_one before es i ts with some =
    sym (ap (λ (fs : List Event). before ++ fs) (with ∙ ap (λ (b : Bool). if b then [] else (record { agent = i; takes = ts } ∷ [])) some))

-- there was no event so far, and there is none in this turn
pub still_more : (still : Bool) (es fs : List Event) → still ≡ (length es == 0) → (still && (length fs == 0)) ≡ (length (es ++ fs) == 0)
still_more still [] fs so = ap (λ (b : Bool). b && (length fs == 0)) so
still_more still (x ∷ es) fs so =
    ap (λ (b : Bool). b && (length fs == 0)) (so ∙ ne_eqb (length (x ∷ es)) 0 (λ h. omega (arith, h)))
    ∙ sym (ne_eqb (length ((x ∷ es) ++ fs)) 0 (λ h. omega (arith, h)))
