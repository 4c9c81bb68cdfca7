-- What was found, as gains of a cell.
use Rattle.std.proofs.Common.{◌≡◌, ℕ, suc, ◌+◌, ◌*◌, ◌<◌, ◌≤◌, Bool, true, false, ◌==◌, if◌then◌else◌, List, [], ◌∷◌, ◌++◌, map, length, refl, sym, ap, ap₂, subst, ◌∙◌, arith, length-append}
use Rattle.std.proofs.lemmas.List.Sums.{sum_by-cons}
use Rattle.std.specs.List.{All, Contains, sum_by, list_any}
use Rattle.std.specs.List.Sorted.{IsStrictlyIncreasing}
use Rattle.std.proofs.lemmas.Bool.{eq-eqb, ne_eqb, or_from, or_parts, or_left, or_right, true≢false, le-leb}
use Rattle.std.proofs.lemmas.List.{append-nil, length-map}
use Rattle.std.proofs.lemmas.List.Elements.{All-nil, All-append, All-cons}
use Rattle.std.proofs.lemmas.Grind.{flat_map-append}
use Rattle.std.proofs.Math.Dec.{eqb-suc-zero}
use Rattle.dcop_base.specs.Table.{has}
use Rattle.dcop_base.proofs.UniqueLaws.{IsStrictlyIncreasing-tail, head_below}
use Rattle.protocol_steps.specs.declared.message.Message.{Message}
use Rattle.protocol_steps.specs.declared.event.Take.{Take}
use Rattle.protocol_steps.specs.View.{View, private_of}
use Rattle.protocol_steps.specs.Machine.{IsToNeighbour, SendersFrom, IsBatch}
use Rattle.protocol_steps.specs.Run.{ascends_from, has_nothing}
use Rattle.protocol_steps.specs.Stamps.{Gain, letters_of}
use Rattle.protocol_steps.specs.Deeds.{takes_of, greatest_of, gain_from, gained_from}
use Rattle.protocol_steps.proofs.PrivateLaws.{contains_from_has}
use Rattle.fifo_links.specs.Slots.{ring_slots}
use Rattle.fifo_links.specs.Link.{taken_from, known_to}
use Rattle.worker_laws.specs.Cells.{Lane, peers, grown, known_from}
use Rattle.worker_laws.specs.Visits.{IsFew, IsFrom}
use Rattle.worker_laws.proofs.LaneLaws.{once, grown_none}
use Rattle.agent_cells.specs.Links.{Head, lanes_taken, known_of}
use Rattle.agent_cells.specs.Collected.{Finding, some_from, some_of, gains_in, HasCollected}

-- the heads before, and their peers
abbrev befores : List Finding → List Head
befores fs = map (λ f. f.before) fs

abbrev sources : List Finding → List ℕ
sources fs = peers (lanes_taken (befores fs))

-- links that grow by the same, where they lead
grown_among : (f g : ℕ → List (ℕ × Message)) (ls : List Lane) → ((j : ℕ) → has (peers ls) j ≡ true → f j ≡ g j) → grown f ls ≡ grown g ls
grown_among f g [] same = refl
grown_among f g (l ∷ ls) same =
    ap₂ (λ (es : List (ℕ × Message)) (ks : List Lane). let k : Lane = record { peer = l.peer; messages = l.messages ++ es } in k ∷ ks)
    (same l.peer (or_left (l.peer == l.peer) (has (peers ls) l.peer) (eq-eqb l.peer l.peer refl)))
    (grown_among f g ls (λ j h. same j (or_right (l.peer == j) (has (peers ls) j) h)))

abbrev pub gained-nothing : List (ℕ × Message)
gained-nothing = []

-- nothing, either way
pub either-none : (b : Bool) → gained-nothing ≡ (if b then gained-nothing else [])
either-none true = refl
either-none false = refl

-- what is found on one head
gained-one : (j k : ℕ) (es : List (ℕ × Message)) → gained_from k (some_from j es) ≡ (if j == k then es else [])
gained-one j k [] = either-none (j == k)
gained-one j k (e ∷ es) = append-nil _

gained-more : (k : ℕ) (xs ys : List Gain) → gained_from k (xs ++ ys) ≡ gained_from k xs ++ gained_from k ys
gained-more k xs ys = flat_map-append (gain_from k) xs ys

gained-none : (k : ℕ) (fs : List Finding) → has (sources fs) k ≡ false → gained_from k (gains_in fs) ≡ []
gained-none k [] none = refl
gained-none k (f ∷ fs) none =
    let parts = or_parts (f.before.0 == k) (has (sources fs) k) none in
    gained-more k (some_of f.gain) (gains_in fs)
    ∙ ap₂ (λ xs ys. xs ++ ys) (gained-one f.gain.from k f.gain.envelopes ∙ ap (λ n. if n == k then f.gain.envelopes else []) f.from ∙ ap (λ b. if b then f.gain.envelopes else []) parts.0)
    (gained-none k fs parts.1)

pub grows : (fs : List Finding) → IsStrictlyIncreasing (sources fs) → lanes_taken (map (λ f. f.after) fs) ≡ grown (λ j. gained_from j (gains_in fs)) (lanes_taken (befores fs))
grows [] up = refl
grows (f ∷ fs) up =
    let me : ℕ = f.before.0 in
    let out : has (sources fs) me ≡ false = once me (sources fs) up in
    let own : gained_from me (gains_in (f ∷ fs)) ≡ f.gain.envelopes =
    gained-more me (some_of f.gain) (gains_in fs)
    ∙ ap₂ (λ xs ys. xs ++ ys) (gained-one f.gain.from me f.gain.envelopes ∙ ap (λ b. if b then f.gain.envelopes else []) (eq-eqb f.gain.from me f.from)) (gained-none me fs out)
    ∙ append-nil f.gain.envelopes in
    let head : taken_from f.after.1 ≡ taken_from f.before.1 ++ gained_from me (gains_in (f ∷ fs)) = f.taken ∙ ap (λ es. taken_from f.before.1 ++ es) (sym own) in
    let rest : lanes_taken (map (λ x. x.after) fs) ≡ grown (λ j. gained_from j (gains_in (f ∷ fs))) (lanes_taken (befores fs)) =
    grows fs (IsStrictlyIncreasing-tail me (sources fs) up)
    ∙ grown_among (λ j. gained_from j (gains_in fs)) (λ j. gained_from j (gains_in (f ∷ fs))) (lanes_taken (befores fs))
    (λ j h. sym (gained-more j (some_of f.gain) (gains_in fs)
    ∙ ap (λ es. es ++ gained_from j (gains_in fs))
    (gained-one f.gain.from j f.gain.envelopes
    ∙ ap (λ b. if b then f.gain.envelopes else []) (ne_eqb f.gain.from j (λ e. true≢false (sym h ∙ ap (has (sources fs)) (sym (sym f.from ∙ e)) ∙ out)))))) in
    ap₂ (λ (n : ℕ) (es : List (ℕ × Message)). let l : Lane = record { peer = n; messages = es } in l ∷ lanes_taken (map (λ x. x.after) fs)) f.same.peer head
    ∙ ap (λ (ls : List Lane). let l : Lane = record { peer = me; messages = taken_from f.before.1 ++ gained_from me (gains_in (f ∷ fs)) } in l ∷ ls) rest

-- the senders ascend
some-ascends : (b j : ℕ) (es : List (ℕ × Message)) (gs : List Gain) → b ≤ j → ascends_from b (takes_of gs) ≡ true → ascends_from (j + 1) (takes_of gs) ≡ true
    → ascends_from b (takes_of (some_from j es ++ gs)) ≡ true
some-ascends b j [] gs low same more = same
some-ascends b j (e ∷ es) gs low same more = ap (λ (t : Bool). if t then ascends_from (j + 1) (takes_of gs) else false) (le-leb b j low) ∙ more

pub ascend : (b : ℕ) (fs : List Finding) → IsStrictlyIncreasing (sources fs) → ((j : ℕ) → has (sources fs) j ≡ true → b ≤ j) → ascends_from b (takes_of (gains_in fs)) ≡ true
ascend b [] up low = refl
ascend b (f ∷ fs) up low =
    let me : ℕ = f.before.0 in
    let tail = IsStrictlyIncreasing-tail me (sources fs) up in
    let own : b ≤ me = low me (or_left (me == me) (has (sources fs) me) (eq-eqb me me refl)) in
    some-ascends b f.gain.from f.gain.envelopes (gains_in fs) (omega (arith, own, f.from))
    (ascend b fs tail (λ j h. low j (or_right (me == j) (has (sources fs) j) h)))
    (ascend (f.gain.from + 1) fs tail (λ j h. let above : me < j = head_below me (sources fs) j up (contains_from_has (sources fs) j h) in omega (arith, above, f.from)))

-- the letters too
letters-more : (xs ys : List Gain) → letters_of (xs ++ ys) ≡ letters_of xs ++ letters_of ys
letters-more xs ys = flat_map-append (λ (g : Gain). map (λ e. (g.from, e.1)) g.envelopes) xs ys

letters-one : (j : ℕ) (es : List (ℕ × Message)) → letters_of (some_from j es) ≡ map (λ e. (j, e.1)) es
letters-one j [] = refl
letters-one j (e ∷ es) = append-nil _

one-ascends : (b j : ℕ) (es : List (ℕ × Message)) (ls : List (ℕ × Message)) → b ≤ j → SendersFrom b ls → SendersFrom j ls → SendersFrom b (map (λ e. (j, e.1)) es ++ ls)
one-ascends b j [] ls low same more = same
one-ascends b j (e ∷ es) ls low same more = (low, one-ascends j j es ls (omega arith) more more)

letters-ascend : (b : ℕ) (fs : List Finding) → IsStrictlyIncreasing (sources fs) → ((j : ℕ) → has (sources fs) j ≡ true → b ≤ j) → SendersFrom b (letters_of (gains_in fs))
letters-ascend b [] up low = tt
letters-ascend b (f ∷ fs) up low =
    let me : ℕ = f.before.0 in
    let tail = IsStrictlyIncreasing-tail me (sources fs) up in
    let own : b ≤ me = low me (or_left (me == me) (has (sources fs) me) (eq-eqb me me refl)) in
    subst (λ (ls : List (ℕ × Message)). SendersFrom b ls)
    (sym (letters-more (some_of f.gain) (gains_in fs) ∙ ap (λ ls. ls ++ letters_of (gains_in fs)) (letters-one f.gain.from f.gain.envelopes)))
    (one-ascends b f.gain.from f.gain.envelopes (letters_of (gains_in fs)) (omega (arith, own, f.from))
    (letters-ascend b fs tail (λ j h. low j (or_right (me == j) (has (sources fs) j) h)))
    (letters-ascend f.gain.from fs tail (λ j h. let above : me < j = head_below me (sources fs) j up (contains_from_has (sources fs) j h) in omega (arith, above, f.from))))

-- what is found comes from the peers
one-from : (among : List ℕ) (j : ℕ) (es : List (ℕ × Message)) → Contains among j → All (IsFrom among) (some_from j es)
one-from among j [] h = All-nil (IsFrom among)
one-from among j (e ∷ es) h = All-cons (IsFrom among) (record { from = j; envelopes = e ∷ es }) [] h (All-nil (IsFrom among))

pub senders : (among : List ℕ) (fs : List Finding) → ((j : ℕ) → has (sources fs) j ≡ true → Contains among j) → All (IsFrom among) (gains_in fs)
senders among [] within = All-nil (IsFrom among)
senders among (f ∷ fs) within =
    let me : ℕ = f.before.0 in
    All-append (IsFrom among) (some_of f.gain) (gains_in fs)
    (one-from among f.gain.from f.gain.envelopes (subst (λ (n : ℕ). Contains among n) (sym f.from) (within me (or_left (me == me) (has (sources fs) me) (eq-eqb me me refl)))))
    (senders among fs (λ j h. within j (or_right (me == j) (has (sources fs) j) h)))

one-near : (v : View) (j : ℕ) (es : List (ℕ × Message)) → Contains (private_of v).neighbours j → All (IsToNeighbour v) (map (λ e. (j, e.1)) es)
one-near v j [] h = All-nil (IsToNeighbour v)
one-near v j (e ∷ es) h = All-cons (IsToNeighbour v) (j, e.1) (map (λ x. (j, x.1)) es) h (one-near v j es h)

letters-near : (v : View) (gs : List Gain) → All (IsFrom (private_of v).neighbours) gs → All (IsToNeighbour v) (letters_of gs)
letters-near v [] h = All-nil (IsToNeighbour v)
letters-near v (g ∷ gs) h =
    All-append (IsToNeighbour v) (map (λ e. (g.from, e.1)) g.envelopes) (letters_of gs) (one-near v g.from g.envelopes (h 0 g (omega arith)))
    (letters-near v gs (λ k d lt. h (suc k) d (omega (arith, lt))))

-- nothing of it is empty
one-some : (j : ℕ) (es : List (ℕ × Message)) (gs : List Gain) → list_any (λ t. t.count == 0) (takes_of gs) ≡ false → list_any (λ t. t.count == 0) (takes_of (some_from j es ++ gs)) ≡ false
one-some j [] gs h = h
one-some j (e ∷ es) gs h = or_from (length (e ∷ es) == 0) (list_any (λ t. t.count == 0) (takes_of gs)) (eqb-suc-zero (length es)) h

all-some : (fs : List Finding) → list_any (λ t. t.count == 0) (takes_of (gains_in fs)) ≡ false
all-some [] = refl
all-some (f ∷ fs) = one-some f.gain.from f.gain.envelopes (gains_in fs) (all-some fs)

-- how many messages it is
letters-count : (gs : List Gain) → length (letters_of gs) ≡ sum_by (λ g. length g.envelopes) gs
letters-count [] = refl
letters-count (g ∷ gs) =
    let here : length (letters_of (g ∷ gs)) ≡ length (map (λ (e : ℕ × Message). (g.from, e.1)) g.envelopes) + length (letters_of gs) = length-append (map (λ (e : ℕ × Message). (g.from, e.1)) g.envelopes) (letters_of gs) in
    let each : length {A = ℕ × Message} (map (λ (e : ℕ × Message). (g.from, e.1)) g.envelopes) ≡ length g.envelopes = length-map g.envelopes (λ (e : ℕ × Message). (g.from, e.1)) in
    let rest = letters-count gs in
    omega (arith, here, each, rest, sum_by-cons (λ (x : Gain). length x.envelopes) g gs)

one-few : (j : ℕ) (es : List (ℕ × Message)) (gs : List Gain) → sum_by (λ g. length g.envelopes) (some_from j es ++ gs) ≡ length es + sum_by (λ g. length g.envelopes) gs
one-few j [] gs = omega arith
one-few j (e ∷ es) gs = sum_by-cons (λ (x : Gain). length x.envelopes) (record { from = j; envelopes = e ∷ es }) gs

few : (fs : List Finding) → sum_by (λ g. length g.envelopes) (gains_in fs) ≤ ring_slots * length (lanes_taken (befores fs))
few [] = omega arith
few (f ∷ fs) =
    let rest : sum_by (λ g. length g.envelopes) (gains_in fs) ≤ ring_slots * length (lanes_taken (befores fs)) = few fs in
    omega (arith, one-few f.gain.from f.gain.envelopes (gains_in fs), f.most, rest)

-- of each link it is no more than a ring holds
one-each : (j : ℕ) (es : List (ℕ × Message)) → length es ≤ ring_slots → All IsFew (some_from j es)
one-each j [] h = All-nil IsFew
one-each j (e ∷ es) h = All-cons IsFew (record { from = j; envelopes = e ∷ es }) [] h (All-nil IsFew)

each : (fs : List Finding) → All IsFew (gains_in fs)
each [] = All-nil IsFew
each (f ∷ fs) = All-append IsFew (some_of f.gain) (gains_in fs) (one-each f.gain.from f.gain.envelopes f.most) (each fs)

-- what was known is taken
one-served : (b : Bool) (n : ℕ) (es : List (ℕ × Message)) → n ≤ length es → (if b then n else 0) ≤ length (if b then es else gained-nothing)
one-served true n es h = h
one-served false n es h = omega arith

served : (j : ℕ) (fs : List Finding) → known_from j (known_of (befores fs)) ≤ length (gained_from j (gains_in fs))
served j [] = omega arith
served j (f ∷ fs) =
    let rest : known_from j (known_of (befores fs)) ≤ length (gained_from j (gains_in fs)) = served j fs in
    let own : (if f.before.0 == j then length (known_to f.before.1) else 0) ≤ length (if f.before.0 == j then f.gain.envelopes else gained-nothing) = one-served (f.before.0 == j) (length (known_to f.before.1)) f.gain.envelopes f.known in
    let here : gained_from j (some_of f.gain) ≡ (if f.before.0 == j then f.gain.envelopes else gained-nothing) = gained-one f.gain.from j f.gain.envelopes ∙ ap (λ n. if n == j then f.gain.envelopes else gained-nothing) f.from in
    let both : length (gained_from j (gains_in (f ∷ fs))) ≡ length (gained_from j (some_of f.gain)) + length (gained_from j (gains_in fs)) =
    ap length (gained-more j (some_of f.gain) (gains_in fs)) ∙ length-append (gained_from j (some_of f.gain)) (gained_from j (gains_in fs)) in
    let same : length (gained_from j (some_of f.gain)) ≡ length (if f.before.0 == j then f.gain.envelopes else gained-nothing) = ap length here in
    omega (arith, own, rest, both, same, sum_by-cons (λ (k : ℕ × ℕ). if k.0 == j then k.1 else 0) (f.before.0, length (known_to f.before.1)) (known_of (befores fs)))

-- if nothing is found there are no gains
some-gain : (gs : List Gain) → 0 < length (letters_of gs) → (length (takes_of gs) == 0) ≡ false
some-gain [] h = let no : 0 < 0 = h in absurd (omega arith)
some-gain (g ∷ gs) h = eqb-suc-zero (length (takes_of gs))

one-empty : (j : ℕ) (es : List (ℕ × Message)) → length es ≡ 0 → some_from j es ≡ []
one-empty j [] h = refl
one-empty j (e ∷ es) h = let no : suc (length es) ≡ 0 = h in absurd (omega arith)

no-gain : (fs : List Finding) → sum_by (λ g. length g.envelopes) (gains_in fs) ≡ 0 → gains_in fs ≡ []
no-gain [] h = refl
no-gain (f ∷ fs) h =
    let both = one-few f.gain.from f.gain.envelopes (gains_in fs) in
    let one : some_of f.gain ≡ [] = one-empty f.gain.from f.gain.envelopes (omega (arith, both, h)) in
    let rest : gains_in fs ≡ [] = no-gain fs (omega (arith, both, h)) in
    ap₂ (λ (xs ys : List Gain). xs ++ ys) one rest

-- what a visit took, by its gains
pub record AreGains (before after : List Head) (letters : List (ℕ × Message)) (takes : List Take) (greatest : ℕ) : Type 0 where
  pub gains : List Gain
  pub letters_are : letters ≡ letters_of gains
  pub takes_are : takes ≡ takes_of gains
  pub greatest_is : greatest ≡ greatest_of gains
  pub counted : length letters ≡ sum_by (λ g. length g.envelopes) gains
  pub each : All IsFew gains
  pub few : length letters ≤ ring_slots * length (lanes_taken before)
  pub served : (j : ℕ) → known_from j (known_of before) ≤ length (gained_from j gains)
  pub grown : lanes_taken after ≡ grown (λ j. gained_from j gains) (lanes_taken before)
  pub idle : length letters ≡ 0 → lanes_taken after ≡ lanes_taken before
  pub some : 0 < length letters → has_nothing takes ≡ false
  pub ascend : ascends_from 0 takes ≡ true
  pub senders : All (IsFrom (peers (lanes_taken before))) gains
  pub batch : (v : View) → (private_of v).neighbours ≡ peers (lanes_taken before) → 0 < length letters → IsBatch v letters

pub are_gains : (before after : List Head) (letters : List (ℕ × Message)) (takes : List Take) (greatest : ℕ) → IsStrictlyIncreasing (peers (lanes_taken before))
    → HasCollected before after letters takes greatest → AreGains before after letters takes greatest
are_gains before after letters takes greatest up c =
    let fs = c.findings in
    let up : IsStrictlyIncreasing (sources fs) = subst (λ (hs : List Head). IsStrictlyIncreasing (peers (lanes_taken hs))) c.before_is up in
    let count : length letters ≡ sum_by (λ g. length g.envelopes) (gains_in fs) = ap length c.letters_are ∙ letters-count (gains_in fs) in
    let grew : lanes_taken after ≡ grown (λ j. gained_from j (gains_in fs)) (lanes_taken before) =
    ap lanes_taken c.after_is ∙ grows fs up ∙ ap (λ hs. grown (λ j. gained_from j (gains_in fs)) (lanes_taken hs)) (sym c.before_is) in
    record {
      gains = gains_in fs;
      letters_are = c.letters_are;
      takes_are = c.takes_are;
      greatest_is = c.greatest_is;
      counted = count;
      each = each fs;
      few = subst (λ (hs : List Head). length letters ≤ ring_slots * length (lanes_taken hs)) (sym c.before_is) (let n = few fs in omega (arith, n, count));
      served = λ j. subst (λ (hs : List Head). known_from j (known_of hs) ≤ length (gained_from j (gains_in fs))) (sym c.before_is) (served j fs);
      grown = grew;
      idle = λ (h : length letters ≡ 0). grew ∙ ap (λ gs. grown (λ j. gained_from j gs) (lanes_taken before)) (no-gain fs (omega (arith, h, count))) ∙ grown_none (lanes_taken before);
      some = λ (h : 0 < length letters). subst (λ (ts : List Take). has_nothing ts ≡ false) (sym c.takes_are)
          (or_from (length (takes_of (gains_in fs)) == 0) (list_any (λ t. t.count == 0) (takes_of (gains_in fs)))
          (some-gain (gains_in fs) (subst (λ (ls : List (ℕ × Message)). 0 < length ls) c.letters_are h)) (all-some fs));
      ascend = subst (λ (ts : List Take). ascends_from 0 ts ≡ true) (sym c.takes_are) (ascend 0 fs up (λ j h. omega arith));
      senders = subst (λ (hs : List Head). All (IsFrom (peers (lanes_taken hs))) (gains_in fs)) (sym c.before_is) (senders (sources fs) fs (contains_from_has (sources fs)));
      batch = λ v near (h : 0 < length letters).
          let from : All (IsFrom (private_of v).neighbours) (gains_in fs) = subst (λ (ns : List ℕ). All (IsFrom ns) (gains_in fs))
          (sym (near ∙ ap (λ hs. peers (lanes_taken hs)) c.before_is)) (senders (sources fs) fs (contains_from_has (sources fs))) in
          record {
            some = λ none. let no : 0 < 0 = subst (λ (ls : List (ℕ × Message)). 0 < length ls) none h in absurd (omega arith);
            ascend = subst (λ (ls : List (ℕ × Message)). SendersFrom 0 ls) (sym c.letters_are) (letters-ascend 0 fs up (λ j h. omega arith));
            neighbours = subst (λ (ls : List (ℕ × Message)). All (IsToNeighbour v) ls) (sym c.letters_are) (letters-near v (gains_in fs) from);
          };
    }
