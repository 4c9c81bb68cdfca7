-- An inbox after letters arrive, after takes, and after what was taken is kept.
use Rattle.std.proofs.Common.{◌≡◌, ℕ, ◌+◌, ◌<◌, ◌≤◌, Bool, true, false, cond, ◌==◌, nat_le, if◌then◌else◌, List, [], ◌∷◌, ◌++◌, take, Option, Some, None, refl, sym, ap, ◌∙◌, arith}
use Rattle.std.specs.List.{filter, flat_map, fold, last_or}
use Rattle.std.proofs.lemmas.Bool.{eqb-true, ne_eqb, eqb-false, leb-true, false≢true}
use Rattle.std.proofs.lemmas.List.{append-nil, drop-drop, take-map}
use Rattle.std.proofs.lemmas.List.Sums.{sum_by-cons}
use Rattle.std.proofs.lemmas.List.Elements.{filter-append}
use Rattle.protocol_steps.specs.declared.message.Message.{Message}
use Rattle.protocol_steps.specs.declared.event.Take.{Take}
use Rattle.protocol_steps.specs.Network.{taken_from}
use Rattle.protocol_steps.specs.Run.{ascends_from}
use Rattle.letter_queues.specs.Links.{LinkView, link_from, waiting_on, waiting_from, letters_of}
use Rattle.letter_queues.specs.Inboxes.{senders, edit_link, without_next, with_last, take_off, keep_last, letters_by}

-- a link, if there is one, is changed if it is the one that is edited
abbrev pub map_link : Bool → (LinkView → LinkView) → Option LinkView → Option LinkView
map_link true f None = None
map_link true f (Some l) = Some (f l)
map_link false f o = o

map_none : (b : Bool) (f : LinkView → LinkView) → None ≡ map_link b f None
map_none true f = refl
map_none false f = refl

edit_step : (j : ℕ) (f : LinkView → LinkView) (l : LinkView) (ls es : List LinkView) (a b c : Bool) → ((f l).from == j) ≡ b → (l.from == j) ≡ b
    → (a ≡ true → c ≡ b) → (a ≡ false → b ≡ true → c ≡ false) → link_from j es ≡ map_link c f (link_from j ls)
    → link_from j (cond a (f l ∷ ls) (l ∷ es)) ≡ map_link c f (link_from j (l ∷ ls))
edit_step j f l ls es true true c p q r s ih = rw (p, q, r refl) refl
edit_step j f l ls es true false c p q r s ih = rw (p, q, r refl) refl
edit_step j f l ls es false true c p q r s ih = rw (q, s refl refl) refl
edit_step j f l ls es false false c p q r s ih = rw q ih

-- a look-up after an edit
pub link_edit : (j k : ℕ) (f : LinkView → LinkView) → ((l : LinkView) → (f l).from ≡ l.from) → (ls : List LinkView) → link_from j (edit_link k f ls) ≡ map_link (k == j) f (link_from j ls)
link_edit j k f same [] = map_none (k == j) f
link_edit j k f same (l ∷ ls) =
    edit_step j f l ls (edit_link k f ls) (l.from == k) (l.from == j) (k == j) (ap (λ (n : ℕ). n == j) (same l)) refl
    (λ here. ap (λ (n : ℕ). n == j) (sym (eqb-true l.from k here)))
    (λ other here. ne_eqb k j (λ e. eqb-false l.from k other (eqb-true l.from j here ∙ sym e)))
    (link_edit j k f same ls)

senders_step : (b : Bool) (x l : LinkView) (ls es : List LinkView) → x.from ≡ l.from → senders es ≡ senders ls → senders (cond b (x ∷ ls) (l ∷ es)) ≡ senders (l ∷ ls)
senders_step true x l ls es same ih = ap (λ (n : ℕ). n ∷ senders ls) same
senders_step false x l ls es same ih = ap (λ (ns : List ℕ). l.from ∷ ns) ih

pub edit_senders : (k : ℕ) (f : LinkView → LinkView) → ((l : LinkView) → (f l).from ≡ l.from) → (ls : List LinkView) → senders (edit_link k f ls) ≡ senders ls
edit_senders k f same [] = refl
edit_senders k f same (l ∷ ls) =
    senders_step (l.from == k) (f l) l ls (edit_link k f ls) (same l) (edit_senders k f same ls)

-- takes: what stays on a link
off_step : (b : Bool) (c n : ℕ) (o : Option LinkView) → map_link true (without_next n) (map_link b (without_next c) o) ≡ map_link true (without_next ((if b then c else 0) + n)) o
off_step true c n None = refl
off_step true c n (Some l) = ap (λ (ms : List (ℕ × Message)). Some (record l { waiting = ms })) (drop-drop n c l.waiting)
off_step false c n None = refl
off_step false c n (Some l) = let e : n ≡ 0 + n = omega arith in ap (λ (k : ℕ). Some (without_next k l)) e

none_off : (o : Option LinkView) → o ≡ map_link true (without_next 0) o
none_off None = refl
none_off (Some l) = refl

pub link_off : (j : ℕ) (ls : List LinkView) (ts : List Take) → link_from j (fold take_off ls ts) ≡ map_link true (without_next (taken_from j ts)) (link_from j ls)
link_off j ls [] = none_off (link_from j ls)
link_off j ls (t ∷ ts) =
    link_off j (take_off ls t) ts
    ∙ ap (λ (o : Option LinkView). map_link true (without_next (taken_from j ts)) o) (link_edit j t.from (without_next t.count) (λ l. refl) ls)
    ∙ off_step (t.from == j) t.count (taken_from j ts) (link_from j ls)
    ∙ ap (λ (k : ℕ). map_link true (without_next k) (link_from j ls)) (sym (sum_by-cons (λ (u : Take). if u.from == j then u.count else 0) t ts))

-- letters that are kept: the last one of each sender
abbrev pub from_of : ℕ → List (ℕ × Message) → List (ℕ × Message)
from_of j ms = filter (λ m. m.0 == j) ms

abbrev pub with_lasts : List (ℕ × Message) → LinkView → LinkView
with_lasts ms l = record l { taken = last_or l.taken ms }

keep_step : (b : Bool) (m : ℕ × Message) (ms : List (ℕ × Message)) (o : Option LinkView) → map_link true (with_lasts ms) (map_link b (with_last m) o) ≡ map_link true (with_lasts (cond b (m ∷ ms) ms)) o
keep_step true m ms None = refl
keep_step true m ms (Some l) = refl
keep_step false m ms None = refl
keep_step false m ms (Some l) = refl

none_kept : (o : Option LinkView) → o ≡ map_link true (with_lasts []) o
none_kept None = refl
none_kept (Some l) = refl

pub link_kept : (j : ℕ) (ls : List LinkView) (ms : List (ℕ × Message)) → link_from j (fold keep_last ls ms) ≡ map_link true (with_lasts (from_of j ms)) (link_from j ls)
link_kept j ls [] = none_kept (link_from j ls)
link_kept j ls (m ∷ ms) =
    link_kept j (keep_last ls m) ms
    ∙ ap (λ (o : Option LinkView). map_link true (with_lasts (from_of j ms)) o) (link_edit j m.0 (with_last m) (λ l. refl) ls)
    ∙ keep_step (m.0 == j) m (from_of j ms) (link_from j ls)

pub off_senders : (ls : List LinkView) (ts : List Take) → senders (fold take_off ls ts) ≡ senders ls
off_senders ls [] = refl
off_senders ls (t ∷ ts) = off_senders (take_off ls t) ts ∙ edit_senders t.from (without_next t.count) (λ l. refl) ls

pub kept_senders : (ls : List LinkView) (ms : List (ℕ × Message)) → senders (fold keep_last ls ms) ≡ senders ls
kept_senders ls [] = refl
kept_senders ls (m ∷ ms) = kept_senders (keep_last ls m) ms ∙ edit_senders m.0 (with_last m) (λ l. refl) ls

-- the letters of takes, of what waits by a function
abbrev pub letters_taken : (ℕ → List Message) → List Take → List (ℕ × Message)
letters_taken W ts = flat_map (λ t. letters_of t.from (take t.count (W t.from))) ts

then_true : (b x : Bool) → cond b x false ≡ true → (b ≡ true) × (x ≡ true)
then_true true x h = (refl, h)
then_true false x h = absurd (false≢true h)

-- takes of ascending senders, from b on: the first is at least b, and the others are above it
pub asc_parts : (b : ℕ) (t : Take) (ts : List Take) → ascends_from b (t ∷ ts) ≡ true → (b ≤ t.from) × (ascends_from (t.from + 1) ts ≡ true)
asc_parts b t ts h =
    let parts = then_true (nat_le b t.from) (ascends_from (t.from + 1) ts) h in
    (leb-true b t.from parts.0, parts.1)

-- what waits of b and above is by a function
abbrev pub Waits : ℕ → (ℕ → List Message) → List LinkView → Type 0
Waits b W ls = (j : ℕ) → b ≤ j → waiting_from ls j ≡ letters_of j (W j)

pub letters_all : (W : ℕ → List Message) (ts : List Take) (b : ℕ) (ls : List LinkView) → ascends_from b ts ≡ true → Waits b W ls → letters_by ls ts ≡ letters_taken W ts
letters_all W [] b ls asc w = refl
letters_all W (t ∷ ts) b ls asc w =
    let parts = asc_parts b t ts asc in
    let first : take t.count (waiting_from ls t.from) ≡ letters_of t.from (take t.count (W t.from)) =
    ap (λ (ms : List (ℕ × Message)). take t.count ms) (w t.from parts.0) ∙ take-map (λ (m : Message). (t.from, m)) t.count (W t.from) in
    let later : Waits (t.from + 1) W (take_off ls t) = λ j le.
    ap waiting_on (link_edit j t.from (without_next t.count) (λ l. refl) ls ∙ ap (λ (b : Bool). map_link b (without_next t.count) (link_from j ls)) (ne_eqb t.from j (λ e. omega (arith, e, le))))
    ∙ w j (omega (arith, parts.0, le)) in
    ap (λ (ms : List (ℕ × Message)). ms ++ letters_by (take_off ls t) ts) first
    ∙ ap (λ (ms : List (ℕ × Message)). letters_of t.from (take t.count (W t.from)) ++ ms) (letters_all W ts (t.from + 1) (take_off ls t) parts.1 later)

-- of one sender
of_test : (b : Bool) (k j : ℕ) (ms : List Message) → (k == j) ≡ b → from_of j (letters_of k ms) ≡ (if b then letters_of k ms else [])
of_test true k j [] h = refl
of_test true k j (m ∷ ms) h = rw h (ap (λ (xs : List (ℕ × Message)). (k, m) ∷ xs) (of_test true k j ms h))
of_test false k j [] h = refl
of_test false k j (m ∷ ms) h = rw h (of_test false k j ms h)

of_sender : (k j : ℕ) (ms : List Message) → from_of j (letters_of k ms) ≡ (if k == j then letters_of k ms else [])
of_sender k j ms = of_test (k == j) k j ms refl

pub none_of : (W : ℕ → List Message) (j b : ℕ) (ts : List Take) → ascends_from b ts ≡ true → j < b → (from_of j (letters_taken W ts) ≡ []) × (taken_from j ts ≡ 0)
none_of W j b [] asc lt = (refl, refl)
none_of W j b (t ∷ ts) asc lt =
    let parts = asc_parts b t ts asc in
    let apart : (t.from == j) ≡ false = ne_eqb t.from j (λ e. omega (arith, e, lt, parts.0)) in
    let rest = none_of W j (t.from + 1) ts parts.1 (omega (arith, lt, parts.0)) in
    let ms : List Message = take t.count (W t.from) in (
      filter-append (λ (m : ℕ × Message). m.0 == j) (letters_of t.from ms) (letters_taken W ts)
          ∙ ap (λ (xs : List (ℕ × Message)). xs ++ from_of j (letters_taken W ts)) (of_sender t.from j ms ∙ ap (λ (b : Bool). if b then letters_of t.from ms else []) apart)
          ∙ rest.0,
      sum_by-cons (λ (u : Take). if u.from == j then u.count else 0) t ts ∙ ap (λ (b : Bool). (if b then t.count else 0) + taken_from j ts) apart ∙ (let e : 0 + taken_from j ts ≡ 0 = omega (arith, rest.1) in e),
    )

taken_at : (W : ℕ → List Message) (t : Take) (j : ℕ) (ts : List Take) (b : Bool) → (t.from == j) ≡ b → from_of j (letters_taken W ts) ≡ letters_of j (take (taken_from j ts) (W j))
    → (t.from ≡ j → (from_of j (letters_taken W ts) ≡ []) × (taken_from j ts ≡ 0))
    → (if b then letters_of t.from (take t.count (W t.from)) else []) ++ from_of j (letters_taken W ts) ≡ letters_of j (take ((if b then t.count else 0) + taken_from j ts) (W j))
taken_at W t j ts true h ih none =
    let same : t.from ≡ j = eqb-true t.from j h in
    let rest = none same in
    ap (λ (xs : List (ℕ × Message)). letters_of t.from (take t.count (W t.from)) ++ xs) rest.0
    ∙ append-nil (letters_of t.from (take t.count (W t.from)))
    ∙ ap (λ (k : ℕ). letters_of k (take t.count (W k))) same
    ∙ (let e : t.count ≡ t.count + taken_from j ts = omega (arith, rest.1) in ap (λ (n : ℕ). letters_of j (take n (W j))) e)
taken_at W t j ts false h ih none = let e : taken_from j ts ≡ 0 + taken_from j ts = omega arith in ih ∙ ap (λ (n : ℕ). letters_of j (take n (W j))) e

-- the letters of one sender are the next ones that wait, as many as are taken
pub taken_of : (W : ℕ → List Message) (j b : ℕ) (ts : List Take) → ascends_from b ts ≡ true → from_of j (letters_taken W ts) ≡ letters_of j (take (taken_from j ts) (W j))
taken_of W j b [] asc = refl
taken_of W j b (t ∷ ts) asc =
    let parts = asc_parts b t ts asc in
    let ms : List Message = take t.count (W t.from) in
    let cut : from_of j (letters_taken W (t ∷ ts)) ≡ (if t.from == j then letters_of t.from ms else []) ++ from_of j (letters_taken W ts) =
    filter-append (λ (m : ℕ × Message). m.0 == j) (letters_of t.from ms) (letters_taken W ts)
    ∙ ap (λ (xs : List (ℕ × Message)). xs ++ from_of j (letters_taken W ts)) (of_sender t.from j ms) in
    let count : taken_from j (t ∷ ts) ≡ (if t.from == j then t.count else 0) + taken_from j ts = sum_by-cons (λ (u : Take). if u.from == j then u.count else 0) t ts in
    cut ∙ taken_at W t j ts (t.from == j) refl (taken_of W j (t.from + 1) ts parts.1) (λ e. none_of W j (t.from + 1) ts parts.1 (omega (arith, e)))
    ∙ ap (λ (n : ℕ). letters_of j (take n (W j))) (sym count)
