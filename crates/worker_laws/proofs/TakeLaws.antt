-- What activations take, by their account and by their journal.
use Rattle.std.proofs.Common.{◌≡◌, ℕ, ◌+◌, ◌≤◌, Bool, true, false, ◌==◌, nat_le, if◌then◌else◌, List, [], ◌∷◌, ◌++◌, map, length, take, drop, refl, sym, ap, ap₂, ◌∙◌, arith}
use Rattle.std.specs.List.{sum_by, fold, flat_map}
use Rattle.std.proofs.Math.Path.{fun_ext}
use Rattle.std.proofs.Math.Seq.{take-append_seam, drop-append_seam}
use Rattle.std.proofs.lemmas.Bool.{eq-eqb, ne_eqb, leb-true}
use Rattle.std.proofs.lemmas.List.{append-nil, append_assoc, length-append, map-append}
use Rattle.std.proofs.lemmas.List.Concat.{flat_map-append}
use Rattle.std.proofs.lemmas.List.Sums.{sum_by-cons, sum_by-append}
use Rattle.protocol_steps.specs.declared.message.Message.{Message}
use Rattle.protocol_steps.specs.declared.event.Take.{Take}
use Rattle.protocol_steps.specs.declared.event.Entry.{Entry}
use Rattle.protocol_steps.specs.Network.{taken_from}
use Rattle.protocol_steps.specs.Run.{ascends_from}
use Rattle.protocol_steps.specs.Stamps.{Gain, Deed, Account, do_one}
use Rattle.protocol_steps.specs.Deeds.{takes_of, AreDeeds, gain_from, gained_from}
use Rattle.protocol_steps.specs.JournalStamps.{cut_off, left_of, deeds_from}
use Rattle.protocol_steps.proofs.AccountLaws.{taken_count, none_below, form_parts}
use Rattle.worker_laws.specs.Acts.{entry_of, journal_of}
use Rattle.worker_laws.specs.CellRounds.{taken_by}
use Rattle.worker_laws.specs.Merges.{AscendsAbove}
use Rattle.worker_laws.proofs.SortLaws.{OfAgent}

abbrev pub deed_agent : Deed → ℕ
deed_agent d = d.agent

abbrev pub deed_stamp : Deed → ℕ
deed_stamp d = d.stamp

-- all that activations gain
abbrev pub gains_in : List Deed → List Gain
gains_in ds = flat_map (λ d. d.gains) ds

pub gains_are : (x : Account) (ds : List Deed) → (fold do_one x ds).gains ≡ x.gains ++ gains_in ds
gains_are x [] = sym (append-nil x.gains)
gains_are x (d ∷ ds) = gains_are (do_one x d) ds ∙ append_assoc x.gains d.gains (gains_in ds)

-- how many messages they take together
pub takes_in : (x : Account) (ds : List Deed) → sum_by (λ t. t.count) (takes_of (fold do_one x ds).gains) ≡ sum_by (λ t. t.count) (takes_of x.gains) + taken_by (journal_of ds)
takes_in x [] = omega arith
takes_in x (d ∷ ds) =
    let rest = takes_in (do_one x d) ds in
    let both : sum_by (λ t. t.count) (takes_of (x.gains ++ d.gains)) ≡ sum_by (λ t. t.count) (takes_of x.gains) + sum_by (λ t. t.count) (takes_of d.gains) =
    ap (λ (ts : List Take). sum_by (λ t. t.count) ts) (map-append (λ (g : Gain). let t : Take = record { from = g.from; count = length g.envelopes } in t) x.gains d.gains)
    ∙ sum_by-append (λ (t : Take). t.count) (takes_of x.gains) (takes_of d.gains) in
    let sum = sum_by-cons (λ (e : Entry). sum_by (λ (t : Take). t.count) e.takes) (entry_of d) (journal_of ds) in
    omega (arith, rest, both, sum)

-- how many of one sender, by the takes of their events
pub taken_of : (j : ℕ) (ds : List Deed) → taken_from j (flat_map (λ ts. ts) (map (λ d. takes_of d.gains) ds)) ≡ length (gained_from j (gains_in ds))
taken_of j [] = refl
taken_of j (d ∷ ds) =
    let rest = taken_of j ds in
    let here = taken_count j d.gains in
    let split = sum_by-append (λ (t : Take). if t.from == j then t.count else 0) (takes_of d.gains) (flat_map (λ ts. ts) (map (λ (e : Deed). takes_of e.gains) ds)) in
    let whole : length (gained_from j (gains_in (d ∷ ds))) ≡ length (gained_from j d.gains) + length (gained_from j (gains_in ds)) =
    ap (λ (es : List (ℕ × Message)). length es) (flat_map-append (gain_from j) d.gains (gains_in ds)) ∙ length-append (gained_from j d.gains) (gained_from j (gains_in ds)) in
    omega (arith, rest, here, split, whole)

pub takes_twice : (ds : List Deed) → map (λ (e : Entry). e.takes) (journal_of ds) ≡ map (λ (d : Deed). takes_of d.gains) ds
takes_twice [] = refl
takes_twice (d ∷ ds) = ap (λ (tss : List (List Take)). takes_of d.gains ∷ tss) (takes_twice ds)

pub entries_take : (ds : List Deed) → flat_map (λ (e : Entry). e.takes) (journal_of ds) ≡ flat_map (λ ts. ts) (map (λ (d : Deed). takes_of d.gains) ds)
entries_take [] = refl
entries_take (d ∷ ds) = ap (λ (ts : List Take). takes_of d.gains ++ ts) (entries_take ds)

-- ascending senders' gains are cut off again from the lists of what they sent
cut_again : (gs : List Gain) (b : ℕ) (lists more : ℕ → List (ℕ × Message)) → ascends_from b (takes_of gs) ≡ true → ((j : ℕ) → b ≤ j → lists j ≡ gained_from j gs ++ more j)
    → map (cut_off lists) (takes_of gs) ≡ gs
cut_again [] b lists more up same = refl
cut_again (g ∷ gs) b lists more up same =
    let parts = then_both (nat_le b g.from) (ascends_from (g.from + 1) (takes_of gs)) up in
    let le : b ≤ g.from = leb-true b g.from parts.0 in
    let own : gained_from g.from (g ∷ gs) ≡ g.envelopes =
    ap (λ (t : Bool). (if t then g.envelopes else []) ++ gained_from g.from gs) (eq-eqb g.from g.from refl)
    ∙ ap (λ (es : List (ℕ × Message)). g.envelopes ++ es) (none_below gs (g.from + 1) g.from parts.1 (omega arith)) ∙ append-nil g.envelopes in
    let front : take (length g.envelopes) (lists g.from) ≡ g.envelopes =
    ap (λ (es : List (ℕ × Message)). take (length g.envelopes) es) (same g.from le ∙ ap (λ (es : List (ℕ × Message)). es ++ more g.from) own) ∙ take-append_seam g.envelopes (more g.from) in
    ap₂ (λ (es : List (ℕ × Message)) (hs : List Gain). let h : Gain = record { from = g.from; envelopes = es } in h ∷ hs) front
    (cut_again gs (g.from + 1) lists more parts.1 (λ j low. same j (omega (arith, le, low))
    ∙ ap (λ (t : Bool). ((if t then g.envelopes else []) ++ gained_from j gs) ++ more j) (ne_eqb g.from j (λ e. omega (arith, e, low)))))
  where
    then_both : (b x : Bool) → (if b then x else false) ≡ true → (b ≡ true) × (x ≡ true)
    then_both true x h = (refl, h)
    then_both false x h = absurd (cc)

-- the activations of an agent are told again by its journal and by what it took
pub deeds_again : (n i : ℕ) (x : Account) (ds : List Deed) → OfAgent deed_agent deed_stamp i ds → AreDeeds n x ds → deeds_from i (λ j. gained_from j (gains_in ds)) (journal_of ds) ≡ ds
deeds_again n i x [] of h = refl
deeds_again n i x (d ∷ ds) of h =
    let lists : ℕ → List (ℕ × Message) = λ (j : ℕ). gained_from j (gains_in (d ∷ ds)) in
    let split : (j : ℕ) → lists j ≡ gained_from j d.gains ++ gained_from j (gains_in ds) = λ j. flat_map-append (gain_from j) d.gains (gains_in ds) in
    let cut : map (cut_off lists) (takes_of d.gains) ≡ d.gains = cut_again d.gains 0 lists (λ j. gained_from j (gains_in ds)) (form_parts n _ (takes_of d.gains) h.0.form).1 (λ j le. split j) in
    let left : left_of lists (takes_of d.gains) ≡ (λ j. gained_from j (gains_in ds)) =
    fun_ext (λ j.
    ap₂ (λ (k : ℕ) (es : List (ℕ × Message)). drop k es) (taken_count j d.gains) (split j) ∙ drop-append_seam (gained_from j d.gains) (gained_from j (gains_in ds))) in
    ap₂ (λ (k : ℕ) (gs : List Gain). let e : Deed = record { agent = k; stamp = d.stamp; gains = gs } in e ∷ deeds_from i (left_of lists (takes_of d.gains)) (journal_of ds)) (sym of.0) cut
    ∙ ap (λ (f : ℕ → List (ℕ × Message)). d ∷ deeds_from i f (journal_of ds)) left
    ∙ ap (λ (es : List Deed). d ∷ es) (deeds_again n i (do_one x d) ds of.1 h.1)

-- right stamps ascend
pub deeds_ascend : (n b : ℕ) (x : Account) (ds : List Deed) → b ≤ x.stamp → AreDeeds n x ds → AscendsAbove b (journal_of ds)
deeds_ascend n b x [] le h = tt
deeds_ascend n b x (d ∷ ds) le h = let right = h.0.right in (omega (arith, le, right), deeds_ascend n d.stamp (do_one x d) ds (omega arith) h.1)
