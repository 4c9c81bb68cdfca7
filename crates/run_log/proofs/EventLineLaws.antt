-- Lines of events: read one after another, and read again after they were written.
use Rattle.std.proofs.Common.{◌≡◌, ℕ, ◌+◌, ◌^◌, ◌<◌, ◌≤◌, true, List, [], ◌∷◌, ◌++◌, length, map, get_or, take, Some, Result, Ok, Err, position, refl, sym, ap, subst, ◌∙◌, append_assoc, arith}
use Rattle.std.specs.List.{list_all, All, IsDistinct, flat_map}
use Rattle.std.specs.Prelude.{codes, slice_index_or}
use Rattle.std.specs.Fmt.{decimal}
use Rattle.std.specs.Str.{bytes_eq}
use Rattle.std.proofs.lemmas.Bool.{le-ltb}
use Rattle.std.proofs.lemmas.Grind.{flat_map-append}
use Rattle.std.proofs.lemmas.List.{append-nil, take_more, take_all}
use Rattle.std.proofs.lemmas.List.Elements.{All-head, All-tail, All-more}
use Rattle.protocol_steps.specs.declared.event.Take.{Take}
use Rattle.problem_text.specs.Canonical.{line}
use Rattle.problem_text.specs.Name.{is_name}
use Rattle.problem_text.specs.PlainLines.{Plain}
use Rattle.problem_text.specs.declared.fault.ReportFault.{ReportFault}
use Rattle.problem_text.specs.declared.fault.ReportFault.TheVariants.{Bad}
use Rattle.problem_text.specs.declared.fault.ReportKind.{ReportKind}
use Rattle.problem_text.specs.declared.line_end.LineEnd.{LineEnd}
use Rattle.problem_text.specs.declared.line_end.LineEnd.TheVariants as ends
use Rattle.problem_text.proofs.CanonicalLaws.{name-word}
use Rattle.problem_text.proofs.DecimalLaws.{number-decimal, decimal-word}
use Rattle.problem_text.proofs.LineLaws.{spaced, line-cons}
use Rattle.problem_text.proofs.RoundTripLaws.{is_word, is_line, plain_worded, plain-lines-of-words}
use Rattle.problem_text.proofs.TableTextLaws.{name-at, own-place}
use Rattle.run_log.specs.declared.log.LogEvent.{LogEvent}
use Rattle.run_log.specs.EventLine.{take_limit, number_within, are_pairs, take_told, take_before, takes_told, event_line}
use Rattle.run_log.specs.LogText.{take_words, event_words, log_text, IsNamedEvent, FitsEvent}
use Rattle.run_log.specs.LogReading.{event_before, events_read, log_read, Reads, IsTold}

-- takes before those that are read
abbrev pub after_takes : List Take → Result (List Take) ReportKind → Result (List Take) ReportKind
after_takes done (Ok later) = Ok (done ++ later)
after_takes done (Err kind) = Err kind

after_take : (done : List Take) (t : Take) (read : Result (List Take) ReportKind) → after_takes (done ++ t ∷ []) read ≡ after_takes done (take_before (Ok t) read)
after_take done t (Ok ts) = ap (λ (us : List Take). let r : Result (List Take) ReportKind = Ok us in r) (append_assoc done (t ∷ []) ts)
after_take done t (Err kind) = refl

pub one_take : (names rest behind after : List (List ℕ)) (sender count : List ℕ) (done new : List Take) (t : Take) (all : Result (List Take) ReportKind)
    → rest ≡ sender ∷ behind → behind ≡ count ∷ after → take_told (position (bytes_eq sender) names) (number_within take_limit count) ≡ Ok t → new ≡ done ++ t ∷ []
    → after_takes done (takes_told names rest) ≡ all → after_takes new (takes_told names after) ≡ all
one_take names rest behind after sender count done new t all first second told push h =
    ap (λ (ts : List Take). after_takes ts (takes_told names after)) push
    ∙ after_take done t (takes_told names after)
    ∙ ap (λ (r : Result Take ReportKind). after_takes done (take_before r (takes_told names after))) (sym told)
    ∙ sym (ap (λ (ws : List (List ℕ)). after_takes done (takes_told names ws)) (first ∙ ap (λ (ws : List (List ℕ)). sender ∷ ws) second))
    ∙ h

pub take_fault : (names rest behind after : List (List ℕ)) (sender count : List ℕ) (done : List Take) (kind : ReportKind) (all : Result (List Take) ReportKind)
    → rest ≡ sender ∷ behind → behind ≡ count ∷ after → take_told (position (bytes_eq sender) names) (number_within take_limit count) ≡ Err kind
    → after_takes done (takes_told names rest) ≡ all → all ≡ Err kind
take_fault names rest behind after sender count done kind all first second told h =
    sym h
    ∙ ap (λ (ws : List (List ℕ)). after_takes done (takes_told names ws)) (first ∙ ap (λ (ws : List (List ℕ)). sender ∷ ws) second)
    ∙ ap (λ (r : Result Take ReportKind). after_takes done (take_before r (takes_told names after))) told

pub all_taken : (names rest : List (List ℕ)) (done : List Take) (all : Result (List Take) ReportKind) → rest ≡ [] → after_takes done (takes_told names rest) ≡ all → all ≡ Ok done
all_taken names rest done all none h =
    sym h ∙ ap (λ (ws : List (List ℕ)). after_takes done (takes_told names ws)) none ∙ ap (λ (ts : List Take). let r : Result (List Take) ReportKind = Ok ts in r) (append-nil done)

-- events before those that are read
abbrev pub after_events : List LogEvent → Result (List LogEvent) ReportFault → Result (List LogEvent) ReportFault
after_events done (Ok later) = Ok (done ++ later)
after_events done (Err fault) = Err fault

after_event : (number : ℕ) (done : List LogEvent) (e : LogEvent) (read : Result (List LogEvent) ReportFault) → after_events (done ++ e ∷ []) read ≡ after_events done (event_before number (Ok e) read)
after_event number done e (Ok log) = ap (λ (es : List LogEvent). let r : Result (List LogEvent) ReportFault = Ok es in r) (append_assoc done (e ∷ []) log)
after_event number done e (Err fault) = refl

pub one_event : (names : List (List ℕ)) (lines later : List Plain) (l : Plain) (done new : List LogEvent) (e : LogEvent) (all : Result (List LogEvent) ReportFault)
    → lines ≡ l ∷ later → event_line names l.words ≡ Ok e → new ≡ done ++ e ∷ [] → after_events done (events_read names lines) ≡ all → after_events new (events_read names later) ≡ all
one_event names lines later l done new e all first told push h =
    ap (λ (es : List LogEvent). after_events es (events_read names later)) push
    ∙ after_event l.number done e (events_read names later)
    ∙ ap (λ (r : Result LogEvent ReportKind). after_events done (event_before l.number r (events_read names later))) (sym told)
    ∙ sym (ap (λ (ls : List Plain). after_events done (events_read names ls)) first)
    ∙ h

pub event_fault : (names : List (List ℕ)) (lines later : List Plain) (l : Plain) (done : List LogEvent) (kind : ReportKind) (all : Result (List LogEvent) ReportFault)
    → lines ≡ l ∷ later → event_line names l.words ≡ Err kind → after_events done (events_read names lines) ≡ all → all ≡ Err (Bad l.number kind)
event_fault names lines later l done kind all first told h =
    sym h
    ∙ ap (λ (ls : List Plain). after_events done (events_read names ls)) first
    ∙ ap (λ (r : Result LogEvent ReportKind). after_events done (event_before l.number r (events_read names later))) told

pub all_events : (names : List (List ℕ)) (lines : List Plain) (done : List LogEvent) (all : Result (List LogEvent) ReportFault) → lines ≡ [] → after_events done (events_read names lines) ≡ all → all ≡ Ok done
all_events names lines done all none h =
    sym h
    ∙ ap (λ (ls : List Plain). after_events done (events_read names ls)) none
    ∙ ap (λ (es : List LogEvent). let r : Result (List LogEvent) ReportFault = Ok es in r) (append-nil done)

-- a number that was written is read again
number_again : (most n : ℕ) → most < 10 ^ 19 → n ≤ most → number_within most (decimal n) ≡ Some n
number_again most n small le = rw (number-decimal n (omega (arith, small, le)), le-ltb most n le) refl

pairs_again : (names : List (List ℕ)) (ts : List Take) → are_pairs (flat_map (take_words names) ts) ≡ true
pairs_again names [] = refl
pairs_again names (t ∷ ts) = pairs_again names ts

takes_again : (names : List (List ℕ)) (ts : List Take) → IsDistinct bytes_eq names → All (λ t. t.from < length names) ts → All (λ t. t.count ≤ take_limit) ts → takes_told names (flat_map (take_words names) ts) ≡ Ok ts
takes_again names [] apart named few = refl
takes_again names (t ∷ ts) apart named few =
    rw (
      own-place names t.from apart (All-head (λ u. u.from < length names) t ts named),
      number_again take_limit t.count (omega arith) (All-head (λ u. u.count ≤ take_limit) t ts few),
      takes_again names ts apart (All-tail (λ u. u.from < length names) t ts named) (All-tail (λ u. u.count ≤ take_limit) t ts few),
    ) refl

-- an event that fits is read again
pub event_again : (names : List (List ℕ)) (e : LogEvent) → IsDistinct bytes_eq names → FitsEvent (length names) e → event_line names (event_words names e) ≡ Ok e
event_again names e apart fit =
    rw (
      pairs_again names e.takes,
      own-place names e.agent apart fit.named.agent,
      number_again 4611686018427387904 e.stamp (omega arith) fit.stamp,
      takes_again names e.takes apart fit.named.senders fit.counts,
    ) refl

takes_plain : (names : List (List ℕ)) (ts : List Take) → list_all is_name names ≡ true → All (λ t. t.from < length names) ts → All (λ t. t.count ≤ take_limit) ts → list_all is_word (flat_map (take_words names) ts) ≡ true
takes_plain names [] words named few = refl
takes_plain names (t ∷ ts) words named few =
    let count : t.count ≤ take_limit = All-head (λ u. u.count ≤ take_limit) t ts few in
    rw (
      name-word (get_or names t.from []) (name-at names t.from words (All-head (λ u. u.from < length names) t ts named)),
      decimal-word t.count (omega (arith, count)),
      takes_plain names ts words (All-tail (λ u. u.from < length names) t ts named) (All-tail (λ u. u.count ≤ take_limit) t ts few),
    ) refl

event_plain : (names : List (List ℕ)) (e : LogEvent) → list_all is_name names ≡ true → FitsEvent (length names) e → is_line (event_words names e) ≡ true
event_plain names e words fit =
    let stamp : e.stamp ≤ 4611686018427387904 = fit.stamp in
    rw (
      name-word (get_or names e.agent []) (name-at names e.agent words fit.named.agent),
      decimal-word e.stamp (omega (arith, stamp)),
      takes_plain names e.takes words fit.named.senders fit.counts,
    ) refl

pub events_plain : (names : List (List ℕ)) (log : List LogEvent) → list_all is_name names ≡ true → All (FitsEvent (length names)) log → list_all is_line (map (event_words names) log) ≡ true
events_plain names [] words fit = refl
events_plain names (e ∷ log) words fit = rw (event_plain names e words (All-head (FitsEvent (length names)) e log fit), events_plain names log words (All-tail (FitsEvent (length names)) e log fit)) refl

events_again : (names : List (List ℕ)) (number : ℕ) (log : List LogEvent) → IsDistinct bytes_eq names → All (FitsEvent (length names)) log → events_read names (plain_worded number (map (event_words names) log)) ≡ Ok log
events_again names number [] apart fit = refl
events_again names number (e ∷ log) apart fit =
    rw (event_again names e apart (All-head (FitsEvent (length names)) e log fit), events_again names (number + 1) log apart (All-tail (FitsEvent (length names)) e log fit)) refl

-- the text of a log is read as that log
pub log_again : (names : List (List ℕ)) (log : List LogEvent) → IsDistinct bytes_eq names → list_all is_name names ≡ true → All (IsNamedEvent (length names)) log
    → All (λ e. All (λ t. t.count ≤ take_limit) e.takes) log → All (λ e. e.stamp ≤ 4611686018427387904) log → log_read names (log_text names log) ≡ Ok log
log_again names log apart words named counts stamps =
    let fit : All (FitsEvent (length names)) log = λ k d lt. record { named = named k d lt; stamp = stamps k d lt; counts = counts k d lt } in
    ap (events_read names) (plain-lines-of-words 1 (map (event_words names) log) (events_plain names log words fit)) ∙ events_again names 1 log apart fit

-- an event's line, as it is written piece by piece
takes_spaced : (names : List (List ℕ)) (ts : List Take) → flat_map spaced (flat_map (take_words names) ts) ≡ flat_map (λ t. flat_map spaced (take_words names t)) ts
takes_spaced names [] = refl
takes_spaced names (t ∷ ts) = flat_map-append spaced (take_words names t) (flat_map (take_words names) ts) ∙ ap (λ (text : List ℕ). flat_map spaced (take_words names t) ++ text) (takes_spaced names ts)

pieces : (name stamp takes : List ℕ) → (codes "event" ++ (32 ∷ (name ++ (32 ∷ (stamp ++ takes))))) ++ (10 ∷ []) ≡ codes "event " ++ (name ++ (32 ∷ (stamp ++ (takes ++ (10 ∷ [])))))
pieces name stamp takes = ap (λ (text : List ℕ). codes "event " ++ text) (append_assoc name (32 ∷ (stamp ++ takes)) (10 ∷ []) ∙ ap (λ (text : List ℕ). name ++ (32 ∷ text)) (append_assoc stamp takes (10 ∷ [])))

pub event_written : (old new : List ℕ) (names : List (List ℕ)) (e : LogEvent)
    → new ≡ old ++ (codes "event " ++ (slice_index_or names e.agent [] ++ (32 ∷ (decimal e.stamp ++ (flat_map (λ t. flat_map spaced (take_words names t)) e.takes ++ (10 ∷ [])))))) → new ≡ old ++ line (event_words names e)
event_written old new names e h =
    let name : List ℕ = slice_index_or names e.agent [] in
    let takes : List (List ℕ) = flat_map (take_words names) e.takes in
    h ∙ ap (λ (text : List ℕ). old ++ text)
    (sym (line-cons (codes "event") (name ∷ decimal e.stamp ∷ takes)
    ∙ pieces name (decimal e.stamp) (flat_map spaced takes)
    ∙ ap (λ (text : List ℕ). codes "event " ++ (name ++ (32 ∷ (decimal e.stamp ++ (text ++ (10 ∷ [])))))) (takes_spaced names e.takes)))

-- what was told of a line is what the line tells
pub told_is : (number : ℕ) (read : Result LogEvent (LineEnd ReportKind)) (told : Result LogEvent ReportKind) (e : LogEvent) → Reads read told → IsTold number read (Ok e) → told ≡ Ok e
told_is number (Ok x) told e h k = h ∙ sym_ok x e k
  where
    sym_ok : (x e : LogEvent) → ◌≡◌ {A = Result LogEvent ReportFault} (Ok e) (Ok x) → ◌≡◌ {A = Result LogEvent ReportKind} (Ok x) (Ok e)
    sym_ok x e k = cc
told_is number (Err ends.NoMemory) told e h k = absurd (cc)
told_is number (Err (ends.Fault kind)) told e h k = absurd (cc)

-- a text with one more piece
pub one_written : (f : Take → List ℕ) (old text new : List ℕ) (ts : List Take) (k : ℕ) (t : Take) → k < length ts → t ≡ get_or ts k t → text ≡ old ++ flat_map f (take k ts) → new ≡ text ++ f t
    → new ≡ old ++ flat_map f (take (k + 1) ts)
one_written f old text new ts k t lt at so_far push =
    push
    ∙ ap (λ (bytes : List ℕ). bytes ++ f t) so_far
    ∙ append_assoc old (flat_map f (take k ts)) (f t)
    ∙ ap (λ (bytes : List ℕ). old ++ bytes)
    (ap (λ (bytes : List ℕ). flat_map f (take k ts) ++ bytes) (sym (append-nil (f t)))
    ∙ sym (flat_map-append f (take k ts) (t ∷ []))
    ∙ ap (flat_map f) (ap (λ (u : Take). take k ts ++ u ∷ []) at ∙ sym (take_more ts k t lt)))

-- so far none of the counts is too great, and one more is not
pub one_counted : (ts : List Take) (k : ℕ) (t : Take) → k < length ts → t ≡ get_or ts k t → All (λ u. u.count ≤ take_limit) (take k ts) → t.count ≤ take_limit → All (λ u. u.count ≤ take_limit) (take (k + 1) ts)
one_counted ts k t lt at so_far le = All-more (λ (u : Take). u.count ≤ take_limit) ts k t lt so_far (subst (λ (u : Take). u.count ≤ take_limit) at le)

pub all_counted : (log : List LogEvent) (k : ℕ) → length log ≤ k → All (λ e. All (λ t. t.count ≤ take_limit) e.takes) (take k log) → All (λ e. All (λ t. t.count ≤ take_limit) e.takes) log
all_counted log k le h = subst (λ (es : List LogEvent). All (λ (e : LogEvent). All (λ (t : Take). t.count ≤ take_limit) e.takes) es) (take_all k log le) h
