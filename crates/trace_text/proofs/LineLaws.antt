-- The lines of a trace, as they are written piece by piece.
use Rattle.std.proofs.Common.{◌≡◌, ℕ, ◌+◌, ◌<◌, ◌≤◌, suc, Bool, List, [], ◌∷◌, ◌++◌, map, length, drop, get_or, Option, Some, None, refl, sym, ap, ◌∙◌, append_assoc, drop-cons, add-one, codes}
use Rattle.std.specs.List.{flat_map}
use Rattle.std.specs.Option.{option_map}
use Rattle.std.specs.Fmt.{decimal}
use Rattle.std.proofs.lemmas.Grind.{flat_map-append}
use Rattle.std.proofs.lemmas.List.{append-nil, drop_all}
use Rattle.std.proofs.lemmas.Option.{none-some}
use Rattle.adopt_context.specs.Context.{Context}
use Rattle.protocol_steps.specs.declared.message.Message.{Message}
use Rattle.protocol_steps.specs.declared.standing.Standing.{Standing}
use Rattle.protocol_steps.specs.View.{View, value_of, standing_of, ended_of}
use Rattle.problem_text.specs.Canonical.{line}
use Rattle.problem_text.proofs.LineLaws.{spaced, line-cons}
use Rattle.run_log.specs.declared.log.LogEvent.{LogEvent}
use Rattle.delivery_core.specs.State.{CoreView, view_at, context_in}
use Rattle.solve_report.specs.Replay.{standing_words}
use Rattle.trace_text.specs.Lines.{name_in, pair_words, took_words, sent_words, known_words, agent_lines, event_words}
use Rattle.trace_text.specs.Told.{start_told, event_told}

-- a line of a word, a name and further words
pub named-line : (word name : List ℕ) (words : List (List ℕ))
    → line (word ∷ name ∷ words) ≡ word ++ (32 ∷ (name ++ (flat_map spaced words ++ (10 ∷ []))))
named-line word name words =
    line-cons word (name ∷ words)
    ∙ append_assoc word (32 ∷ (name ++ flat_map spaced words)) (10 ∷ [])
    ∙ ap (λ (text : List ℕ). word ++ (32 ∷ text)) (append_assoc name (flat_map spaced words) (10 ∷ []))

-- one more element of a list, each written as these bytes
pub one-more : {A : Type 0} (f : A → List ℕ) (xs : List A) (k : ℕ) (x : A) (text new all : List ℕ) → k < length xs → x ≡ get_or xs k x
    → new ≡ text ++ f x → text ++ flat_map f (drop k xs) ≡ all → new ++ flat_map f (drop (k + 1) xs) ≡ all
one-more {A} f xs k x text new all lt is written before =
    let rest : List ℕ = flat_map f (drop (k + 1) xs) in
    let here : drop k xs ≡ x ∷ drop (k + 1) xs =
    drop-cons xs k x lt ∙ ap (λ (y : A). y ∷ drop (suc k) xs) (sym is) ∙ ap (λ (n : ℕ). x ∷ drop n xs) (sym (add-one k)) in
    ap (λ (t : List ℕ). t ++ rest) written
    ∙ append_assoc text (f x) rest
    ∙ ap (λ (ys : List A). text ++ flat_map f ys) (sym here)
    ∙ before

-- all elements of a list are written
pub all-done : {A : Type 0} (f : A → List ℕ) (xs : List A) (k : ℕ) (text all : List ℕ) → length xs ≤ k → text ++ flat_map f (drop k xs) ≡ all → text ≡ all
all-done {A} f xs k text all past h = sym (append-nil text) ∙ ap (λ (ys : List A). text ++ flat_map f ys) (sym (drop_all k xs past)) ∙ h

-- each element has a line
pub lines-of : {A : Type 0} (words : A → List (List ℕ)) (xs : List A) → flat_map line (map words xs) ≡ flat_map (λ x. line (words x)) xs
lines-of words [] = refl
lines-of words (x ∷ xs) = ap (λ (text : List ℕ). line (words x) ++ text) (lines-of words xs)

-- the two words of a pair
abbrev pub pair_text : List (List ℕ) → ℕ × ℕ → List ℕ
pair_text names p = flat_map spaced (name_in names p.0 ∷ decimal p.1 ∷ [])

pub pairs-of : (names : List (List ℕ)) (c : Context) → flat_map spaced (pair_words names c) ≡ flat_map (pair_text names) c
pairs-of names [] = refl
pairs-of names (p ∷ ps) =
    flat_map-append spaced (name_in names p.0 ∷ decimal p.1 ∷ []) (pair_words names ps) ∙ ap (λ (text : List ℕ). pair_text names p ++ text) (pairs-of names ps)

-- the two lines of an agent, written piece by piece
pub agent-pieces : (names : List (List ℕ)) (v : View) → flat_map line (agent_lines names (Some v))
    ≡ codes "state" ++ (flat_map spaced (standing_words (value_of v) (standing_of v) (ended_of v)) ++ (10 ∷ (codes "context" ++ (flat_map spaced (known_words names (context_in (Some v))) ++ (10 ∷ [])))))
agent-pieces names v =
    let standing : List (List ℕ) = standing_words (value_of v) (standing_of v) (ended_of v) in
    let known : List (List ℕ) = known_words names (context_in (Some v)) in
    let tail : List ℕ = codes "context" ++ (flat_map spaced known ++ (10 ∷ [])) in
    ap (λ (text : List ℕ). text ++ (line (codes "context" ∷ known) ++ [])) (line-cons (codes "state") standing)
    ∙ ap (λ (text : List ℕ). ((codes "state" ++ flat_map spaced standing) ++ (10 ∷ [])) ++ (text ++ [])) (line-cons (codes "context") known)
    ∙ pieces (codes "state") (flat_map spaced standing) (codes "context") (flat_map spaced known)
  where
    pieces : (a b c d : List ℕ) → ((a ++ b) ++ (10 ∷ [])) ++ (((c ++ d) ++ (10 ∷ [])) ++ []) ≡ a ++ (b ++ (10 ∷ (c ++ (d ++ (10 ∷ [])))))
    pieces a b c d = simp (append_assoc)

pub agent-written : (old new : List ℕ) (names : List (List ℕ)) (o : Option View) (value : ℕ) (standing : Standing) (ended : Bool)
    → option_map value_of o ≡ Some value → option_map standing_of o ≡ Some standing → option_map ended_of o ≡ Some ended
    → new ≡ old ++ (codes "state" ++ (flat_map spaced (standing_words value standing ended) ++ (10 ∷ (codes "context" ++ (flat_map spaced (known_words names (context_in o)) ++ (10 ∷ []))))))
    → new ≡ old ++ flat_map line (agent_lines names o)
agent-written old new names None value standing ended v s e h = absurd (none-some value v)
agent-written old new names (Some view) value standing ended v s e h =
    let is_value : value_of view ≡ value = cc v in
    let is_standing : standing_of view ≡ standing = cc s in
    let is_ended : ended_of view ≡ ended = cc e in
    (rw (← is_value, ← is_standing, ← is_ended) at h) ∙ ap (λ (text : List ℕ). old ++ text) (sym (agent-pieces names view))

-- first, second and third lines, one after another
lines-behind : (xs ys zs : List (List (List ℕ))) → flat_map line ((xs ++ ys) ++ zs) ≡ flat_map line xs ++ (flat_map line ys ++ flat_map line zs)
lines-behind xs ys zs =
    flat_map-append line (xs ++ ys) zs
    ∙ ap (λ (text : List ℕ). text ++ flat_map line zs) (flat_map-append line xs ys)
    ∙ append_assoc (flat_map line xs) (flat_map line ys) (flat_map line zs)

-- the lines of a start, written part by part
pub start-written : (old first second new : List ℕ) (names : List (List ℕ)) (core : CoreView) (i : ℕ) (sent : List (ℕ × Message))
    → first ≡ old ++ (codes "start " ++ (name_in names i ++ (10 ∷ [])))
    → second ≡ first ++ flat_map line (agent_lines names (view_at core i))
    → new ≡ second ++ flat_map line (map (sent_words names) sent)
    → new ≡ old ++ flat_map line (start_told names core i sent)
start-written old first second new names core i sent h1 h2 h3 =
    let agent : List (List (List ℕ)) = agent_lines names (view_at core i) in
    let same : flat_map line (start_told names core i sent) ≡ codes "start " ++ (name_in names i ++ (10 ∷ (flat_map line agent ++ flat_map line (map (sent_words names) sent)))) =
    ap (λ (text : List ℕ). text ++ flat_map line (agent ++ map (sent_words names) sent)) (named-line (codes "start") (name_in names i) [])
    ∙ ap (λ (text : List ℕ). codes "start " ++ text)
    (append_assoc (name_in names i) (10 ∷ []) (flat_map line (agent ++ map (sent_words names) sent))
    ∙ ap (λ (text : List ℕ). name_in names i ++ (10 ∷ text)) (flat_map-append line agent (map (sent_words names) sent))) in
    h3
    ∙ ap (λ (text : List ℕ). text ++ flat_map line (map (sent_words names) sent)) (h2 ∙ ap (λ (text : List ℕ). text ++ flat_map line agent) h1)
    ∙ pieces (name_in names i) (flat_map line agent) (flat_map line (map (sent_words names) sent))
    ∙ ap (λ (text : List ℕ). old ++ text) (sym same)
  where
    pieces : (name a b : List ℕ) → ((old ++ (codes "start " ++ (name ++ (10 ∷ [])))) ++ a) ++ b ≡ old ++ (codes "start " ++ (name ++ (10 ∷ (a ++ b))))
    pieces name a b =
        append_assoc (old ++ (codes "start " ++ (name ++ (10 ∷ [])))) a b
        ∙ append_assoc old (codes "start " ++ (name ++ (10 ∷ []))) (a ++ b)
        ∙ ap (λ (text : List ℕ). old ++ (codes "start " ++ text)) (append_assoc name (10 ∷ []) (a ++ b))

-- the lines of an event, written part by part
pub event-written : (old first second third new : List ℕ) (names : List (List ℕ)) (core : CoreView) (number : ℕ) (e : LogEvent) (took sent : List (ℕ × Message))
    → first ≡ old ++ line (event_words names number e)
    → second ≡ first ++ flat_map line (map (took_words names) took)
    → third ≡ second ++ flat_map line (agent_lines names (view_at core e.agent))
    → new ≡ third ++ flat_map line (map (sent_words names) sent)
    → new ≡ old ++ flat_map line (event_told names core number e took sent)
event-written old first second third new names core number e took sent h1 h2 h3 h4 =
    let one : List ℕ = line (event_words names number e) in
    let a : List ℕ = flat_map line (map (took_words names) took) in
    let b : List ℕ = flat_map line (agent_lines names (view_at core e.agent)) in
    let d : List ℕ = flat_map line (map (sent_words names) sent) in
    h4
    ∙ ap (λ (text : List ℕ). text ++ d) (h3 ∙ ap (λ (text : List ℕ). text ++ b) (h2 ∙ ap (λ (text : List ℕ). text ++ a) h1))
    ∙ pieces one a b d
    ∙ ap (λ (text : List ℕ). old ++ (one ++ text)) (sym (lines-behind (map (took_words names) took) (agent_lines names (view_at core e.agent)) (map (sent_words names) sent)))
  where
    pieces : (one a b d : List ℕ) → (((old ++ one) ++ a) ++ b) ++ d ≡ old ++ (one ++ (a ++ (b ++ d)))
    pieces one a b d = simp append_assoc
