-- The text of a trace, written in its four parts.
use Rattle.std.proofs.Common.{◌≡◌, ℕ, Bool, List, [], ◌∷◌, ◌++◌, length, sym, ap, ◌∙◌, codes, ◌==◌, if◌then◌else◌}
use Rattle.std.specs.List.{flat_map}
use Rattle.std.specs.Fmt.{decimal}
use Rattle.std.proofs.lemmas.Bool.{eq-eqb, ne_eqb}
use Rattle.std.proofs.lemmas.List.{append-nil}
use Rattle.std.proofs.lemmas.Grind.{flat_map-append}
use Rattle.protocol_steps.specs.Network.{Network}
use Rattle.problem_text.specs.Canonical.{line}
use Rattle.run_log.specs.declared.log.LogEvent.{LogEvent}
use Rattle.trace_text.specs.Trace.{start_lines, event_lines, trace_text}

four-parts : (a b c d : List (List (List ℕ)))
    → ((flat_map line a ++ flat_map line b) ++ flat_map line c) ++ flat_map line d ≡ flat_map line (((a ++ b) ++ c) ++ d)
four-parts a b c d =
    sym (flat_map-append line ((a ++ b) ++ c) d
    ∙ ap (λ (text : List ℕ). text ++ flat_map line d) (flat_map-append line (a ++ b) c ∙ ap (λ (text : List ℕ). text ++ flat_map line c) (flat_map-append line a b)))

-- the head, the starts if they are asked for, the events, and the end
pub trace-written : (names : List (List ℕ)) (from : ℕ) (net : Network) (log : List LogEvent) (first second third text : List ℕ)
    → first ≡ flat_map line ((codes "status" ∷ codes "trace" ∷ []) ∷ (codes "events" ∷ decimal (length log) ∷ []) ∷ [])
    → second ≡ first ++ flat_map line (if from == 0 then start_lines names net else [])
    → third ≡ second ++ flat_map line (event_lines names from net 1 log)
    → text ≡ third ++ flat_map line ((codes "end" ∷ []) ∷ [])
    → text ≡ trace_text names from net log
trace-written names from net log first second third text h1 h2 h3 h4 =
    let head : List (List (List ℕ)) = (codes "status" ∷ codes "trace" ∷ []) ∷ (codes "events" ∷ decimal (length log) ∷ []) ∷ [] in
    let starts : List (List (List ℕ)) = if from == 0 then start_lines names net else [] in
    let events : List (List (List ℕ)) = event_lines names from net 1 log in
    let end : List (List (List ℕ)) = (codes "end" ∷ []) ∷ [] in
    h4
    ∙ ap (λ (t : List ℕ). t ++ flat_map line end) h3
    ∙ ap (λ (t : List ℕ). (t ++ flat_map line events) ++ flat_map line end) h2
    ∙ ap (λ (t : List ℕ). ((t ++ flat_map line starts) ++ flat_map line events) ++ flat_map line end) h1
    ∙ four-parts head starts events end

-- the starts are written
pub starts-told : (from : ℕ) (old new : List ℕ) (starts : List (List (List ℕ))) → from ≡ 0 → new ≡ old ++ flat_map line starts → new ≡ old ++ flat_map line (if from == 0 then starts else [])
starts-told from old new starts zero h = h ∙ ap (λ (b : Bool). old ++ flat_map line (if b then starts else [])) (sym (eq-eqb from 0 zero))

-- the starts are not written
pub starts-untold : (from : ℕ) (old new : List ℕ) (starts : List (List (List ℕ))) → (from ≡ 0 → ⊥) → new ≡ old → new ≡ old ++ flat_map line (if from == 0 then starts else [])
starts-untold from old new starts more h = h ∙ sym (append-nil old) ∙ ap (λ (b : Bool). old ++ flat_map line (if b then starts else [])) (sym (ne_eqb from 0 more))
