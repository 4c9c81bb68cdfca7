-- The line of an agent, as it is written piece by piece.
use Rattle.std.proofs.Common.{◌≡◌, ℕ, ◌+◌, ◌<◌, suc, Bool, List, [], ◌∷◌, ◌++◌, map, length, drop, get_or, sym, ap, ◌∙◌, append_assoc, drop-cons, add-one, codes}
use Rattle.std.specs.List.{flat_map}
use Rattle.std.proofs.lemmas.List.{append-nil}
use Rattle.std.specs.Fmt.{decimal}
use Rattle.protocol_steps.specs.declared.standing.Standing.{Standing}
use Rattle.problem_text.specs.Canonical.{line}
use Rattle.problem_text.proofs.LineLaws.{line-cons}
use Rattle.solve_report.specs.Replay.{bound_word, ended_word, standing_words, state_words, agent_words}
use Rattle.solve_report.specs.declared.replay.AgentRow.{AgentRow}

-- what an agent has come to, written word by word
pub standing-written : (old new : List ℕ) (value : ℕ) (standing : Standing) (ended : Bool)
    → new ≡ old ++ (codes " value " ++ (decimal value ++ (codes " lower " ++ (decimal standing.lower ++ (codes " upper " ++ (bound_word standing.upper ++ (codes " threshold " ++ (decimal standing.threshold ++ (codes " ended " ++ ended_word ended)))))))))
    → new ≡ old ++ flat_map (λ word. 32 ∷ word) (standing_words value standing ended)
standing-written old new value standing ended h =
    h
    ∙ ap (λ (word : List ℕ). old ++ (codes " value " ++ (decimal value ++ (codes " lower " ++ (decimal standing.lower ++ (codes " upper " ++ (bound_word standing.upper ++ (codes " threshold " ++ (decimal standing.threshold ++ (codes " ended " ++ word))))))))))
    (sym (append-nil (ended_word ended)))

-- an agent's line, written by its name and what the agent has come to
pub state-written : (old new name : List ℕ) (value : ℕ) (standing : Standing) (ended : Bool)
    → new ≡ old ++ (codes "agent " ++ (name ++ (flat_map (λ word. 32 ∷ word) (standing_words value standing ended) ++ (10 ∷ []))))
    → new ≡ old ++ line (state_words name value standing ended)
state-written old new name value standing ended h =
    let words : List ℕ = flat_map (λ word. 32 ∷ word) (standing_words value standing ended) in
    let same : line (state_words name value standing ended) ≡ codes "agent " ++ (name ++ (words ++ (10 ∷ []))) =
    line-cons (codes "agent") (name ∷ standing_words value standing ended) ∙ ap (λ (text : List ℕ). codes "agent " ++ text) (append_assoc name words (10 ∷ [])) in
    h ∙ ap (λ (text : List ℕ). old ++ text) (sym same)

-- one agent more
pub agents-more : (names : List (List ℕ)) (agents : List AgentRow) (place : ℕ) (x : AgentRow) (text new all : List ℕ) → place < length agents → x ≡ get_or agents place x
    → new ≡ text ++ line (agent_words names x)
    → text ++ flat_map line (map (agent_words names) (drop place agents)) ≡ all
    → new ++ flat_map line (map (agent_words names) (drop (place + 1) agents)) ≡ all
agents-more names agents place x text new all lt is written before =
    let rest : List ℕ = flat_map line (map (agent_words names) (drop (place + 1) agents)) in
    let here : drop place agents ≡ x ∷ drop (place + 1) agents =
    drop-cons agents place x lt ∙ ap (λ (y : AgentRow). y ∷ drop (suc place) agents) (sym is) ∙ ap (λ (n : ℕ). x ∷ drop n agents) (sym (add-one place)) in
    ap (λ (t : List ℕ). t ++ rest) written
    ∙ append_assoc text (line (agent_words names x)) rest
    ∙ ap (λ (xs : List AgentRow). text ++ flat_map line (map (agent_words names) xs)) (sym here)
    ∙ before
