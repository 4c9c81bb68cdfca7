-- The text of a report, as it is written piece by piece.
use Rattle.std.proofs.Common.{◌≡◌, ℕ, List, [], ◌∷◌, ◌++◌, Result, Ok, Err, OnOk, sym, ap, ◌∙◌, append_assoc, append-nil}
use Rattle.std.specs.List.{flat_map}
use Rattle.std.proofs.lemmas.Grind.{flat_map-append}
use Rattle.problem_text.specs.Canonical.{line}

-- what follows where a call succeeded
pub on-ok : {T E : Type 0} (r : Result T E) {A B : Type 0} → OnOk r A → (A → B) → OnOk r B
on-ok (Ok value) done next = next done
on-ok (Err fault) done next = tt

head-pieces : (old status method goal error nodes : List ℕ)
    → ((((old ++ status) ++ method) ++ goal) ++ error) ++ nodes ≡ old ++ (status ++ (method ++ (goal ++ (error ++ (nodes ++ [])))))
head-pieces old status method goal error nodes = simp (append_assoc, append-nil)

-- the lines above the cost
pub head-written : (old a b c d e : List ℕ) (status method error nodes : List (List ℕ)) (goal : List (List (List ℕ)))
    → a ≡ old ++ line status → b ≡ a ++ line method → c ≡ b ++ flat_map line goal → d ≡ c ++ line error → e ≡ d ++ line nodes
    → e ≡ old ++ flat_map line ((status ∷ method ∷ goal) ++ (error ∷ nodes ∷ []))
head-written old a b c d e status method error nodes goal to-a to-b to-c to-d to-e =
    let second : b ≡ (old ++ line status) ++ line method = to-b ∙ ap (λ (text : List ℕ). text ++ line method) to-a in
    let third : c ≡ ((old ++ line status) ++ line method) ++ flat_map line goal = to-c ∙ ap (λ (text : List ℕ). text ++ flat_map line goal) second in
    to-e
    ∙ ap (λ (text : List ℕ). text ++ line nodes) (to-d ∙ ap (λ (text : List ℕ). text ++ line error) third)
    ∙ head-pieces old (line status) (line method) (flat_map line goal) (line error) (line nodes)
    ∙ ap (λ (text : List ℕ). old ++ (line status ++ (line method ++ text))) (sym (flat_map-append line goal (error ∷ nodes ∷ [])))

-- all lines
pub whole-written : (new a b c d : List ℕ) (end : List (List ℕ)) (head bound found : List (List (List ℕ)))
    → new ≡ [] → a ≡ new ++ flat_map line head → b ≡ a ++ flat_map line bound → c ≡ b ++ flat_map line found → d ≡ c ++ line end
    → d ≡ flat_map line (((head ++ bound) ++ found) ++ (end ∷ []))
whole-written new a b c d end head bound found none to-a to-b to-c to-d =
    let first : a ≡ flat_map line head = to-a ∙ ap (λ (text : List ℕ). text ++ flat_map line head) none in
    let second : b ≡ flat_map line (head ++ bound) = to-b ∙ ap (λ (text : List ℕ). text ++ flat_map line bound) first ∙ sym (flat_map-append line head bound) in
    let third : c ≡ flat_map line ((head ++ bound) ++ found) = to-c ∙ ap (λ (text : List ℕ). text ++ flat_map line found) second ∙ sym (flat_map-append line (head ++ bound) found) in
    to-d ∙ ap (λ (text : List ℕ). text ++ line end) third
    ∙ ap (λ (text : List ℕ). flat_map line ((head ++ bound) ++ found) ++ text) (sym (append-nil (line end)))
    ∙ sym (flat_map-append line ((head ++ bound) ++ found) (end ∷ []))
