-- What a closed ADOPT agent sends to one neighbour.
use Rattle.std.proofs.Common.{◌≡◌, ℕ, ◌≤◌, Bool, true, false, cond, eqb, not, ◌&&◌, ◌||◌, nat_lt, if◌then◌else◌, map, drop, List, [], ◌∷◌, ◌++◌, length, refl, sym, ap, ap₂, subst, ◌∙◌, inl, inr}
use Rattle.std.specs.List.{flat_map, list_any}
use Rattle.std.proofs.lemmas.Bool.{cases_eq, cond_both, or_parts, or_cases, or_right, eqb-true, eq-eqb, true≢false, false≢true}
use Rattle.std.proofs.lemmas.List.{append-nil, drop-append-le}
use Rattle.std.proofs.lemmas.List.Concat.{flat_map-append}
use Rattle.std.proofs.lemmas.List.Folds.{list_any-append}
use Rattle.dcop_base.specs.Table.{has, has_repeat}
use Rattle.adopt_context.specs.Context.{put, is_value}
use Rattle.protocol_steps.specs.declared.message.Message.{Message}
use Rattle.protocol_steps.specs.declared.message.Message.TheVariants.{Value, Cost, Threshold, Terminate}
use Rattle.protocol_steps.specs.Adopt.{AdoptView}
use Rattle.protocol_steps.specs.AdoptBounds.{lower_of, best_lower, best_upper, lower_bound, upper_bound, restore}
use Rattle.protocol_steps.specs.AdoptRange.{is_parent}
use Rattle.protocol_steps.specs.AdoptStep.{choose, allotted, may_end, closed, share_of, messages_to_child, messages_for}
use Rattle.protocol_steps.specs.Network.{message_to, messages_to}
use Rattle.run_laws.proofs.DigestLaws.{from_same, from_else}

-- the kinds of messages
abbrev pub is_value_message : Message → Bool
is_value_message (Value d) = true
is_value_message message = false

abbrev pub is_cost : Message → Bool
is_cost (Cost c l u) = true
is_cost message = false

abbrev pub is_terminate : Message → Bool
is_terminate (Terminate c) = true
is_terminate message = false

none_to : (c : ℕ) (f : ℕ → List Message) (js : List ℕ) → has js c ≡ false → messages_to c (flat_map (λ j. map (λ m. (j, m)) (f j)) js) ≡ []
none_to c f [] h = refl
none_to c f (j ∷ js) h =
    let parts = or_parts (eqb j c) (has js c) h in
    flat_map-append (message_to c) (map (λ m. (j, m)) (f j)) (flat_map (λ j. map (λ m. (j, m)) (f j)) js)
    ∙ ap₂ (λ (xs : List Message) (ys : List Message). xs ++ ys) (from_else c j (f j) (λ (e : j ≡ c). true≢false (sym (eq-eqb j c e) ∙ parts.0))) (none_to c f js parts.1)

-- what is sent to one of different receivers
pub sends_to : (c : ℕ) (f : ℕ → List Message) (js : List ℕ) → has_repeat js ≡ false → has js c ≡ true → messages_to c (flat_map (λ j. map (λ m. (j, m)) (f j)) js) ≡ f c
sends_to c f [] apart h = absurd (false≢true h)
sends_to c f (j ∷ js) apart h =
    let parts = or_parts (has js j) (has_repeat js) apart in
    let split = flat_map-append (message_to c) (map (λ m. (j, m)) (f j)) (flat_map (λ j. map (λ m. (j, m)) (f j)) js) in
    elim (cases_eq j c) [
      | inl same ↦
          split
          ∙ ap₂ (λ (xs : List Message) (ys : List Message). xs ++ ys)
          (subst (λ (k : ℕ). messages_to c (map (λ m. (k, m)) (f k)) ≡ f c) (sym same) (from_same c (f c)))
          (none_to c f js (subst (λ (k : ℕ). has js k ≡ false) same parts.0))
          ∙ append-nil (f c)
      | inr other ↦
          split
          ∙ ap₂ (λ (xs : List Message) (ys : List Message). xs ++ ys) (from_else c j (f j) other)
          (sends_to c f js parts.1 (elim (or_cases (eqb j c) (has js c) h) [ inl same ↦ absurd (other (eqb-true j c same)) | inr later ↦ later ]))
    ]

-- a message of a kind in what is not yet taken, where it was just sent
pub some_fresh : (q : Message → Bool) (n : ℕ) (xs more : List Message) → n ≤ length xs → list_any q more ≡ true → list_any q (drop n (xs ++ more)) ≡ true
some_fresh q n xs more le h =
    ap (list_any q) (drop-append-le n xs more le) ∙ list_any-append q (drop n xs) more ∙ or_right (list_any q (drop n xs)) (list_any q more) h

pub none_more : (q : Message → Bool) (xs more : List Message) → list_any q xs ≡ false → list_any q more ≡ false → list_any q (xs ++ more) ≡ false
none_more q xs more a b = list_any-append q xs more ∙ ap₂ (λ (x : Bool) (y : Bool). x || y) a b

-- the last messages to a child of an agent that ends
abbrev pub last_words : AdoptView → ℕ → List Message
last_words v c = Value v.value ∷ Threshold (share_of v c) v.known ∷ Terminate (put v.known v.own.me v.value) ∷ []

abbrev pub more_words : AdoptView → ℕ → List Message
more_words v c = Value v.value ∷ Threshold (share_of v c) v.known ∷ []

-- what a child gets
pub to_child : (v : AdoptView) (c : ℕ) → has v.place.lower c ≡ true → has v.place.children c ≡ true → is_parent v c ≡ false
    → ((v.phase.ended ≡ true → messages_for v c ≡ last_words v c) × (v.phase.ended ≡ false → messages_for v c ≡ more_words v c))
to_child v c low child over =
    let end : List Message = Terminate (put v.known v.own.me v.value) ∷ [] in
    let cost : List Message = Cost v.known (lower_bound v) (upper_bound v) ∷ [] in (
      by (has v.place.lower c) (has v.place.children c) (is_parent v c) v.phase.ended true (Value v.value) (Threshold (share_of v c) v.known) end cost low child over,
      by (has v.place.lower c) (has v.place.children c) (is_parent v c) v.phase.ended false (Value v.value) (Threshold (share_of v c) v.known) end cost low child over,
    )
  where
    by : (a b d e x : Bool) (one two : Message) (end cost : List Message) → a ≡ true → b ≡ true → d ≡ false → e ≡ x
        → (cond a (one ∷ []) [] ++ cond b (two ∷ cond e end []) [] ++ cond (d && not e) cost []) ≡ one ∷ two ∷ cond x end []
    by true true false true true one two end cost p q r s = ap (λ ms. one ∷ two ∷ ms) (append-nil end)
    by true true false false false one two end cost p q r s = refl
    by true true false true false one two end cost p q r s = absurd (true≢false s)
    by true true false false true one two end cost p q r s = absurd (false≢true s)
    by true true true e x one two end cost p q r s = absurd (true≢false r)
    by true false d e x one two end cost p q r s = absurd (false≢true q)
    by false b d e x one two end cost p q r s = absurd (false≢true p)

-- an agent that has not ended sends COST to its parent
pub to_parent : (v : AdoptView) (q : ℕ) → is_parent v q ≡ true → v.phase.ended ≡ false → list_any is_cost (messages_for v q) ≡ true
to_parent v q at stays =
    let cost : List Message = Cost v.known (lower_bound v) (upper_bound v) ∷ [] in
    let first : List Message = cond (has v.place.lower q) (Value v.value ∷ []) [] ++ cond (has v.place.children q) (messages_to_child v q) [] in
    list_any-append is_cost first (cond (is_parent v q && not v.phase.ended) cost [])
    ∙ or_right (list_any is_cost first) (list_any is_cost (cond (is_parent v q && not v.phase.ended) cost [])) (by (is_parent v q) v.phase.ended v at stays)
  where
    by : (a e : Bool) (v : AdoptView) → a ≡ true → e ≡ false → list_any is_cost (cond (a && not e) (Cost v.known (lower_bound v) (upper_bound v) ∷ []) []) ≡ true
    by true false v p q = refl
    by true true v p q = absurd (true≢false q)
    by false e v p q = absurd (false≢true p)

-- an agent ends in backTrack exactly where it may
pub closed_ended : (v : AdoptView) → v.phase.ended ≡ false → (closed v).phase.ended ≡ may_end (closed v)
closed_ended v stays =
    let u : AdoptView = allotted (choose (restore v)) in
    cond_both (may_end u) (record u { phase = record u.phase { ended = true } }) u (λ w. w.phase.ended ≡ may_end w) (λ e. sym e) (λ e. same ∙ stays ∙ sym e)
  where
    same : (choose (restore v)).phase.ended ≡ v.phase.ended
    same =
        cond_both (is_value (upper_bound (restore v)) (restore v).threshold) (record (restore v) { value = best_upper (restore v) })
        (if nat_lt (restore v).threshold (lower_of (restore v) (restore v).value) then record (restore v) { value = best_lower (restore v) } else restore v) (λ x. x.phase.ended ≡ v.phase.ended)
        (λ _. refl)
        (λ _. cond_both (nat_lt (restore v).threshold (lower_of (restore v) (restore v).value)) (record (restore v) { value = best_lower (restore v) }) (restore v) (λ x. x.phase.ended ≡ v.phase.ended) (λ _. refl) (λ _. refl))
