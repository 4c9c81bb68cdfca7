-- The links of a cell: what stands on each, and how they grow.
use Rattle.std.proofs.Common.{◌≡◌, ℕ, ◌<◌, Bool, true, false, ◌==◌, if◌then◌else◌, List, [], ◌∷◌, ◌++◌, refl, sym, ap, ap₂, subst, ◌∙◌, inl, inr, arith}
use Rattle.std.specs.List.{Contains}
use Rattle.std.specs.List.Sorted.{IsStrictlyIncreasing}
use Rattle.std.proofs.lemmas.Bool.{cases_Bool, or_parts, or_from, eqb-true, false_from_ne_true}
use Rattle.std.proofs.lemmas.List.{append-nil, append_assoc}
use Rattle.dcop_base.specs.Table.{has}
use Rattle.dcop_base.proofs.UniqueLaws.{IsStrictlyIncreasing-tail, head_below}
use Rattle.protocol_steps.specs.declared.message.Message.{Message}
use Rattle.protocol_steps.proofs.PrivateLaws.{contains_from_has, has_at}
use Rattle.worker_laws.specs.Cells.{Lane, peers, lane, grown}

-- an element of a list stands in it
pub has_from_contains : (xs : List ℕ) (x : ℕ) → Contains xs x → has xs x ≡ true
has_from_contains xs x h = subst (λ (y : ℕ). has xs y ≡ true) h.2 (has_at xs h.0 x h.1)

-- numbers that ascend stand once
pub once : (x : ℕ) (xs : List ℕ) → IsStrictlyIncreasing (x ∷ xs) → has xs x ≡ false
once x xs up = false_from_ne_true (has xs x) (λ h. let low : x < x = head_below x xs x up (contains_from_has xs x h) in omega (arith, low))

pub peers_grown : (more : ℕ → List (ℕ × Message)) (ls : List Lane) → peers (grown more ls) ≡ peers ls
peers_grown more [] = refl
peers_grown more (l ∷ ls) = ap (λ (xs : List ℕ). l.peer ∷ xs) (peers_grown more ls)

-- on a link that is not there stands nothing
pub lane_none : (j : ℕ) (ls : List Lane) → has (peers ls) j ≡ false → lane j ls ≡ []
lane_none j [] h = refl
lane_none j (l ∷ ls) h =
    let parts = or_parts (l.peer == j) (has (peers ls) j) h in
    ap (λ (b : Bool). (if b then l.messages else []) ++ lane j ls) parts.0 ∙ lane_none j ls parts.1

-- a link that grew
pub lane_grown : (j : ℕ) (more : ℕ → List (ℕ × Message)) (ls : List Lane) → IsStrictlyIncreasing (peers ls) → (has (peers ls) j ≡ false → more j ≡ []) → lane j (grown more ls) ≡ lane j ls ++ more j
lane_grown j more [] up none = sym (none refl)
lane_grown j more (l ∷ ls) up none = elim (cases_Bool (l.peer == j)) [
  | inl here ↦
      let same : l.peer ≡ j = eqb-true l.peer j here in
      let out : has (peers ls) j ≡ false = subst (λ (x : ℕ). has (peers ls) x ≡ false) same (once l.peer (peers ls) up) in
      let rest : lane j (grown more ls) ≡ [] = lane_none j (grown more ls) (ap (λ (xs : List ℕ). has xs j) (peers_grown more ls) ∙ out) in
      ap (λ (b : Bool). (if b then l.messages ++ more l.peer else []) ++ lane j (grown more ls)) here
      ∙ ap₂ (λ (k : ℕ) (es : List (ℕ × Message)). (l.messages ++ more k) ++ es) same rest
      ∙ append-nil (l.messages ++ more j)
      ∙ ap (λ (es : List (ℕ × Message)). es ++ more j) (sym (ap (λ (b : Bool). (if b then l.messages else []) ++ lane j ls) here ∙ ap (λ (es : List (ℕ × Message)). l.messages ++ es) (lane_none j ls out) ∙ append-nil l.messages))
  | inr other ↦
      ap (λ (b : Bool). (if b then l.messages ++ more l.peer else []) ++ lane j (grown more ls)) other
      ∙ lane_grown j more ls (IsStrictlyIncreasing-tail l.peer (peers ls) up) (λ out. none (or_from (l.peer == j) (has (peers ls) j) other out))
      ∙ ap (λ (es : List (ℕ × Message)). es ++ more j) (sym (ap (λ (b : Bool). (if b then l.messages else []) ++ lane j ls) other))
]

-- links that grew twice
pub grown_grown : (f g : ℕ → List (ℕ × Message)) (ls : List Lane) → grown g (grown f ls) ≡ grown (λ j. f j ++ g j) ls
grown_grown f g [] = refl
grown_grown f g (l ∷ ls) =
    ap₂ (λ (es : List (ℕ × Message)) (ks : List Lane). let k : Lane = record { peer = l.peer; messages = es } in k ∷ ks) (append_assoc l.messages (f l.peer) (g l.peer)) (grown_grown f g ls)

-- links that did not grow
pub grown_none : (ls : List Lane) → grown (λ j. []) ls ≡ ls
grown_none [] = refl
grown_none (l ∷ ls) = ap₂ (λ (es : List (ℕ × Message)) (ks : List Lane). let k : Lane = record { peer = l.peer; messages = es } in k ∷ ks) (append-nil l.messages) (grown_none ls)
