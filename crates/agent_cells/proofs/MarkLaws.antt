-- Marks of receivers.
use Rattle.std.proofs.Common.{◌≡◌, ◌≢◌, ℕ, ◌+◌, ◌<◌, ◌≤◌, ◌==◌, if◌then◌else◌, Bool, true, false, Some, List, [], ◌∷◌, suc, ◌++◌, length, get_or, slice_get, refl, sym, ap, ap₂, ◌∙◌, inl, inr, arith}
use Rattle.std.specs.List.{All}
use Rattle.std.proofs.lemmas.Bool.{cases_Bool, cases_eq, eqb-true, ne_eqb}
use Rattle.std.proofs.lemmas.List.{append-nil, get_or_default}
use Rattle.std.proofs.lemmas.Option.{same_Some, slice_get_within}
use Rattle.protocol_steps.specs.declared.message.Message.{Message}
use Rattle.protocol_steps.specs.Stamps.{post}
use Rattle.protocol_steps.specs.Deeds.{posted_to}
use Rattle.worker_laws.specs.Cells.{Lane, lane, grown}
use Rattle.agent_cells.specs.Links.{Tail, lanes_sent}
use Rattle.agent_cells.specs.Delivered.{HasDelivered}
use Rattle.agent_cells.specs.Marked.{StayMarked, AreMarked, LeavesUnmarked}

-- the receivers of the first parcels are marked
pub record HaveMarked (done : ℕ) (sends : List (ℕ × Message)) (marks : List Bool) : Type 0 where
  pub each : (j k : ℕ) (d : ℕ × Message) → slice_get marks j ≡ Some false → k < done → (get_or sends k d).0 ≢ j

both-marks : (P : Type 0) (xs : List Bool) (j : ℕ) → slice_get xs j ≡ Some true → slice_get xs j ≡ Some false → P
both-marks P xs j e f = let no : true ≡ false = same_Some true false (sym e ∙ f) in absurd (cc)

pub stay_none : (xs : List Bool) → StayMarked xs xs
stay_none xs = record { size = refl; each = λ j e. e }

pub stay_then : (xs ys zs : List Bool) → StayMarked xs ys → StayMarked ys zs → StayMarked xs zs
stay_then xs ys zs s t = record { size = t.size ∙ s.size; each = λ j e. t.each j (s.each j e) }

-- one mark is set
pub stay_set : (xs ys : List Bool) (a : ℕ) → length ys ≡ length xs → (a < length xs → slice_get ys a ≡ Some true) → ((j : ℕ) → j ≢ a → slice_get ys j ≡ slice_get xs j) → StayMarked xs ys
stay_set xs ys a size here others = record {
  size = size;
  each = λ j e. elim (cases_eq j a) [
    | inl same ↦ ap (slice_get ys) same ∙ here (let lt = slice_get_within xs j true e in omega (arith, lt, same))
    | inr ne ↦ others j ne ∙ e
  ];
}

pub marked_none : (sends : List (ℕ × Message)) (xs : List Bool) → HaveMarked 0 sends xs
marked_none sends xs = record { each = λ j k d e lt. absurd (omega (arith, lt)) }

pub marked_more : (k a : ℕ) (sends : List (ℕ × Message)) (p : ℕ × Message) (xs ys : List Bool) → HaveMarked k sends xs → k < length sends → a ≡ p.0 → p ≡ get_or sends k p
    → length ys ≡ length xs → (a < length xs → slice_get ys a ≡ Some true) → ((j : ℕ) → j ≢ a → slice_get ys j ≡ slice_get xs j) → HaveMarked (k + 1) sends ys
marked_more k a sends p xs ys h inside to is size here others = record {
  each = λ j i d e lt. elim (cases_eq j a) [
    | inl same ↦
        let within = slice_get_within ys j false e in
        both-marks _ ys j (ap (slice_get ys) same ∙ here (omega (arith, within, same, size))) e
    | inr ne ↦ elim (cases_eq i k) [
      | inl last ↦ λ (at : (get_or sends i d).0 ≡ j).
          ne (sym at ∙ ap (λ (n : ℕ). (get_or sends n d).0) last ∙ ap (λ (q : ℕ × Message). q.0) (get_or_default sends k d p inside ∙ sym is) ∙ sym to)
      | inr other ↦ h.each j i d (sym (others j ne) ∙ e) (omega (arith, lt, other))
    ]
  ];
}

pub marked_all : (k : ℕ) (sends : List (ℕ × Message)) (xs : List Bool) → length sends ≤ k → HaveMarked k sends xs → AreMarked sends xs
marked_all k sends xs most h = record { each = λ j e i d lt. h.each j i d e (omega (arith, lt, most)) }

-- nothing is sent to an agent to which no parcel goes
unposted : (s j : ℕ) (sends : List (ℕ × Message)) → All (λ p. p.0 ≢ j) sends → posted_to j (post s sends) ≡ []
unposted s j [] none = refl
unposted s j (p ∷ sends) none =
    ap₂ (λ (b : Bool) (es : List (ℕ × Message)). (if b then (s, p.1) ∷ [] else []) ++ es) (ne_eqb p.0 j (none 0 p (omega arith)))
    (unposted s j sends (λ k d lt. none (suc k) d (omega (arith, lt))))

ungrown : (j : ℕ) (more : ℕ → List (ℕ × Message)) (ls : List Lane) → more j ≡ [] → lane j (grown more ls) ≡ lane j ls
ungrown j more [] none = refl
ungrown j more (l ∷ ls) none = elim (cases_Bool (l.peer == j)) [
  | inl here ↦
      let same : l.messages ++ more l.peer ≡ l.messages = ap (λ (k : ℕ). l.messages ++ more k) (eqb-true l.peer j here) ∙ ap (λ (es : List (ℕ × Message)). l.messages ++ es) none ∙ append-nil l.messages in
      ap₂ (λ (es fs : List (ℕ × Message)). (if l.peer == j then es else []) ++ fs) same (ungrown j more ls none)
  | inr other ↦
      ap (λ (b : Bool). (if b then l.messages ++ more l.peer else []) ++ lane j (grown more ls)) other ∙ ungrown j more ls none
      ∙ sym (ap (λ (b : Bool). (if b then l.messages else []) ++ lane j ls) other)
]

pub leaves_unmarked : (before after : List Tail) (s : ℕ) (sends : List (ℕ × Message)) (marks : List Bool) → HasDelivered before s sends after → AreMarked sends marks → LeavesUnmarked marks (lanes_sent before) (lanes_sent after)
leaves_unmarked before after s sends marks sent m = record {
  unsent = λ j e. ap (lane j) sent ∙ ungrown j (λ i. posted_to i (post s sends)) (lanes_sent before) (unposted s j sends (m.each j e));
}

-- the same of other lists that are equal to these
pub leaves_as : (marks : List Bool) (before after old new : List Tail) → before ≡ old → new ≡ after → LeavesUnmarked marks (lanes_sent before) (lanes_sent after) → LeavesUnmarked marks (lanes_sent old) (lanes_sent new)
leaves_as marks before after old new was is l = record { unsent = λ j e. ap (λ (ts : List Tail). lane j (lanes_sent ts)) is ∙ l.unsent j e ∙ ap (λ (ts : List Tail). lane j (lanes_sent ts)) was }
