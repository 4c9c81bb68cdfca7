-- Whom a visit sends something is marked after it.
use Rattle.std.proofs.Common.{◌≡◌, ◌≢◌, ℕ, zero, suc, ◌<◌, ◌⊎◌, ◌==◌, if◌then◌else◌, Bool, false, List, [], ◌∷◌, ◌++◌, length, get_or, slice_get, Some, refl, sym, ap, subst, ◌∙◌, inl, inr, arith}
use Rattle.std.proofs.lemmas.Bool.{cases_eq, ne_eqb}
use Rattle.std.specs.declared.dyn_box.DynBox.{DynBox}
use Rattle.std.specs.declared.alloc.Global.{Global}
use Rattle.dcop_base.specs.Limits.{variable_limit}
use Rattle.protocol_steps.specs.View.{View}
use Rattle.worker_laws.specs.Cells.{Lane, peers, lane}
use Rattle.agent_cells.specs.declared.cell.Cell.{Cell}
use Rattle.agent_cells.specs.Marked.{LeavesUnmarked}
use Rattle.agent_cells.specs.State.{state_of, IsCell, KeepsLinks}
use Rattle.agent_cells.proofs.CellLaws.{tails_peers}
use Rattle.agent_workers.specs.Watched.{IsUnmarked, MarksReceivers}

none_more : (n k : ℕ) (ns : List ℕ) → n ≢ k → ((q : ℕ) → q < length ns → get_or ns q 0 ≢ k) → (q : ℕ) → q < length (n ∷ ns) → get_or (n ∷ ns) q 0 ≢ k
none_more n k ns other none zero lt = other
none_more n k ns other none (suc q) lt = none q (omega (arith, lt))

-- the place of a number in a list, if it is there
find : (k : ℕ) (ns : List ℕ) → ((q : ℕ) × (q < length ns) × (get_or ns q 0 ≡ k)) ⊎ ((q : ℕ) → q < length ns → get_or ns q 0 ≢ k)
find k [] = inr (λ q lt. absurd (omega (arith, lt)))
find k (n ∷ ns) = elim (cases_eq n k) [
  | inl same ↦ inl (0, omega arith, same)
  | inr other ↦ elim (find k ns) [
    | inl found ↦ inl (suc found.0, (let lt = found.1 in omega (arith, lt)), found.2)
    | inr none ↦ inr (none_more n k ns other none)
  ]
]

-- nothing is on the link of an agent that is no peer
absent : (k : ℕ) (ls : List Lane) → ((q : ℕ) → q < length (peers ls) → get_or (peers ls) q 0 ≢ k) → lane k ls ≡ []
absent k [] none = refl
absent k (l ∷ ls) none =
    let head : (if l.peer == k then l.messages else []) ≡ [] = ap (λ (b : Bool). if b then l.messages else []) (ne_eqb l.peer k (none 0 (omega arith))) in
    ap (λ ms. ms ++ lane k ls) head ∙ absent k ls (λ q lt. none (suc q) (omega (arith, lt)))

unmarked_sends : (k : ℕ) (marks : List Bool) (before after : List Lane) (ps : List ℕ) → peers before ≡ ps → peers after ≡ ps → LeavesUnmarked marks before after
    → ((q : ℕ) → q < length ps → get_or ps q 0 ≡ k → slice_get marks (get_or ps q 0) ≡ Some false) → lane k after ≡ lane k before
unmarked_sends k marks before after ps old new leaves unset = elim (find k ps) [
  | inl found ↦ leaves.unsent k (subst (λ (n : ℕ). slice_get marks n ≡ Some false) found.2 (unset found.0 found.1 found.2))
  | inr none ↦
      let gone = λ (ns : List ℕ). (q : ℕ) → q < length ns → get_or ns q 0 ≢ k in
      absent k after (subst gone (sym new) none) ∙ sym (absent k before (subst gone (sym old) none))
]

module _ {X : Type 0} {F : X → Type 0} (M : DynBox X Global F → View) where
  -- a visit that took something
  pub visit_marks : (place : ℕ) (old looked new : List ℕ) (marks : List Bool) (a b : Cell X F) → KeepsLinks a b → IsCell M b → ((k : ℕ) → k ≢ place → IsUnmarked looked k → IsUnmarked old k)
      → LeavesUnmarked marks (state_of M a).sent (state_of M b).sent → ((k : ℕ) → IsUnmarked new k → IsUnmarked looked k)
      → ((q : ℕ) → q < length (peers (state_of M b).taken) → get_or (peers (state_of M b).taken) q 0 < variable_limit → IsUnmarked new (get_or (peers (state_of M b).taken) q 0) → slice_get marks (get_or (peers (state_of M b).taken) q 0) ≡ Some false)
      → MarksReceivers place old new (state_of M a).sent (state_of M b).sent
  visit_marks place old looked new marks a b links cell look leaves kept unset =
      let same : peers (state_of M b).sent ≡ peers (state_of M b).taken = cell.sent ∙ sym cell.taken in
      let was : peers (state_of M b).sent ≡ peers (state_of M a).sent = tails_peers a.tails.items b.tails.items links.tails in
      record {
        kept = λ k other un. look k other (kept k un);
        sent = λ k small un. unmarked_sends k marks (state_of M a).sent (state_of M b).sent (peers (state_of M b).taken) (sym was ∙ same) same leaves
            (λ q lt is. unset q lt (subst (λ (n : ℕ). n < variable_limit) (sym is) small) (subst (λ (n : ℕ). IsUnmarked new n) (sym is) un));
      }

  -- one that sent nothing
  pub quiet_marks : (place : ℕ) (old new : List ℕ) (a b : Cell X F) → ((k : ℕ) → k ≢ place → IsUnmarked new k → IsUnmarked old k) → (state_of M b).sent ≡ (state_of M a).sent
      → MarksReceivers place old new (state_of M a).sent (state_of M b).sent
  quiet_marks place old new a b look same = record { kept = look; sent = λ k small un. ap (lane k) same }
