-- Marks of the agents on the way from the deepest variable of a scope to the root.
use Rattle.std.proofs.Common.{◌≡◌, ℕ, ◌+◌, ◌<◌, ◌≤◌, Bool, true, false, cond, ◌||◌, eqb, ltb, List, [], ◌∷◌, length, drop, get_or, set, Some, refl, sym, ap, subst, ◌∙◌, inl, inr, arith, All}
use Rattle.std.proofs.lemmas.Bool.{cases_eq, cond_both, eq-eqb, ne_eqb, or_right}
use Rattle.std.proofs.lemmas.List.{length-set, get_or-set_same, get_or-set_other, drop_more, drop_all}
use Rattle.std.proofs.lemmas.List.Elements.{All-head, All-tail}
use Rattle.dcop_base.specs.Table.{has}
use Rattle.pseudotree.specs.Tree.{path_of, is_above}
use Rattle.pseudotree.specs.Owner.{deeper, deepest, owner_of}
use Rattle.dcop_optimum.specs.Subtree.{is_owner_within}
use Rattle.edit_session.specs.Edits.{is_on_way}
use Rattle.edit_session.specs.State.{is_touched, touched_by}
use Rattle.edit_session.proofs.StateLaws.{marks_are}

deepest_known : (paths : List (List ℕ)) (n v : ℕ) (vs : List ℕ) → v < n → All (λ u. u < n) vs → deepest paths v vs < n
deepest_known paths n v [] lt all = lt
deepest_known paths n v (w ∷ ws) lt all =
    deepest_known paths n (deeper paths v w) ws
    (cond_both (ltb (length (path_of paths v)) (length (path_of paths w))) w v (λ (x : ℕ). x < n) (λ _. All-head (λ u. u < n) w ws all) (λ _. lt)) (All-tail (λ u. u < n) w ws all)

-- the deepest variable of a scope is one of the tree
pub owner_known : (paths : List (List ℕ)) (scope : List ℕ) (n owner : ℕ) → All (λ u. u < n) scope → owner_of paths scope ≡ Some owner → owner < n
owner_known paths [] n owner all e = absurd (cc)
owner_known paths (v ∷ vs) n owner all e = subst (λ (x : ℕ). x < n) (same (deepest paths v vs) owner e) (deepest_known paths n v vs (All-head (λ u. u < n) v vs all) (All-tail (λ u. u < n) v vs all))
  where
    same : (a b : ℕ) → Some a ≡ Some b → a ≡ b
    same a b h = cc

same_both : (b : Bool) (v : ℕ) → cond b v v ≡ v
same_both true v = refl
same_both false v = refl

-- the deepest variable, found from the first one on
pub owner_from : (paths : List (List ℕ)) (scope : List ℕ) (owner : ℕ) → 0 < length scope → owner ≡ deepest paths (get_or scope 0 0) scope → owner_of paths scope ≡ Some owner
owner_from paths [] owner some is = absurd (omega (arith, some))
owner_from paths (v ∷ vs) owner some is =
    ap (λ (x : ℕ). Some x) (sym (is ∙ ap (λ (u : ℕ). deepest paths u vs) (same_both (ltb (length (path_of paths v)) (length (path_of paths v))) v)))

-- the next variable
pub deepest_next : (paths : List (List ℕ)) (scope : List ℕ) (k owner var next : ℕ) (whole : ℕ) → k < length scope → var ≡ get_or scope k var → next ≡ deeper paths owner var → deepest paths owner (drop k scope) ≡ whole
    → deepest paths next (drop (k + 1) scope) ≡ whole
deepest_next paths scope k owner var next whole lt is adds before =
    ap (λ (u : ℕ). deepest paths u (drop (k + 1) scope)) adds
    ∙ sym (ap (λ (vs : List ℕ). deepest paths owner vs) (drop_more scope k var lt) ∙ ap (λ (u : ℕ). deepest paths (deeper paths owner u) (drop (k + 1) scope)) (sym is))
    ∙ before

pub deepest_end : (paths : List (List ℕ)) (scope : List ℕ) (k owner whole : ℕ) → length scope ≤ k → deepest paths owner (drop k scope) ≡ whole → owner ≡ whole
deepest_end paths scope k owner whole all before = sym (ap (λ (vs : List ℕ). deepest paths owner vs) (drop_all k scope all)) ∙ before

-- the deeper one of two is one of the tree
pub deeper_known : (paths : List (List ℕ)) (n v w next : ℕ) → v < n → w < n → next ≡ deeper paths v w → next < n
deeper_known paths n v w next low low' is =
    subst (λ (x : ℕ). x < n) (sym is) (cond_both (ltb (length (path_of paths v)) (length (path_of paths w))) w v (λ (x : ℕ). x < n) (λ _. low') (λ _. low))

-- where the path is marked, and then the variable itself
pub way_marks : (paths : List (List ℕ)) (scope : List ℕ) (old mid new : List Bool) (owner raw : ℕ) → owner_of paths scope ≡ Some owner → raw ≡ owner → length mid ≡ length old → owner < length old
    → ((v : ℕ) → v < length old → is_touched mid v ≡ (is_touched old v || has (path_of paths owner) v)) → new ≡ set mid raw true → new ≡ touched_by paths scope old
way_marks paths scope old mid new owner raw owns view long known marks sets =
    let is : new ≡ set mid owner true = sets ∙ ap (λ (j : ℕ). set mid j true) view in
    marks_are paths scope old new (ap length is ∙ length-set mid owner true ∙ long) (λ v lt.
    let way : is_on_way paths scope v ≡ (eqb owner v || is_above paths v owner) = ap (is_owner_within paths v) owns in
    ap (λ (ts : List Bool). is_touched ts v) is
    ∙ elim (cases_eq v owner) as (λ (_ : _). is_touched (set mid owner true) v ≡ (is_touched old v || is_on_way paths scope v)) [
      | inl same ↦
          let on : is_on_way paths scope v ≡ true = way ∙ ap (λ (b : Bool). b || is_above paths v owner) (eq-eqb owner v (sym same)) in
          ap (λ (j : ℕ). get_or (set mid owner true) j false) same ∙ get_or-set_same mid owner true false (omega (arith, known, long)) ∙ sym (or_right (is_touched old v) (is_on_way paths scope v) on)
      | inr other ↦
          get_or-set_other mid owner v true false other ∙ marks v lt
          ∙ ap (λ (b : Bool). is_touched old v || b) (sym (way ∙ ap (λ (b : Bool). b || is_above paths v owner) (ne_eqb owner v (λ (e : owner ≡ v). other (sym e)))))
    ])
