-- Labels of the first variables: what is joined there is joined in the whole, where the others are their own labels.
use Rattle.std.proofs.Common.{◌≡◌, ℕ, ◌<◌, ◌≤◌, true, List, [], ◌∷◌, ◌++◌, length, get_or, take, drop, All, sym, ◌∙◌, ap, subst, inl, inr, slice_index, le_of_eq, arith}
use Rattle.std.proofs.lemmas.Bool.{cases_lt}
use Rattle.std.proofs.lemmas.List.{length-append, length-drop, length-take-le, take-append-drop, get_or_append_left, get_or-append_right, get_or-take, get_or_past}
use Rattle.std.proofs.lemmas.List.Elements.{All-head, All-tail}
use Rattle.dcop_base.specs.Table.{has}
use Rattle.dcop_base.specs.Graph.{share_table, AreConnected}
use Rattle.dcop_base.specs.Labels.{IsJoined}
use Rattle.dcop_base.proofs.LabelLaws.{has-cases}

-- a variable of a scope lies below what all of its variables lie below
has-below : (n : ℕ) (scope : List ℕ) (v : ℕ) → All (λ (u : ℕ). u < n) scope → has scope v ≡ true → v < n
has-below n [] v below h = absurd (cc)
has-below n (x ∷ xs) v below h = elim (has-cases x xs v h) [
  | inl e ↦ subst (λ (u : ℕ). u < n) e (All-head (λ (u : ℕ). u < n) x xs below)
  | inr t ↦ has-below n xs v (All-tail (λ (u : ℕ). u < n) x xs below) t
]

pub IsJoined-front : (scope labels front : List ℕ) (n : ℕ) → n ≤ length labels → All (λ (v : ℕ). v < n) scope → ((v : ℕ) → slice_index labels v ≤ v) → ((v : ℕ) → n ≤ v → v < length labels → slice_index labels v ≡ v) → IsJoined scope (take n labels) front → IsJoined scope labels (front ++ drop n labels)
IsJoined-front scope labels front n within below low own joined =
    let held : length (take n labels) ≡ n = length-take-le n labels within in
    let many : length front ≡ n = joined.count ∙ held in
    let old_at : (v : ℕ) → v < n → slice_index (take n labels) v ≡ slice_index labels v = λ v lt. get_or-take n labels v 0 lt in
    let new_at : (v : ℕ) → v < n → slice_index (front ++ drop n labels) v ≡ slice_index front v = λ v lt. get_or_append_left front (drop n labels) 0 v (subst (λ (m : ℕ). v < m) (sym many) lt) in
    let behind : (v : ℕ) → n ≤ v → slice_index (front ++ drop n labels) v ≡ slice_index labels v = λ v ge.
    get_or-append_right front (drop n labels) n v 0 many ge
    ∙ sym (get_or-append_right (take n labels) (drop n labels) n v 0 held ge)
    ∙ ap (λ (xs : List ℕ). get_or xs v 0) (take-append-drop n labels) in
    let lower : (v : ℕ) → slice_index (front ++ drop n labels) v ≤ slice_index labels v = λ v. elim (cases_lt v n) [
      | inl lt ↦ subst (λ (x : ℕ). x ≤ slice_index labels v) (sym (new_at v lt)) (subst (λ (x : ℕ). slice_index front v ≤ x) (old_at v lt) (joined.lower v))
      | inr ge ↦ le_of_eq (behind v ge)
    ] in
    -- a variable of the front has the label of one behind it only where that one is past the end
    let across : (u v : ℕ) → u < n → n ≤ v → slice_index labels u ≡ slice_index labels v → slice_index (front ++ drop n labels) u ≡ slice_index (front ++ drop n labels) v = λ u v lt ge e. elim (cases_lt v (length labels)) [
      | inl inside ↦ absurd (omega (arith, low u, own v ge inside, e, lt, ge))
      | inr past ↦ (let none : slice_index labels v ≡ 0 = get_or_past labels v 0 past in omega (arith, lower u, e, none, behind v ge))
    ] in
    let size : length (front ++ drop n labels) ≡ length labels = omega (arith, length-append front (drop n labels), length-drop n labels, many, within) in
    record {
      count = size;
      lower = lower;
      kept = λ u v e. elim (cases_lt u n) [
        | inl lu ↦ elim (cases_lt v n) [
          | inl lv ↦ new_at u lu ∙ joined.kept u v (old_at u lu ∙ e ∙ sym (old_at v lv)) ∙ sym (new_at v lv)
          | inr gv ↦ across u v lu gv e
        ]
        | inr gu ↦ elim (cases_lt v n) [
          | inl lv ↦ sym (across v u lv gu (sym e))
          | inr gv ↦ behind u gu ∙ e ∙ sym (behind v gv)
        ]
      ];
      one = λ u v hu hv. new_at u (has-below n scope u below hu) ∙ joined.one u v hu hv ∙ sym (new_at v (has-below n scope v below hv));
      reached = λ tables shared before v v_in. elim (cases_lt v n) [
        | inl lt ↦ subst (λ (x : ℕ). AreConnected (share_table tables) x v) (sym (new_at v lt))
            (joined.reached tables shared
            (λ w w_in. (let lw : w < n = subst (λ (m : ℕ). w < m) held w_in in
            subst (λ (x : ℕ). AreConnected (share_table tables) x w) (sym (old_at w lw)) (before w (omega (arith, lw, within)))))
            v (subst (λ (m : ℕ). v < m) (sym many) lt))
        | inr ge ↦ subst (λ (x : ℕ). AreConnected (share_table tables) x v) (sym (behind v ge)) (before v (subst (λ (m : ℕ). v < m) size v_in))
      ];
    }

-- the labels behind stay their own where the front grows
pub front-own : (labels front : List ℕ) (n m : ℕ) → n ≤ length labels → length front ≡ n → n ≤ m → ((v : ℕ) → m ≤ v → v < length labels → slice_index labels v ≡ v) → (v : ℕ) → m ≤ v → v < length (front ++ drop n labels) → slice_index (front ++ drop n labels) v ≡ v
front-own labels front n m within many le own v ge v_in =
    let held : length (take n labels) ≡ n = length-take-le n labels within in
    let size : length (front ++ drop n labels) ≡ length labels = omega (arith, length-append front (drop n labels), length-drop n labels, many, within) in
    get_or-append_right front (drop n labels) n v 0 many (omega (arith, le, ge))
    ∙ sym (get_or-append_right (take n labels) (drop n labels) n v 0 held (omega (arith, le, ge)))
    ∙ ap (λ (xs : List ℕ). get_or xs v 0) (take-append-drop n labels)
    ∙ own v ge (subst (λ (x : ℕ). v < x) size v_in)
