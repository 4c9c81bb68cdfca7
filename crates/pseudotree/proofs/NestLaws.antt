-- Separators nest, and each table has one deepest variable.
use Rattle.std.proofs.Common.{◌≡◌, ℕ, ◌<◌, ◌≤◌, Bool, true, false, ◌&&◌, ◌||◌, not, cond, eqb, ltb, List, [], ◌∷◌, length, get_or, take, refl, sym, ap, subst, ◌∙◌, inl, inr, arith}
use Rattle.std.specs.List.{filter, All}
use Rattle.std.proofs.lemmas.Bool.{cases_Bool, cases_eq, and_parts, and_from, or_cases, or_left, or_right, eqb-true, eq-eqb, ne_eqb, not_from_false, ltb-true, ltb-false}
use Rattle.std.proofs.lemmas.List.{get_or_default, length-take-le}
use Rattle.std.proofs.lemmas.List.Folds.{list_any_at, Any-from_list_any}
use Rattle.dcop_base.specs.Table.{CostTable, has}
use Rattle.dcop_base.specs.Graph.{are_neighbours, share_table, are_joined}
use Rattle.dcop_base.specs.Whole.{IsTableOf}
use Rattle.pseudotree.specs.Tree.{path_of, is_above, IsTree}
use Rattle.pseudotree.specs.Pseudotree.{is_within, touches, are_in_line, SeparatorsNest}
use Rattle.pseudotree.specs.Owner.{deeper, deepest, IsDeepest, HasOneOwner, TablesHaveOwners}
use Rattle.pseudotree.proofs.TreeLaws.{ancestor}
use Rattle.pseudotree.proofs.SpreadLaws.{any_in_range, range_any, above_parent, within_parent}

-- what stands in a filtered list, and back
pub has_filter : (p : ℕ → Bool) (xs : List ℕ) (a : ℕ) → has (filter p xs) a ≡ true → (has xs a ≡ true) × (p a ≡ true)
has_filter p [] a h = absurd (cc)
has_filter p (x ∷ xs) a h =
    elim (cases_Bool (p x)) [
      | inl passes ↦
          let there : (eqb x a || has (filter p xs) a) ≡ true = sym (ap (λ (b : Bool). has (cond b (x ∷ filter p xs) (filter p xs)) a) passes) ∙ h in
          elim (or_cases (eqb x a) (has (filter p xs) a) there) [
            | inl same ↦ (or_left (eqb x a) (has xs a) same, ap p (sym (eqb-true x a same)) ∙ passes)
            | inr later ↦ let rest = has_filter p xs a later in (or_right (eqb x a) (has xs a) rest.0, rest.1)
          ]
      | inr fails ↦
          let later : has (filter p xs) a ≡ true = sym (ap (λ (b : Bool). has (cond b (x ∷ filter p xs) (filter p xs)) a) fails) ∙ h in
          let rest = has_filter p xs a later in (or_right (eqb x a) (has xs a) rest.0, rest.1)
    ]

pub filter_has : (p : ℕ → Bool) (xs : List ℕ) (a : ℕ) → has xs a ≡ true → p a ≡ true → has (filter p xs) a ≡ true
filter_has p [] a h passes = h
filter_has p (x ∷ xs) a h passes =
    elim (or_cases (eqb x a) (has xs a) h) [
      | inl same ↦
          ap (λ (b : Bool). has (cond b (x ∷ filter p xs) (filter p xs)) a) (ap p (eqb-true x a same) ∙ passes) ∙ or_left (eqb x a) (has (filter p xs) a) same
      | inr later ↦
          let rest = filter_has p xs a later passes in
          elim (cases_Bool (p x)) [
            | inl here ↦ ap (λ (b : Bool). has (cond b (x ∷ filter p xs) (filter p xs)) a) here ∙ or_right (eqb x a) (has (filter p xs) a) rest
            | inr fails ↦ ap (λ (b : Bool). has (cond b (x ∷ filter p xs) (filter p xs)) a) fails ∙ rest
          ]
    ]

pub separators_nest : SeparatorsNest
separators_nest p paths tree c i parent a h =
    let parts = has_filter (touches p paths c) (path_of paths c) a h in
    elim (or_cases (eqb i a) (is_above paths a i) (above_parent paths tree c i a parent parts.0)) [
      | inl same ↦ inl (sym (eqb-true i a same))
      | inr above ↦
          let some = range_any (λ v. is_within paths c v && are_neighbours p v a) (length paths) parts.1 in
          let both = and_parts (is_within paths c some.0) (are_neighbours p some.0 a) some.2 in
          inr (filter_has (touches p paths i) (path_of paths i) a above
          (any_in_range (λ v. is_within paths i v && are_neighbours p v a) (length paths) some.0 some.1
          (and_from (is_within paths i some.0) (are_neighbours p some.0 a) (within_parent paths tree c i some.0 parent both.0) both.1)))
    ]

-- an ancestor has the shorter path
pub above_shorter : (paths : List (List ℕ)) → IsTree paths → (a v : ℕ) → is_above paths a v ≡ true → length (path_of paths a) < length (path_of paths v)
above_shorter paths tree a v h =
    let some = Any-from_list_any (λ y. eqb y a) (path_of paths v) h in
    let at : get_or (path_of paths v) some.0 0 ≡ a = get_or_default (path_of paths v) some.0 0 some.1 some.2 ∙ some.3 ∙ eqb-true some.1 a some.4 in
    let front : path_of paths a ≡ take some.0 (path_of paths v) = ap (λ (x : ℕ). path_of paths x) (sym at) ∙ (ancestor paths tree v some.0 some.2).1 in
    let long : length (path_of paths a) ≡ some.0 = ap length front ∙ length-take-le some.0 (path_of paths v) (omega (arith, some.2)) in
    omega (arith, some.2)

-- the deepest is one of them, and no path is longer
deepest_in : (paths : List (List ℕ)) (v : ℕ) (ws : List ℕ) → has (v ∷ ws) (deepest paths v ws) ≡ true
deepest_in paths v [] = or_left (eqb v v) false (eq-eqb v v refl)
deepest_in paths v (w ∷ ws) =
    elim (or_cases (eqb (deeper paths v w) (deepest paths (deeper paths v w) ws)) (has ws (deepest paths (deeper paths v w) ws)) (deepest_in paths (deeper paths v w) ws)) [
      | inl same ↦ here (deepest paths (deeper paths v w) ws) (eqb-true (deeper paths v w) (deepest paths (deeper paths v w) ws) same)
      | inr later ↦
          or_right (eqb v (deepest paths (deeper paths v w) ws)) (has (w ∷ ws) (deepest paths (deeper paths v w) ws))
          (or_right (eqb w (deepest paths (deeper paths v w) ws)) (has ws (deepest paths (deeper paths v w) ws)) later)
    ] where
      here : (d : ℕ) → deeper paths v w ≡ d → has (v ∷ w ∷ ws) d ≡ true
      here d e =
          elim (cases_Bool (ltb (length (path_of paths v)) (length (path_of paths w)))) [
            | inl less ↦
                let same : w ≡ d = sym (ap (λ (b : Bool). cond b w v) less) ∙ e in
                or_right (eqb v d) (has (w ∷ ws) d) (or_left (eqb w d) (has ws d) (eq-eqb w d same))
            | inr not_less ↦
                let same : v ≡ d = sym (ap (λ (b : Bool). cond b w v) not_less) ∙ e in
                or_left (eqb v d) (has (w ∷ ws) d) (eq-eqb v d same)
          ]

deeper_both : (paths : List (List ℕ)) (v w : ℕ) → (length (path_of paths v) ≤ length (path_of paths (deeper paths v w))) × (length (path_of paths w) ≤ length (path_of paths (deeper paths v w)))
deeper_both paths v w =
    elim (cases_Bool (ltb (length (path_of paths v)) (length (path_of paths w)))) [
      | inl less ↦
          let is : deeper paths v w ≡ w = ap (λ (b : Bool). cond b w v) less in
          let long : length (path_of paths (deeper paths v w)) ≡ length (path_of paths w) = ap (λ (x : ℕ). length (path_of paths x)) is in
          let lt = ltb-true (length (path_of paths v)) (length (path_of paths w)) less in
          (omega arith, omega arith)
      | inr not_less ↦
          let is : deeper paths v w ≡ v = ap (λ (b : Bool). cond b w v) not_less in
          let long : length (path_of paths (deeper paths v w)) ≡ length (path_of paths v) = ap (λ (x : ℕ). length (path_of paths x)) is in
          let le = ltb-false (length (path_of paths v)) (length (path_of paths w)) not_less in
          (omega arith, omega arith)
    ]

deepest_longest : (paths : List (List ℕ)) (v : ℕ) (ws : List ℕ) (x : ℕ) → has (v ∷ ws) x ≡ true → length (path_of paths x) ≤ length (path_of paths (deepest paths v ws))
deepest_longest paths v [] x h =
    elim (or_cases (eqb v x) false h) [
      | inl same ↦ let long : length (path_of paths v) ≡ length (path_of paths x) = ap (λ (y : ℕ). length (path_of paths y)) (eqb-true v x same) in omega arith
      | inr none ↦ absurd (cc)
    ]
deepest_longest paths v (w ∷ ws) x h =
    let both = deeper_both paths v w in
    let top = deepest_longest paths (deeper paths v w) ws (deeper paths v w) (or_left (eqb (deeper paths v w) (deeper paths v w)) (has ws (deeper paths v w)) (eq-eqb (deeper paths v w) (deeper paths v w) refl)) in
    elim (or_cases (eqb v x) (has (w ∷ ws) x) h) [
      | inl same ↦ let long : length (path_of paths v) ≡ length (path_of paths x) = ap (λ (y : ℕ). length (path_of paths y)) (eqb-true v x same) in omega (arith, both.0)
      | inr rest ↦
          elim (or_cases (eqb w x) (has ws x) rest) [
            | inl same ↦ let long : length (path_of paths w) ≡ length (path_of paths x) = ap (λ (y : ℕ). length (path_of paths y)) (eqb-true w x same) in omega (arith, both.1)
            | inr later ↦ deepest_longest paths (deeper paths v w) ws x (or_right (eqb (deeper paths v w) x) (has ws x) later)
          ]
    ]

-- the deepest variable of a scope in which any two are in line is the only one that lies within all others
one_owner : (paths : List (List ℕ)) → IsTree paths → (scope : List ℕ) → 1 ≤ length scope
    → ((u v : ℕ) → has scope u ≡ true → has scope v ≡ true → (u ≡ v → ⊥) → are_in_line paths u v ≡ true) → HasOneOwner paths scope
one_owner paths tree [] some line = absurd (omega arith)
one_owner paths tree (v ∷ vs) some line = record {
  owner = deepest paths v vs;
  owns = refl;
  is_deepest = is_deepest;
  only = λ u other.
      elim (or_cases (eqb u (deepest paths v vs)) (is_above paths (deepest paths v vs) u) (other.others (deepest paths v vs) (deepest_in paths v vs))) [
        | inl same ↦ eqb-true u (deepest paths v vs) same
        | inr above ↦
            let lower = above_shorter paths tree (deepest paths v vs) u above in
            let longest = deepest_longest paths v vs u other.named in
            absurd (omega arith)
      ];
} where
  is_deepest : IsDeepest paths (v ∷ vs) (deepest paths v vs)
  is_deepest = record {
    named = deepest_in paths v vs;
    others = λ u h.
        elim (cases_eq u (deepest paths v vs)) [
          | inl same ↦ or_left (eqb (deepest paths v vs) u) (is_above paths u (deepest paths v vs)) (eq-eqb (deepest paths v vs) u (sym same))
          | inr differs ↦
              elim (or_cases (is_above paths u (deepest paths v vs)) (is_above paths (deepest paths v vs) u) (line u (deepest paths v vs) h (deepest_in paths v vs) differs)) [
                | inl above ↦ or_right (eqb (deepest paths v vs) u) (is_above paths u (deepest paths v vs)) above
                | inr below ↦
                    let lower = above_shorter paths tree (deepest paths v vs) u below in
                    let longest = deepest_longest paths v vs u h in
                    absurd (omega arith)
              ]
        ];
  }

-- what a scope names is below the bound of all that it names
pub scope_below : (scope : List ℕ) (n : ℕ) → All (λ v. v < n) scope → (u : ℕ) → has scope u ≡ true → u < n
scope_below scope n within u h =
    let some = Any-from_list_any (λ y. eqb y u) scope h in
    let below = within some.0 some.1 some.2 in
    let same = some.3 ∙ eqb-true some.1 u some.4 in
    subst (λ (x : ℕ). x < n) same below

pub tables_have_owners : TablesHaveOwners
tables_have_owners p paths problem pseudo k d lt =
    let t : CostTable = get_or p.tables k d in
    let table : IsTableOf p.sizes t = problem.tables k d lt in
    one_owner paths pseudo.tree t.scope table.some
    (λ u v hu hv differs.
    pseudo.in_line u v (scope_below t.scope (length p.sizes) table.within u hu) (scope_below t.scope (length p.sizes) table.within v hv)
    (and_from (not (eqb u v)) (share_table p.tables u v || are_joined p.joints u v) (not_from_false (eqb u v) (ne_eqb u v differs))
    (or_left (share_table p.tables u v) (are_joined p.joints u v)
    (list_any_at (λ (x : CostTable). has x.scope u && has x.scope v) p.tables k d lt (and_from (has t.scope u) (has t.scope v) hu hv)))))
