-- Labels of variables: one label for the variables of a scope, and for those of more and more tables.
use Rattle.std.proofs.Common.{◌≡◌, ℕ, ◌+◌, ◌<◌, ◌≤◌, Bool, true, false, cond, ◌&&◌, ◌||◌, ◌⊎◌, List, [], ◌∷◌, ◌++◌, map, length, get_or, take, drop, zero, suc, refl, sym, ◌∙◌, ap, subst, inl, inr, slice_index, ◌==◌, le_trans, le_of_eq, le_refl, nat_lt, nat_cmp, is_lt, Less, Equal, Greater, ltb-true, ltb-false, arith}
use Rattle.std.specs.List.{range_with_len}
use Rattle.std.proofs.Math.ListN.{get_or-map}
use Rattle.std.proofs.lemmas.Bool.{or_cases, or_left, or_right, and_parts, and_from, eqb-true, eq-eqb, ne_eqb, cond-true, cond-false, cases_eq, cases_lt}
use Rattle.std.proofs.lemmas.List.{length-map, get_or_past}
use Rattle.std.proofs.lemmas.List.Folds.{list_any-append, list_any_more}
use Rattle.std.proofs.lemmas.List.FromFn.{length-range_with_len, get_or-range_with_len}
use Rattle.dcop_base.specs.Table.{CostTable, has}
use Rattle.dcop_base.specs.Graph.{share_table, AreConnected}
use Rattle.dcop_base.specs.Labels.{AreLabels, IsJoined, AreReached}
use Rattle.dcop_base.proofs.PathLaws.{AreConnected-same, AreConnected-edge, AreConnected-trans, AreConnected-earlier, AreConnected-tables_sym, share_table-later}

-- a label, or the new one in its place
abbrev pub relabelled : ℕ → ℕ → ℕ → ℕ
relabelled from to label = cond (label == from) to label

-- what a label becomes: the new one, or itself
pub relabelled-cases : (from to label : ℕ) → ((label ≡ from) × (relabelled from to label ≡ to)) ⊎ (relabelled from to label ≡ label)
relabelled-cases from to label = elim (cases_eq label from) [
  | inl e ↦ inl (e, cond-true (label == from) to label (eq-eqb label from e))
  | inr n ↦ inr (cond-false (label == from) to label (ne_eqb label from n))
]

pub relabelled-one : (from to label : ℕ) → (label ≡ from) ⊎ (label ≡ to) → relabelled from to label ≡ to
relabelled-one from to label (inl e) = cond-true (label == from) to label (eq-eqb label from e)
relabelled-one from to label (inr e) = elim (relabelled-cases from to label) [ inl c ↦ c.1 | inr c ↦ c ∙ e ]

pub relabelled-le : (from to label : ℕ) → to < from → relabelled from to label ≤ label
relabelled-le from to label lt = elim (relabelled-cases from to label) [ inl c ↦ omega (arith, c.0, c.1) | inr c ↦ le_of_eq c ]

-- the label of a variable after the change; past the end it stays 0
pub label_of_relabelled : (from to : ℕ) (old : List ℕ) (v : ℕ) → to < from → slice_index (map (relabelled from to) old) v ≡ relabelled from to (slice_index old v)
label_of_relabelled from to old v lt =
    let zero_kept : relabelled from to 0 ≡ 0 = cond-false (0 == from) to 0 (ne_eqb 0 from (λ e. omega arith)) in
    let moved : get_or (map (relabelled from to) old) v (relabelled from to 0) ≡ relabelled from to (get_or old v 0) = get_or-map (relabelled from to) old v 0 in
    subst (λ (d : ℕ). get_or (map (relabelled from to) old) v d ≡ relabelled from to (get_or old v 0)) zero_kept moved

-- where no variable below a place has the label, it is enough to change those from the place on
changed_from : (f : ℕ → ℕ) (k : ℕ) (xs : List ℕ) → ((v : ℕ) → v < k → f (slice_index xs v) ≡ slice_index xs v) → take k xs ++ map f (drop k xs) ≡ map f xs
changed_from f zero xs kept = refl
changed_from f (suc k) [] kept = refl
changed_from f (suc k) (x ∷ xs) kept =
    let tail = changed_from f k xs (λ v lt. kept (suc v) (omega arith)) in
    let head : f x ≡ x = kept 0 (omega arith) in
    ap (λ ys. x ∷ ys) tail ∙ ap (λ y. y ∷ map f xs) (sym head)

pub relabelled_from : (from to : ℕ) (labels : List ℕ) → ((v : ℕ) → slice_index labels v ≤ v) → take from labels ++ map (relabelled from to) (drop from labels) ≡ map (relabelled from to) labels
relabelled_from from to labels low = changed_from (relabelled from to) from labels (λ v lt. elim (relabelled-cases from to (slice_index labels v)) [
  | inl c ↦ absurd (omega (arith, c.0, low v))
  | inr c ↦ c
])

-- the new label is connected with a variable, where it is connected with the old one
pub AreConnected-relabelled : (edge : ℕ → ℕ → Bool) (from to label v : ℕ) → AreConnected edge to from → AreConnected edge label v → AreConnected edge (relabelled from to label) v
AreConnected-relabelled edge from to label v across before = elim (relabelled-cases from to label) [
  | inl c ↦ subst (λ (x : ℕ). AreConnected edge x v) (sym c.1) (AreConnected-trans edge to from v across (subst (λ (x : ℕ). AreConnected edge x v) c.0 before))
  | inr c ↦ subst (λ (x : ℕ). AreConnected edge x v) (sym c) before
]

-- the labels of two variables that share a table are connected
pub labels_connected : (tables : List CostTable) (labels : List ℕ) (u v : ℕ) → AreReached tables labels → u < length labels → v < length labels → share_table tables u v ≡ true → AreConnected (share_table tables) (slice_index labels u) (slice_index labels v)
labels_connected tables labels u v reached u_in v_in shared =
    AreConnected-trans (share_table tables) (slice_index labels u) u (slice_index labels v) (reached u u_in)
    (AreConnected-trans (share_table tables) u v (slice_index labels v) (AreConnected-edge (share_table tables) u v shared)
    (AreConnected-tables_sym tables (slice_index labels v) v (reached v v_in)))

-- the lower of the two labels of a scope's variables is written in place of the higher one
pub IsJoined-relabelled : (scope old new : List ℕ) (from to high low : ℕ) → to < from → has scope high ≡ true → has scope low ≡ true → high < length old → low < length old → slice_index old high ≡ from → slice_index old low ≡ to → ((v : ℕ) → has scope v ≡ true → (slice_index old v ≡ from) ⊎ (slice_index old v ≡ to)) → new ≡ map (relabelled from to) old → IsJoined scope old new
IsJoined-relabelled scope old new from to high low lt has_high has_low high_in low_in high_is low_is two is =
    let at : (v : ℕ) → slice_index new v ≡ relabelled from to (slice_index old v) = λ v. ap (λ (xs : List ℕ). slice_index xs v) is ∙ label_of_relabelled from to old v lt in
    let to_low : (v : ℕ) → has scope v ≡ true → slice_index new v ≡ to = λ v h. at v ∙ relabelled-one from to (slice_index old v) (two v h) in
    let many : length new ≡ length old = ap (λ (xs : List ℕ). length xs) is ∙ length-map old (relabelled from to) in
    record {
      count = many;
      lower = λ v. subst (λ (x : ℕ). x ≤ slice_index old v) (sym (at v)) (relabelled-le from to (slice_index old v) lt);
      kept = λ u v e. at u ∙ ap (relabelled from to) e ∙ sym (at v);
      one = λ u v hu hv. to_low u hu ∙ sym (to_low v hv);
      reached = λ tables shared before v v_in.
          let across : AreConnected (share_table tables) to from =
          subst (λ (x : ℕ). AreConnected (share_table tables) x from) low_is
          (subst (λ (x : ℕ). AreConnected (share_table tables) (slice_index old low) x) high_is
          (labels_connected tables old low high before low_in high_in (shared low high has_low has_high))) in
          subst (λ (x : ℕ). AreConnected (share_table tables) x v) (sym (at v))
          (AreConnected-relabelled (share_table tables) from to (slice_index old v) v across
          (before v (subst (λ (n : ℕ). v < n) many v_in)));
    }

-- nothing changes where the variables of a scope have one label already
pub IsJoined-same : (scope old : List ℕ) → ((u v : ℕ) → has scope u ≡ true → has scope v ≡ true → slice_index old u ≡ slice_index old v) → IsJoined scope old old
IsJoined-same scope old one = record {
  count = refl;
  lower = λ v. le_refl (slice_index old v);
  kept = λ u v e. e;
  one = one;
  reached = λ tables shared before. before;
}

-- two scopes that have a variable in common, one after the other
pub IsJoined-then : (first : ℕ) (scope next all old mid new : List ℕ) → IsJoined scope old mid → IsJoined next mid new → has scope first ≡ true → has next first ≡ true → ((v : ℕ) → has all v ≡ true → (has scope v ≡ true) ⊎ (has next v ≡ true)) → ((v : ℕ) → has scope v ≡ true → has all v ≡ true) → ((v : ℕ) → has next v ≡ true → has all v ≡ true) → IsJoined all old new
IsJoined-then first scope next all old mid new one_by two_by in_scope in_next split from_scope from_next =
    let to_first : (v : ℕ) → has all v ≡ true → slice_index new v ≡ slice_index new first = λ v h. elim (split v h) [
      | inl s ↦ two_by.kept v first (one_by.one v first s in_scope)
      | inr n ↦ two_by.one v first n in_next
    ] in
    record {
      count = two_by.count ∙ one_by.count;
      lower = λ v. le_trans (two_by.lower v) (one_by.lower v);
      kept = λ u v e. two_by.kept u v (one_by.kept u v e);
      one = λ u v hu hv. to_first u hu ∙ sym (to_first v hv);
      reached = λ tables shared before.
          two_by.reached tables (λ u v hu hv. shared u v (from_next u hu) (from_next v hv))
          (one_by.reached tables (λ u v hu hv. shared u v (from_scope u hu) (from_scope v hv)) before);
    }

-- a variable of a list with one more in front is that one or stands behind it
pub has-cases : (x : ℕ) (xs : List ℕ) (v : ℕ) → has (x ∷ xs) v ≡ true → (x ≡ v) ⊎ (has xs v ≡ true)
has-cases x xs v h = elim (or_cases (x == v) (has xs v) h) [ inl e ↦ inl (eqb-true x v e) | inr t ↦ inr t ]

pub has-head : (x : ℕ) (xs : List ℕ) → has (x ∷ xs) x ≡ true
has-head x xs = or_left (x == x) (has xs x) (eq-eqb x x refl)

pub has-tail : (x : ℕ) (xs : List ℕ) (v : ℕ) → has xs v ≡ true → has (x ∷ xs) v ≡ true
has-tail x xs v h = or_right (x == v) (has xs v) h

pub has-pair : (a b v : ℕ) → has (a ∷ b ∷ []) v ≡ true → (a ≡ v) ⊎ (b ≡ v)
has-pair a b v h = elim (has-cases a (b ∷ []) v h) [
  | inl e ↦ inl e
  | inr t ↦ elim (has-cases b [] v t) [ inl e ↦ inr e | inr f ↦ absurd (cc) ]
]

-- the labels of two variables, each by one of the two
pub two_labels : (a b from to : ℕ) (old : List ℕ) → slice_index old a ≡ from → slice_index old b ≡ to → (v : ℕ) → has (a ∷ b ∷ []) v ≡ true → (slice_index old v ≡ from) ⊎ (slice_index old v ≡ to)
two_labels a b from to old a_is b_is v h = elim (has-pair a b v h) [
  | inl e ↦ inl (ap (λ (x : ℕ). slice_index old x) (sym e) ∙ a_is)
  | inr e ↦ inr (ap (λ (x : ℕ). slice_index old x) (sym e) ∙ b_is)
]

pub swap_cases : {A B : Type 0} → A ⊎ B → B ⊎ A
swap_cases (inl a) = inr a
swap_cases (inr b) = inl b

-- the first of two variables has the higher label
pub IsJoined-first_high : (a b : ℕ) (old new : List ℕ) → a < length old → b < length old → slice_index old b < slice_index old a → new ≡ map (relabelled (slice_index old a) (slice_index old b)) old → IsJoined (a ∷ b ∷ []) old new
IsJoined-first_high a b old new a_in b_in lt is =
    IsJoined-relabelled (a ∷ b ∷ []) old new (slice_index old a) (slice_index old b) a b lt (has-head a (b ∷ [])) (has-tail a (b ∷ []) b (has-head b [])) a_in b_in refl refl (two_labels a b (slice_index old a) (slice_index old b) old refl refl) is

-- the second of two variables has the higher label
pub IsJoined-second_high : (a b : ℕ) (old new : List ℕ) → a < length old → b < length old → slice_index old a < slice_index old b → new ≡ map (relabelled (slice_index old b) (slice_index old a)) old → IsJoined (a ∷ b ∷ []) old new
IsJoined-second_high a b old new a_in b_in lt is =
    IsJoined-relabelled (a ∷ b ∷ []) old new (slice_index old b) (slice_index old a) b a lt (has-tail a (b ∷ []) b (has-head b [])) (has-head a (b ∷ [])) b_in a_in refl refl (λ v h. swap_cases (two_labels a b (slice_index old a) (slice_index old b) old refl refl v h)) is

-- two variables have one label
pub IsJoined-pair_same : (a b : ℕ) (old : List ℕ) → slice_index old a ≡ slice_index old b → IsJoined (a ∷ b ∷ []) old old
IsJoined-pair_same a b old e =
    let each : (v : ℕ) → has (a ∷ b ∷ []) v ≡ true → slice_index old v ≡ slice_index old b = λ v h. elim (two_labels a b (slice_index old a) (slice_index old b) old refl refl v h) [ inl f ↦ f ∙ e | inr f ↦ f ] in
    IsJoined-same (a ∷ b ∷ []) old (λ u v hu hv. each u hu ∙ sym (each v hv))

-- one variable has one label
pub IsJoined-single : (a : ℕ) (old : List ℕ) → IsJoined (a ∷ []) old old
IsJoined-single a old =
    let each : (v : ℕ) → has (a ∷ []) v ≡ true → v ≡ a = λ v h. elim (has-cases a [] v h) [ inl e ↦ sym e | inr f ↦ absurd (cc) ] in
    IsJoined-same (a ∷ []) old (λ u v hu hv. ap (λ (x : ℕ). slice_index old x) (each u hu ∙ sym (each v hv)))

-- one more variable of a scope got the label of the first one
pub IsJoined-more : (first : ℕ) (others : List ℕ) (k : ℕ) (d : ℕ) (old mid new : List ℕ) → k < length others → IsJoined (first ∷ take k others) old mid → IsJoined (first ∷ get_or others k d ∷ []) mid new → IsJoined (first ∷ take (k + 1) others) old new
IsJoined-more first others k d old mid new lt done step =
    let more : (v : ℕ) → has (take (k + 1) others) v ≡ (has (take k others) v || (get_or others k d == v)) = λ v. list_any_more (λ (y : ℕ). y == v) others k d lt in
    IsJoined-then first (first ∷ take k others) (first ∷ get_or others k d ∷ []) (first ∷ take (k + 1) others) old mid new done step
    (has-head first (take k others)) (has-head first (get_or others k d ∷ []))
    (λ v h. elim (has-cases first (take (k + 1) others) v h) [
      | inl e ↦ inl (subst (λ (x : ℕ). has (first ∷ take k others) x ≡ true) e (has-head first (take k others)))
      | inr t ↦ elim (or_cases (has (take k others) v) (get_or others k d == v) (sym (more v) ∙ t)) [
        | inl s ↦ inl (has-tail first (take k others) v s)
        | inr n ↦ inr (has-tail first (get_or others k d ∷ []) v (or_left (get_or others k d == v) false n))
      ]
    ])
    (λ v h. elim (has-cases first (take k others) v h) [
      | inl e ↦ subst (λ (x : ℕ). has (first ∷ take (k + 1) others) x ≡ true) e (has-head first (take (k + 1) others))
      | inr t ↦ has-tail first (take (k + 1) others) v (more v ∙ or_left (has (take k others) v) (get_or others k d == v) t)
    ])
    (λ v h. elim (has-pair first (get_or others k d) v h) [
      | inl e ↦ subst (λ (x : ℕ). has (first ∷ take (k + 1) others) x ≡ true) e (has-head first (take (k + 1) others))
      | inr n ↦ has-tail first (take (k + 1) others) v (more v ∙ or_right (has (take k others) v) (get_or others k d == v) (eq-eqb (get_or others k d) v n))
    ])

-- each variable as its own label, before the first table
pub AreLabels-start : (n : ℕ) → AreLabels [] (range_with_len 0 n)
AreLabels-start n = record {
  low = λ v. elim (cases_lt v n) [
    | inl lt ↦ le_of_eq (get_or-range_with_len 0 n v 0 lt ∙ omega arith)
    | inr ge ↦ subst (λ (x : ℕ). x ≤ v) (sym (get_or_past (range_with_len 0 n) v 0 (omega (arith, length-range_with_len 0 n)))) (omega arith)
  ];
  same = λ u v h. absurd (cc);
  reached = λ v lt. AreConnected-same (share_table []) (slice_index (range_with_len 0 n) v) v
      (get_or-range_with_len 0 n v 0 (subst (λ (x : ℕ). v < x) (length-range_with_len 0 n) lt) ∙ omega arith);
}

-- one more table
pub AreLabels-more : (tables : List CostTable) (t : CostTable) (old new : List ℕ) → AreLabels tables old → IsJoined t.scope old new → AreLabels (tables ++ t ∷ []) new
AreLabels-more tables t old new before joined =
    let own : (u v : ℕ) → has t.scope u ≡ true → has t.scope v ≡ true → share_table (t ∷ []) u v ≡ true = λ u v hu hv. or_left (has t.scope u && has t.scope v) false (and_from (has t.scope u) (has t.scope v) hu hv) in
    record {
      low = λ v. le_trans (joined.lower v) (before.low v);
      same = λ u v h. elim (or_cases (share_table tables u v) (share_table (t ∷ []) u v) (sym (list_any-append (λ (w : CostTable). has w.scope u && has w.scope v) tables (t ∷ [])) ∙ h)) [
        | inl e ↦ joined.kept u v (before.same u v e)
        | inr e ↦ elim (or_cases (has t.scope u && has t.scope v) false e) [
          | inl b ↦ (let both : (has t.scope u ≡ true) × (has t.scope v ≡ true) = and_parts (has t.scope u) (has t.scope v) b in joined.one u v both.0 both.1)
          | inr f ↦ absurd (cc)
        ]
      ];
      reached = joined.reached (tables ++ t ∷ [])
          (λ u v hu hv. share_table-later tables (t ∷ []) u v (own u v hu hv))
          (λ v lt. AreConnected-earlier tables (t ∷ []) (slice_index old v) v (before.reached v lt));
    }

-- what a comparison of two numbers tests
pub is_lt-nat_cmp : (s t : Bool) → is_lt (cond s Less (cond t Equal Greater)) ≡ s
is_lt-nat_cmp Bool.true Bool.true = refl
is_lt-nat_cmp Bool.true Bool.false = refl
is_lt-nat_cmp Bool.false Bool.true = refl
is_lt-nat_cmp Bool.false Bool.false = refl

pub lt_from_is_lt : (a b : ℕ) → true ≡ is_lt (nat_cmp a b) → a < b
lt_from_is_lt a b e = ltb-true a b (sym (e ∙ is_lt-nat_cmp (nat_lt a b) (a == b)))

pub le_from_not_lt : (a b : ℕ) → false ≡ is_lt (nat_cmp a b) → b ≤ a
le_from_not_lt a b e = ltb-false a b (sym (e ∙ is_lt-nat_cmp (nat_lt a b) (a == b)))
