-- What an agent keeps where the values of its higher neighbours stay: its costs, and whether it knows all of these.
use Rattle.std.proofs.Common.{◌≡◌, ℕ, ◌+◌, ◌<◌, Bool, true, false, cond, not, ◌&&◌, ◌||◌, eqb, List, [], ◌∷◌, map, length, drop, get_or, Option, Some, is_some, refl, sym, ap, ap₂, subst, ◌∙◌, inl, inr, arith}
use Rattle.std.specs.List.{All, AllZip, filter, list_all, zip}
use Rattle.std.proofs.lemmas.Bool.{cases_Bool, cond_both, cond-true, cond-false, eqb-true, eq-eqb, and_parts, or_left, or_right, false≢true}
use Rattle.std.proofs.lemmas.List.{drop_more}
use Rattle.std.proofs.lemmas.List.Elements.{All-head, All-tail}
use Rattle.std.proofs.lemmas.List.Sums.{sum_by-append}
use Rattle.dcop_base.specs.Table.{CostTable, cell_place, has}
use Rattle.dcop_base.specs.Values.{cell_with, cost_with, with_own}
use Rattle.dcop_base.specs.declared.knowledge.Private.{Private}
use Rattle.pseudotree.specs.declared.agent.Place.{Place}
use Rattle.adopt_context.specs.Context.{Context, value_in, or_zero, names_all}
use Rattle.adopt_context.specs.Bounds.{cap}
use Rattle.protocol_steps.specs.Values.{valued}
use Rattle.protocol_steps.specs.Knowledge.{known_sizes, IsKnowledge, IsKnownTable}
use Rattle.protocol_steps.specs.AdoptBounds.{counts}
use Rattle.adopt_agent.specs.Costs.{is_alike}
use Rattle.adopt_agent.specs.Stage.{knowing}
use Rattle.adopt_agent.specs.Sound.{AreCosts}
use Rattle.adopt_agent.proofs.CountLaws.{found_there}

-- contexts that give each of these variables the same value, or none
abbrev pub AgreeOn : List ℕ → Context → Context → Type 0
AgreeOn vars c x = (u : ℕ) → has vars u ≡ true → value_in c u ≡ value_in x u

-- two lists of pairs that are alike but for variables that are not among these
pub alike_agree : (vars : List ℕ) (c x : Context) → is_alike vars c x ≡ true → AgreeOn vars c x
alike_agree vars [] [] h u among = refl
alike_agree vars [] (q ∷ qs) h u among = absurd (false≢true h)
alike_agree vars (p ∷ ps) [] h u among = absurd (false≢true h)
alike_agree vars (p ∷ ps) (q ∷ qs) h u among =
    let one = and_parts (eqb p.0 q.0) ((eqb p.1 q.1 || not (has vars p.0)) && is_alike vars ps qs) h in
    let two = and_parts (eqb p.1 q.1 || not (has vars p.0)) (is_alike vars ps qs) one.1 in
    let rest = alike_agree vars ps qs two.1 u among in
    let same : p.0 ≡ q.0 = eqb-true p.0 q.0 one.0 in
    ap (λ (o : Option ℕ). cond (eqb p.0 u) (Some p.1) o) rest
    ∙ chosen (eqb p.0 u) p.1 q.1 (value_in qs u) (λ here. pair_same (eqb p.1 q.1) (has vars p.0) p.1 q.1 refl two.0 (subst (λ (v : ℕ). has vars v ≡ true) (sym (eqb-true p.0 u here)) among))
    ∙ ap (λ (v : ℕ). cond (eqb v u) (Some q.1) (value_in qs u)) same
  where
    chosen : (b : Bool) (m n : ℕ) (o : Option ℕ) → (b ≡ true → m ≡ n) → cond b (Some m) o ≡ cond b (Some n) o
    chosen true m n o h = ap (λ (k : ℕ). Some k) (h refl)
    chosen false m n o h = refl

    pair_same : (b d : Bool) (m n : ℕ) → eqb m n ≡ b → (b || not d) ≡ true → d ≡ true → m ≡ n
    pair_same true d m n e h among = eqb-true m n e
    pair_same false true m n e h among = absurd (false≢true h)
    pair_same false false m n e h among = absurd (false≢true among)

-- what is alike among the pairs that are left, one pair on
pub alike_next : (vars : List ℕ) (c x : Context) (k : ℕ) (d : ℕ × ℕ) → k < length c → length x ≡ length c → is_alike vars (drop k c) (drop k x) ≡ (eqb (get_or c k d).0 (get_or x k d).0 && ((eqb (get_or c k d).1 (get_or x k d).1 || not (has vars (get_or c k d).0)) && is_alike vars (drop (k + 1) c) (drop (k + 1) x)))
alike_next vars c x k d lt same =
    ap₂ (λ (ps : Context) (qs : Context). is_alike vars ps qs) (drop_more c k d lt) (drop_more x k d (omega (arith, lt, same)))

-- whether all of these are known
pub names_same : (c x : Context) (vars : List ℕ) → AgreeOn vars c x → names_all c vars ≡ names_all x vars
names_same c x [] h = refl
names_same c x (v ∷ vs) h = ap₂ (λ (o : Option ℕ) (b : Bool). is_some o && b) (h v (or_left (eqb v v) (has vs v) (eq-eqb v v refl))) (names_same c x vs (λ u among. h u (or_right (eqb v u) (has vs u) among)))

-- what stands in a list and passes stands among those that pass
has_filtered : (f : ℕ → Bool) (vs : List ℕ) (u : ℕ) → has vs u ≡ true → f u ≡ true → has (filter f vs) u ≡ true
has_filtered f [] u among passes = absurd (false≢true among)
has_filtered f (v ∷ vs) u among passes = elim (cases_Bool (eqb v u)) [
  | inl here ↦ cond_both (f v) (v ∷ filter f vs) (filter f vs) (λ (xs : List ℕ). has xs u ≡ true)
      (λ _. or_left (eqb v u) (has (filter f vs) u) here)
      (λ fails. absurd (false≢true (sym fails ∙ ap f (eqb-true v u here) ∙ passes)))
  | inr other ↦
      let later : has vs u ≡ true = ap (λ (b : Bool). b || has vs u) (sym other) ∙ among in
      let rest = has_filtered f vs u later passes in
      cond_both (f v) (v ∷ filter f vs) (filter f vs) (λ (xs : List ℕ). has xs u ≡ true)
      (λ _. or_right (eqb v u) (has (filter f vs) u) rest) (λ _. rest)
]

-- sums of the tables that pass, at values where these have the same cells
pub filtered_same : (q r : CostTable → Bool) (f g : ℕ → ℕ) (ts : List CostTable) → All (λ t. (q t ≡ r t) × (q t ≡ true → cell_with t f ≡ cell_with t g)) ts → cost_with (filter q ts) f ≡ cost_with (filter r ts) g
filtered_same q r f g [] h = refl
filtered_same q r f g (t ∷ ts) h =
    let here = All-head (λ t. (q t ≡ r t) × (q t ≡ true → cell_with t f ≡ cell_with t g)) t ts h in
    let rest = filtered_same q r f g ts (All-tail (λ t. (q t ≡ r t) × (q t ≡ true → cell_with t f ≡ cell_with t g)) t ts h) in
    elim (cases_Bool (q t)) [
      | inl passes ↦
          let cell = here.1 passes in
          let sums : cost_with (t ∷ filter q ts) f ≡ cost_with (t ∷ filter r ts) g =
          sum_by-append (λ u. cell_with u f) (t ∷ []) (filter q ts) ∙ ap₂ (λ (a : ℕ) (b : ℕ). 0 + a + b) cell rest ∙ sym (sum_by-append (λ u. cell_with u g) (t ∷ []) (filter r ts)) in
          ap (λ (us : List CostTable). cost_with us f) (cond-true (q t) (t ∷ filter q ts) (filter q ts) passes) ∙ sums
          ∙ sym (ap (λ (us : List CostTable). cost_with us g) (cond-true (r t) (t ∷ filter r ts) (filter r ts) (sym here.0 ∙ passes)))
      | inr fails ↦
          ap (λ (us : List CostTable). cost_with us f) (cond-false (q t) (t ∷ filter q ts) (filter q ts) fails) ∙ rest
          ∙ sym (ap (λ (us : List CostTable). cost_with us g) (cond-false (r t) (t ∷ filter r ts) (filter r ts) (sym here.0 ∙ fails)))
    ]

module _ (own : Private) (place : Place) (known x : Context) (knowledge : IsKnowledge own) (same : AgreeOn (filter (has place.path) own.neighbours) known x) where
  abbrev is_settled : Context → ℕ → Bool
  is_settled c u = eqb u own.me || (has place.path u && is_some (value_in c u))

  -- a variable of the path that an own table names is a higher neighbour
  value_same : (u s : ℕ) → value_in (known_sizes own) u ≡ Some s → eqb u own.me ≡ false → has place.path u ≡ true → value_in known u ≡ value_in x u
  value_same u s sized other above =
      let mine : eqb own.me u ≡ false = elim (cases_Bool (eqb own.me u)) [
        | inl here ↦ absurd (false≢true (sym other ∙ eq-eqb u own.me (sym (eqb-true own.me u here))))
        | inr differs ↦ differs
      ] in
      let near = found_there own.neighbours own.neighbour_sizes u s (sym (cond-false (eqb own.me u) (Some own.size) (value_in (zip own.neighbours own.neighbour_sizes) u) mine) ∙ sized) in
      same u (has_filtered (has place.path) own.neighbours u near above)

  settled_same : (u s : ℕ) → value_in (known_sizes own) u ≡ Some s → is_settled known u ≡ is_settled x u
  settled_same u s sized = elim (cases_Bool (eqb u own.me)) [
    | inl mine ↦ ap (λ (b : Bool). b || (has place.path u && is_some (value_in known u))) mine ∙ sym (ap (λ (b : Bool). b || (has place.path u && is_some (value_in x u))) mine)
    | inr other ↦ elim (cases_Bool (has place.path u)) [
      | inl above ↦ ap (λ (o : Option ℕ). eqb u own.me || (has place.path u && is_some o)) (value_same u s sized other above)
      | inr below ↦ ap (λ (b : Bool). eqb u own.me || (b && is_some (value_in known u))) below ∙ sym (ap (λ (b : Bool). eqb u own.me || (b && is_some (value_in x u))) below)
    ]
  ]

  own_same : (d u s : ℕ) → value_in (known_sizes own) u ≡ Some s → is_settled known u ≡ true → with_own own.me d (valued known) u ≡ with_own own.me d (valued x) u
  own_same d u s sized h = elim (cases_Bool (eqb u own.me)) [
    | inl mine ↦ cond-true (eqb u own.me) d (valued known u) mine ∙ sym (cond-true (eqb u own.me) d (valued x u) mine)
    | inr other ↦
        let rest = subst (λ (b : Bool). (b || (has place.path u && is_some (value_in known u))) ≡ true) other h in
        let both = and_parts (has place.path u) (is_some (value_in known u)) rest in
        ap (λ (o : Option ℕ). cond (eqb u own.me) d (or_zero o)) (value_same u s sized other both.0)
  ]

  all_settled : (us ss : List ℕ) → AllZip (λ u s. value_in (known_sizes own) u ≡ Some s) us ss → list_all (is_settled known) us ≡ list_all (is_settled x) us
  all_settled [] ss z = refl
  all_settled (u ∷ us) [] z = absurd z
  all_settled (u ∷ us) (s ∷ ss) z = ap₂ (λ (b : Bool) (c : Bool). b && c) (settled_same u s z.0) (all_settled us ss z.1)

  values_same : (d : ℕ) (us ss : List ℕ) → AllZip (λ u s. value_in (known_sizes own) u ≡ Some s) us ss → list_all (is_settled known) us ≡ true → map (with_own own.me d (valued known)) us ≡ map (with_own own.me d (valued x)) us
  values_same d [] ss z h = refl
  values_same d (u ∷ us) [] z h = absurd z
  values_same d (u ∷ us) (s ∷ ss) z h =
      let both = and_parts (is_settled known u) (list_all (is_settled known) us) h in
      ap₂ (λ (v : ℕ) (vs : List ℕ). v ∷ vs) (own_same d u s z.0 both.0) (values_same d us ss z.1 both.1)

  table_same : (d : ℕ) (t : CostTable) → IsKnownTable own t → (counts (knowing own place known) t ≡ counts (knowing own place x) t) × (counts (knowing own place known) t ≡ true → cell_with t (with_own own.me d (valued known)) ≡ cell_with t (with_own own.me d (valued x)))
  table_same d t one = (
    all_settled t.scope t.sizes one.sized,
    λ counted. ap (λ (vs : List ℕ). get_or t.cells (cell_place t.sizes vs) 0) (values_same d t.scope t.sizes one.sized counted),
  )

  -- the costs stay
  pub costs_kept : (costs : List ℕ) → AreCosts own place known costs → AreCosts own place x costs
  costs_kept costs costed = record {
    counted = costed.counted;
    each = λ d lt. costed.each d lt ∙ ap cap (filtered_same (counts (knowing own place known)) (counts (knowing own place x)) (with_own own.me d (valued known)) (with_own own.me d (valued x)) own.tables (λ k t inside. table_same d (get_or own.tables k t) (knowledge.tables k t inside)));
  }
