-- A table that is added to the lists of the variables that it names.
use Rattle.std.proofs.Common.{◌≡◌, ℕ, zero, suc, ◌+◌, ◌<◌, ◌==◌, ◌||◌, Bool, true, false, cond, List, [], ◌∷◌, ◌++◌, length, set, take, get_or, refl, sym, ap, subst, ◌∙◌, inl, inr, arith}
use Rattle.std.specs.declared.vec.Vec.{Vec}
use Rattle.std.specs.declared.alloc.Global.{Global}
use Rattle.std.proofs.lemmas.Bool.{cases_eq, eq-eqb, ne_eqb, or_parts, or_right, false≢true}
use Rattle.std.proofs.lemmas.List.{append-nil, length-map, map-set, get_or-map, get_or-set_same, get_or-set_other}
use Rattle.std.proofs.lemmas.List.Folds.{list_any_more}
use Rattle.dcop_base.specs.Table.{CostTable, has, has_repeat}
use Rattle.agent_knowledge.specs.Rows.{rows_in}
use Rattle.agent_knowledge.proofs.NeighbourLaws.{to_has}

-- without repeats no item stands among the earlier ones
pub no_repeat : (xs : List ℕ) (k d : ℕ) → has_repeat xs ≡ false → k < length xs → has (take k xs) (get_or xs k d) ≡ false
no_repeat [] k d none lt = absurd (omega arith)
no_repeat (x ∷ xs) zero d none lt = refl
no_repeat (x ∷ xs) (suc k) d none lt =
    let parts = or_parts (has xs x) (has_repeat xs) none in
    let rest = no_repeat xs k d parts.1 (omega (arith, lt)) in
    elim (cases_eq x (get_or xs k d)) [
      | inl e ↦ absurd (false≢true (sym parts.0 ∙ subst (λ (y : ℕ). has xs y ≡ true) (sym e) (to_has xs (get_or xs k d) (k, omega (arith, lt), same xs k d (get_or xs k d) (omega (arith, lt))))))
      | inr n ↦ ap (λ (b : Bool). b || has (take k xs) (get_or xs k d)) (ne_eqb x (get_or xs k d) n) ∙ rest
    ]
  where
    same : (ys : List ℕ) (j a b : ℕ) → j < length ys → get_or ys j b ≡ get_or ys j a
    same [] j a b h = absurd (omega arith)
    same (y ∷ ys) zero a b h = refl
    same (y ∷ ys) (suc j) a b h = same ys j a b (omega (arith, h))

no_more : (a : Bool) → (a || false) ≡ a
no_more Bool.true = refl
no_more Bool.false = refl

-- one more variable of the scope has the table
pub table_more : (scope : List ℕ) (k me : ℕ) (t : CostTable) (old rs : List (List CostTable)) → k < length scope → me ≡ get_or scope k me → has_repeat scope ≡ false → me < length rs
    → ((v : ℕ) → v < length old → get_or rs v [] ≡ get_or old v [] ++ cond (has (take k scope) v) (t ∷ []) [])
    → (v : ℕ) → v < length old → get_or (set rs me (get_or rs me [] ++ t ∷ [])) v [] ≡ get_or old v [] ++ cond (has (take (k + 1) scope) v) (t ∷ []) []
table_more scope k me t old rs lt e once inside before v in_old = elim (cases_eq me v) [
  | inl same ↦ subst (λ (w : ℕ). get_or (set rs me (get_or rs me [] ++ t ∷ [])) w [] ≡ get_or old w [] ++ cond (has (take (k + 1) scope) w) (t ∷ []) []) same (own (subst (λ (w : ℕ). w < length old) (sym same) in_old))
  | inr n ↦
      get_or-set_other rs me v (get_or rs me [] ++ t ∷ []) [] (λ f. n (sym f)) ∙ before v in_old
      ∙ ap (λ (b : Bool). get_or old v [] ++ cond b (t ∷ []) []) (sym (more v ∙ ap (λ (b : Bool). has (take k scope) v || b) (ne_eqb me v n) ∙ no_more (has (take k scope) v)))
]
  where
    more : (w : ℕ) → has (take (k + 1) scope) w ≡ (has (take k scope) w || me == w)
    more w = list_any_more (λ (y : ℕ). y == w) scope k me lt ∙ ap (λ (y : ℕ). has (take k scope) w || y == w) (sym e)

    fresh : has (take k scope) me ≡ false
    fresh = subst (λ (y : ℕ). has (take k scope) y ≡ false) (sym e) (no_repeat scope k me once lt)

    own : me < length old → get_or (set rs me (get_or rs me [] ++ t ∷ [])) me [] ≡ get_or old me [] ++ cond (has (take (k + 1) scope) me) (t ∷ []) []
    own in_all =
        get_or-set_same rs me (get_or rs me [] ++ t ∷ []) [] inside
        ∙ ap (λ (ts : List CostTable). ts ++ t ∷ []) (before me in_all ∙ ap (λ (b : Bool). get_or old me [] ++ cond b (t ∷ []) []) fresh ∙ append-nil (get_or old me []))
        ∙ ap (λ (b : Bool). get_or old me [] ++ cond b (t ∷ []) []) (sym (more me ∙ or_right (has (take k scope) me) (me == me) (eq-eqb me me refl)))

pub table_pushed : (scope : List ℕ) (k me : ℕ) (t made : CostTable) (old rows : List (Vec CostTable Global)) (d row : Vec CostTable Global) → k < length scope → me ≡ get_or scope k me → has_repeat scope ≡ false → me < length rows
    → made ≡ t → row.items ≡ (get_or rows me d).items ++ made ∷ []
    → ((v : ℕ) → v < length old → get_or (rows_in rows) v [] ≡ get_or (rows_in old) v [] ++ cond (has (take k scope) v) (t ∷ []) [])
    → (v : ℕ) → v < length old → get_or (rows_in (set rows me row)) v [] ≡ get_or (rows_in old) v [] ++ cond (has (take (k + 1) scope) v) (t ∷ []) []
table_pushed scope k me t made old rows d row lt e once inside same pushed before v in_old =
    ap (λ (rs : List (List CostTable)). get_or rs v []) (map-set (λ (r : Vec CostTable Global). r.items) rows me row)
    ∙ ap (λ (ts : List CostTable). get_or (set (rows_in rows) me ts) v []) (pushed ∙ ap (λ (x : CostTable). (get_or rows me d).items ++ x ∷ []) same ∙ ap (λ (ts : List CostTable). ts ++ t ∷ []) (sym (get_or-map (λ (r : Vec CostTable Global). r.items) rows me d [] inside)))
    ∙ table_more scope k me t (rows_in old) (rows_in rows) lt e once (subst (λ (n : ℕ). me < n) (sym (length-map rows (λ (r : Vec CostTable Global). r.items))) inside)
    (λ w h. before w (subst (λ (n : ℕ). w < n) (length-map old (λ (r : Vec CostTable Global). r.items)) h)) v (subst (λ (n : ℕ). v < n) (sym (length-map old (λ (r : Vec CostTable Global). r.items))) in_old)
