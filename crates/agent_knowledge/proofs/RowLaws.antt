-- Pairs that are added to lists.
use Rattle.std.proofs.Common.{◌≡◌, ℕ, ◌+◌, ◌<◌, ◌==◌, ◌&&◌, ◌||◌, not, Bool, false, List, [], ◌∷◌, length, set, take, get_or, slice_index_or, refl, sym, ap, subst, ◌∙◌, inl, inr}
use Rattle.std.specs.List.{All}
use Rattle.std.specs.List.Sorted.{IsStrictlyIncreasing}
use Rattle.std.proofs.lemmas.Bool.{cases_eq, eq-eqb, ne_eqb, and_left, and_right, true≢false}
use Rattle.std.proofs.lemmas.List.{get_or_default, length-set, get_or-set_same, get_or-set_other}
use Rattle.std.proofs.lemmas.List.Folds.{list_any_more}
use Rattle.dcop_base.specs.Table.{CostTable, has}
use Rattle.dcop_base.specs.Graph.{share_table, are_joined}
use Rattle.agent_knowledge.specs.Rows.{names, AreAscending, Adds}

nothing : (a b : Bool) → a ≡ (a || (b && false))
nothing Bool.true b = refl
nothing Bool.false Bool.true = refl
nothing Bool.false Bool.false = refl

-- nothing is added at first
pub adds_none : (near : ℕ → ℕ → Bool) (rows : List (List ℕ)) → AreAscending rows → ((u v : ℕ) → near u v ≡ false) → Adds near rows rows
adds_none near rows up none = record {
  ascend = up;
  named = λ u v lt. nothing (names rows u v) (not (u == v)) ∙ ap (λ (b : Bool). names rows u v || (not (u == v) && b)) (sym (none u v));
}

both : (a b e f g : Bool) → a ≡ (b || (e && f)) → (a || (e && g)) ≡ (b || (e && (f || g)))
both a Bool.true e f g h = ap (λ (x : Bool). x || (e && g)) h
both a Bool.false Bool.true f g h = ap (λ (x : Bool). x || g) h
both a Bool.false Bool.false f g h = ap (λ (x : Bool). x || false) h

-- what is added after something else
pub adds_more : (f g h : ℕ → ℕ → Bool) (old mid new : List (List ℕ)) → length mid ≡ length old → ((u v : ℕ) → (not (u == v) && (f u v || g u v)) ≡ (not (u == v) && h u v)) → Adds f old mid → Adds g mid new → Adds h old new
adds_more f g h old mid new size same first second = record {
  ascend = second.ascend;
  named = λ u v lt.
      second.named u v (subst (λ (n : ℕ). u < n) (sym size) lt)
      ∙ both (names mid u v) (names old u v) (not (u == v)) (f u v) (g u v) (first.named u v lt)
      ∙ ap (λ (b : Bool). names old u v || b) (same u v);
}

-- the variables of one more table
pub share_more : (ts : List CostTable) (k : ℕ) (t : CostTable) → k < length ts → t ≡ get_or ts k t → (u v : ℕ) → (not (u == v) && (share_table (take k ts) u v || (has t.scope u && has t.scope v))) ≡ (not (u == v) && share_table (take (k + 1) ts) u v)
share_more ts k t lt e u v = ap (λ (b : Bool). not (u == v) && b)
    (ap (λ (x : CostTable). share_table (take k ts) u v || (has x.scope u && has x.scope v)) e
    ∙ sym (list_any_more (λ (x : CostTable). has x.scope u && has x.scope v) ts k t lt))

not_both : (x a b : ℕ) → (a ≡ b → ⊥) → (x == a && x == b) ≡ false
not_both x a b n = elim (cases_eq x a) [
  | inl e ↦ and_right (x == a) (x == b) (ne_eqb x b (λ f. n (sym e ∙ f)))
  | inr m ↦ and_left (x == a) (x == b) (ne_eqb x a m)
]

crossed : (p q r s : Bool) → (p && q) ≡ false → (r && s) ≡ false → ((p || (r || false)) && (q || (s || false))) ≡ ((p && s) || (q && r))
crossed Bool.true Bool.true r s h g = absurd (true≢false h)
crossed Bool.true Bool.false Bool.true Bool.true h g = absurd (true≢false g)
crossed Bool.true Bool.false Bool.true Bool.false h g = refl
crossed Bool.true Bool.false Bool.false Bool.true h g = refl
crossed Bool.true Bool.false Bool.false Bool.false h g = refl
crossed Bool.false Bool.true Bool.true Bool.true h g = absurd (true≢false g)
crossed Bool.false Bool.true Bool.true Bool.false h g = refl
crossed Bool.false Bool.true Bool.false s h g = refl
crossed Bool.false Bool.false Bool.true Bool.true h g = absurd (true≢false g)
crossed Bool.false Bool.false Bool.true Bool.false h g = refl
crossed Bool.false Bool.false Bool.false s h g = refl

-- two different variables of a pair are its two
pair_near : (i j a b : ℕ) → (not (a == b) && (has (i ∷ j ∷ []) a && has (i ∷ j ∷ []) b)) ≡ (not (a == b) && ((i == a && j == b) || (i == b && j == a)))
pair_near i j a b = elim (cases_eq a b) [
  | inl e ↦
      ap (λ (x : Bool). not x && (has (i ∷ j ∷ []) a && has (i ∷ j ∷ []) b)) (eq-eqb a b e)
      ∙ ap (λ (x : Bool). not x && ((i == a && j == b) || (i == b && j == a))) (sym (eq-eqb a b e))
  | inr n ↦ ap (λ (x : Bool). not (a == b) && x) (crossed (i == a) (i == b) (j == a) (j == b) (not_both i a b n) (not_both j a b n))
]

inner : (e x y z : Bool) → (e && y) ≡ (e && z) → (e && (x || y)) ≡ (e && (x || z))
inner Bool.true x y z h = ap (λ (b : Bool). x || b) h
inner Bool.false x y z h = refl

-- the variables of one more joint
pub joined_more : (js : List (ℕ × ℕ)) (k : ℕ) (j : ℕ × ℕ) → k < length js → j ≡ get_or js k j
    → (u v : ℕ) → (not (u == v) && (are_joined (take k js) u v || (has (j.0 ∷ j.1 ∷ []) u && has (j.0 ∷ j.1 ∷ []) v))) ≡ (not (u == v) && are_joined (take (k + 1) js) u v)
joined_more js k j lt e u v =
    inner (not (u == v)) (are_joined (take k js) u v) (has (j.0 ∷ j.1 ∷ []) u && has (j.0 ∷ j.1 ∷ []) v) ((j.0 == u && j.1 == v) || (j.0 == v && j.1 == u)) (pair_near j.0 j.1 u v)
    ∙ ap (λ (b : Bool). not (u == v) && b)
    (ap (λ (x : ℕ × ℕ). are_joined (take k js) u v || ((x.0 == u && x.1 == v) || (x.0 == v && x.1 == u))) e
    ∙ sym (list_any_more (λ (x : ℕ × ℕ). (x.0 == u && x.1 == v) || (x.0 == v && x.1 == u)) js k j lt))

no_more : (a : Bool) → (a || false) ≡ a
no_more Bool.true = refl
no_more Bool.false = refl

-- one list that grew
pub row_more : (near more : ℕ → ℕ → Bool) (g : ℕ → Bool) (me : ℕ) (old rs : List (List ℕ)) (r : List ℕ) → me < length rs → length rs ≡ length old → Adds near old rs → IsStrictlyIncreasing r
    → ((v : ℕ) → has r v ≡ (has (get_or rs me []) v || (not (me == v) && g v))) → ((u v : ℕ) → more u v ≡ (near u v || (me == u && g v))) → Adds more old (set rs me r)
row_more near more g me old rs r inside size adds up grown are = record {
  ascend = ascends;
  named = λ u v lt. elim (cases_eq me u) [
    | inl e ↦ subst (λ (k : ℕ). names (set rs me r) k v ≡ (names old k v || (not (k == v) && more k v))) e (own v)
    | inr n ↦ other u v lt n
  ];
}
  where
    ascends : (u : ℕ) → u < length (set rs me r) → IsStrictlyIncreasing (slice_index_or (set rs me r) u [])
    ascends u lt = elim (cases_eq me u) [
      | inl e ↦ subst (λ (k : ℕ). IsStrictlyIncreasing (get_or (set rs me r) k [])) e (subst (λ (ys : List ℕ). IsStrictlyIncreasing ys) (sym (get_or-set_same rs me r [] inside)) up)
      | inr n ↦ subst (λ (ys : List ℕ). IsStrictlyIncreasing ys) (sym (get_or-set_other rs me u r [] (λ e. n (sym e)))) (adds.ascend u (subst (λ (m : ℕ). u < m) (length-set rs me r) lt))
    ]

    own : (v : ℕ) → names (set rs me r) me v ≡ (names old me v || (not (me == v) && more me v))
    own v =
        ap (λ (ys : List ℕ). has ys v) (get_or-set_same rs me r [] inside)
        ∙ grown v
        ∙ both (names rs me v) (names old me v) (not (me == v)) (near me v) (g v) (adds.named me v (subst (λ (m : ℕ). me < m) size inside))
        ∙ ap (λ (b : Bool). names old me v || (not (me == v) && (near me v || (b && g v)))) (sym (eq-eqb me me refl))
        ∙ ap (λ (b : Bool). names old me v || (not (me == v) && b)) (sym (are me v))

    other : (u v : ℕ) → u < length old → (me ≡ u → ⊥) → names (set rs me r) u v ≡ (names old u v || (not (u == v) && more u v))
    other u v lt n =
        ap (λ (ys : List ℕ). has ys v) (get_or-set_other rs me u r [] (λ e. n (sym e)))
        ∙ adds.named u v lt
        ∙ ap (λ (b : Bool). names old u v || (not (u == v) && b)) (sym (are u v ∙ ap (λ (b : Bool). near u v || (b && g v)) (ne_eqb me u n) ∙ no_more (near u v)))

apart : (a b c : Bool) → ((a || b) && c) ≡ ((a && c) || (b && c))
apart Bool.true Bool.true Bool.true = refl
apart Bool.true Bool.true Bool.false = refl
apart Bool.true Bool.false Bool.true = refl
apart Bool.true Bool.false Bool.false = refl
apart Bool.false b c = refl

-- the list of one more variable of a scope
pub scope_more : (scope : List ℕ) (k me : ℕ) (old rows : List (List ℕ)) (d row : List ℕ) → k < length scope → me ≡ get_or scope k me → me < length rows → length rows ≡ length old
    → Adds (λ u v. has (take k scope) u && has scope v) old rows → IsStrictlyIncreasing row
    → ((v : ℕ) → has row v ≡ (has (get_or rows me d) v || (not (me == v) && has scope v)))
    → Adds (λ u v. has (take (k + 1) scope) u && has scope v) old (set rows me row)
scope_more scope k me old rows d row lt e inside size adds up grown =
    row_more (λ u v. has (take k scope) u && has scope v) (λ u v. has (take (k + 1) scope) u && has scope v) (has scope) me old rows row inside size adds up
    (λ v. grown v ∙ ap (λ (ys : List ℕ). has ys v || (not (me == v) && has scope v)) (get_or_default rows me d [] inside))
    (λ u v. ap (λ (b : Bool). b && has scope v) (list_any_more (λ (y : ℕ). y == u) scope k me lt ∙ ap (λ (y : ℕ). has (take k scope) u || y == u) (sym e)) ∙ apart (has (take k scope) u) (me == u) (has scope v))

-- a list of lists that ascend
pub row_ascends : (rows : List (List ℕ)) (me : ℕ) (d : List ℕ) → me < length rows → AreAscending rows → IsStrictlyIncreasing (get_or rows me d)
row_ascends rows me d lt up = subst (λ (xs : List ℕ). IsStrictlyIncreasing xs) (get_or_default rows me [] d lt) (up me lt)

-- an item of a list of small numbers
pub item_below : (n : ℕ) (xs : List ℕ) (k x y : ℕ) → All (λ v. v < n) xs → k < length xs → x ≡ get_or xs k x → y ≡ x → y < n
item_below n xs k x y within lt e same = subst (λ (z : ℕ). z < n) (sym (same ∙ e)) (within k x lt)

-- one more table
pub scopes_more : (ts : List CostTable) (k : ℕ) (t : CostTable) (s : List ℕ) (old mid new : List (List ℕ)) → k < length ts → t ≡ get_or ts k t → s ≡ t.scope → length mid ≡ length old
    → Adds (share_table (take k ts)) old mid → Adds (λ u v. has s u && has s v) mid new → Adds (share_table (take (k + 1) ts)) old new
scopes_more ts k t s old mid new lt e same size first second =
    adds_more (share_table (take k ts)) (λ u v. has t.scope u && has t.scope v) (share_table (take (k + 1) ts)) old mid new size
    (share_more ts k t lt e) first (subst (λ (xs : List ℕ). Adds (λ u v. has xs u && has xs v) mid new) same second)

-- one more joint
pub joints_more : (js : List (ℕ × ℕ)) (k : ℕ) (j : ℕ × ℕ) (old mid new : List (List ℕ)) → k < length js → j ≡ get_or js k j → length mid ≡ length old
    → Adds (are_joined (take k js)) old mid → Adds (λ u v. has (j.0 ∷ j.1 ∷ []) u && has (j.0 ∷ j.1 ∷ []) v) mid new
    → Adds (are_joined (take (k + 1) js)) old new
joints_more js k j old mid new lt e size first second =
    adds_more (are_joined (take k js)) (λ u v. has (j.0 ∷ j.1 ∷ []) u && has (j.0 ∷ j.1 ∷ []) v) (are_joined (take (k + 1) js)) old mid new size
    (joined_more js k j lt e) first second
