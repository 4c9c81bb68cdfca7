-- What the tables that count cost: each has a cell at the own value and the known values, and the costs add up.
use Rattle.std.proofs.Common.{◌≡◌, ℕ, ◌+◌, ◌<◌, ◌≤◌, Bool, true, false, cond, ◌&&◌, ◌||◌, eqb, List, [], ◌∷◌, ◌++◌, map, length, take, get_or, min, Option, Some, None, is_some, refl, sym, ap, ap₂, subst, ◌∙◌, inl, inr, arith}
use Rattle.std.specs.List.{AllZip, filter, list_all, zip}
use Rattle.std.proofs.lemmas.Bool.{cases_Bool, cond-true, cond-false, eqb-true, eq-eqb, and_parts, or_left, or_right, ltb-true, false≢true}
use Rattle.std.proofs.lemmas.Option.{none-some, same_Some}
use Rattle.std.proofs.lemmas.List.{append-nil}
use Rattle.std.proofs.lemmas.List.Elements.{filter_more}
use Rattle.std.proofs.lemmas.List.Sums.{sum_by-append}
use Rattle.dcop_base.specs.Table.{CostTable, AreWithin, has}
use Rattle.dcop_base.specs.Values.{cell_with, cost_with, with_own}
use Rattle.dcop_base.specs.Limits.{amount_limit}
use Rattle.dcop_base.specs.declared.knowledge.Private.{Private}
use Rattle.pseudotree.specs.declared.agent.Place.{Place}
use Rattle.adopt_context.specs.Context.{Context, value_in, or_zero}
use Rattle.adopt_context.specs.Bounds.{cap}
use Rattle.adopt_context.proofs.KnownLaws.{each_pair}
use Rattle.protocol_steps.specs.Values.{valued}
use Rattle.protocol_steps.specs.Knowledge.{known_sizes, IsKnownTable}
use Rattle.protocol_steps.specs.AdoptRange.{in_range, is_within}
use Rattle.adopt_agent.specs.Stage.{knowing}
use Rattle.adopt_agent.specs.Sound.{IsAdoptGround}

-- a variable that a lookup finds stands there
pub found_there : (vs ss : List ℕ) (u s : ℕ) → value_in (zip vs ss) u ≡ Some s → has vs u ≡ true
found_there [] ss u s e = absurd (none-some s e)
found_there (v ∷ vs) [] u s e = absurd (none-some s e)
found_there (v ∷ vs) (t ∷ ss) u s e = elim (cases_Bool (eqb v u)) [
  | inl here ↦ or_left (eqb v u) (has vs u) here
  | inr other ↦ or_right (eqb v u) (has vs u) (found_there vs ss u s (sym (cond-false (eqb v u) (Some t) (value_in (zip vs ss) u) other) ∙ e))
]

named_value : (o : Option ℕ) → is_some o ≡ true → o ≡ Some (or_zero o)
named_value None h = absurd (false≢true h)
named_value (Some d) h = refl

and_implied : (a b : Bool) → (b ≡ true → a ≡ true) → b ≡ (a && b)
and_implied true b h = refl
and_implied false true h = sym (h refl)
and_implied false false h = refl

within_size : (o : Option ℕ) (s d : ℕ) → o ≡ Some s → is_within o d ≡ true → d < s
within_size None s d e h = absurd (none-some s e)
within_size (Some t) s d e h = let lt = ltb-true d t h in let same = same_Some t s e in omega (arith, lt, same)

module _ (own : Private) (place : Place) (known : Context) (ground : IsAdoptGround own place known) where
  abbrev is_settled : ℕ → Bool
  is_settled u = eqb u own.me || (has place.path u && is_some (value_in known u))

  -- a variable of the path that is known has a value below the size that the agent knows of it
  known_below : (u s : ℕ) → value_in (zip own.neighbours own.neighbour_sizes) u ≡ Some s → (has place.path u && is_some (value_in known u)) ≡ true → valued known u < s
  known_below u s sized h =
      let both = and_parts (has place.path u) (is_some (value_in known u)) h in
      let size : value_in (zip place.path place.path_sizes) u ≡ Some s = ground.placed.agree u (found_there own.neighbours own.neighbour_sizes u s sized) both.0 ∙ sized in
      within_size (value_in (zip place.path place.path_sizes) u) s (valued known u) size
      (each_pair (in_range (knowing own place known)) known ground.known_fits u (valued known u) (named_value (value_in known u) both.1))

  settled_below : (d u s : ℕ) → d < own.size → value_in (known_sizes own) u ≡ Some s → is_settled u ≡ true → with_own own.me d (valued known) u < s
  settled_below d u s lt sized h = elim (cases_Bool (eqb u own.me)) [
    | inl here ↦
        let mine : eqb own.me u ≡ true = eq-eqb own.me u (sym (eqb-true u own.me here)) in
        let size : own.size ≡ s = same_Some own.size s (sym (cond-true (eqb own.me u) (Some own.size) (value_in (zip own.neighbours own.neighbour_sizes) u) mine) ∙ sized) in
        let value : with_own own.me d (valued known) u ≡ d = cond-true (eqb u own.me) d (valued known u) here in
        omega (arith, lt, size, value)
    | inr other ↦
        let mine : eqb own.me u ≡ false = elim (cases_Bool (eqb own.me u)) [
          | inl same ↦ absurd (false≢true (sym other ∙ eq-eqb u own.me (sym (eqb-true own.me u same))))
          | inr differs ↦ differs
        ] in
        let size = sym (cond-false (eqb own.me u) (Some own.size) (value_in (zip own.neighbours own.neighbour_sizes) u) mine) ∙ sized in
        let value : with_own own.me d (valued known) u ≡ valued known u = cond-false (eqb u own.me) d (valued known u) other in
        let rest = subst (λ (b : Bool). (b || (has place.path u && is_some (value_in known u))) ≡ true) other h in
        let below = known_below u s size rest in
        omega (arith, below, value)
  ]

  all_below : (d : ℕ) → d < own.size → (scope sizes : List ℕ) → AllZip (λ u s. value_in (known_sizes own) u ≡ Some s) scope sizes → list_all is_settled scope ≡ true → AreWithin sizes (map (with_own own.me d (valued known)) scope)
  all_below d lt [] [] z h = tt
  all_below d lt [] (s ∷ ss) z h = absurd z
  all_below d lt (u ∷ us) [] z h = absurd z
  all_below d lt (u ∷ us) (s ∷ ss) z h =
      let both = and_parts (is_settled u) (list_all is_settled us) h in
      (settled_below d u s lt z.0 both.0, all_below d lt us ss z.1 both.1)

  -- a table that counts has a cell at each own value
  pub counted_within : (k : ℕ) (t : CostTable) → k < length own.tables → t ≡ get_or own.tables k t → list_all is_settled t.scope ≡ true → (d : ℕ) → d < own.size → AreWithin t.sizes (map (with_own own.me d (valued known)) t.scope)
  counted_within k t lt e h d below =
      let one : IsKnownTable own t = subst (IsKnownTable own) (sym e) (ground.own_fits.tables k t lt) in
      all_below d below t.scope t.sizes one.sized h

  -- only variables of the path are known
  named_in_path : (u : ℕ) → is_some (value_in known u) ≡ true → has place.path u ≡ true
  named_in_path u some = ranged_there (value_in (zip place.path place.path_sizes) u) refl
      (each_pair (in_range (knowing own place known)) known ground.known_fits u (valued known u) (named_value (value_in known u) some))
    where
      ranged_there : (o : Option ℕ) → value_in (zip place.path place.path_sizes) u ≡ o → is_within o (valued known u) ≡ true → has place.path u ≡ true
      ranged_there None e h = absurd (false≢true h)
      ranged_there (Some s) e h = found_there place.path place.path_sizes u s e

  settled_known : (u : ℕ) → (eqb u own.me || is_some (value_in known u)) ≡ is_settled u
  settled_known u = ap (λ (b : Bool). eqb u own.me || b) (and_implied (has place.path u) (is_some (value_in known u)) (named_in_path u))

  -- a table whose variables are known, but for the agent, is one that counts
  pub counts_known : (scope : List ℕ) → list_all (λ u. eqb u own.me || is_some (value_in known u)) scope ≡ list_all (λ u. eqb u own.me || (has place.path u && is_some (value_in known u))) scope
  counts_known [] = refl
  counts_known (u ∷ us) = ap₂ (λ (b : Bool) (c : Bool). b && c) (settled_known u) (counts_known us)

-- what is added to a capped sum, as if it were added before the cap
pub cap_more : (a b c : ℕ) → a ≡ min b amount_limit → min (a + c) amount_limit ≡ min (b + c) amount_limit
cap_more a b c e = omega (arith, e)

-- the cost at an own value, with that of the tables so far
abbrev pub cost_so_far : ℕ → (q : CostTable → Bool) → List CostTable → ℕ → (ℕ → ℕ) → ℕ
cost_so_far base q ts k value = cap (base + cost_with (filter q (take k ts)) value)

-- before the first table
pub cost_none : (base : ℕ) (q : CostTable → Bool) (ts : List CostTable) (value : ℕ → ℕ) → base ≤ amount_limit → base ≡ cost_so_far base q ts 0 value
cost_none base q ts value le = omega (arith, le)

-- one more table that counts
pub cost_more : (base : ℕ) (q : CostTable → Bool) (ts : List CostTable) (k : ℕ) (t : CostTable) (value : ℕ → ℕ) (old new : ℕ) → k < length ts → t ≡ get_or ts k t → q t ≡ true → old ≡ cost_so_far base q ts k value → new ≡ cap (old + cell_with t value) → new ≡ cost_so_far base q ts (k + 1) value
cost_more base q ts k t value old new lt e passes so step =
    let more : filter q (take (k + 1) ts) ≡ filter q (take k ts) ++ (t ∷ []) =
    filter_more q ts k t lt ∙ ap (λ (u : CostTable). filter q (take k ts) ++ cond (q u) (u ∷ []) []) (sym e) ∙ ap (λ (b : Bool). filter q (take k ts) ++ cond b (t ∷ []) []) passes in
    let sum : base + cost_with (filter q (take (k + 1) ts)) value ≡ base + cost_with (filter q (take k ts)) value + cell_with t value =
    ap (λ (us : List CostTable). base + cost_with us value) more ∙ ap (λ (n : ℕ). base + n) (sum_by-append (λ u. cell_with u value) (filter q (take k ts)) (t ∷ [])) ∙ one base (cost_with (filter q (take k ts)) value) (cell_with t value) in
    step ∙ cap_more old (base + cost_with (filter q (take k ts)) value) (cell_with t value) so ∙ ap cap (sym sum)
  where
    one : (a b c : ℕ) → a + (b + (0 + c)) ≡ a + b + c
    one a b c = omega arith

-- one more table that does not count
pub cost_same : (base : ℕ) (q : CostTable → Bool) (ts : List CostTable) (k : ℕ) (t : CostTable) (value : ℕ → ℕ) (old : ℕ) → k < length ts → t ≡ get_or ts k t → q t ≡ false → old ≡ cost_so_far base q ts k value → old ≡ cost_so_far base q ts (k + 1) value
cost_same base q ts k t value old lt e fails so =
    let more : filter q (take (k + 1) ts) ≡ filter q (take k ts) ++ [] =
    filter_more q ts k t lt ∙ ap (λ (u : CostTable). filter q (take k ts) ++ cond (q u) (u ∷ []) []) (sym e) ∙ ap (λ (b : Bool). filter q (take k ts) ++ cond b (t ∷ []) []) fails in
    so ∙ ap (λ (us : List CostTable). cap (base + cost_with us value)) (sym (append-nil (filter q (take k ts)))) ∙ ap (λ (us : List CostTable). cap (base + cost_with us value)) (sym more)
