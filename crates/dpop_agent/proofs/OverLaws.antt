-- The variables of an agent's joined table: distinct, of known sizes, and those of all tables that are added.
use Rattle.std.proofs.Common.{◌≡◌, ℕ, ◌-◌, ◌*◌, ◌<◌, ◌≤◌, Bool, true, false, not, ◌||◌, eqb, ltb, List, [], ◌∷◌, ◌++◌, map, length, get_or, replicate, Option, Some, None, is_some, refl, sym, ap, subst, ◌∙◌, inl, inr, arith}
use Rattle.std.specs.List.{All, AllZip, filter, flat_map, list_all, list_any, zip}
use Rattle.std.proofs.lemmas.Bool.{cases_Bool, cond-true, cond-false, cond_both, eqb-true, eq-eqb, and_parts, or_cases, or_parts, or_left, or_right, both_ways, true≢false, ltb-true}
use Rattle.std.proofs.lemmas.List.{length-map, get_or-map, get_or-replicate}
use Rattle.std.proofs.lemmas.List.Folds.{list_any_at, list_any-append}
use Rattle.std.proofs.lemmas.List.Elements.{All-nil, All-cons, All-head, All-tail, All-map}
use Rattle.dcop_base.specs.Table.{CostTable, IsTableOfParts, AreWithin, has, has_repeat, product, cell_place}
use Rattle.dcop_base.specs.declared.knowledge.Private.{Private}
use Rattle.dcop_base.specs.Limits.{variable_limit, size_limit}
use Rattle.dpop_agent.proofs.JointLaws.{lowest_is}
use Rattle.dcop_base.proofs.TableLaws.{cell_place-lt}
use Rattle.pseudotree.specs.declared.agent.Place.{Place}
use Rattle.pseudotree.proofs.NestLaws.{has_filter, filter_has}
use Rattle.cost_table.specs.Cells.{place_in}
use Rattle.cost_table.proofs.PlaceLaws.{place_in-lt}
use Rattle.cost_table.proofs.ProblemCutLaws.{at-place}
use Rattle.util_join.specs.Join.{LiesIn}
use Rattle.adopt_context.specs.Context.{Context, value_in, names_all, or_zero}
use Rattle.protocol_steps.specs.DpopStep.{is_below_size}
use Rattle.protocol_steps.specs.Values.{valued}
use Rattle.protocol_steps.specs.Dpop.{DpopView, there, joined_cost, best_value, size_of, separator, kept_scopes, joined_cells_with}
use Rattle.protocol_steps.specs.Placing.{IsPlaceFor}
use Rattle.protocol_steps.specs.Knowledge.{IsSize, known_sizes}
use Rattle.dpop_agent.specs.Keeping.{AreOffPath, keeping, IsChildTable, MayKeep}
use Rattle.dpop_agent.specs.Joint.{IsCostOf, IsZeroOver, IsZeroWhereNarrow, over_of, over_sizes}
use Rattle.dpop_agent.specs.Sound.{IsKeeper}

or_none : (a b : Bool) → a ≡ false → b ≡ false → (a || b) ≡ false
or_none true b p q = p
or_none false b p q = q

-- a filter keeps different numbers different
pub filter_apart : (q : ℕ → Bool) (xs : List ℕ) → has_repeat xs ≡ false → has_repeat (filter q xs) ≡ false
filter_apart q [] h = refl
filter_apart q (x ∷ xs) h =
    let parts = or_parts (has xs x) (has_repeat xs) h in
    let rest = filter_apart q xs parts.1 in
    let none : has (filter q xs) x ≡ false = elim (cases_Bool (has (filter q xs) x)) [
      | inl found ↦ absurd (both_ways (has xs x) parts.0 (has_filter q xs x found).0)
      | inr not_found ↦ not_found
    ] in
    cond_both (q x) (x ∷ filter q xs) (filter q xs) (λ (ys : List ℕ). has_repeat ys ≡ false)
    (λ _. or_none (has (filter q xs) x) (has_repeat (filter q xs)) none rest)
    (λ _. rest)

pub has_end : (xs : List ℕ) (m u : ℕ) → has (xs ++ (m ∷ [])) u ≡ (has xs u || (eqb m u || false))
has_end xs m u = list_any-append (λ y. eqb y u) xs (m ∷ [])

-- one more number that is not there
pub apart_end : (xs : List ℕ) (m : ℕ) → has_repeat xs ≡ false → has xs m ≡ false → has_repeat (xs ++ (m ∷ [])) ≡ false
apart_end [] m h none = refl
apart_end (x ∷ xs) m h none =
    let parts = or_parts (has xs x) (has_repeat xs) h in
    let other = or_parts (eqb x m) (has xs m) none in
    let turned : eqb m x ≡ false = elim (cases_Bool (eqb m x)) [
      | inl same ↦ absurd (both_ways (eqb x m) other.0 (eq-eqb x m (sym (eqb-true m x same))))
      | inr differs ↦ differs
    ] in
    let last : has (xs ++ (m ∷ [])) x ≡ false = has_end xs m x ∙ or_none (has xs x) (eqb m x || false) parts.0 (or_none (eqb m x) false turned refl) in
    or_none (has (xs ++ (m ∷ [])) x) (has_repeat (xs ++ (m ∷ []))) last (apart_end xs m parts.1 other.1)

pub product_end : (f : ℕ → ℕ) (xs : List ℕ) (m : ℕ) → product (map f (xs ++ (m ∷ []))) ≡ f m * product (map f xs)
product_end f [] m = omega arith
product_end f (x ∷ xs) m = let rest = product_end f xs m in ap (λ (k : ℕ). f x * k) rest ∙ turned (f x) (f m) (product (map f xs))
  where
    turned : (a b c : ℕ) → a * (b * c) ≡ b * (a * c)
    turned a b c = grind arith

pub has_first : (x : ℕ) (xs : List ℕ) → has (x ∷ xs) x ≡ true
has_first x xs = or_left (eqb x x) (has xs x) (eq-eqb x x refl)

pub has_later : (x : ℕ) (xs : List ℕ) (u : ℕ) → has xs u ≡ true → has (x ∷ xs) u ≡ true
has_later x xs u h = or_right (eqb x u) (has xs u) h

-- what holds of each number that stands in a list
pub all_had : (P : ℕ → Type 0) (xs : List ℕ) → ((u : ℕ) → has xs u ≡ true → P u) → All P xs
all_had P [] each = All-nil P
all_had P (x ∷ xs) each = All-cons P x xs (each x (has_first x xs)) (all_had P xs (λ u h. each u (has_later x xs u h)))

-- what is read of a map at the place of a number
pub read_map : (f : ℕ → ℕ) (over : List ℕ) (u : ℕ) → has over u ≡ true → get_or (map f over) (place_in over u) 0 ≡ f u
read_map f over u h =
    let lt = place_in-lt over u h in
    get_or-map f over (place_in over u) 0 0 lt ∙ ap f (at-place over u lt)

-- a size that stands beside a variable
record IsBeside (P : ℕ → Type 0) (o : Option ℕ) : Type 0 where
  size : ℕ
  is : o ≡ Some size
  fits : P size

beside : (P : ℕ → Type 0) (vs ss : List ℕ) (u : ℕ) → length ss ≡ length vs → has vs u ≡ true → All P ss → IsBeside P (value_in (zip vs ss) u)
beside P [] ss u same h all = absurd (true≢false (sym h))
beside P (v ∷ vs) [] u same h all = absurd (omega (arith, same))
beside P (v ∷ vs) (s ∷ ss) u same h all = elim (cases_Bool (eqb v u)) [
  | inl here ↦ record { size = s; is = cond-true (eqb v u) (Some s) (value_in (zip vs ss) u) here; fits = All-head P s ss all }
  | inr other ↦
      let rest = beside P vs ss u (omega (arith, same)) (subst (λ (b : Bool). (b || has vs u) ≡ true) other h) (All-tail P s ss all) in
      record { size = rest.size; is = cond-false (eqb v u) (Some s) (value_in (zip vs ss) u) other ∙ rest.is; fits = rest.fits }
]

-- a variable that a lookup finds stands there
found_there : (vs ss : List ℕ) (u s : ℕ) → value_in (zip vs ss) u ≡ Some s → has vs u ≡ true
found_there [] ss u s e = absurd (cc)
found_there (v ∷ vs) [] u s e = absurd (cc)
found_there (v ∷ vs) (t ∷ ss) u s e = elim (cases_Bool (eqb v u)) [
  | inl here ↦ or_left (eqb v u) (has vs u) here
  | inr other ↦ or_right (eqb v u) (has vs u) (found_there vs ss u s (sym (cond-false (eqb v u) (Some t) (value_in (zip vs ss) u) other) ∙ e))
]

pub had_of : (P : ℕ → Type 0) (xs : List ℕ) (u : ℕ) → All P xs → has xs u ≡ true → P u
had_of P [] u all h = absurd (true≢false (sym h))
had_of P (x ∷ xs) u all h = elim (or_cases (eqb x u) (has xs u) h) [
  | inl here ↦ subst P (eqb-true x u here) (All-head P x xs all)
  | inr later ↦ had_of P xs u (All-tail P x xs all) later
]

-- sizes that a function gives to the variables of a scope
zip_sizes : (R : ℕ → ℕ → Type 0) (f : ℕ → ℕ) (scope sizes : List ℕ) → AllZip R scope sizes → ((u s : ℕ) → has scope u ≡ true → R u s → s ≡ f u) → sizes ≡ map f scope
zip_sizes R f [] [] z each = refl
zip_sizes R f [] (s ∷ ss) z each = absurd z
zip_sizes R f (v ∷ vs) [] z each = absurd z
zip_sizes R f (v ∷ vs) (s ∷ ss) z each =
    ap (λ (x : ℕ). x ∷ ss) (each v s (has_first v vs) z.0) ∙ ap (λ (xs : List ℕ). f v ∷ xs) (zip_sizes R f vs ss z.1 (λ u t h r. each u t (has_later v vs u h) r))

each_zipped : (R : ℕ → ℕ → Type 0) (scope sizes : List ℕ) → AllZip R scope sizes → (u : ℕ) → has scope u ≡ true → (s : ℕ) × R u s
each_zipped R [] sizes z u h = absurd (true≢false (sym h))
each_zipped R (v ∷ vs) [] z u h = absurd z
each_zipped R (v ∷ vs) (s ∷ ss) z u h = elim (or_cases (eqb v u) (has vs u) h) [
  | inl here ↦ (s, subst (λ (w : ℕ). R w s) (eqb-true v u here) z.0)
  | inr later ↦ each_zipped R vs ss z.1 u later
]

pub all_where : (q : ℕ → Bool) (xs : List ℕ) (u : ℕ) → list_all q xs ≡ true → has xs u ≡ true → q u ≡ true
all_where q [] u all h = absurd (true≢false (sym h))
all_where q (x ∷ xs) u all h =
    let parts = and_parts (q x) (list_all q xs) all in
    elim (or_cases (eqb x u) (has xs u) h) [
      | inl here ↦ subst (λ (w : ℕ). q w ≡ true) (eqb-true x u here) parts.0
      | inr later ↦ all_where q xs u parts.1 later
    ]

-- none of the lower neighbours stands in the path
pub lower_apart : (own : Private) (place : Place) → IsPlaceFor own place → AreOffPath place.lower place.path
lower_apart own place placed u lower = placed.split u (had_of (λ u. has own.neighbours u ≡ true) place.lower u placed.lower.1 lower) ∙ ap not lower

pub apart_still : (own : Private) (place : Place) → IsPlaceFor own place → (lower path : List ℕ) → lower ≡ place.lower → path ≡ place.path → AreOffPath lower path
apart_still own place placed lower path same_lower same_path u h =
    ap (λ (vs : List ℕ). has vs u) same_path ∙ lower_apart own place placed u (sym (ap (λ (vs : List ℕ). has vs u) same_lower) ∙ h)

pub map_same : (f g : ℕ → ℕ) (xs : List ℕ) → ((u : ℕ) → has xs u ≡ true → f u ≡ g u) → map f xs ≡ map g xs
map_same f g [] same = refl
map_same f g (x ∷ xs) same = ap (λ (y : ℕ). y ∷ map f xs) (same x (has_first x xs)) ∙ ap (λ (ys : List ℕ). g x ∷ ys) (map_same f g xs (λ u h. same u (has_later x xs u h)))

-- a table of zeros costs nothing
pub zeros_cost : (over sizes : List ℕ) (t : CostTable) → IsTableOfParts over sizes (replicate (product sizes) 0) t → IsCostOf over sizes (λ value. 0) t
zeros_cost over sizes t parts = record {
  same_scope = parts.0;
  same_sizes = parts.1;
  cells = λ value within.
      let place = cell_place sizes (map value over) in
      ap (λ (cs : List ℕ). get_or cs (cell_place t.sizes (map value t.scope)) 0) parts.2
      ∙ ap (λ (ss : List ℕ). get_or (replicate (product sizes) 0) (cell_place ss (map value t.scope)) 0) parts.1
      ∙ ap (λ (vs : List ℕ). get_or (replicate (product sizes) 0) (cell_place sizes (map value vs)) 0) parts.0
      ∙ get_or-replicate (product sizes) place 0 0 (cell_place-lt sizes (map value over) within);
}

-- a context gives a variable one of its pairs
pair_passes : (q : ℕ × ℕ → Bool) (c : Context) (u d : ℕ) → value_in c u ≡ Some d → list_all q c ≡ true → q (u, d) ≡ true
pair_passes q [] u d e all = absurd (cc)
pair_passes q (p ∷ ps) u d e all =
    let parts = and_parts (q p) (list_all q ps) all in
    elim (cases_Bool (eqb p.0 u)) [
      | inl here ↦
          let value : p.1 ≡ d = some_same (sym (cond-true (eqb p.0 u) (Some p.1) (value_in ps u) here) ∙ e) in
          subst (λ (x : ℕ). q (u, x) ≡ true) value (subst (λ (w : ℕ). q (w, p.1) ≡ true) (eqb-true p.0 u here) parts.0)
      | inr other ↦ pair_passes q ps u d (sym (cond-false (eqb p.0 u) (Some p.1) (value_in ps u) other) ∙ e) parts.1
    ]
  where
    some_same : {x y : ℕ} → Some x ≡ Some y → x ≡ y
    some_same e = ap or_zero e

named_value : (o : Option ℕ) → is_some o ≡ true → o ≡ Some (or_zero o)
named_value None h = absurd (true≢false (sym h))
named_value (Some d) h = refl

pub within_all : (f g : ℕ → ℕ) (xs : List ℕ) → ((u : ℕ) → has xs u ≡ true → f u < g u) → AreWithin (map g xs) (map f xs)
within_all f g [] each = tt
within_all f g (x ∷ xs) each = (each x (has_first x xs), within_all f g xs (λ u h. each u (has_later x xs u h)))

module _ (own : Private) (place : Place) (kept : List (Option CostTable)) (keeper : IsKeeper own place kept) where
  abbrev view : DpopView
  view = keeping own place kept

  abbrev is_near : ℕ → Bool
  is_near u = has own.neighbours u || list_any (λ scope. has scope u) (kept_scopes view)

  pub separator_without : has (separator view) own.me ≡ false
  separator_without = elim (cases_Bool (has (separator view) own.me)) [
    | inl found ↦ absurd (both_ways (has place.path own.me) keeper.placed.path.without (has_filter is_near place.path own.me found).0)
    | inr not_found ↦ not_found
  ]

  pub separator_apart : has_repeat (separator view) ≡ false
  separator_apart = filter_apart is_near place.path keeper.placed.path.apart

  pub over_apart : has_repeat (over_of view) ≡ false
  over_apart = apart_end (separator view) own.me separator_apart separator_without

  pub over_me : has (over_of view) own.me ≡ true
  over_me = has_end (separator view) own.me own.me ∙ or_right (has (separator view) own.me) (eqb own.me own.me || false) (or_left (eqb own.me own.me) false (eq-eqb own.me own.me refl))

  pub over_near : (u : ℕ) → has place.path u ≡ true → is_near u ≡ true → has (over_of view) u ≡ true
  over_near u above near = has_end (separator view) own.me u ∙ or_left (has (separator view) u) (eqb own.me u || false) (filter_has is_near place.path u above near)

  pub size_me : size_of view own.me ≡ own.size
  size_me = cond-true (eqb own.me own.me) own.size (or_zero (value_in (zip place.path place.path_sizes) own.me)) (eq-eqb own.me own.me refl)

  -- a variable of the path is not the agent's
  above_apart : (u : ℕ) → has place.path u ≡ true → eqb u own.me ≡ false
  above_apart u h = elim (cases_Bool (eqb u own.me)) [
    | inl same ↦ absurd (both_ways (has place.path own.me) keeper.placed.path.without (subst (λ (w : ℕ). has place.path w ≡ true) (eqb-true u own.me same) h))
    | inr differs ↦ differs
  ]

  size_path : (u : ℕ) → has place.path u ≡ true → size_of view u ≡ or_zero (value_in (zip place.path place.path_sizes) u)
  size_path u h = cond-false (eqb u own.me) own.size (or_zero (value_in (zip place.path place.path_sizes) u)) (above_apart u h)

  pub path_size : (u : ℕ) → has place.path u ≡ true → IsSize (size_of view u)
  path_size u h =
      let path = keeper.placed.path in
      let found = beside IsSize place.path place.path_sizes u path.sized h path.sizes in
      subst IsSize (sym (size_path u h ∙ ap or_zero found.is)) found.fits

  over_cases : (P : ℕ → Type 0) → ((u : ℕ) → has place.path u ≡ true → P u) → P own.me → (u : ℕ) → has (over_of view) u ≡ true → P u
  over_cases P above mine u h = elim (or_cases (has (separator view) u) (eqb own.me u || false) (sym (has_end (separator view) own.me u) ∙ h)) [
    | inl before ↦ above u (has_filter is_near place.path u before).0
    | inr last ↦
        elim (or_cases (eqb own.me u) false last) [
          | inl same ↦ subst P (eqb-true own.me u same) mine
          | inr never ↦ absurd (true≢false (sym never))
        ]
  ]

  pub over_size : (u : ℕ) → has (over_of view) u ≡ true → IsSize (size_of view u)
  over_size = over_cases (λ u. IsSize (size_of view u)) path_size (subst IsSize (sym size_me) keeper.known.size)

  pub over_positive : All (λ s. 1 ≤ s) (over_sizes view)
  over_positive = All-map (λ s. 1 ≤ s) (size_of view) (over_of view) (all_had (λ u. 1 ≤ size_of view u) (over_of view) (λ u h. (over_size u h).0))

  pub over_count : product (over_sizes view) ≡ joined_cells_with view (kept_scopes view)
  over_count = product_end (size_of view) (separator view) own.me ∙ ap (λ (s : ℕ). s * product (map (size_of view) (separator view))) size_me

  -- a table over these variables, with the sizes that the agent knows
  lies : (t : CostTable) → ((u : ℕ) → has t.scope u ≡ true → has (over_of view) u ≡ true) → t.sizes ≡ map (size_of view) t.scope → LiesIn (over_of view) (over_sizes view) t
  lies t among sized = record {
    among = all_had (λ u. has (over_of view) u ≡ true) t.scope among;
    sized = sized ∙ map_same (size_of view) (λ u. get_or (over_sizes view) (place_in (over_of view) u) 0) t.scope (λ u h. sym (read_map (size_of view) (over_of view) u (among u h)));
  }

  known_is : (u s : ℕ) → (eqb u own.me || has place.path u) ≡ true → value_in (known_sizes own) u ≡ Some s → (has (over_of view) u ≡ true) × (s ≡ size_of view u)
  known_is u s test e = elim (or_cases (eqb u own.me) (has place.path u) test) [
    | inl mine ↦
        let same = eqb-true u own.me mine in
        let known = sym (cond-true (eqb own.me u) (Some own.size) (value_in (zip own.neighbours own.neighbour_sizes) u) (eq-eqb own.me u (sym same))) ∙ e in
        (subst (λ (w : ℕ). has (over_of view) w ≡ true) (sym same) over_me, sym (ap or_zero known) ∙ sym size_me ∙ ap (size_of view) (sym same))
    | inr above ↦
        let apart = above_apart u above in
        let turned : eqb own.me u ≡ false = elim (cases_Bool (eqb own.me u)) [
          | inl same ↦ absurd (both_ways (eqb u own.me) apart (eq-eqb u own.me (sym (eqb-true own.me u same))))
          | inr differs ↦ differs
        ] in
        let known = sym (cond-false (eqb own.me u) (Some own.size) (value_in (zip own.neighbours own.neighbour_sizes) u) turned) ∙ e in
        let near = found_there own.neighbours own.neighbour_sizes u s known in (
          over_near u above (or_left (has own.neighbours u) (list_any (λ scope. has scope u) (kept_scopes view)) near),
          sym (size_path u above ∙ ap or_zero (keeper.placed.agree u near above ∙ known)),
        )
  ]

  pub own_lies : All (λ (t : CostTable). list_all (λ u. eqb u own.me || has place.path u) t.scope ≡ true → LiesIn (over_of view) (over_sizes view) t) own.tables
  own_lies k d lt test =
      let t : CostTable = get_or own.tables k d in
      let known = keeper.known.tables k d lt in
      let above : (u : ℕ) → has t.scope u ≡ true → (eqb u own.me || has place.path u) ≡ true = λ u h. all_where (λ u. eqb u own.me || has place.path u) t.scope u test h in
      let R : ℕ → ℕ → Type 0 = λ u s. value_in (known_sizes own) u ≡ Some s in
      lies t (λ u h. let at = each_zipped R t.scope t.sizes known.sized u h in (known_is u at.0 (above u h) at.1).0)
      (zip_sizes R (size_of view) t.scope t.sizes known.sized (λ u s h r. (known_is u s (above u h) r).1))

  children : (es : List (Option CostTable)) → All (MayKeep own place) es → All (IsChildTable own place) (flat_map there es)
  children [] all = All-nil (IsChildTable own place)
  children (None ∷ es) all = children es (All-tail (MayKeep own place) None es all)
  children (Some t ∷ es) all =
      All-cons (IsChildTable own place) t (flat_map there es) (All-head (MayKeep own place) (Some t) es all) (children es (All-tail (MayKeep own place) (Some t) es all))

  pub kept_lies : All (LiesIn (over_of view) (over_sizes view)) (flat_map there kept)
  kept_lies k d lt =
      let ts : List CostTable = flat_map there kept in
      let t : CostTable = get_or ts k d in
      let child = children kept keeper.tables k d lt in
      let stands : (u : ℕ) → has t.scope u ≡ true → list_any (λ scope. has scope u) (kept_scopes view) ≡ true = λ u h.
      list_any_at (λ scope. has scope u) (map (λ (t : CostTable). t.scope) ts) k [] (let count = length-map ts (λ (t : CostTable). t.scope) in omega (arith, count, lt))
      (ap (λ (vs : List ℕ). has vs u) (get_or-map (λ (t : CostTable). t.scope) ts k d [] lt) ∙ h) in
      lies t (λ u h.
      let at = sym (ap (λ (vs : List ℕ). has vs u) child.scope ∙ has_end (filter (has t.scope) place.path) own.me u) ∙ h in
      elim (or_cases (has (filter (has t.scope) place.path) u) (eqb own.me u || false) at) [
        | inl before ↦ over_near u (has_filter (has t.scope) place.path u before).0 (or_right (has own.neighbours u) (list_any (λ scope. has scope u) (kept_scopes view)) (stands u h))
        | inr last ↦
            elim (or_cases (eqb own.me u) false last) [
              | inl same ↦ subst (λ (w : ℕ). has (over_of view) w ≡ true) (eqb-true own.me u same) over_me
              | inr never ↦ absurd (true≢false (sym never))
            ]
      ]) child.sizes

  -- zeros over these variables are the agent's joined table of zeros
  pub zero_where_narrow : (over : List ℕ) (zero : Option CostTable) → over ≡ over_of view → IsZeroOver over (map (size_of view) over) zero → IsZeroWhereNarrow view zero
  zero_where_narrow over None is zeros =
      let count = over_count in
      let long = ap (λ (vs : List ℕ). product (map (size_of view) vs)) is in
      omega (arith, zeros, count, long)
  zero_where_narrow over (Some t) is zeros =
      let count = over_count in
      let long = ap (λ (vs : List ℕ). product (map (size_of view) vs)) is in
      let narrow = zeros.0 in
      (omega (arith, narrow, count, long), subst (λ (vs : List ℕ). IsCostOf vs (map (size_of view) vs) (λ value. 0) t) is zeros.1)

  pub zero_some : (over : List ℕ) (t : CostTable) → over ≡ over_of view → IsZeroOver over (map (size_of view) over) (Some t) → IsCostOf (over_of view) (over_sizes view) (λ value. 0) t
  zero_some over t is zeros = subst (λ (vs : List ℕ). IsCostOf vs (map (size_of view) vs) (λ value. 0) t) is zeros.1

  -- what may be added to a table over these variables
  pub may_add : (f : (ℕ → ℕ) → ℕ) (joined t : CostTable) → IsCostOf (over_of view) (over_sizes view) f joined → LiesIn (over_of view) (over_sizes view) t → LiesIn joined.scope joined.sizes t
  may_add f joined t is lies =
      subst (λ (ss : List ℕ). LiesIn joined.scope ss t) (sym is.same_sizes) (subst (λ (vs : List ℕ). LiesIn vs (over_sizes view) t) (sym is.same_scope) lies)

  pub own_may : (f : (ℕ → ℕ) → ℕ) (joined : CostTable) (tables : List CostTable) (path : List ℕ) → IsCostOf (over_of view) (over_sizes view) f joined → tables ≡ own.tables → path ≡ place.path
      → All (λ (t : CostTable). list_all (λ u. eqb u own.me || has path u) t.scope ≡ true → LiesIn joined.scope joined.sizes t) tables
  own_may f joined tables path is same_tables same_path k d lt test =
      let P : List CostTable → List ℕ → Type 0 = λ ts vs. All (λ (t : CostTable). list_all (λ u. eqb u own.me || has vs u) t.scope ≡ true → LiesIn (over_of view) (over_sizes view) t) ts in
      let all : P tables path = subst (λ (vs : List ℕ). P tables vs) (sym same_path) (subst (λ (ts : List CostTable). P ts place.path) (sym same_tables) own_lies) in
      may_add f joined (get_or tables k d) is (all k d lt test)

  pub kept_may : (f : (ℕ → ℕ) → ℕ) (joined now : CostTable) → IsCostOf (over_of view) (over_sizes view) f joined → now.scope ≡ joined.scope → now.sizes ≡ joined.sizes → All (LiesIn now.scope now.sizes) (flat_map there kept)
  kept_may f joined now is same_scope same_sizes k d lt =
      let t : CostTable = get_or (flat_map there kept) k d in
      subst (λ (ss : List ℕ). LiesIn now.scope ss t) (sym (same_sizes ∙ is.same_sizes)) (subst (λ (vs : List ℕ). LiesIn vs (over_sizes view) t) (sym (same_scope ∙ is.same_scope)) (kept_lies k d lt))

  over_below : (u : ℕ) → has (over_of view) u ≡ true → u < variable_limit
  over_below = over_cases (λ u. u < variable_limit) (λ u h. had_of (λ u. u < variable_limit) place.path u keeper.placed.path.below h) keeper.known.me_below

  -- the variables of kept tables are within their range
  pub kept_below : All (λ (t : CostTable). All (λ u. u < variable_limit) t.scope) (flat_map there kept)
  kept_below k d lt =
      let t : CostTable = get_or (flat_map there kept) k d in
      let among = (kept_lies k d lt).among in
      all_had (λ u. u < variable_limit) t.scope (λ u h. over_below u (had_of (λ u. has (over_of view) u ≡ true) t.scope u among h))

  -- the best value is within its range
  pub best_small : (value : ℕ → ℕ) → best_value view value < size_limit
  best_small value =
      let size = keeper.known.size in
      let low = size.0 in
      let high = size.1 in
      let below = (lowest_is (joined_cost view value) (own.size - 1)).below in
      omega (arith, low, high, below)

  -- values that are taken are below the separator's sizes
  pub values_within : (values : Context) → list_all (λ p. is_below_size (value_in (zip place.path place.path_sizes) p.0) p.1) values ≡ true → names_all values (separator view) ≡ true
      → AreWithin (map (size_of view) (separator view)) (map (valued values) (separator view))
  values_within values sized named = within_all (valued values) (size_of view) (separator view) (λ u h.
      let above = (has_filter is_near place.path u h).0 in
      let value = named_value (value_in values u) (all_where (λ u. is_some (value_in values u)) (separator view) u named h) in
      let path = keeper.placed.path in
      let found = beside IsSize place.path place.path_sizes u path.sized above path.sizes in
      let test = pair_passes (λ p. is_below_size (value_in (zip place.path place.path_sizes) p.0) p.1) values u (valued values u) value sized in
      let below : ltb (valued values u) found.size ≡ true = sym (ap (λ (o : Option ℕ). is_below_size o (valued values u)) found.is) ∙ test in
      let size : size_of view u ≡ found.size = size_path u above ∙ ap or_zero found.is in
      subst (λ (s : ℕ). valued values u < s) (sym size) (ltb-true (valued values u) found.size below))
