-- Tables for variables in another order are whole, and together they are within the limits.
use Rattle.std.proofs.Common.{◌≡◌, ℕ, ◌+◌, ◌<◌, Bool, true, false, ◌||◌, eqb, List, [], ◌∷◌, ◌++◌, None, length, get_or, take, map, refl, sym, ap, subst, ◌∙◌, inl, inr, arith}
use Rattle.std.specs.List.{All, AllZip, slice_index}
use Rattle.std.proofs.lemmas.Bool.{cases_Bool, eqb-true, eq-eqb, or_parts, or_cases, true≢false}
use Rattle.std.proofs.lemmas.List.{get_or-map, take_more}
use Rattle.std.proofs.lemmas.List.Elements.{All-head, All-tail, All-nil, All-cons, AllZip-push}
use Rattle.problem_text.proofs.NamesLaws.{length-map}
use Rattle.dcop_base.specs.Table.{CostTable, IsTable, table_fault, has, has_repeat}
use Rattle.dcop_base.proofs.TableLaws.{parts-of}
use Rattle.problem_order.specs.Order.{ArePlaces}
use Rattle.problem_order.specs.Reordered.{IsTableFor}

-- the variables at the places of variables are these variables
pub scope_back : (order places scope : List ℕ) → ArePlaces order places → All (λ v. v < length order) scope → map (slice_index order) (map (slice_index places) scope) ≡ scope
scope_back order places [] are within = refl
scope_back order places (v ∷ vs) are within =
    let many = are.many in
    let here = All-head (λ (u : ℕ). u < length order) v vs within in
    let back : slice_index order (slice_index places v) ≡ v = (are.of_places v (omega (arith, many, here))).1 in
    ap (λ (u : ℕ). u ∷ map (slice_index order) (map (slice_index places) vs)) back
    ∙ ap (λ (us : List ℕ). v ∷ us) (scope_back order places vs are (All-tail (λ (u : ℕ). u < length order) v vs within))

-- places of variables are places
pub scope_below : (order places scope : List ℕ) → ArePlaces order places → All (λ v. v < length order) scope → All (λ v. v < length order) (map (slice_index places) scope)
scope_below order places scope are within k d lt =
    let many = are.many in
    let long = length-map (slice_index places) scope in
    let lk : k < length scope = omega (arith, lt, long) in
    let below : get_or scope k 0 < length order = within k 0 lk in
    let there : slice_index places (get_or scope k 0) < length order = (are.of_places (get_or scope k 0) (omega (arith, many, below))).0 in
    subst (λ (u : ℕ). u < length order) (sym (get_or-map (slice_index places) scope k 0 d lk)) there

-- the image of one of these numbers is among their images
has_map : (f : ℕ → ℕ) (xs : List ℕ) (x : ℕ) → has xs x ≡ true → has (map f xs) (f x) ≡ true
has_map f [] x h = absurd (true≢false (sym h))
has_map f (y ∷ ys) x h =
    elim (or_cases (eqb y x) (has ys x) h) [
      | inl same ↦ ap (λ (b : Bool). b || has (map f ys) (f x)) (eq-eqb (f y) (f x) (ap f (eqb-true y x same)))
      | inr later ↦
          elim (cases_Bool (eqb (f y) (f x))) [
            | inl same ↦ ap (λ (b : Bool). b || has (map f ys) (f x)) same
            | inr differ ↦ ap (λ (b : Bool). b || has (map f ys) (f x)) differ ∙ has_map f ys x later
          ]
    ]

-- numbers whose images are distinct are distinct
pub apart_from_map : (f : ℕ → ℕ) (xs : List ℕ) → has_repeat (map f xs) ≡ false → has_repeat xs ≡ false
apart_from_map f [] h = refl
apart_from_map f (x ∷ xs) h =
    let parts = or_parts (has (map f xs) (f x)) (has_repeat (map f xs)) h in
    let fresh : has xs x ≡ false =
    (elim (cases_Bool (has xs x)) as (λ (_ : _). has xs x ≡ false) [
      | inl there ↦ absurd (true≢false (sym (has_map f xs x there) ∙ parts.0))
      | inr none ↦ none
    ]) in
    ap (λ (b : Bool). b || has_repeat xs) fresh ∙ apart_from_map f xs parts.1

-- the table for variables in another order is whole
pub whole_table : (t u : CostTable) (order : List ℕ) → IsTable t → IsTableFor order t u → IsTable u
whole_table t u order whole is =
    let parts = parts-of t.scope t.sizes t.cells whole in
    let long : length u.scope ≡ length t.scope = sym (length-map (slice_index order) u.scope) ∙ ap length is.scope in
    let apart : has_repeat u.scope ≡ false = apart_from_map (slice_index order) u.scope (ap has_repeat is.scope ∙ parts.apart) in
    table_whole t.scope u.scope t.sizes t.cells u.sizes u.cells parts.apart apart long is.sizes is.cells whole
  where
    table_whole : (ts us tz tc uz uc : List ℕ) → has_repeat ts ≡ false → has_repeat us ≡ false → length us ≡ length ts → uz ≡ tz → uc ≡ tc → table_fault ts tz tc ≡ None → table_fault us uz uc ≡ None
    table_whole ts us tz tc uz uc at au long ez ec e = rw (ez, ec, au, long) (rw at at e)

-- a table with its scope renamed is one for variables in another order
pub table_for : (t u : CostTable) (order places scope : List ℕ) → ArePlaces order places → All (λ v. v < length order) t.scope → scope ≡ map (slice_index places) t.scope
    → u ≡ record { scope = scope; sizes = t.sizes; cells = t.cells } → IsTableFor order t u
table_for t u order places scope are within e is = record {
  within = subst (λ (vs : List ℕ). All (λ v. v < length order) vs) (sym (ap (λ (w : CostTable). w.scope) is ∙ e)) (scope_below order places t.scope are within);
  scope = ap (λ (w : CostTable). map (slice_index order) w.scope) is ∙ ap (map (slice_index order)) e ∙ scope_back order places t.scope are within;
  sizes = ap (λ (w : CostTable). w.sizes) is;
  cells = ap (λ (w : CostTable). w.cells) is;
}

-- and it has no fault
pub whole_for : (t : CostTable) (order places scope : List ℕ) → ArePlaces order places → All (λ v. v < length order) t.scope → IsTable t → scope ≡ map (slice_index places) t.scope
    → table_fault scope t.sizes t.cells ≡ None
whole_for t order places scope are within whole e =
    let u : CostTable = record { scope = scope; sizes = t.sizes; cells = t.cells } in
    whole_table t u order whole (table_for t u order places scope are within e refl)

-- the first tables, with the next one
pub zip_more : (order : List ℕ) (ts : List CostTable) (k : ℕ) (t u : CostTable) (new next : List CostTable) → k < length ts → t ≡ get_or ts k t → AllZip (IsTableFor order) (take k ts) new → IsTableFor order t u
    → next ≡ new ++ (u ∷ []) → AllZip (IsTableFor order) (take (k + 1) ts) next
zip_more order ts k t u new next lt is so one e =
    subst (λ (us : List CostTable). AllZip (IsTableFor order) (take (k + 1) ts) us) (sym e)
    (subst (λ (xs : List CostTable). AllZip (IsTableFor order) xs (new ++ (u ∷ []))) (sym (take_more ts k t lt ∙ ap (λ (x : CostTable). take k ts ++ (x ∷ [])) (sym is)))
    (AllZip-push (IsTableFor order) (take k ts) new t u so one))

-- each of these tables names places of the order
pub zip_within : (order : List ℕ) (ts us : List CostTable) → AllZip (IsTableFor order) ts us → All (λ u. All (λ v. v < length order) u.scope) us
zip_within order [] [] so = All-nil (λ (w : CostTable). All (λ v. v < length order) w.scope)
zip_within order [] (u ∷ us) so = absurd so
zip_within order (t ∷ ts) [] so = absurd so
zip_within order (t ∷ ts) (u ∷ us) so = All-cons (λ (w : CostTable). All (λ v. v < length order) w.scope) u us so.0.within (zip_within order ts us so.1)
