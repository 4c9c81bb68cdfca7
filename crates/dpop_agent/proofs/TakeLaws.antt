-- A child's table that is taken: it may be kept, and an agent that keeps it stays sound.
use Rattle.std.proofs.Common.{◌≡◌, ℕ, zero, suc, ◌*◌, ◌<◌, ◌≤◌, get_or, Bool, true, false, cond, ◌&&◌, ◌||◌, eqb, ltb, nat_le, List, [], ◌∷◌, ◌++◌, map, length, Option, Some, None, is_some, refl, sym, ap, subst, ◌∙◌, inl, inr, arith}
use Rattle.std.specs.List.{filter, list_all, position, slice_get, slice_set, zip}
use Rattle.std.specs.Cmp.Lexicographic.{pointwise}
use Rattle.std.proofs.lemmas.Bool.{both_ways, cases_Bool, cases_lt, cond-true, eq-eqb, eqb-true, le-leb, le-ltb, lt-leb, lt-ltb, or_cases, true≢false, false≢true}
use Rattle.std.proofs.lemmas.List.{append-nil, length-map, length-set}
use Rattle.std.proofs.lemmas.List.Elements.{All-map, All-set}
use Rattle.std.proofs.lemmas.List.Folds.{list_all_at}
use Rattle.std.proofs.lemmas.Option.{slice_get_within, get_or_from_slice_get}
use Rattle.dcop_base.specs.Table.{CostTable, IsTableOfParts, has, has_repeat, product, table_fault}
use Rattle.dcop_base.specs.declared.knowledge.Private.{Private}
use Rattle.dcop_base.proofs.FaultLaws.{pointwise-true}
use Rattle.pseudotree.specs.declared.agent.Place.{Place}
use Rattle.dcop_base.specs.Limits.{joined_limit}
use Rattle.pseudotree.proofs.NestLaws.{has_filter}
use Rattle.cost_table.proofs.SliceLaws.{faultless}
use Rattle.protocol_steps.specs.declared.message.Message.{Message}
use Rattle.protocol_steps.specs.declared.message.Message.TheVariants.{Util}
use Rattle.adopt_context.specs.Context.{value_in, or_zero}
use Rattle.protocol_steps.specs.Agent.{quiet}
use Rattle.protocol_steps.specs.Ranges.{AreCells}
use Rattle.protocol_steps.specs.Dpop.{DpopView, size_of, separator_with, kept_scopes, joined_cells_with}
use Rattle.protocol_steps.specs.DpopJoin.{join}
use Rattle.protocol_steps.specs.DpopStep.{dpop_message, is_open, take_util, takes_util, with_table}
use Rattle.dpop_agent.specs.declared.stage.Stage.{Stage}
use Rattle.dpop_agent.specs.declared.stage.Stage.TheVariants.{Waiting, Working, Ended, Failed}
use Rattle.dpop_agent.specs.Stage.{phase_at, view_at, working}
use Rattle.dpop_agent.specs.Keeping.{keeping, IsChildTable, MayKeep}
use Rattle.dpop_agent.specs.Sound.{IsKeeper, IsMade, IsSound}
use Rattle.dpop_agent.specs.Deed.{GivesDpopStep, IsTableTaken}
use Rattle.dpop_agent.specs.Joint.{IsOver}
use Rattle.dpop_agent.specs.declared.separator.Over.{Over}
use Rattle.std.specs.Option.{IfSome}
use Rattle.dpop_agent.proofs.MarkLaws.{filter_same, stands_kept}
use Rattle.dpop_agent.proofs.OverLaws.{all_had, apart_end, filter_apart, has_end, path_size, product_end, size_me}

-- whether a number stays within a limit, asked by a capped count
pub within_limit : (limit n : ℕ) → is_some (cond (ltb limit n) None (Some n)) ≡ nat_le n limit
within_limit limit n = elim (cases_lt limit n) [
  | inl above ↦ ap (λ (b : Bool). let o : Option ℕ = cond b None (Some n) in is_some o) (lt-ltb limit n above) ∙ sym (lt-leb n limit above)
  | inr within ↦ ap (λ (b : Bool). let o : Option ℕ = cond b None (Some n) in is_some o) (le-ltb limit n within) ∙ sym (le-leb n limit within)
]

-- how many cells the joined table has where these scopes count as kept
pub cells_with : (own : Private) (place : Place) (kept : List (Option CostTable)) (scopes : List (List ℕ)) (over sizes : List ℕ) → over ≡ separator_with (keeping own place kept) scopes ++ (own.me ∷ []) → sizes ≡ map (size_of (keeping own place [])) over
    → product sizes ≡ joined_cells_with (keeping own place kept) scopes
cells_with own place kept scopes over sizes is sized =
    let v : DpopView = keeping own place kept in
    let size : ℕ → ℕ = size_of v in
    let before : List ℕ = separator_with v scopes in
    let mine : size own.me ≡ own.size = cond-true (eqb own.me own.me) own.size (or_zero (value_in (zip place.path place.path_sizes) own.me)) (eq-eqb own.me own.me refl) in
    ap product sized ∙ ap (λ (vs : List ℕ). product (map size vs)) is ∙ product_end size before own.me ∙ ap (λ (n : ℕ). n * product (map size before)) mine

-- what four tests say that pass together
pub four_pass : (a b c d : Bool) → (a && b && c && d) ≡ true → (a ≡ true) × (b ≡ true) × (c ≡ true) × (d ≡ true)
four_pass true true true true h = (refl, refl, refl, refl)
four_pass false b c d h = absurd (false≢true h)
four_pass true false c d h = absurd (false≢true h)
four_pass true true false d h = absurd (false≢true h)
four_pass true true true false h = absurd (false≢true h)

-- at an open place no table is kept
open_is : (o : Option (Option CostTable)) → is_open o ≡ true → o ≡ Some None
open_is None h = absurd (false≢true h)
open_is (Some None) h = refl
open_is (Some (Some t)) h = absurd (false≢true h)

-- where a place is open, not all tables are kept
not_all : (kept : List (Option CostTable)) (k : ℕ) → slice_get kept k ≡ Some None → list_all is_some kept ≡ false
not_all kept k e = list_all_at is_some kept k None (slice_get_within kept k None e) (ap is_some (get_or_from_slice_get kept k None None e))

-- the tests that a taken table has passed
record HasPassed (own : Private) (place : Place) (kept : List (Option CostTable)) (k : ℕ) (scope cells : List ℕ) : Type 0 where
  free : slice_get kept k ≡ Some None
  ordered : scope ≡ filter (has scope) place.path ++ (own.me ∷ [])
  full : length cells ≡ product (map (size_of (keeping own place kept)) scope)

passed : (own : Private) (place : Place) (kept : List (Option CostTable)) (k : ℕ) (scope cells : List ℕ) → takes_util (keeping own place kept) k scope cells ≡ true → HasPassed own place kept k scope cells
passed own place kept k scope cells taken =
    let v : DpopView = keeping own place kept in
    let due : List ℕ = filter (has scope) place.path ++ (own.me ∷ []) in
    let tests = four_pass (is_open (slice_get kept k)) (pointwise eqb scope due) (eqb (length cells) (product (map (size_of v) scope))) (nat_le (joined_cells_with v (scope ∷ kept_scopes v)) joined_limit) taken in
    record {
      free = open_is (slice_get kept k) tests.0;
      ordered = pointwise-true scope due tests.1;
      full = eqb-true (length cells) (product (map (size_of v) scope)) tests.2;
    }

module _ (own : Private) (place : Place) (kept : List (Option CostTable)) (keeper : IsKeeper own place kept) (k : ℕ) (scope cells : List ℕ) (taken : takes_util (keeping own place kept) k scope cells ≡ true) where
  tests : HasPassed own place kept k scope cells
  tests = passed own place kept k scope cells taken

  scope_apart : has_repeat scope ≡ false
  scope_apart =
      let path = keeper.placed.path in
      let without : has (filter (has scope) place.path) own.me ≡ false = elim (cases_Bool (has (filter (has scope) place.path) own.me)) [
        | inl found ↦ absurd (both_ways (has place.path own.me) path.without (has_filter (has scope) place.path own.me found).0)
        | inr not_found ↦ not_found
      ] in
      ap has_repeat tests.ordered ∙ apart_end (filter (has scope) place.path) own.me (filter_apart (has scope) place.path path.apart) without

  scope_positive : (u : ℕ) → has scope u ≡ true → 1 ≤ size_of (keeping own place kept) u
  scope_positive u h =
      let v : DpopView = keeping own place kept in
      let at = sym (ap (λ (vs : List ℕ). has vs u) tests.ordered ∙ has_end (filter (has scope) place.path) own.me u) ∙ h in
      elim (or_cases (has (filter (has scope) place.path) u) (eqb own.me u || false) at) [
        | inl before ↦ (path_size own place kept keeper u (has_filter (has scope) place.path u before).0).0
        | inr last ↦
            elim (or_cases (eqb own.me u) false last) [
              | inl same ↦ subst (λ (w : ℕ). 1 ≤ size_of v w) (eqb-true own.me u same) (subst (λ (n : ℕ). 1 ≤ n) (sym (size_me own place kept keeper)) keeper.known.size.0)
              | inr never ↦ absurd (true≢false (sym never))
            ]
      ]

  -- nothing is wrong with a table that is taken
  pub taken_faultless : AreCells cells → table_fault scope (map (size_of (keeping own place kept)) scope) cells ≡ None
  taken_faultless range =
      let size : ℕ → ℕ = size_of (keeping own place kept) in
      faultless scope (map size scope) cells (record {
        apart = scope_apart;
        sized = length-map scope size;
        positive = All-map (λ s. 1 ≤ s) size scope (all_had (λ u. 1 ≤ size u) scope scope_positive);
        full = tests.full;
        small = range.below;
      })

  -- it may be kept
  taken_child : (t : CostTable) → IsTableOfParts scope (map (size_of (keeping own place kept)) scope) cells t → IsChildTable own place t
  taken_child t parts = record {
    scope = parts.0 ∙ tests.ordered ∙ ap (λ (vs : List ℕ). filter (has vs) place.path ++ (own.me ∷ [])) (sym parts.0);
    sizes = parts.1 ∙ ap (λ (vs : List ℕ). map (size_of (keeping own place [])) vs) (sym parts.0);
  }

  -- who keeps it keeps what may be kept
  pub taken_keeper : (t : CostTable) → IsTableOfParts scope (map (size_of (keeping own place kept)) scope) cells t → IsKeeper own place (slice_set kept k (Some t))
  taken_keeper t parts = record {
    known = keeper.known;
    placed = keeper.placed;
    counted = length-set kept k (Some t) ∙ keeper.counted;
    tables = All-set (MayKeep own place) kept k (Some t) (taken_child t parts) keeper.tables;
  }

-- what is not there is not something
none_not : (o : Option CostTable) (t : CostTable) → is_some o ≡ false → o ≡ Some t → false ≡ true
none_not o t none is = sym none ∙ ap is_some is

-- no table was made where a place is open
not_made : (own : Private) (place : Place) (kept : List (Option CostTable)) (made : Option CostTable) → ((t : CostTable) → made ≡ Some t → IsMade own place kept t) → list_all is_some kept ≡ false → is_some made ≡ false
not_made own place kept None util none = refl
not_made own place kept (Some t) util none = absurd (both_ways (list_all is_some kept) none (util t refl).all)

-- an agent that keeps a table that is taken stays sound
pub keeps_sound : (own : Private) (place : Place) (stage : Stage) (kept : List (Option CostTable)) (made : Option CostTable) (k : ℕ) (scope cells : List ℕ) (t : CostTable) → IsSound own place stage kept made
    → IsTableTaken (keeping own place kept) k scope cells (Some t) → IsSound own place stage (slice_set kept k (Some t)) made
keeps_sound own place stage kept made k scope cells t sound taken =
    let none = not_made own place kept made sound.util (not_all kept k (passed own place kept k scope cells taken.0).free) in
    record {
      keeper = taken_keeper own place kept sound.keeper k scope cells taken.0 t taken.1;
      util = λ u e. absurd (false≢true (none_not made u none e));
      ended = sound.ended;
    }

at_work : (stage : Stage) → (phase_at stage).started ≡ true → (phase_at stage).failed ≡ false → (phase_at stage).ended ≡ false → phase_at stage ≡ working
at_work Waiting started well goes = absurd (false≢true started)
at_work Working started well goes = refl
at_work Ended started well goes = absurd (true≢false goes)
at_work Failed started well goes = absurd (true≢false well)

-- an agent that runs and has a place open is at work
pub open_works : (own : Private) (place : Place) (stage : Stage) (kept : List (Option CostTable)) (made : Option CostTable) (k : ℕ) (scope cells : List ℕ) → IsSound own place stage kept made → (phase_at stage).started ≡ true
    → (phase_at stage).failed ≡ false → takes_util (keeping own place kept) k scope cells ≡ true → phase_at stage ≡ working
open_works own place stage kept made k scope cells sound started well taken =
    let none = not_made own place kept made sound.util (not_all kept k (passed own place kept k scope cells taken).free) in
    at_work stage started well (elim (cases_Bool (phase_at stage).ended) [
      | inl ended ↦ absurd (both_ways (is_some made) none (sound.ended ended))
      | inr goes ↦ goes
    ])

-- a table is its parts
is_of_parts : (t : CostTable) (scope sizes cells : List ℕ) → IsTableOfParts scope sizes cells t → t ≡ record { scope = scope; sizes = sizes; cells = cells }
is_of_parts t scope sizes cells parts =
    ap (λ (vs : List ℕ). let u : CostTable = record { scope = vs; sizes = t.sizes; cells = t.cells } in u) parts.0
    ∙ ap (λ (ss : List ℕ). let u : CostTable = record { scope = scope; sizes = ss; cells = t.cells } in u) parts.1
    ∙ ap (λ (cs : List ℕ). let u : CostTable = record { scope = scope; sizes = sizes; cells = cs } in u) parts.2

takes_at : (own : Private) (place : Place) (stage : Stage) (kept : List (Option CostTable)) (made : Option CostTable) (value k : ℕ) (scope cells : List ℕ) (t : CostTable) (after : DpopView) (before parcels : List (ℕ × Message))
    → IsTableTaken (keeping own place kept) k scope cells (Some t) → GivesDpopStep (join (view_at own place stage (slice_set kept k (Some t)) made value)) after before parcels
    → GivesDpopStep (take_util (view_at own place stage kept made value) (Some k) scope cells) after before parcels
takes_at own place stage kept made value k scope cells t after before parcels taken gives =
    let v : DpopView = view_at own place stage kept made value in
    subst (λ (b : Bool). GivesDpopStep (cond b (join (with_table v k scope cells)) (quiet v)) after before parcels) (sym taken.0)
    (subst (λ (u : CostTable). GivesDpopStep (join (view_at own place stage (slice_set kept k (Some u)) made value)) after before parcels) (is_of_parts t scope (map (size_of v) scope) cells taken.1) gives)

-- what a child's table gives that is taken
pub takes : (own : Private) (place : Place) (stage : Stage) (kept : List (Option CostTable)) (made : Option CostTable) (value : ℕ) (v : DpopView) (from k : ℕ) (scope cells : List ℕ) (t : CostTable) (after : DpopView) (before parcels : List (ℕ × Message))
    → view_at own place stage kept made value ≡ v → position (λ c. eqb c from) place.children ≡ Some k → IsTableTaken (keeping own place kept) k scope cells (Some t)
    → GivesDpopStep (join (view_at own place stage (slice_set kept k (Some t)) made value)) after before parcels → GivesDpopStep (dpop_message v from (Util scope cells)) after before parcels
takes own place stage kept made value v from k scope cells t after before parcels view found taken gives =
    subst (λ (w : DpopView). GivesDpopStep (dpop_message w from (Util scope cells)) after before parcels) view
    (subst (λ (o : Option ℕ). GivesDpopStep (take_util (view_at own place stage kept made value) o scope cells) after before parcels) (sym found)
    (takes_at own place stage kept made value k scope cells t after before parcels taken gives))

-- a table that is not there was not taken
pub untaken : (v : DpopView) (k : ℕ) (scope cells : List ℕ) (o : Option CostTable) → IsTableTaken v k scope cells o → ((t : CostTable) → o ≡ Some t → ⊥) → takes_util v k scope cells ≡ false
untaken v k scope cells None tried none = tried
untaken v k scope cells (Some t) tried none = absurd (none t refl)

-- what a child's table gives that is not taken: nothing
pub passes_over : (own : Private) (place : Place) (stage : Stage) (kept : List (Option CostTable)) (made : Option CostTable) (value : ℕ) (v : DpopView) (from k : ℕ) (scope cells : List ℕ) (before parcels : List (ℕ × Message))
    → view_at own place stage kept made value ≡ v → position (λ c. eqb c from) place.children ≡ Some k → takes_util (keeping own place kept) k scope cells ≡ false → parcels ≡ before → GivesDpopStep (dpop_message v from (Util scope cells)) v before parcels
passes_over own place stage kept made value v from k scope cells before parcels view found not_taken none =
    subst (λ (w : DpopView). GivesDpopStep (dpop_message w from (Util scope cells)) w before parcels) view
    (let w : DpopView = view_at own place stage kept made value in
    subst (λ (o : Option ℕ). GivesDpopStep (take_util w o scope cells) w before parcels) (sym found)
    (subst (λ (b : Bool). GivesDpopStep (cond b (join (with_table w k scope cells)) (quiet w)) w before parcels) (sym not_taken) (record { viewed = refl; sent = none ∙ sym (append-nil before) })))

-- whether a variable stands in a kept table, after one more is kept at a place that was free
stands_more : (kept : List (Option CostTable)) (k : ℕ) (t : CostTable) (u : ℕ) → k < length kept → get_or kept k None ≡ None → stands_kept (slice_set kept k (Some t)) u ≡ (has t.scope u || stands_kept kept u)
stands_more [] k t u lt free = absurd (omega (arith, lt))
stands_more (None ∷ es) zero t u lt free = refl
stands_more (Some s ∷ es) zero t u lt free = absurd (true≢false (ap is_some free))
stands_more (None ∷ es) (suc k) t u lt free = stands_more es k t u (omega (arith, lt)) free
stands_more (Some s ∷ es) (suc k) t u lt free = ap (λ (b : Bool). has s.scope u || b) (stands_more es k t u (omega (arith, lt)) free) ∙ swapped (has s.scope u) (has t.scope u) (stands_kept es u)
  where
    swapped : (a b c : Bool) → (a || (b || c)) ≡ (b || (a || c))
    swapped true true c = refl
    swapped true false c = refl
    swapped false true c = refl
    swapped false false c = refl

-- the variables of the joined table where a table's scope counted as kept are those where it is kept
pub known_after : (own : Private) (place : Place) (stage : Stage) (kept : List (Option CostTable)) (made : Option CostTable) (value k : ℕ) (scope cells : List ℕ) (t : CostTable) (over : Over) → IsTableTaken (keeping own place kept) k scope cells (Some t)
    → over.vars ≡ separator_with (keeping own place kept) (scope ∷ kept_scopes (keeping own place kept)) ++ (own.me ∷ []) → over.sizes ≡ map (size_of (keeping own place [])) over.vars
    → IsOver (view_at own place stage (slice_set kept k (Some t)) made value) over
known_after own place stage kept made value k scope cells t over taken vars sizes =
    let free = (passed own place kept k scope cells taken.0).free in
    let within : k < length kept = slice_get_within kept k None free in
    let none : get_or kept k None ≡ None = get_or_from_slice_get kept k None None free in
    let before : ℕ → Bool = λ u. has own.neighbours u || (has scope u || stands_kept kept u) in
    let after : ℕ → Bool = λ u. has own.neighbours u || stands_kept (slice_set kept k (Some t)) u in
    let same : (u : ℕ) → before u ≡ after u = λ u.
    ap (λ (b : Bool). has own.neighbours u || b) (ap (λ (vs : List ℕ). has vs u || stands_kept kept u) (sym taken.1.0) ∙ sym (stands_more kept k t u within none)) in
    record {
      vars = vars ∙ ap (λ (us : List ℕ). us ++ (own.me ∷ [])) (filter_same before after place.path (λ i d lt. same (get_or place.path i d)));
      sizes = sizes;
    }

-- what is known of an agent's joined table is known of what it keeps
pub known_kept : (own : Private) (place : Place) (stage : Stage) (kept now : List (Option CostTable)) (made : Option CostTable) (value : ℕ) (v : DpopView) (known : Option Over) → view_at own place stage kept made value ≡ v → now ≡ kept → IfSome known (IsOver v) → IfSome known (IsOver (keeping own place now))
known_kept own place stage kept now made value v None view same h = tt
known_kept own place stage kept now made value v (Some over) view same h =
    let is : IsOver (view_at own place stage kept made value) over = subst (λ (w : DpopView). IsOver w over) (sym view) h in
    let here : IsOver (keeping own place kept) over = record { vars = is.vars; sizes = is.sizes } in
    subst (λ (es : List (Option CostTable)). IsOver (keeping own place es) over) (sym same) here
