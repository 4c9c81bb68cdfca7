-- What the turns of a cut have, one by one, and the least of their cells.
use Rattle.std.proofs.Common.{◌≡◌, ℕ, zero, suc, ◌<◌, ◌≤◌, min, List, [], ◌∷◌, length, get_or, Option, None, Some, nat_eq, refl, sym, ap, subst, ◌∙◌, inl, inr, arith}
use Rattle.std.specs.Prelude.{◌⊎◌}
use Rattle.std.specs.List.{All, count_by, fold}
use Rattle.std.specs.Option.{option_map}
use Rattle.std.proofs.lemmas.Bool.{cases_lt}
use Rattle.std.proofs.lemmas.Option.{none-some}
use Rattle.std.proofs.lemmas.List.{length-map, get_or-map, get_or_default}
use Rattle.std.proofs.lemmas.List.Elements.{All-weaker}
use Rattle.dcop_base.specs.Limits.{size_limit}
use Rattle.dcop_base.specs.Table.{product, AreWithin, cell_place, values_at}
use Rattle.dcop_base.specs.Problem.{Dcop}
use Rattle.dcop_base.specs.Whole.{IsProblem}
use Rattle.dcop_base.proofs.TableLaws.{cell_place-lt, product-pos}
use Rattle.dcop_optimum.proofs.PlaceLaws.{zeros_within}
use Rattle.cost_table.specs.Slices.{ones_at}
use Rattle.cost_table.proofs.ProblemCutLaws.{length-ones_at}
use Rattle.pseudotree.specs.Fault.{AreParents}
use Rattle.pseudotree.specs.Place.{sizes_of}
use Rattle.pseudotree.specs.Pseudotree.{RootedTree, IsPseudotreeOf}
use Rattle.protocol_steps.specs.Values.{choices}
use Rattle.protocol_steps.proofs.ValueLaws.{length-choices, choice_at}
use Rattle.run_laws.specs.Slice.{AreCut, AreCutValues, slice_of}
use Rattle.run_laws.proofs.TreeLaws.{slices_keep_trees}
use Rattle.run_laws.proofs.TurnLaws.{stands_at, choice_is}
use Rattle.certificate_text.specs.declared.certificate.Turn.{Turn}
use Rattle.certificate_text.specs.declared.certificate.Util.{Util}
use Rattle.certificate_text.specs.declared.verdict.Differs.{Differs}
use Rattle.certificate_text.specs.Fits.{FitsTables, FitsCut}
use Rattle.certificate_text.specs.Turns.{first_tables}
use Rattle.minimised_problem.specs.Told.{variables, parents_told}
use Rattle.minimised_problem.specs.Turns.{turn_at, turn_by}
use Rattle.certificate_check.specs.Cells.{HaveOneEach}
use Rattle.certificate_check.specs.Cuts.{in_turn, scopes_in_turn, cells_in_turn}
use Rattle.certificate_check.specs.Differences.{first_of, scope_difference, cells_difference}
use Rattle.certificate_check.specs.Odometer.{NamesNoneItself}
use Rattle.certificate_check.proofs.CellLaws.{sizes_at, scope_within}
use Rattle.certificate_check.proofs.RootLaws.{apart_from}
use Rattle.certificate_check.proofs.VerdictLaws.{parents_fit_in}

-- a difference that is told of a turn is there, and back
pub none_in : (number : ℕ) (o : Option Differs) → option_map (in_turn number) o ≡ None → o ≡ None
none_in number None e = refl
none_in number (Some x) e = absurd (none-some (in_turn number x) (sym e))

pub in_none : (number : ℕ) (o : Option Differs) → o ≡ None → option_map (in_turn number) o ≡ None
in_none number o e = ap (option_map (in_turn number)) e

module _ (p : Dcop) (cut : List ℕ) (turns : List Turn) (fits : FitsCut p.sizes cut turns) where
  pub cut_is : AreCut p cut
  cut_is = record { apart = fits.distinct; within = fits.within }

  -- there are as many turns as choices of values
  pub turn_count : length turns ≡ product (sizes_of p cut)
  turn_count =
      sym (length-map turns (λ (t : Turn). t.values)) ∙ ap (λ (vs : List (List ℕ)). length vs) fits.values ∙ length-choices (sizes_of p cut)

  -- the values of a turn are the choice with its number
  turn-values : (k : ℕ) → k < length turns → (turn_at turns k).values ≡ get_or (choices (sizes_of p cut)) k []
  turn-values k lt =
      sym (get_or-map (λ (t : Turn). t.values) turns k (record { values = []; tables = [] }) [] lt)
      ∙ ap (λ (vs : List (List ℕ)). get_or vs k []) fits.values

  pub turn_within : (k : ℕ) → k < length turns → AreCutValues p cut (turn_at turns k).values
  turn_within k lt =
      let count = turn_count in
      let stands = stands_at (sizes_of p cut) k (omega (arith, lt, count)) in
      subst (λ (vs : List ℕ). AreWithin (sizes_of p cut) vs) (sym (turn-values k lt ∙ choice_is (sizes_of p cut) k stands)) stands.within

  -- so their place is the number
  pub turn_place : (k : ℕ) → k < length turns → cell_place (sizes_of p cut) (turn_at turns k).values ≡ k
  turn_place k lt =
      let count = turn_count in
      let stands = stands_at (sizes_of p cut) k (omega (arith, lt, count)) in
      ap (cell_place (sizes_of p cut)) (turn-values k lt ∙ choice_is (sizes_of p cut) k stands) ∙ stands.is

  -- the turn with given values is there and has them
  pub place_below : (values : List ℕ) → AreCutValues p cut values → cell_place (sizes_of p cut) values < length turns
  place_below values within =
      let count = turn_count in
      let low = cell_place-lt (sizes_of p cut) values within in
      omega (arith, count, low)

  pub turn_has : (values : List ℕ) → AreCutValues p cut values → (turn_by p cut turns values).values ≡ values
  turn_has values within = turn-values (cell_place (sizes_of p cut) values) (place_below values within) ∙ choice_at (sizes_of p cut) values within

  -- the tables of a turn fit its slice
  pub turn_fits : (k : ℕ) → k < length turns → FitsTables (ones_at cut p.sizes) (turn_at turns k).tables
  turn_fits k lt = fits.tables k (record { values = []; tables = [] }) lt

  -- so each variable has one of them
  pub turn_one : (k : ℕ) → k < length turns → HaveOneEach (length p.sizes) (turn_at turns k).tables
  turn_one k lt = subst (λ (n : ℕ). HaveOneEach n (turn_at turns k).tables) (length-ones_at cut p.sizes) (turn_fits k lt).one

  pub each_one : (v : ℕ) → v < length p.sizes → All (λ t. count_by (λ u. nat_eq u.var v) t.tables ≡ 1) turns
  each_one v lt = λ k d below.
      subst (λ (t : Turn). count_by (λ u. nat_eq u.var v) t.tables ≡ 1) (sym (get_or_default turns k d (record { values = []; tables = [] }) below)) (turn_one k below v lt)

module _ (f : Turn → ℕ) where
  -- the least of a measure of turns and of this number
  abbrev pub Least : ℕ → List Turn → ℕ
  Least start turns = fold (λ l t. min l (f t)) start turns

  least-start : (start m : ℕ) (ts : List Turn) → start ≤ m → Least start ts ≤ m
  least-start start m [] h = h
  least-start start m (t ∷ ts) h = least-start (min start (f t)) m ts (omega (arith, h))

  -- it is at most each
  pub least_below : (start : ℕ) (ts : List Turn) (k : ℕ) (d : Turn) → k < length ts → Least start ts ≤ f (get_or ts k d)
  least_below start [] k d lt = absurd (omega (arith, lt))
  least_below start (t ∷ ts) zero d lt = least-start (min start (f t)) (f t) ts (omega arith)
  least_below start (t ∷ ts) (suc k) d lt = least_below (min start (f t)) ts k d (omega (arith, lt))

  -- what is at most each is at most the least
  pub least_above : (start m : ℕ) (ts : List Turn) (d : Turn) → m ≤ start → ((k : ℕ) → k < length ts → m ≤ f (get_or ts k d)) → m ≤ Least start ts
  least_above start m [] d h each = h
  least_above start m (t ∷ ts) d h each =
      let here : m ≤ f t = each 0 (omega arith) in
      least_above (min start (f t)) m ts d (omega (arith, h, here)) (λ k lt. each (suc k) (omega (arith, lt)))

  -- and it is the start or one of them
  pub least_found : (start : ℕ) (ts : List Turn) (d : Turn) → (Least start ts ≡ start) ⊎ ((k : ℕ) × (k < length ts) × (Least start ts ≡ f (get_or ts k d)))
  least_found start [] d = inl refl
  least_found start (t ∷ ts) d =
      elim (least_found (min start (f t)) ts d) [
        | inl same ↦ elim (cases_lt (f t) start) [
          | inl lower ↦ (let e : min start (f t) ≡ f t = omega (arith, lower) in inr (0, omega arith, same ∙ e))
          | inr above ↦ (let e : min start (f t) ≡ start = omega (arith, above) in inl (same ∙ e))
        ]
        | inr later ↦ inr (suc later.0, omega (arith, later.1), later.2)
      ]

-- the turn that was read by its number
pub turn_same : (turns : List Turn) (k : ℕ) (t : Turn) → k < length turns → t ≡ get_or turns k t → t ≡ turn_at turns k
turn_same turns k t lt is = is ∙ get_or_default turns k t (record { values = []; tables = [] }) lt

-- a cut has a turn
pub some_turn : (p : Dcop) (cut : List ℕ) (turns : List Turn) → IsProblem p → FitsCut p.sizes cut turns → 0 < length turns
some_turn p cut turns problem fits =
    let positive = All-weaker (λ s. (1 ≤ s) × (s ≤ size_limit)) (λ s. 1 ≤ s) (λ s h. h.0) p.sizes problem.sizes in
    let one = product-pos (sizes_at p.sizes cut) (values_at cut _) (scope_within p.sizes _ cut (zeros_within p.sizes positive) fits.within) in
    let count = turn_count p cut turns fits in
    omega (arith, one, count)

-- each variable has one table in the first turn
pub first_one : (p : Dcop) (cut : List ℕ) (turns : List Turn) → 0 < length turns → FitsCut p.sizes cut turns → HaveOneEach (length p.sizes) (first_tables turns)
first_one p cut [] some fits = absurd (omega (arith, some))
first_one p cut (t ∷ ts) some fits = turn_one p cut (t ∷ ts) fits 0 some

-- and its parent is a variable
pub first_parents_fit : (p : Dcop) (cut : List ℕ) (turns : List Turn) → 0 < length turns → FitsCut p.sizes cut turns → (parents : List (Option ℕ)) → parents ≡ parents_told p (first_tables turns) → AreParents p parents
first_parents_fit p cut [] some fits parents is = absurd (omega (arith, some))
first_parents_fit p cut (t ∷ ts) some fits parents is = parents_fit_in p (ones_at cut p.sizes) t.tables (length-ones_at cut p.sizes) (turn_fits p cut (t ∷ ts) fits 0 some) parents is

-- what code has of a turn: the turn with this number, its slice and its tables
pub record IsTurnOf (p : Dcop) (cut : List ℕ) (turns : List Turn) (number : ℕ) (t : Turn) (q : Dcop) (utils : List Util) : Type 0 where
  pub turn_is : t ≡ turn_at turns number
  pub slice_is : q ≡ slice_of p cut t.values
  pub tables_are : utils ≡ t.tables

module _ (p : Dcop) (cut : List ℕ) (turns : List Turn) (number : ℕ) (t : Turn) (q : Dcop) (utils : List Util) (is : IsTurnOf p cut turns number t q utils) where
  pub told_scopes : (paths : List (List ℕ)) (differs o : Option Differs) → differs ≡ first_of (scope_difference q paths utils) (variables q) → o ≡ option_map (in_turn number) differs → o ≡ scopes_in_turn p paths cut turns number
  told_scopes paths differs o found told =
      told
      ∙ ap (option_map (in_turn number))
      (found
      ∙ ap (λ (us : List Util). first_of (scope_difference q paths us) (variables q)) is.tables_are
      ∙ ap (λ (x : Dcop). first_of (scope_difference x paths t.tables) (variables x)) is.slice_is
      ∙ ap (λ (x : Turn). first_of (scope_difference (slice_of p cut x.values) paths x.tables) (variables (slice_of p cut x.values))) is.turn_is)

  pub told_cells : (paths : List (List ℕ)) (differs o : Option Differs) → differs ≡ first_of (cells_difference q paths utils) (variables q) → o ≡ option_map (in_turn number) differs → o ≡ cells_in_turn p paths cut turns number
  told_cells paths differs o found told =
      told
      ∙ ap (option_map (in_turn number))
      (found
      ∙ ap (λ (us : List Util). first_of (cells_difference q paths us) (variables q)) is.tables_are
      ∙ ap (λ (x : Dcop). first_of (cells_difference x paths t.tables) (variables x)) is.slice_is
      ∙ ap (λ (x : Turn). first_of (cells_difference (slice_of p cut x.values) paths x.tables) (variables (slice_of p cut x.values))) is.turn_is)

  pub tree_in : (tree : RootedTree) → IsPseudotreeOf p tree → IsPseudotreeOf q tree
  tree_in tree of = subst (λ (x : Dcop). IsPseudotreeOf x tree) (sym is.slice_is) (((slices_keep_trees p cut t.values).tree tree).0 of)

  pub fits_in : FitsCut p.sizes cut turns → number < length turns → FitsTables q.sizes utils
  fits_in fits lt =
      subst (λ (us : List Util). FitsTables q.sizes us) (sym is.tables_are)
      (subst (λ (x : Dcop). FitsTables x.sizes t.tables) (sym is.slice_is)
      (subst (λ (x : Turn). FitsTables (ones_at cut p.sizes) x.tables) (sym is.turn_is) (turn_fits p cut turns fits number lt)))

  -- where no scope differs, no table names its own variable
  pub apart_in : (tree : RootedTree) → IsPseudotreeOf p tree → scopes_in_turn p tree.paths cut turns number ≡ None → NamesNoneItself q utils
  apart_in tree of none =
      apart_from q tree.paths utils (tree_in tree of).pseudotree
      (none_in number (first_of (scope_difference q tree.paths utils) (variables q)) (told_scopes tree.paths _ _ refl refl ∙ none))
