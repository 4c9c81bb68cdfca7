-- The outcome of the agents of cells, cell by cell.
use Rattle.std.proofs.Common.{◌≡◌, ℕ, zero, suc, ◌<◌, ◌≤◌, ◌&&◌, Bool, true, false, List, [], ◌∷◌, map, take, length, get_or, slice_get, Option, Some, refl, sym, ap, ◌∙◌, arith}
use Rattle.std.specs.List.{list_all}
use Rattle.std.specs.Option.{option_map}
use Rattle.std.proofs.lemmas.List.{take_all}
use Rattle.std.proofs.lemmas.List.Folds.{list_all-map}
use Rattle.std.specs.declared.dyn_box.DynBox.{DynBox}
use Rattle.std.specs.declared.alloc.Global.{Global}
use Rattle.dcop_base.specs.Table.{CostTable}
use Rattle.pseudotree.specs.declared.agent.Place.{Place}
use Rattle.protocol_steps.specs.declared.standing.Standing.{Standing}
use Rattle.protocol_steps.specs.View.{View, ended_of, value_of, standing_of, table_of, place_of}
use Rattle.worker_laws.specs.Cells.{CellState}
use Rattle.worker_laws.specs.CellRounds.{total}
use Rattle.worker_laws.specs.CellRuns.{all_ended, IsCellOutcome}
use Rattle.agent_cells.specs.declared.cell.Cell.{Cell}
use Rattle.agent_cells.specs.State.{state_of}
use Rattle.agent_workers.specs.Joined.{states_of}

map-map : {A B C : Type 0} (g : B → C) (f : A → B) (xs : List A) → map (λ x. g (f x)) xs ≡ map g (map f xs)
map-map g f [] = refl
map-map {A} {B} {C} g f (x ∷ xs) = ap (λ (ys : List C). g (f x) ∷ ys) (map-map g f xs)

and_false : (b : Bool) → (b && false) ≡ false
and_false true = refl
and_false false = refl

-- a list in which some element does not pass
some_not : {A : Type 0} (test : A → Bool) (xs : List A) (k : ℕ) (d : A) → k < length xs → test (get_or xs k d) ≡ false → list_all test xs ≡ false
some_not test [] k d lt e = absurd (omega (arith, lt))
some_not test (x ∷ xs) zero d lt e = ap (λ (b : Bool). b && list_all test xs) e
some_not test (x ∷ xs) (suc k) d lt e = ap (λ (b : Bool). test x && b) (some_not test xs k d (omega (arith, lt)) e) ∙ and_false (test x)

module _ {X : Type 0} {F : X → Type 0} (M : DynBox X Global F → View) (cells : List (Cell X F)) where
  ended_states : all_ended (states_of M cells) ≡ list_all (λ c. ended_of (state_of M c).view) cells
  ended_states = list_all-map (λ (s : CellState). ended_of s.view) (state_of M) cells

  pub one_has_not : (k : ℕ) (c : Cell X F) (ended : Bool) → k < length cells → c ≡ get_or cells k c → ended ≡ ended_of (state_of M c).view → ended ≡ false → false ≡ all_ended (states_of M cells)
  one_has_not k c ended lt is told e =
      let here : ended_of (state_of M (get_or cells k c)).view ≡ false = ap (λ (x : Cell X F). ended_of (state_of M x).view) (sym is) ∙ sym told ∙ e in
      sym (ended_states ∙ some_not (λ x. ended_of (state_of M x).view) cells k c lt here)

  pub all_have : (k : ℕ) → length cells ≤ k → list_all (λ c. ended_of (state_of M c).view) (take k cells) ≡ true → true ≡ all_ended (states_of M cells)
  all_have k past e = sym (ended_states ∙ sym (ap (λ (xs : List (Cell X F)). list_all (λ c. ended_of (state_of M c).view) xs) (take_all k cells past)) ∙ e)

  pub outcome_told : (values : List ℕ) (tables : List (Option CostTable)) (places : List (Option Place)) (top : Standing) (deliveries : ℕ) (ended : Bool) (c : Cell X F) → 0 < length cells
      → values ≡ map (λ x. value_of (state_of M x).view) cells → tables ≡ map (λ x. table_of (state_of M x).view) cells → places ≡ map (λ x. place_of (state_of M x).view) cells
      → c ≡ get_or cells 0 c → top ≡ standing_of (state_of M c).view → deliveries ≡ total (states_of M cells) → ended ≡ all_ended (states_of M cells)
      → IsCellOutcome (states_of M cells) (record { values = values; tables = tables; places = places; top = top; deliveries = deliveries; ended = ended })
  outcome_told values tables places top deliveries ended c some v t p is s d e = record {
    values = v ∙ map-map (λ (x : CellState). value_of x.view) (state_of M) cells;
    tables = t ∙ map-map (λ (x : CellState). table_of x.view) (state_of M) cells;
    places = p ∙ map-map (λ (x : CellState). place_of x.view) (state_of M) cells;
    top = first cells some is;
    deliveries = d;
    ended = e;
  }
    where
      first : (xs : List (Cell X F)) → 0 < length xs → c ≡ get_or xs 0 c → option_map (λ (x : CellState). standing_of x.view) (slice_get (map (state_of M) xs) 0) ≡ Some top
      first [] lt at = absurd (omega (arith, lt))
      first (x ∷ xs) lt at = ap (λ (y : Standing). Some y) (ap (λ (z : Cell X F). standing_of (state_of M z).view) (sym at) ∙ sym s)
