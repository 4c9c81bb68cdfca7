-- A problem with its variables in another order has no fault.
use Rattle.std.proofs.Common.{◌≡◌, ℕ, ◌+◌, ◌<◌, ◌≤◌, false, eqb, ltb, List, [], ◌∷◌, ◌++◌, None, length, get_or, map, refl, sym, ap, subst, ◌∙◌, arith}
use Rattle.std.specs.List.{All, AllZip, slice_index}
use Rattle.std.proofs.lemmas.Bool.{ne_eqb, le-ltb, or_from}
use Rattle.std.proofs.lemmas.List.{append_assoc, get_or-map}
use Rattle.std.proofs.lemmas.List.Elements.{All-head, All-tail, All-nil, All-cons}
use Rattle.std.proofs.lemmas.List.Sums.{sum_by-append, sum_by-cons}
use Rattle.problem_text.proofs.NamesLaws.{length-map}
use Rattle.dcop_base.specs.Table.{CostTable, greatest}
use Rattle.dcop_base.specs.Problem.{Dcop}
use Rattle.dcop_base.specs.Faults.{cell_count, greatest_sum, is_bad_size, next_fault, tables_fault, problem_fault}
use Rattle.dcop_base.specs.Limits.{amount_limit, variable_limit, size_limit, cost_limit, cell_limit}
use Rattle.dcop_base.specs.Whole.{IsTableOf, IsProblem}
use Rattle.std.specs.Prelude.{Err}
use Rattle.std.proofs.lemmas.Option.{none-some}
use Rattle.dcop_base.specs.Made.{MakesProblem}
use Rattle.dcop_base.specs.declared.problem.ProblemFault.{ProblemFault}
use Rattle.dcop_base.specs.declared.problem.ProblemFault.TheVariants.{NoVariables, TooManyVariables, DomainSize, ScopeLength, ScopeRange, ScopeRepeat, CellCount, CostTooLarge, TooManyCells, SumTooLarge, NoMemory}
use Rattle.dcop_base.proofs.FaultLaws.{none-next, position-all}
use Rattle.dcop_base.proofs.TableLaws.{parts-of}
use Rattle.problem_order.specs.Order.{IsOrder}
use Rattle.problem_order.specs.Reordered.{IsTableFor}
use Rattle.problem_order.proofs.ReadLaws.{read_at}
use Rattle.problem_order.proofs.TableLaws.{whole_table, zip_within}

-- tables of a problem within the limits have no fault after the earlier ones
tables_faultless : (sizes : List ℕ) (earlier tables : List CostTable) → All (IsTableOf sizes) tables → cell_count (earlier ++ tables) ≤ cell_limit → greatest_sum (earlier ++ tables) ≤ amount_limit → tables_fault sizes earlier tables ≡ None
tables_faultless sizes earlier [] all cells sum = refl
tables_faultless sizes earlier (t ∷ ts) all cells sum =
    let of = All-head (IsTableOf sizes) t ts all in
    let cell-parts = sum_by-append (λ (t : CostTable). length t.cells) earlier (t ∷ ts) in
    let cell-rest = sum_by-cons (λ (t : CostTable). length t.cells) t ts in
    let sum-parts = sum_by-append (λ (t : CostTable). greatest t.cells) earlier (t ∷ ts) in
    let sum-rest = sum_by-cons (λ (t : CostTable). greatest t.cells) t ts in
    let next : next_fault sizes earlier t ≡ None = none-next sizes earlier t (record {
      some = of.some;
      few = of.few;
      within = of.within;
      apart = (parts-of t.scope t.sizes t.cells of.whole).apart;
      sized = of.sized;
      cheap = of.cheap;
      cells = omega (arith, cells, cell-parts, cell-rest);
      sums = omega (arith, sum, sum-parts, sum-rest);
    }) in
    let rest = tables_faultless sizes (earlier ++ (t ∷ [])) ts (All-tail (IsTableOf sizes) t ts all) (rw append_assoc cells) (rw append_assoc sum) in
    rw (next, rest) refl

-- such a table is one of the problem in that order
table_of : (sizes order : List ℕ) (t u : CostTable) → IsTableOf sizes t → IsTableFor order t u → All (λ v. v < length order) u.scope → IsTableOf (map (λ v. slice_index sizes v) order) u
table_of sizes order t u of is within =
    let count = length-map (λ v. slice_index sizes v) order in
    let long : length u.scope ≡ length t.scope = sym (length-map (slice_index order) u.scope) ∙ ap length is.scope in
    record {
      whole = whole_table t u order of.whole is;
      some = subst (λ (n : ℕ). 1 ≤ n) (sym long) of.some;
      few = let few = of.few in omega (arith, few, long);
      within = λ k d lt. let below = within k d lt in omega (arith, below, count);
      sized = is.sizes ∙ of.sized ∙ ap (map (λ v. slice_index sizes v)) (sym is.scope) ∙ sym (read_at sizes 0 order u.scope within);
      cheap = subst (λ (cs : List ℕ). All (λ c. c ≤ cost_limit) cs) (sym is.cells) of.cheap;
    }

tables_of : (sizes order : List ℕ) (ts us : List CostTable) → All (IsTableOf sizes) ts → AllZip (IsTableFor order) ts us → All (λ u. All (λ v. v < length order) u.scope) us
    → All (IsTableOf (map (λ v. slice_index sizes v) order)) us × (cell_count us ≡ cell_count ts) × (greatest_sum us ≡ greatest_sum ts)
tables_of sizes order [] [] of are within = (All-nil (IsTableOf (map (λ v. slice_index sizes v) order)), refl, refl)
tables_of sizes order [] (u ∷ us) of are within = absurd are
tables_of sizes order (t ∷ ts) [] of are within = absurd are
tables_of sizes order (t ∷ ts) (u ∷ us) of are within =
    let rest = tables_of sizes order ts us (All-tail (IsTableOf sizes) t ts of) are.1 (All-tail (λ (w : CostTable). All (λ v. v < length order) w.scope) u us within) in
    let here = table_of sizes order t u (All-head (IsTableOf sizes) t ts of) are.0 (All-head (λ (w : CostTable). All (λ v. v < length order) w.scope) u us within) in (
      All-cons (IsTableOf (map (λ v. slice_index sizes v) order)) u us here rest.0,
      sum_by-cons (λ (w : CostTable). length w.cells) u us ∙ ap (λ (cs : List ℕ). length cs + cell_count us) are.0.cells
          ∙ ap (λ (n : ℕ). length t.cells + n) rest.1 ∙ sym (sum_by-cons (λ (w : CostTable). length w.cells) t ts),
      sum_by-cons (λ (w : CostTable). greatest w.cells) u us ∙ ap (λ (cs : List ℕ). greatest cs + greatest_sum us) are.0.cells
          ∙ ap (λ (n : ℕ). greatest t.cells + n) rest.2 ∙ sym (sum_by-cons (λ (w : CostTable). greatest w.cells) t ts),
    )

-- the sizes and tables of a problem in another order have no fault
pub reordered_faultless : (p : Dcop) (order : List ℕ) (us : List CostTable) → IsProblem p → IsOrder (length p.sizes) order → AllZip (IsTableFor order) p.tables us
    → All (λ u. All (λ v. v < length order) u.scope) us → problem_fault (map (λ v. slice_index p.sizes v) order) us ≡ None
reordered_faultless p order us h is are within =
    let sizes : List ℕ = map (λ v. slice_index p.sizes v) order in
    let count : length sizes ≡ length p.sizes = length-map (λ v. slice_index p.sizes v) order ∙ is.many in
    let of = tables_of p.sizes order p.tables us h.tables are within in
    let some : eqb (length sizes) 0 ≡ false = ne_eqb (length sizes) 0 (λ e. absurd (omega (arith, e, count, h.some))) in
    let few = le-ltb variable_limit (length sizes) (omega (arith, count, h.few)) in
    let good = position-all is_bad_size sizes (λ k d lt.
    let lo : k < length order = let long = length-map (λ v. slice_index p.sizes v) order in omega (arith, lt, long) in
    let var : get_or order k 0 < length p.sizes = is.within k 0 lo in
    ap is_bad_size (get_or-map (λ v. slice_index p.sizes v) order k 0 d lo)
    ∙ size_none (slice_index p.sizes (get_or order k 0)) (h.sizes (get_or order k 0) 0 var)) in
    let cells : cell_count us ≤ cell_limit = omega (arith, of.1, h.cells) in
    let sums : greatest_sum us ≤ amount_limit = omega (arith, of.2, h.sums) in
    let tables = tables_faultless sizes [] us of.0 cells sums in
    rw (some, few, good, tables) refl
  where
    size_none : (s : ℕ) → (1 ≤ s) × (s ≤ size_limit) → is_bad_size s ≡ false
    size_none s good = or_from (eqb s 0) (ltb size_limit s) (ne_eqb s 0 (λ e. absurd (omega (arith, e, good.0)))) (le-ltb size_limit s good.1)

-- what is read from a problem, in another order, has no fault
pub parts_faultless : (p : Dcop) (order read sizes : List ℕ) (ts us : List CostTable) → IsProblem p → IsOrder (length order) order → length order ≡ length p.sizes → read ≡ p.sizes → ts ≡ p.tables
    → sizes ≡ map (λ v. slice_index read v) order → AllZip (IsTableFor order) ts us → problem_fault sizes us ≡ None
parts_faultless p order read sizes ts us h is many r e s are =
    let zip : AllZip (IsTableFor order) p.tables us = subst (λ (xs : List CostTable). AllZip (IsTableFor order) xs us) e are in
    ap (λ (ss : List ℕ). problem_fault ss us) (s ∙ ap (λ (ss : List ℕ). map (λ v. slice_index ss v) order) r)
    ∙ reordered_faultless p order us h (subst (λ (n : ℕ). IsOrder n order) many is) zip (zip_within order p.tables us zip)

-- if sizes and tables have no fault, only memory can run out
pub only_memory_left : (sizes : List ℕ) (tables : List CostTable) (fault : ProblemFault) → MakesProblem sizes tables (Err fault) → problem_fault sizes tables ≡ None → fault ≡ NoMemory
only_memory_left sizes tables NoVariables made none = absurd (none-some NoVariables (sym none ∙ made))
only_memory_left sizes tables TooManyVariables made none = absurd (none-some TooManyVariables (sym none ∙ made))
only_memory_left sizes tables (DomainSize var) made none = absurd (none-some (DomainSize var) (sym none ∙ made))
only_memory_left sizes tables (ScopeLength table) made none = absurd (none-some (ScopeLength table) (sym none ∙ made))
only_memory_left sizes tables (ScopeRange table) made none = absurd (none-some (ScopeRange table) (sym none ∙ made))
only_memory_left sizes tables (ScopeRepeat table) made none = absurd (none-some (ScopeRepeat table) (sym none ∙ made))
only_memory_left sizes tables (CellCount table) made none = absurd (none-some (CellCount table) (sym none ∙ made))
only_memory_left sizes tables (CostTooLarge table cell) made none = absurd (none-some (CostTooLarge table cell) (sym none ∙ made))
only_memory_left sizes tables (TooManyCells table) made none = absurd (none-some (TooManyCells table) (sym none ∙ made))
only_memory_left sizes tables (SumTooLarge table) made none = absurd (none-some (SumTooLarge table) (sym none ∙ made))
only_memory_left sizes tables NoMemory made none = refl
