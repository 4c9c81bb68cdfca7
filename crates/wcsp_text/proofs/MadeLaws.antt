-- The problem of a network, as it is made of capped tables.
use Rattle.std.proofs.Common.{◌≡◌, ℕ, Bool, true, false, cond, List, [], ◌∷◌, map, min, nat_le, Some, None, get_or, refl, sym, ap, ap₂, ◌∙◌, arith}
use Rattle.dcop_base.specs.Table.{CostTable}
use Rattle.dcop_base.specs.Problem.{Dcop}
use Rattle.dcop_base.specs.Faults.{problem_fault}
use Rattle.dcop_base.specs.Made.{MakesProblem}
use Rattle.dcop_base.specs.declared.problem.ProblemFault.{ProblemFault}
use Rattle.dcop_base.specs.declared.problem.ProblemFault.TheVariants as problems
use Rattle.problem_text.specs.declared.line_end.LineEnd.{LineEnd}
use Rattle.problem_text.specs.declared.line_end.LineEnd.TheVariants as ends
use Rattle.std.specs.Prelude.{Ok, Err}
use Rattle.wcsp_text.specs.declared.fault.Fault.{Fault}
use Rattle.wcsp_text.specs.declared.fault.WcspKind.TheVariants.{Problem}
use Rattle.wcsp_text.specs.Functions.{Function}
use Rattle.wcsp_text.specs.Networks.{Network}
use Rattle.wcsp_text.specs.Problems.{hard, raised, raised_table, tables, number_of_fault, table_of_fault}
use Rattle.wcsp_text.specs.Made.{capped_table, IsTold, MakesProblemOf}
use Rattle.wcsp_text.proofs.ProblemLaws.{cut, cut_table, problem-cut, problem-kept}

capped-step : (b : Bool) (most greatest c : ℕ) → most ≡ min greatest 18446744073709551615 → min (cond b most c) 4611686018427387904 ≡ min (cond b greatest c) 4611686018427387904
capped-step true most greatest c e = omega (arith, e)
capped-step false most greatest c e = refl

capped-cells : (top most greatest : ℕ) (cells : List ℕ) → most ≡ min greatest 18446744073709551615 → map (λ c. min (raised top most c) 4611686018427387904) cells ≡ map cut (map (λ c. raised top greatest c) cells)
capped-cells top most greatest [] e = refl
capped-cells top most greatest (c ∷ cs) e = ap₂ (λ (x : ℕ) (xs : List ℕ). x ∷ xs) (capped-step (nat_le top c) most greatest c e) (capped-cells top most greatest cs e)

capped-table : (top most greatest : ℕ) (t : CostTable) → most ≡ min greatest 18446744073709551615 → capped_table top most t ≡ cut_table (raised_table top greatest t)
capped-table top most greatest t e = ap (λ (cells : List ℕ). record { scope = t.scope; sizes = t.sizes; cells = cells }) (capped-cells top most greatest t.cells e)

capped-tables : (top most greatest : ℕ) (fs : List Function) → most ≡ min greatest 18446744073709551615 → map (λ f. capped_table top most f.table) fs ≡ map cut_table (map (λ f. raised_table top greatest f.table) fs)
capped-tables top most greatest [] e = refl
capped-tables top most greatest (f ∷ fs) e = ap₂ (λ (t : CostTable) (ts : List CostTable). t ∷ ts) (capped-table top most greatest f.table e) (capped-tables top most greatest fs e)

-- capped tables have the fault of the network's
pub same-fault : (w : Network) (most : ℕ) (ts : List CostTable) → most ≡ min (hard w) 18446744073709551615 → ts ≡ map (λ f. capped_table w.top most f.table) w.functions → problem_fault w.sizes ts ≡ problem_fault w.sizes (tables w)
same-fault w most ts e is = ap (λ (ts : List CostTable). problem_fault w.sizes ts) (is ∙ capped-tables w.top most (hard w) w.functions e) ∙ problem-cut w.sizes (tables w)

-- where there is none they are the network's
pub same-tables : (w : Network) (most : ℕ) (ts : List CostTable) → most ≡ min (hard w) 18446744073709551615 → ts ≡ map (λ f. capped_table w.top most f.table) w.functions → problem_fault w.sizes ts ≡ None → ts ≡ tables w
same-tables w most ts e is none =
    let faultless : problem_fault w.sizes (tables w) ≡ None = sym (same-fault w most ts e is) ∙ none in
    is ∙ (capped-tables w.top most (hard w) w.functions e ∙ problem-kept w.sizes (tables w) faultless)

-- the problem is the network's
pub made-ok : (w : Network) (most : ℕ) (ts : List CostTable) (p : Dcop) → most ≡ min (hard w) 18446744073709551615 → ts ≡ map (λ f. capped_table w.top most f.table) w.functions → MakesProblem w.sizes ts (Ok p) → MakesProblemOf w (Ok p)
made-ok w most ts p e is made = (sym (same-fault w most ts e is) ∙ made.faultless, made.same_sizes, made.same_tables ∙ same-tables w most ts e is made.faultless)

made-none : (w : Network) (end : LineEnd Fault) → end ≡ ends.NoMemory → MakesProblemOf w (Err end)
made-none w (ends.Fault f) e = absurd (cc)
made-none w ends.NoMemory e = tt

fault-told : (w : Network) (fault : ProblemFault) (ts : List CostTable) (afters : List ℕ) (end : LineEnd Fault) → problem_fault w.sizes ts ≡ problem_fault w.sizes (tables w) → problem_fault w.sizes ts ≡ Some fault → end ≡ ends.Fault (record { after = get_or afters (table_of_fault fault) 0; kind = Problem (number_of_fault fault) }) → afters ≡ map (λ f. f.after) w.functions → MakesProblemOf w (Err end)
fault-told w fault ts afters ends.NoMemory same is told at = absurd (cc)
fault-told w fault ts afters (ends.Fault f) same is told at =
    let here : f ≡ record { after = get_or afters (table_of_fault fault) 0; kind = Problem (number_of_fault fault) } = cc in
    (fault, sym same ∙ is, rw (← at) here)

-- a problem's fault is told
pub made-told : (w : Network) (fault : ProblemFault) (ts : List CostTable) (afters : List ℕ) (end : LineEnd Fault) → problem_fault w.sizes ts ≡ problem_fault w.sizes (tables w) → MakesProblem w.sizes ts (Err fault) → IsTold fault afters end → afters ≡ map (λ f. f.after) w.functions → MakesProblemOf w (Err end)
made-told w problems.NoMemory ts afters end same made told at = made-none w end told
made-told w problems.NoVariables ts afters end same made told at = fault-told w problems.NoVariables ts afters end same made told at
made-told w problems.TooManyVariables ts afters end same made told at = fault-told w problems.TooManyVariables ts afters end same made told at
made-told w (problems.DomainSize var) ts afters end same made told at = fault-told w (problems.DomainSize var) ts afters end same made told at
made-told w (problems.ScopeLength table) ts afters end same made told at = fault-told w (problems.ScopeLength table) ts afters end same made told at
made-told w (problems.ScopeRange table) ts afters end same made told at = fault-told w (problems.ScopeRange table) ts afters end same made told at
made-told w (problems.ScopeRepeat table) ts afters end same made told at = fault-told w (problems.ScopeRepeat table) ts afters end same made told at
made-told w (problems.CellCount table) ts afters end same made told at = fault-told w (problems.CellCount table) ts afters end same made told at
made-told w (problems.CostTooLarge table cell) ts afters end same made told at = fault-told w (problems.CostTooLarge table cell) ts afters end same made told at
made-told w (problems.SumTooLarge table) ts afters end same made told at = fault-told w (problems.SumTooLarge table) ts afters end same made told at
made-told w (problems.TooManyCells table) ts afters end same made told at = fault-told w (problems.TooManyCells table) ts afters end same made told at
