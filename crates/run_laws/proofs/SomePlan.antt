-- The tables are made from the leaves up, and the values are chosen from the root down.
use Rattle.std.proofs.Common.{◌≡◌, ℕ, zero, suc, ◌+◌, ◌-◌, ◌<◌, ◌≤◌, false, cond, eqb, List, [], length, Option, Some, None, refl, sym, ap, ◌∙◌, arith}
use Rattle.std.proofs.lemmas.Bool.{cond-true, cond-false, eq-eqb, ne_eqb}
use Rattle.dcop_base.specs.Table.{CostTable}
use Rattle.dcop_base.specs.Problem.{Dcop}
use Rattle.dcop_base.specs.Whole.{IsProblem}
use Rattle.pseudotree.specs.Tree.{path_of, children_of}
use Rattle.pseudotree.specs.Pseudotree.{IsPseudotree}
use Rattle.pseudotree.proofs.TreeLaws.{longer}
use Rattle.pseudotree.proofs.CheckLaws.{within_tree}
use Rattle.pseudotree.proofs.NestLaws.{above_shorter}
use Rattle.protocol_steps.specs.Dpop.{util_table, best_value}
use Rattle.dcop_optimum.proofs.LineLaws.{path_short}
use Rattle.dcop_optimum.proofs.JoinLaws.{separator_above}
use Rattle.run_laws.proofs.ListLaws.{map_alike}
use Rattle.run_laws.proofs.Plan.{view_with, full, Plan}
use Rattle.run_laws.proofs.FullLaws.{child_is, best_reads}

-- the table of a variable, made over so many levels below it
abbrev table_by : Dcop → List (List ℕ) → ℕ → ℕ → CostTable
table_by p paths zero i = record { scope = []; sizes = []; cells = [] }
table_by p paths (suc k) i = util_table (full p paths (table_by p paths k) i)

-- the values of the variables above this depth
abbrev value_by_depth : Dcop → List (List ℕ) → (ℕ → CostTable) → ℕ → ℕ → ℕ
value_by_depth p paths table zero u = 0
value_by_depth p paths table (suc k) u =
    cond (eqb (length (path_of paths u)) k) (best_value (full p paths table u) (value_by_depth p paths table k)) (value_by_depth p paths table k u)

module _ (p : Dcop) (paths : List (List ℕ)) (problem : IsProblem p) (pseudo : IsPseudotree p paths) where
  -- enough levels make the same table
  table_same : (k m i : ℕ) → i < length paths → length paths ≤ k + length (path_of paths i) → length paths ≤ m + length (path_of paths i) → table_by p paths k i ≡ table_by p paths m i
  table_same zero m i lt low low' = let short = path_short paths pseudo.tree i lt in absurd (omega (arith, low, short))
  table_same (suc k) zero i lt low low' = let short = path_short paths pseudo.tree i lt in absurd (omega (arith, low', short))
  table_same (suc k) (suc m) i lt low low' =
      ap (λ (kept : List (Option CostTable)). util_table (view_with p paths i false kept None 0))
      (map_alike (λ c. Some (table_by p paths k c)) (λ c. Some (table_by p paths m c)) (children_of paths i) (λ c h.
      let parent = child_is paths i c h in
      let deep = longer paths pseudo.tree c i parent in
      ap (λ (t : CostTable). Some t) (table_same k m c (within_tree paths c i parent) (omega (arith, low, deep)) (omega (arith, low', deep)))))

  abbrev made : ℕ → CostTable
  made = table_by p paths (length paths)

  made_is : (i : ℕ) → i < length paths → made i ≡ util_table (full p paths made i)
  made_is i lt = table_same (length paths) (suc (length paths)) i lt (omega arith) (omega arith)

  abbrev depth : ℕ → ℕ
  depth u = length (path_of paths u)

  abbrev upto : ℕ → ℕ → ℕ
  upto k u = value_by_depth p paths made k u

  stays : (k m u : ℕ) → m ≡ k + suc (depth u) → upto m u ≡ upto (suc (depth u)) u
  stays zero m u e = let at : m ≡ suc (depth u) = omega (arith, e) in ap (λ (j : ℕ). upto j u) at
  stays (suc k) m u e =
      let at : m ≡ suc (k + suc (depth u)) = omega (arith, e) in
      ap (λ (j : ℕ). upto j u) at
      ∙ cond-false (eqb (depth u) (k + suc (depth u))) (best_value (full p paths made u) (value_by_depth p paths made (k + suc (depth u)))) (upto (k + suc (depth u)) u)
      (ne_eqb (depth u) (k + suc (depth u)) (λ (same : depth u ≡ k + suc (depth u)). absurd (omega (arith, same))))
      ∙ stays k (k + suc (depth u)) u refl

  -- deeper down, the value of a variable stays
  upto_from : (m u : ℕ) → depth u < m → upto m u ≡ upto (suc (depth u)) u
  upto_from m u lt = stays (m - suc (depth u)) m u (omega (arith, lt))

  abbrev chosen : ℕ → ℕ
  chosen = value_by_depth p paths made (length paths)

  chosen_is : (i : ℕ) → i < length paths → chosen i ≡ best_value (full p paths made i) chosen
  chosen_is i lt =
      upto_from (length paths) i (path_short paths pseudo.tree i lt)
      ∙ cond-true (eqb (depth i) (depth i)) (best_value (full p paths made i) (value_by_depth p paths made (depth i))) (upto (depth i) i) (eq-eqb (depth i) (depth i) refl)
      ∙ best_reads p paths problem pseudo made made_is i (value_by_depth p paths made (depth i)) chosen (λ u h.
      let short = above_shorter paths pseudo.tree u i (separator_above p paths problem pseudo i u h) in
      let short' = path_short paths pseudo.tree i lt in
      upto_from (depth i) u short ∙ sym (upto_from (length paths) u (omega (arith, short, short'))))

  pub some_plan : Plan p paths
  some_plan = record { table = made; value = chosen; table_is = made_is; value_is = chosen_is }
