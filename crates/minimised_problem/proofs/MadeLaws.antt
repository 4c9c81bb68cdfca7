-- The tables that agents have made are those of their variables.
use Rattle.std.proofs.Common.{◌≡◌, ℕ, ◌<◌, List, [], ◌∷◌, length, map, get_or, Option, Ok, Err, Result, IfOk, refl, sym, ap, subst, ◌∙◌, All}
use Rattle.std.specs.List.{AllZip, slice_get}
use Rattle.std.proofs.lemmas.List.Elements.{All-head, All-tail}
use Rattle.dcop_base.specs.Table.{CostTable}
use Rattle.dcop_base.specs.Problem.{Dcop}
use Rattle.dcop_base.specs.declared.memory.NoMemory.{NoMemory}
use Rattle.pseudotree.specs.Preorder.{preorder_of}
use Rattle.pseudotree.specs.Place.{sizes_of}
use Rattle.pseudotree.specs.Pseudotree.{RootedTree, IsPseudotreeOf, separator_at, separator_of}
use Rattle.pseudotree.proofs.PlaceLaws.{separator_is}
use Rattle.dcop_optimum.proofs.PreorderLaws.{preorder_below}
use Rattle.run_laws.specs.DpopAgents.{IsOptimumTable}
use Rattle.certificate_text.specs.declared.certificate.Util.{Util}
use Rattle.minimised_problem.specs.Utils.{IsUtilOf, AreUtilsOf, HaveMade, cells_on, util_with, utils_with}

-- a variable in preorder is one of the tree
pub preorder_item : (paths : List (List ℕ)) (xs : List ℕ) (k v : ℕ) → xs ≡ preorder_of paths → k < length xs → v ≡ get_or xs k v → v < length paths
preorder_item paths xs k v e lt is =
    subst (λ (x : ℕ). x < length paths) (sym (is ∙ ap (λ (ys : List ℕ). get_or ys k v) e))
    (preorder_below paths k v (subst (λ (ys : List ℕ). k < length ys) e lt))

-- a table with these parts
table_with : List ℕ → List ℕ → List ℕ → CostTable
table_with scope sizes cells = record { scope = scope; sizes = sizes; cells = cells }

same_with : (a b s t x y : List ℕ) → a ≡ b → s ≡ t → x ≡ y → table_with a s x ≡ table_with b t y
same_with a b s t x y ea es ex = cc

-- a table is the one with its parts
table_is : (t : CostTable) (scope sizes cells : List ℕ) → t.scope ≡ scope → t.sizes ≡ sizes → t.cells ≡ cells → t ≡ record { scope = scope; sizes = sizes; cells = cells }
unfolding table_with
table_is t scope sizes cells = same_with t.scope scope t.sizes sizes t.cells cells

module _ (p : Dcop) (paths : List (List ℕ)) (tables : List (Option CostTable)) (made : HaveMade p paths tables) (separator : ℕ → List ℕ)
    (same : (v : ℕ) → v < length p.sizes → separator v ≡ separator_of p paths v) where
  util_made : (v : ℕ) → v < length p.sizes → IsUtilOf p paths v (util_with separator paths tables v)
  util_made v lt =
      let own = made v lt in
      let scope : List ℕ = separator v in
      let cells : List ℕ = cells_on (slice_get tables v) in
      let scope_is : own.0.scope ≡ scope = own.2.scope ∙ sym (same v lt) in record {
        var = refl;
        parent = refl;
        table =
            subst (IsOptimumTable p paths v)
            (table_is own.0 scope (sizes_of p scope) cells scope_is (own.2.sizes ∙ ap (sizes_of p) scope_is) (sym (ap cells_on own.1))) own.2;
      }

  -- the tables of these variables, where the separators given are theirs
  pub utils_made : (vs : List ℕ) → All (λ v. v < length p.sizes) vs → AllZip (IsUtilOf p paths) vs (map (util_with separator paths tables) vs)
  utils_made [] below = tt
  utils_made (v ∷ vs) below = (util_made v (All-head (λ w. w < length p.sizes) v vs below), utils_made vs (All-tail (λ w. w < length p.sizes) v vs below))

-- those of all variables, with the separators that a tree keeps
pub tables_made : (p : Dcop) (tree : RootedTree) (tables : List (Option CostTable)) → IsPseudotreeOf p tree → HaveMade p tree.paths tables → AreUtilsOf p tree.paths (utils_with (separator_at tree) tree.paths tables)
tables_made p tree tables is made =
    let count = is.pseudotree.sized in
    utils_made p tree.paths tables made (separator_at tree) (λ v lt. separator_is p tree is v (subst (λ (n : ℕ). v < n) (sym count) lt))
    (preorder_of tree.paths) (subst (λ (n : ℕ). All (λ v. v < n) (preorder_of tree.paths)) count (preorder_below tree.paths))

pub are_utils : (p : Dcop) (tree : RootedTree) (tables : List (Option CostTable)) → IsPseudotreeOf p tree → HaveMade p tree.paths tables → (result : Result (List Util) NoMemory)
    → IfOk result (λ utils. utils ≡ utils_with (separator_at tree) tree.paths tables) → IfOk result (AreUtilsOf p tree.paths)
are_utils p tree tables is made (Ok utils) same = subst (AreUtilsOf p tree.paths) (sym same) (tables_made p tree tables is made)
are_utils p tree tables is made (Err none) same = tt
