-- Laws of the tables that name a variable.
use Rattle.std.proofs.Common.{◌≡◌, ℕ, ◌<◌, List, [], length, get_or, ap, ◌∙◌}
use Rattle.std.specs.List.{All}
use Rattle.std.proofs.lemmas.List.{get_or_read}
use Rattle.dcop_base.specs.Table.{CostTable}
use Rattle.cost_table.specs.Cells.{place_in}
use Rattle.shared_costs.specs.Tables.{IsTableOver}
use Rattle.shared_costs.specs.Rows.{table_at, AreNaming}
use Rattle.shared_costs.proofs.MoveLaws.{named}

-- a table that was read at one of the places
pub item-at : (ts : List CostTable) (places : List ℕ) (j : ℕ) (t : CostTable) (var : ℕ) → AreNaming ts var places → j < length places → t ≡ get_or ts (get_or places j 0) t → t ≡ table_at ts (get_or places j 0)
item-at ts places j t var naming lt is = get_or_read ts (get_or places j 0) t (naming.inside j 0 lt) is (record { scope = []; sizes = []; cells = [] })

pub item-size : (sizes : List ℕ) (ts : List CostTable) (places : List ℕ) (j var : ℕ) (t : CostTable) → All (IsTableOver sizes) ts → AreNaming ts var places → j < length places → t ≡ table_at ts (get_or places j 0) → get_or t.sizes (place_in t.scope var) 0 ≡ get_or sizes var 0
item-size sizes ts places j var t each naming lt same =
    let p = get_or places j 0 in
    let over : IsTableOver sizes (table_at ts p) = each p (record { scope = []; sizes = []; cells = [] }) (naming.inside j 0 lt) in
    ap (λ (t : CostTable). get_or t.sizes (place_in t.scope var) 0) same ∙ (named sizes (table_at ts p) (λ v. 0) var over (naming.names j 0 lt)).sized
