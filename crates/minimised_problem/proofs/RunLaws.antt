-- The tables that agents have made in a run of DPOP that is whole.
use Rattle.std.proofs.Common.{◌≡◌, ℕ, List, map, Option, Some, sym, ap, ◌∙◌}
use Rattle.std.specs.List.{slice_get}
use Rattle.std.specs.Option.{option_map}
use Rattle.std.proofs.lemmas.Option.{same_Some, slice_get-map}
use Rattle.dcop_base.specs.Table.{CostTable}
use Rattle.dcop_base.specs.Problem.{Dcop}
use Rattle.dcop_optimum.specs.Certificate.{util_of}
use Rattle.protocol_steps.specs.Network.{Network}
use Rattle.protocol_steps.specs.View.{View, table_of}
use Rattle.run_laws.specs.DpopLaws.{separators_of, IsWhole, HoldsOfDpop}
use Rattle.minimised_problem.specs.Utils.{HaveMade}

-- the agents of a whole run have made the tables that are told of them
pub have_made : (p : Dcop) (paths : List (List ℕ)) (end : Network) (tables : List (Option CostTable)) → HoldsOfDpop p paths end → IsWhole p paths end → tables ≡ map table_of end.views → HaveMade p paths tables
have_made p paths end tables holds all told i lt =
    let made = all.tables i lt in
    let agent = holds.agents i lt in
    let same : agent.0 ≡ made.0 = same_Some agent.0 made.0 (sym agent.1 ∙ made.1) in
    let t : CostTable = util_of p (separators_of p paths) all.cells i in (
      t,
      ap (λ (ts : List (Option CostTable)). slice_get ts i) told
          ∙ slice_get-map table_of end.views i
          ∙ ap (λ (o : Option View). option_map table_of o) made.1
          ∙ ap (λ (o : Option CostTable). Some o) made.2,
      agent.2.table t (ap table_of same ∙ made.2),
    )
