-- What the DPOP agents of a problem have agreed on, and the tables that they made.
use Rattle.std.specs.Prelude.{◌≡◌, List, map, Option, slice_get}
use Rattle.dcop_base.specs.Table.{CostTable}
use Rattle.dcop_base.specs.Problem.{Dcop}
use Rattle.pseudotree.specs.DepthFirst.{dfs}
use Rattle.protocol_steps.specs.declared.outcome.Outcome.{Outcome}
use Rattle.certificate_text.specs.declared.certificate.Certificate.{Certificate}
use Rattle.certificate_text.specs.declared.certificate.Certificate.TheVariants.{Tables}
use Rattle.certificate_text.specs.declared.certificate.Util.{Util}
use Rattle.minimised_problem.specs.Utils.{HaveMade, cells_on}
use Rattle.solve_report.specs.declared.tree.NodeRow.{NodeRow}
use Rattle.solve_methods.specs.Dpop.{dpop_deliveries, IsFirstOfTree}

-- the agents of a problem have the values of the first optimum of its depth-first tree, they have
-- made their tables, and they took as many messages as DPOP takes
pub record HaveValues (p : Dcop) (outcome : Outcome) : Type 0 where
  pub first : IsFirstOfTree p outcome.values
  pub deliveries : outcome.deliveries ≡ dpop_deliveries p
  pub tables : HaveMade p (dfs p) outcome.tables

-- the table of the agent of a node, in the form of a certificate
abbrev pub node_util : List (Option CostTable) → NodeRow → Util
node_util tables node = record { var = node.var; parent = node.parent; scope = node.separator; cells = cells_on (slice_get tables node.var) }

-- the certificate of the tables of these nodes
abbrev pub certificate_with : List (Option CostTable) → List NodeRow → Certificate
certificate_with tables nodes = Tables (map (node_util tables) nodes)
