-- The law on runs of DPOP agents.
use Rattle.std.specs.Prelude.{◌≡◌, ℕ, ◌+◌, ◌-◌, ◌*◌, ◌<◌, ◌≤◌, true, false, List, map, length, Some, slice_get}
use Rattle.std.specs.List.{All, range_with_len}
use Rattle.dcop_base.specs.Problem.{Dcop}
use Rattle.dcop_base.specs.Whole.{IsProblem}
use Rattle.pseudotree.specs.Pseudotree.{IsPseudotree, IsLinked, separator_of}
use Rattle.pseudotree.specs.Width.{IsNarrow}
use Rattle.pseudotree.specs.Fault.{parents_of}
use Rattle.protocol_steps.specs.declared.event.Event.{Event}
use Rattle.protocol_steps.specs.Dpop.{DpopView}
use Rattle.protocol_steps.specs.View.{View, DpopKind, value_of, table_of}
use Rattle.protocol_steps.specs.Network.{Network, link}
use Rattle.protocol_steps.specs.Effect.{SomePending, has_ended, deliveries}
use Rattle.dcop_optimum.specs.TreeOptimum.{IsFirstOptimumOf}
use Rattle.dcop_optimum.specs.Certificate.{util_of, IsTableCertificate}
use Rattle.run_laws.specs.DpopRun.{IsDpopRun, utils, values}
use Rattle.run_laws.specs.DpopAgents.{IsSent, AreAgents, AreUncut}

-- the separators of all variables
abbrev pub separators_of : Dcop → List (List ℕ) → List (List ℕ)
separators_of p paths = map (separator_of p paths) (range_with_len 0 (length paths))

-- each agent has made its table: the one with these cells over its separator
abbrev pub MadeTables : Dcop → List (List ℕ) → List (List ℕ) → List View → Type 0
MadeTables p paths cells views = (i : ℕ) → i < length p.sizes → (v : View) × (slice_get views i ≡ Some v) × (table_of v ≡ Some (util_of p (separators_of p paths) cells i))

-- a run of DPOP in which all agents have ended: one UTIL and one VALUE for each variable but the root were delivered, the values are the first optimum of the tree, and the tables with these values are a certificate that holds
pub record IsWhole (p : Dcop) (paths : List (List ℕ)) (end : Network) : Type 0 where
  pub all_utils : utils end ≡ length p.sizes - 1
  pub all_values : values end ≡ length p.sizes - 1
  pub first : IsFirstOptimumOf p paths (map value_of end.views)
  pub cells : List (List ℕ)
  pub tables : MadeTables p paths cells end.views
  pub certificate : IsTableCertificate p (parents_of paths) (separators_of p paths) cells (map value_of end.views)

-- the end of a run of DPOP, whether or not all agents have ended: the number of UTIL messages that
-- were delivered is at most the number of variables other than the root, and so is the number of
-- VALUE messages; nothing else was delivered; there is an agent for each variable, `AreAgents`
-- holds of the agents, and `IsSent` of all that they have sent; a message is pending until all
-- agents have ended, and then `IsWhole` holds
pub record HoldsOfDpop (p : Dcop) (paths : List (List ℕ)) (end : Network) : Type 0 where
  pub few_utils : utils end ≤ length p.sizes - 1
  pub few_values : values end ≤ length p.sizes - 1
  pub nothing_else : deliveries end ≡ utils end + values end
  pub sent : (i j : ℕ) → i < length p.sizes → All (IsSent p paths i) (link end.desks i j)
  pub sized : length end.views ≡ length p.sizes
  pub agents : AreAgents p paths end.views
  pub uncut : (i : ℕ) → i < length p.sizes → (v : DpopView) × (slice_get end.views i ≡ Some (DpopKind v)) × AreUncut p paths i v
  pub pending : has_ended end ≡ false → SomePending end
  pub early : has_ended end ≡ false → deliveries end < 2 * (length p.sizes - 1)
  pub whole : has_ended end ≡ true → IsWhole p paths end

-- in every run of DPOP on a narrow and linked pseudotree at most one UTIL and one VALUE for each variable but the root are delivered, and nothing else; no joined cell is cut off at the cap; a message is pending until all agents have ended; and then their values are the first optimum of the tree
pub record DpopRuns : Type 0 where
  pub runs : (p : Dcop) (paths : List (List ℕ)) → IsProblem p → IsPseudotree p paths → IsLinked p paths → IsNarrow p paths
      → (es : List Event) (end : Network) → IsDpopRun p paths es end → HoldsOfDpop p paths end
