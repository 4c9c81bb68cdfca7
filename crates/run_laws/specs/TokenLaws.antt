-- The law on runs of token agents.
use Rattle.std.specs.Prelude.{◌≡◌, ◌+◌, ◌-◌, ◌*◌, ◌<◌, ◌≤◌, true, false, List, length}
use Rattle.dcop_base.specs.Problem.{Dcop}
use Rattle.dcop_base.specs.Whole.{IsProblem}
use Rattle.pseudotree.specs.DepthFirst.{dfs}
use Rattle.pseudotree.specs.Pseudotree.{IsPseudotree, IsLinked}
use Rattle.protocol_steps.specs.declared.event.Event.{Event}
use Rattle.protocol_steps.specs.Network.{Network}
use Rattle.protocol_steps.specs.Effect.{SomePending, has_ended, deliveries}
use Rattle.run_laws.specs.TokenRun.{IsTokenRun, tokens, dones}
use Rattle.run_laws.specs.TokenAgents.{AreAgents, FoundPlaces}

-- a run of tokens in which all agents have ended: one TOKEN and one DONE for each variable but the root were delivered, and the agents found the depth-first tree
pub record IsWhole (p : Dcop) (end : Network) : Type 0 where
  pub all_tokens : tokens end ≡ length p.sizes - 1
  pub all_dones : dones end ≡ length p.sizes - 1
  pub places : FoundPlaces p end.views

-- the end of a run of tokens, whether or not all agents have ended: the number of TOKEN messages
-- that were delivered is at most the number of variables other than the root, and so is the number
-- of DONE messages; nothing else was delivered; there is an agent for each variable, and
-- `AreAgents` holds of the agents; a message is pending until all agents have ended, and then
-- `IsWhole` holds
pub record HoldsOfTokens (p : Dcop) (end : Network) : Type 0 where
  pub few_tokens : tokens end ≤ length p.sizes - 1
  pub few_dones : dones end ≤ length p.sizes - 1
  pub nothing_else : deliveries end ≡ tokens end + dones end
  pub sized : length end.views ≡ length p.sizes
  pub agents : AreAgents p end.views
  pub pending : has_ended end ≡ false → SomePending end
  pub early : has_ended end ≡ false → deliveries end < 2 * (length p.sizes - 1)
  pub whole : has_ended end ≡ true → IsWhole p end

-- in every run of tokens at most one TOKEN and one DONE for each variable but the root are delivered, and nothing else; a message is pending until all agents have ended; and then they have found the depth-first tree, which is a linked pseudotree
pub record TokenRuns : Type 0 where
  pub runs : (p : Dcop) → IsProblem p → (es : List Event) (end : Network) → IsTokenRun p es end → HoldsOfTokens p end
  pub pseudotree : (p : Dcop) → IsProblem p → IsPseudotree p (dfs p)
  pub linked : (p : Dcop) → IsProblem p → IsLinked p (dfs p)
