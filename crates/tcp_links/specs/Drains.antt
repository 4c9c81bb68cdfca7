-- Draining a link between nodes.
use Rattle.std.specs.Prelude.{◌≡◌, ℕ, List, ◌++◌}
use Rattle.protocol_steps.specs.declared.message.Message.{Message}
use Rattle.fifo_links.specs.declared.ends.LinkHead.{LinkHead}
use Rattle.fifo_links.specs.Link.{taken_from}

-- messages were taken from a link and added to a list, in the same order
pub record HasDrained (before : LinkHead (ℕ × Message)) (old : List (ℕ × Message)) (after : LinkHead (ℕ × Message)) (new : List (ℕ × Message)) : Type 0 where
  pub more : List (ℕ × Message)
  pub taken : taken_from after ≡ taken_from before ++ more
  pub added : new ≡ old ++ more
