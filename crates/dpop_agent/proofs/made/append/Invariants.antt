use Rattle.std.proofs.Common.{◌≡◌, ◌++◌, take}
use Rattle.dpop_agent.proofs.made.append.Given as goal

abbrev pub invariant-loop-var : goal.invariant-loop-var
invariant-loop-var l = l.vars ≡ l.fn.vars ++ take l.var-index l.more
