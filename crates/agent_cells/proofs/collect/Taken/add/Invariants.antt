use Rattle.std.proofs.Common.{◌≡◌, ◌≤◌, ◌++◌, map}
use Rattle.dcop_base.specs.Limits.{amount_limit}
use Rattle.protocol_steps.specs.Deeds.{greatest_from}
use Rattle.agent_cells.proofs.collect.Taken.add.Given as goal

abbrev pub invariant-loop-sealed : goal.invariant-loop-sealed
invariant-loop-sealed l = record {
  letters : l.self.letters.items ≡ l.initial.self.letters.items ++ map (λ e. (l.from, e.1)) l.yielded;
  takes : l.self.takes.items ≡ l.initial.self.takes.items;
  greatest : l.self.greatest ≡ greatest_from l.initial.self.greatest l.yielded;
  bounded : l.initial.self.greatest ≤ amount_limit → l.self.greatest ≤ amount_limit;
}
