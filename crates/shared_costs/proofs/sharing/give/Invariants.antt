use Rattle.std.proofs.Common.{◌≡◌, length}
use Rattle.shared_costs.proofs.GiveLaws.{IsGivenTo}
use Rattle.shared_costs.proofs.sharing.give.Given as goal

abbrev pub invariant-loop-j : goal.invariant-loop-j
invariant-loop-j l = record {
  given : IsGivenTo l.sizes l.var l.places l.rows l.fn.tables l.tables l.pot l.j;
  many : length l.parts ≡ l.size;
}
