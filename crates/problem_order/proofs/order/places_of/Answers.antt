use Rattle.std.proofs.Common.{List, ℕ, sym, subst, arith}
use Rattle.problem_order.specs.Order.{ArePlaces}
use Rattle.problem_order.proofs.OrderLaws.{places_are}
use Rattle.problem_order.proofs.order.places_of.Goals as goal

pub returns-clause-placed : goal.returns-clause-placed
returns-clause-placed c = λ is.
    subst (λ (ps : List ℕ). ArePlaces c.args.vars.now ps) (sym c.from_vec.ensures)
    (places_are c.args.vars.now c.loop-index.places.items c.loop-index.invariant.0 (λ k lt. let done = c.loop-index-test.false in c.loop-index.invariant.1 is k (omega (arith, lt, done))) is)
