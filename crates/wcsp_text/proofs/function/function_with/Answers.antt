use Rattle.wcsp_text.proofs.ScopeLaws.{written-some}
use Rattle.wcsp_text.proofs.function.function_with.Goals as goal

pub invariant_of-result-2 : goal.invariant_of-result-2
invariant_of-result-2 c = rw (c.from_vec-2.ensures, c.from_vec-3.ensures) (written-some c.args.sizes.now c.args.scope.items c.args.own c.args.cells.items c.requires.good c.requires.within c.requires.apart c.requires.own c.requires.cells)
