use Rattle.std.proofs.Common.{◌≡◌}
use Rattle.instance_make.specs.Stream.{state_after}
use Rattle.instance_make.specs.Generator.{drawn_cells}
use Rattle.instance_make.proofs.draw.draw_cells.Given as goal

abbrev pub invariant-loop : goal.invariant-loop
invariant-loop l = (l.cells.items ≡ drawn_cells l.top l.fn.words l.counter) × (l.words ≡ state_after l.fn.words l.counter)
