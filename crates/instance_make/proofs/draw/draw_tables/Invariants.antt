use Rattle.std.proofs.Common.{◌-◌, ◌++◌, replicate}
use Rattle.instance_make.specs.Generator.{draws_behind}
use Rattle.instance_make.proofs.DrawnLaws.{IsDrawn}
use Rattle.instance_make.proofs.draw.draw_tables.Given as goal

abbrev pub invariant-loop : goal.invariant-loop
invariant-loop l = IsDrawn l.size l.top l.fn.words (draws_behind l.degree (l.var - 1) ++ replicate l.counter l.var) l.tables.items l.words

abbrev pub invariant-loop-var : goal.invariant-loop-var
invariant-loop-var l = IsDrawn l.size l.top l.fn.words (draws_behind l.degree (l.var - 1)) l.tables.items l.words
