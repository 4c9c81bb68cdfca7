use Rattle.std.proofs.Common.{◌≡◌, map, take}
use Rattle.std.specs.List.{filter}
use Rattle.dcop_optimum.specs.Certificate.{is_on_path}
use Rattle.certificate_check.proofs.parts.own_tables.Given as goal

abbrev pub invariant-loop-table : goal.invariant-loop-table
invariant-loop-table l = map (λ t. t.now) l.own.items ≡ filter (is_on_path l.tree.paths l.fn.var) (take l.table-index l.fn.problem.tables)
