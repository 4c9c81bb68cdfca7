use Rattle.std.proofs.Common.{◌≡◌, drop}
use Rattle.std.specs.List.{list_all}
use Rattle.pseudotree.specs.Pseudotree.{is_within}
use Rattle.certificate_check.proofs.parts.are_all_over.Given as goal

abbrev pub invariant-loop-named : goal.invariant-loop-named
invariant-loop-named l = list_all (λ v. is_within l.tree.paths v l.fn.var) (drop l.named-index l.scope) ≡ list_all (λ v. is_within l.tree.paths v l.fn.var) l.scope
