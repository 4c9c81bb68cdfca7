use Rattle.std.proofs.Common.{◌≡◌, ℕ, List, ap, ◌∙◌}
use Rattle.wcsp_text.specs.Functions.{own_sizes}
use Rattle.wcsp_text.proofs.ScopeLaws.{own-positive}
use Rattle.wcsp_text.proofs.function.over_scope_of.Goals as goal

pub cells_of-requires-clause-some : goal.cells_of-requires-clause-some
cells_of-requires-clause-some c =
    let own : c.in_ok-own.own ≡ own_sizes c.args.sizes.now c.in_ok-scope.scope.vars.items = c.in_ok-own.ensures ∙ ap (λ (vs : List ℕ). own_sizes c.args.sizes.now vs) c.as_slice.ensures.value in
    let same = c.as_slice-4.ensures in
    rw (same, own) (own-positive c.args.sizes.now c.in_ok-scope.scope.vars.items c.requires.good c.in_ok-scope.ensures.within)
