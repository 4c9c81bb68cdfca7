use Rattle.std.proofs.Common.{◌<◌, ◌==◌, ◌&&◌, ◌||◌, ℕ, Bool, not, length, sym, ◌∙◌, subst, List}
use Rattle.std.specs.List.{All}
use Rattle.dcop_base.specs.Graph.{share_table, are_joined}
use Rattle.dcop_base.proofs.KnowledgeLaws.{All-filter-range}
use Rattle.dcop_base.proofs.part.acquaintance.Goals as goal

pub sizes_of-requires : goal.sizes_of-requires
sizes_of-requires c =
    let me = c.args.me in
    let n = length c.as_slice-sizes.result.now in
    let f : ℕ → Bool = λ v. not (me == v) && (share_table c.as_slice-tables.result.now me v || are_joined c.as_slice-joints.result.now me v) in
    subst (λ (vars : List ℕ). All (λ v. v < n) vars) (sym (c.as_slice.ensures ∙ c.in_ok-neighbours.ensures)) (All-filter-range f n)
