use Rattle.std.proofs.Common.{◌≡◌, ◌<◌, ℕ, List, length, sym, ap, subst, ◌∙◌}
use Rattle.std.specs.List.{All}
use Rattle.dcop_base.specs.Problem.{Dcop}
use Rattle.dcop_base.specs.Graph.{are_neighbours}
use Rattle.dcop_base.proofs.KnowledgeLaws.{All-filter-range}
use Rattle.agent_knowledge.proofs.parts.acquaintance_with.Goals as goal

pub sizes_of-requires : goal.sizes_of-requires
sizes_of-requires c =
    let p = c.args.problem.now in
    let size : length c.as_slice-sizes.result.now ≡ length p.sizes = ap (λ (xs : List ℕ). length xs) (c.as_slice-sizes.ensures ∙ ap (λ (q : Dcop). q.sizes) c.problem.view_is) in
    subst (λ (n : ℕ). All (λ v. v < n) c.as_slice.result.now) (sym size)
    (subst (λ (vars : List ℕ). All (λ v. v < length p.sizes) vars) (sym (c.as_slice.ensures ∙ c.requires.neighbours)) (All-filter-range (are_neighbours p c.args.me) (length p.sizes)))
