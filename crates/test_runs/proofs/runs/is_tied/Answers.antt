use Rattle.std.proofs.Common.{◌≡◌, ℕ, true, length, List, sym, ap, ◌∙◌, subst}
use Rattle.std.specs.List.{range_with_len}
use Rattle.dcop_base.specs.Table.{has}
use Rattle.dcop_base.specs.Graph.{neighbours, are_neighbours}
use Rattle.dcop_base.specs.declared.knowledge.Private.{Private}
use Rattle.pseudotree.proofs.NestLaws.{has_filter}
use Rattle.adopt_context.specs.Context.{or_zero}
use Rattle.test_runs.proofs.runs.is_tied.Goals as goal

pub returns : goal.returns
returns c tied u is =
    let p = c.args.problem.now in
    let v = c.args.var in
    let same : c.in-Some.parent ≡ u = ap or_zero (sym c.in-Some.is ∙ c.parent.ensures ∙ is) in
    let among : has (neighbours p v) c.in-Some.parent ≡ true =
    sym (ap (λ (vs : List ℕ). has vs c.in-Some.parent) (c.as_slice.ensures ∙ ap (λ (own : Private). own.neighbours) c.in_ok-own.ensures)) ∙ sym c.contains.ensures.value ∙ tied in
    (has_filter (are_neighbours p v) (range_with_len 0 (length p.sizes)) u (subst (λ (w : ℕ). has (neighbours p v) w ≡ true) same among)).1
