use Rattle.std.proofs.Common.{List, ℕ, not, take, ap, ◌∙◌}
use Rattle.std.specs.List.{filter, flat_map}
use Rattle.dcop_base.specs.Table.{has}
use Rattle.protocol_steps.specs.Token.{TokenView}
use Rattle.dfs_agent.proofs.AgentLaws.{ends_sound}
use Rattle.dfs_agent.proofs.agent.TokenAgent.end.Goals as goal

pub invariant_of-self : goal.invariant_of-self
invariant_of-self c =
    let a = c.self.inside in
    let searches = ap (λ (v : TokenView). v.phase) c.self.view_is ∙ c.requires in
    let children = c.in_ok-children.ensures ∙ ap (λ (xss : List (List ℕ)). flat_map (λ subtree. take 1 subtree) xss) c.as_slice-kept.ensures.value in
    let lower = c.in_ok-lower.ensures ∙ ap (λ (us : List ℕ). filter (λ u. not (has us u)) c.as_slice.result.now) c.as_slice-path.ensures
    ∙ ap (λ (us : List ℕ). filter (λ u. not (has a.path u)) us) c.as_slice.ensures in
    ends_sound a.own a.stage a.path a.kept.items c.place_of-place.result c.replace-path.result c.in_ok-children.children c.in_ok-lower.lower searches c.self.invariant c.place_of-place.ensures c.replace-path.ensures.value children lower
