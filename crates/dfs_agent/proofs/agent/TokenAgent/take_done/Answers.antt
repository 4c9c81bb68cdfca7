use Rattle.std.proofs.Common.{[], ◌∷◌, ◌++◌, sym, ap, ◌∙◌}
use Rattle.protocol_steps.specs.TokenStep.{takes_done}
use Rattle.dfs_agent.specs.Stage.{path_at}
use Rattle.dfs_agent.proofs.AgentLaws.{keeps_sound}
use Rattle.dfs_agent.proofs.agent.TokenAgent.take_done.Goals as goal

pub invariant_of-self-2 : goal.invariant_of-self-2
invariant_of-self-2 c =
    let a = c.self.inside in
    let visited = c.args.visited.now in
    let taken = ap (λ v. takes_done v c.args.from visited) c.self.view_is ∙ sym c.takes_done.ensures ∙ c.if-not-takes_done.false in
    let kept = c.in_ok-push.ensures.items ∙ ap (λ xs. a.kept.items ++ (xs ∷ [])) c.in_ok-copy_of.ensures in
    keeps_sound a.own a.stage (path_at a.stage a.path) a.kept.items c.push.new.self.items c.args.from visited c.self.invariant taken c.requires.range.below kept
