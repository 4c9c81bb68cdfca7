use Rattle.std.proofs.Common.{◌≡◌, ◌<◌, length, not, ◌&&◌, ap, ◌∙◌}
use Rattle.dcop_base.specs.Table.{has, has_repeat}
use Rattle.dfs_agent.proofs.VisitLaws.{spare_one}
use Rattle.dfs_agent.proofs.visited.test_distinct.Goals as goal

pub returns : goal.returns
returns c =
    let vars = c.args.vars.now in
    let me : c.me.inside.0 ≡ c.args.me = c.me.view_is in
    let within : c.me.inside.0 < length c.args.marks.now = rw me c.requires.me in
    c.mark_distinct.ensures ∙ spare_one c.args.marks.now c.me.inside.0 vars c.requires.none within ∙ ap (λ m. not (has_repeat vars) && not (has vars m)) me
