use Rattle.std.proofs.Common.{◌<◌, length, false, not, ◌||◌, ◌≡◌, get_or, ap, ◌∙◌}
use Rattle.std.specs.List.{filter}
use Rattle.std.proofs.lemmas.Result.{IfOk-weaker}
use Rattle.dcop_base.specs.Table.{has}
use Rattle.dfs_agent.proofs.VisitLaws.{filter-agree, blank}
use Rattle.dfs_agent.proofs.visited.keep_lower.Goals as goal

pub returns : goal.returns
returns c =
    let ns = c.args.neighbours.now in
    let path = c.args.path.now in
    let new = c.mark.new.marks in
    let each = filter-agree (λ v. not (get_or new v false)) (λ u. not (has path u)) ns (λ k d lt.
    let u = get_or ns k d in
    let old : u < length c.args.marks.now = c.requires.neighbours k d lt in
    ap not (c.mark.ensures u old ∙ ap (λ b. b || has path u) (blank c.args.marks.now u c.requires.none))) in
    IfOk-weaker c.unmarked.result (λ lower. lower ≡ filter (λ v. not (get_or new v false)) ns) (λ lower. lower ≡ filter (λ u. not (has path u)) ns) (λ lower e. e ∙ each) c.unmarked.ensures
