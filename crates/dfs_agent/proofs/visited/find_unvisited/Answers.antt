use Rattle.std.proofs.Common.{◌<◌, length, false, not, ◌||◌, get_or, ap, ◌∙◌}
use Rattle.std.specs.List.{concat}
use Rattle.dcop_base.specs.Table.{has}
use Rattle.dfs_agent.proofs.VisitLaws.{find-agree, blank}
use Rattle.dfs_agent.proofs.visited.find_unvisited.Goals as goal

pub returns : goal.returns
returns c =
    let ns = c.args.neighbours.now in
    let path = c.args.path.now in
    let kept = c.args.kept.now in
    let new = c.mark_each.new.marks in
    let each = find-agree (λ v. not (get_or new v false)) (λ u. not (has path u || has (concat kept) u)) ns (λ k d lt.
    let u = get_or ns k d in
    let old : u < length c.args.marks.now = c.requires.neighbours k d lt in
    let later : u < length c.mark.new.marks = rw c.mark.auto.marks old in
    let marked = c.mark.ensures u old ∙ ap (λ b. b || has path u) (blank c.args.marks.now u c.requires.none) in
    ap not (c.mark_each.ensures u later ∙ ap (λ b. b || has (concat kept) u) marked)) in
    c.first_unmarked.ensures ∙ each
