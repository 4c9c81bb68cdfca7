use Rattle.std.proofs.Common.{◌∙◌}
use Rattle.link_records.proofs.DifferLaws.{differs_at, left_at}
use Rattle.link_records.proofs.differ.take_difference.Goals as goal

pub returns-clause-found : goal.returns-clause-found
returns-clause-found c = differs_at c.args.kept.now c.in_ok-place.place c.index-kept-place.result c.replace.result c.into_difference.result c.in_ok-place.ensures c.replace.ensures.value c.into_difference.ensures

pub returns-clause-left : goal.returns-clause-left
returns-clause-left c =
    left_at c.args.kept.now c.in_ok-place.place c.index-kept-place.result c.replace.result c.replace.new.dest c.new-fresh.result c.into_difference.result c.in_ok-place.ensures c.replace.ensures.value c.replace.ensures.after
    (c.new-fresh.ensures.ends.0 ∙ c.from.ensures, c.new-fresh.ensures.ends.1 ∙ c.to.ensures) c.new-fresh.ensures.passages c.into_difference.ensures
