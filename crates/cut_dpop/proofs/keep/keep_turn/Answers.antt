use Rattle.cut_dpop.specs.Start.{paths_in}
use Rattle.cut_dpop.proofs.KeptLaws.{turn-keeps}
use Rattle.cut_dpop.proofs.keep.keep_turn.Goals as goal

pub returns-in_ok-push : goal.returns-in_ok-push
returns-in_ok-push c = λ left start made.
    turn-keeps c.args.keep left c.tree_in.result.now (paths_in c.args.start.now) c.args.values c.args.tables.now c.in_ok-turn_made.field-0 c.args.kept.now.items c.push.new.self.items
    c.if-keep.true c.tree_in.ensures.paths (c.tree_in.ensures.tree left start) made c.in_ok-turn_made.ensures.values (c.in_ok-turn_made.ensures.tables left) c.in_ok-push.ensures.items
