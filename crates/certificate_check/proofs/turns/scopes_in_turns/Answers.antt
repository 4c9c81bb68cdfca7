use Rattle.std.proofs.Common.{◌≡◌, ◌<◌, length, sym, ◌∙◌, arith}
use Rattle.certificate_check.specs.Cuts.{scopes_in_turn}
use Rattle.certificate_check.proofs.FirstLaws.{found_given, none_given, none_all}
use Rattle.certificate_check.proofs.turns.scopes_in_turns.Goals as goal

pub returns-then-is_some : goal.returns-then-is_some
returns-then-is_some c =
    let lt : c.loop-number.number < length c.args.turns.now = omega arith in
    found_given (scopes_in_turn c.args.problem.now c.args.tree.now.paths c.args.cut.now c.args.turns.now) c.loop-number.number (length c.args.turns.now) c.in_ok-differs.differs
    c.loop-number.invariant lt c.in_ok-differs.ensures (sym c.is_some.ensures ∙ c.if-is_some.true)

pub loop-number-preserved : goal.loop-number-preserved
loop-number-preserved c =
    none_given (scopes_in_turn c.args.problem.now c.args.tree.now.paths c.args.cut.now c.args.turns.now) c.loop-number.number c.in_ok-differs.differs
    c.loop-number.invariant c.in_ok-differs.ensures (sym c.is_some.ensures ∙ c.if-is_some.false)

pub returns : goal.returns
returns c =
    let same : c.loop-number.number ≡ length c.args.turns.now = omega arith in
    none_all (scopes_in_turn c.args.problem.now c.args.tree.now.paths c.args.cut.now c.args.turns.now) c.loop-number.number (length c.args.turns.now) c.loop-number.invariant same
