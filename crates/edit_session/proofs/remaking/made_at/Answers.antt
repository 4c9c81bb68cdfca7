use Rattle.std.proofs.Common.{sym, ap₂, subst, arith}
use Rattle.dcop_base.specs.Knowledge.{private_of}
use Rattle.dcop_base.specs.declared.knowledge.Private.{Private}
use Rattle.pseudotree.specs.declared.agent.Place.{Place}
use Rattle.protocol_steps.specs.Dpop.{DpopView}
use Rattle.protocol_steps.proofs.PlacingLaws.{place_is}
use Rattle.dpop_agent.specs.Remade.{MayRemake, IsRemade, joined_count, with_sent}
use Rattle.edit_session.proofs.remaking.made_at.Goals as goal

pub remake-requires : goal.remake-requires
remake-requires g c =
    let p = c.args.problem.now in
    let paths = c.args.tree.now.paths in
    let kept = c.args.kept.now.items in
    let whole = c.problem_is_whole.ensures in
    let ground = c.requires.ground in
    let may = c.children_may_be_joined.ensures p paths kept c.args.var whole ground.tree_is.pseudotree ground.linked ground.narrow ground.counted c.requires.inside c.requires.children in
    subst (λ (own : Private). MayRemake own c.in_ok-seat.seat kept) (sym c.requires.known)
    (subst (λ (seat : Place). MayRemake (private_of p c.args.var) seat kept) (sym (place_is p paths c.args.var c.in_ok-seat.seat c.in_ok-seat.ensures)) may.may)

pub returns-in_err-made-clause-within : goal.returns-in_err-made-clause-within
returns-in_err-made-clause-within g c =
    let p = c.args.problem.now in
    let paths = c.args.tree.now.paths in
    let kept = c.args.kept.now.items in
    let ground = c.requires.ground in
    let may = c.children_may_be_joined.ensures p paths kept c.args.var c.problem_is_whole.ensures ground.tree_is.pseudotree ground.linked ground.narrow ground.counted c.requires.inside c.requires.children in
    let view = ap₂ (λ (own : Private) (seat : Place). joined_count (with_sent own seat kept)) c.requires.known (place_is p paths c.args.var c.in_ok-seat.seat c.in_ok-seat.ensures) in
    let cells = may.cells in
    let within = c.remake.ensures.within in
    omega (arith, view, cells, within)

pub returns-clause-made : goal.returns-clause-made
returns-clause-made g c =
    let p = c.args.problem.now in
    let paths = c.args.tree.now.paths in
    let kept = c.args.kept.now.items in
    subst (λ (v : DpopView). IsRemade v c.in_ok-made.made)
    (ap₂ (λ (own : Private) (seat : Place). with_sent own seat kept) c.requires.known (place_is p paths c.args.var c.in_ok-seat.seat c.in_ok-seat.ensures)) c.in_ok-made.ensures.made

pub returns-clause-counted : goal.returns-clause-counted
returns-clause-counted g c =
    let p = c.args.problem.now in
    let paths = c.args.tree.now.paths in
    let kept = c.args.kept.now.items in
    let ground = c.requires.ground in
    let may = c.children_may_be_joined.ensures p paths kept c.args.var c.problem_is_whole.ensures ground.tree_is.pseudotree ground.linked ground.narrow ground.counted c.requires.inside c.requires.children in
    let view = ap₂ (λ (own : Private) (seat : Place). joined_count (with_sent own seat kept)) c.requires.known (place_is p paths c.args.var c.in_ok-seat.seat c.in_ok-seat.ensures) in
    let cells = may.cells in
    let counted = c.in_ok-made.ensures.counted in
    omega (arith, view, cells, counted)

pub returns-clause-within : goal.returns-clause-within
returns-clause-within g c =
    let p = c.args.problem.now in
    let paths = c.args.tree.now.paths in
    let kept = c.args.kept.now.items in
    let ground = c.requires.ground in
    let may = c.children_may_be_joined.ensures p paths kept c.args.var c.problem_is_whole.ensures ground.tree_is.pseudotree ground.linked ground.narrow ground.counted c.requires.inside c.requires.children in
    let view = ap₂ (λ (own : Private) (seat : Place). joined_count (with_sent own seat kept)) c.requires.known (place_is p paths c.args.var c.in_ok-seat.seat c.in_ok-seat.ensures) in
    let cells = may.cells in
    let within = c.remake.ensures.within in
    omega (arith, view, cells, within)
