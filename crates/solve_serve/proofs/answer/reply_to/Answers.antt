use Rattle.solve_serve.proofs.LookLaws.{looked_had, looked_made, refused_first, refused_then, none_found}
use Rattle.solve_serve.proofs.answer.reply_to.Goals as goal

pub returns-in_err-found-clause-tally : goal.returns-in_err-found-clause-tally
returns-in_err-found-clause-tally g c =
    let l = c.in_err-found.ensures in
    refused_first g.M.Maker.does c.args.key c.from_residual.result _ c.args.maker.now c.look.new.maker _ _ c.from_residual.ensures.1 l.no_step l.uncounted.0 l.uncounted.1 l.calls

pub returns-in_err-made-clause-tally : goal.returns-in_err-made-clause-tally
returns-in_err-made-clause-tally g c =
    let l = c.in_ok-found.ensures in
    let none = none_found c.in_ok-found.found c.in_default.not-Some in
    refused_then _ c.args.key c.from_residual-in_err-made.result _ _ _ c.from_residual-in_err-made.ensures.1
    (looked_made g.M.Maker.does c.args.key _ c.args.maker.now c.look.new.maker c.make.new.self _ _ none l.step (rw c.as_slice.ensures at c.in_err-made.ensures.step) l.counted l.missed (rw l.calls at c.in_err-made.ensures.counted))

pub returns-in_err-reply-clause-tally : goal.returns-in_err-reply-clause-tally
returns-in_err-reply-clause-tally g c =
    let l = c.in_ok-found.ensures in
    let none = none_found c.in_ok-found.found c.in_default.not-Some in
    refused_then _ c.args.key c.from_residual-in_err-reply.result _ _ _ c.from_residual-in_err-reply.ensures.1
    (looked_made g.M.Maker.does c.args.key _ c.args.maker.now c.look.new.maker c.make.new.self _ _ none l.step (rw c.as_slice.ensures at c.in_ok-made.ensures.step) l.counted l.missed (rw l.calls at c.in_ok-made.ensures.counted))

pub returns-in-Some-clause-tally : goal.returns-in-Some-clause-tally
returns-in-Some-clause-tally g c =
    let l = c.in_ok-found.ensures in
    looked_had g.M.Maker.does c.args.key _ _ c.args.maker.now _ _ _ c.in-Some.is l.step l.counted l.missed l.calls

pub returns-clause-tally : goal.returns-clause-tally
returns-clause-tally g c =
    let l = c.in_ok-found.ensures in
    let none = none_found c.in_ok-found.found c.in_default.not-Some in
    looked_made g.M.Maker.does c.args.key _ c.args.maker.now c.look.new.maker _ _ _ none l.step (rw c.as_slice.ensures at c.in_ok-made.ensures.step) l.counted l.missed (rw l.calls at c.in_ok-made.ensures.counted)
