use Rattle.std.proofs.Common.{◌<◌, length, sym, arith}
use Rattle.std.proofs.lemmas.Bool.{eqb-true, eqb-false, not-true, not-false}
use Rattle.agent_cells.proofs.PlaceLaws.{place_found, place_behind, place_other}
use Rattle.agent_cells.proofs.places.place_of.Goals as goal

pub returns-then-place-ends : goal.returns-then-place-ends
returns-then-place-ends g c = place_behind c.args.ends.now c.args.peer c.first_from-place.result c.first_from-place.ensures.below c.if-place-ends.true

pub returns-then-ne : goal.returns-then-ne
returns-then-ne g c =
    let most = c.first_from-place.ensures.most in
    let past = c.if-place-ends.false in
    let inside : c.first_from-place.result < length c.args.ends.now = omega (arith, most, past) in
    place_other c.args.ends.now c.args.peer c.first_from-place.result c.index-ends-place.result c.requires.ascend c.first_from-place.ensures.below c.first_from-place.ensures.above inside (eqb-false _ _ (not-true _ (sym c.if-ne.ensures)))

pub returns : goal.returns
returns g c =
    let most = c.first_from-place.ensures.most in
    let past = c.if-place-ends.false in
    let inside : c.first_from-place.result < length c.args.ends.now = omega (arith, most, past) in
    place_found c.args.ends.now c.args.peer c.first_from-place.result c.index-ends-place.result c.first_from-place.ensures.below inside (eqb-true _ _ (not-false _ (sym c.if-ne.ensures)))
