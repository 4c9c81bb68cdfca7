use Rattle.std.proofs.Common.{◌<◌, ◌-◌, ℕ, List, [], length, get_or, sym, subst, ◌∙◌, arith}
use Rattle.std.proofs.lemmas.List.{get_or_default}
use Rattle.shared_costs.specs.Moves.{IsMoved}
use Rattle.shared_costs.proofs.GiveLaws.{ready, given-none, given-more, given-all, next-lows, row-same}
use Rattle.shared_costs.proofs.sharing.give.Goals as goal

pub loop-j-init : goal.loop-j-init
loop-j-init c =
    let is = ready c.args.tables.now c.args.var (get_or c.args.sizes.now c.args.var 0) c.args.lows.now.places.items c.args.lows.now.rows.items c.args.pot.now c.as_slice-places.result.now c.as_slice-rows.result.now
    c.as_slice-places.ensures.value c.as_slice-rows.ensures.value c.requires.naming c.requires.rows c.requires.pot in
    record {
      given = given-none c.args.sizes.now c.args.var c.as_slice-places.result.now c.as_slice-rows.result.now c.args.tables.now c.args.pot.now c.requires.var c.requires.tables is.naming is.lows is.pot_is;
      many = c.requires.parts ∙ sym c.requires.pot.many;
    }

pub shift-requires-clause-lows : goal.shift-requires-clause-lows
shift-requires-clause-lows c =
    let is = ready c.args.tables.now c.args.var (get_or c.args.sizes.now c.args.var 0) c.args.lows.now.places.items c.args.lows.now.rows.items c.args.pot.now c.as_slice-places.result.now c.as_slice-rows.result.now
    c.as_slice-places.ensures.value c.as_slice-rows.ensures.value c.requires.naming c.requires.rows c.requires.pot in
    next-lows c.args.sizes.now c.args.var c.as_slice-places.result.now c.as_slice-rows.result.now c.args.tables.now c.loop-j.tables c.args.pot.now c.loop-j.j (length c.args.pot.now) c.index-tables-place.result is c.loop-j-test.true c.requires.pot.many c.loop-j.pot c.loop-j.invariant.given

pub loop-j-preserved : goal.loop-j-preserved
loop-j-preserved c =
    let places = c.as_slice-places.result.now in
    let rows = c.as_slice-rows.result.now in
    let size = get_or c.args.sizes.now c.args.var 0 in
    let j = c.loop-j.j in
    let p = get_or places j 0 in
    let now = c.loop-j.tables in
    let is = ready c.args.tables.now c.args.var size c.args.lows.now.places.items c.args.lows.now.rows.items c.args.pot.now places rows
    c.as_slice-places.ensures.value c.as_slice-rows.ensures.value c.requires.naming c.requires.rows c.requires.pot in
    let inside : p < length now = omega (arith, is.naming.inside j 0 c.loop-j-test.true, c.loop-j.invariant.given.count) in
    let t = get_or now p c.index-tables-place.result in
    let move = subst (λ (xs : List ℕ). IsMoved c.args.var xs c.part.new.parts t c.shift.new.self) (row-same rows j (length c.args.pot.now) size c.requires.pot.many) c.shift.ensures in
    record {
      given = given-more c.args.sizes.now c.args.var places rows c.args.tables.now now c.loop-j.pot c.part.new.pot c.part.new.parts j (length places - j) t c.shift.new.self c.requires.var c.requires.tables is.naming is.lows c.loop-j-test.true (omega (arith, c.loop-j-test.true))
          (get_or_default now p c.index-tables-place.result (record { scope = []; sizes = []; cells = [] }) inside) c.part.ensures.parting c.part.ensures.pot move c.loop-j.invariant.given;
      many = c.part.auto.parts ∙ c.loop-j.invariant.many;
    }

pub returns : goal.returns
returns c =
    given-all c.args.sizes.now c.args.var c.as_slice-places.result.now c.as_slice-rows.result.now c.args.tables.now c.loop-j.tables c.loop-j.pot c.loop-j.j c.requires.var c.requires.tables (omega (arith, c.loop-j-test.false, c.loop-j.auto.j-end)) c.loop-j.invariant.given
