use Rattle.std.proofs.Common.{◌≡◌, ◌<◌, true, nat_lt, length, replicate, refl, sym, ◌∙◌, arith}
use Rattle.std.specs.List.{list_all}
use Rattle.dcop_base.specs.Limits.{amount_limit}
use Rattle.adopt_agent.proofs.ExchangeLaws.{all_from_each, costs_exchanged, share_there, whole_at}
use Rattle.adopt_agent.proofs.exchange.exchange.Goals as goal

pub take_off-requires-clause-enough : goal.take_off-requires-clause-enough
take_off-requires-clause-enough c = λ d lt.
    let b = c.requires.before in
    let counted = b.costed.counted in
    share_there c.args.own.now c.args.place.now b.before c.args.known.now c.args.var b.others c.args.costs.now (replicate b.shared.count 0) c.args.shares.now b.shared.count b.costed refl b.shared.added d (omega (arith, lt, counted))

pub add_tables-requires-clause-within : goal.add_tables-requires-clause-within
add_tables-requires-clause-within c =
    let whole : list_all (λ x. nat_lt x amount_limit) c.args.costs.now ≡ true = sym c.are_whole.ensures ∙ c.if-not-are_whole.false in
    let same = c.take_off.auto.costs in
    all_from_each c.take_off.new.costs amount_limit (λ d inside.
    let lt : d < length c.args.costs.now = omega (arith, inside, same) in
    let low = whole_at c.args.costs.now d whole lt in
    let is = c.take_off.ensures d lt in
    omega (arith, low, is))

pub returns : goal.returns
returns c =
    let b = c.requires.before in
    let whole : list_all (λ x. nat_lt x amount_limit) c.args.costs.now ≡ true = sym c.are_whole.ensures ∙ c.if-not-are_whole.false in
    costs_exchanged c.args.own.now c.args.place.now b.before c.args.known.now c.args.var b.others c.args.costs.now (replicate b.shared.count 0) c.args.shares.now b.shared.count b.costed refl b.shared.added
    c.take_off.new.costs c.add_tables.new.costs whole c.take_off.ensures c.add_tables.ensures
