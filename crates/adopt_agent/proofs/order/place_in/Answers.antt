use Rattle.std.proofs.Common.{◌∙◌}
use Rattle.adopt_agent.proofs.OrderLaws.{has_place, search_places}
use Rattle.adopt_agent.proofs.order.place_in.Goals as goal

pub returns-clause-place : goal.returns-clause-place
returns-clause-place c = c.ok.ensures.value ∙ search_places c.args.vars.now c.args.sought c.binary_search.result c.requires.ascend c.binary_search.ensures.position

pub returns-clause-found : goal.returns-clause-found
returns-clause-found c =
    has_place c.args.vars.now c.args.sought c.ok.result
    (c.ok.ensures.value ∙ search_places c.args.vars.now c.args.sought c.binary_search.result c.requires.ascend c.binary_search.ensures.position)
