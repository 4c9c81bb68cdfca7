use Rattle.std.proofs.Common.{◌∙◌}
use Rattle.agent_links.proofs.OutcomeLaws.{outcome_told}
use Rattle.agent_links.proofs.outcome.outcome_of.Goals as goal

pub returns : goal.returns
returns g c =
    outcome_told (λ b. (goal.Machine-dyn g (b.vtable, b.value)).meaning b.value) c.args.cells.now _ _ _ _ _ _ c.index-cells-0.result c.requires.some
    c.in_ok-values_of.ensures c.in_ok-tables_of.ensures c.in_ok-places_of.ensures c.index-cells-0.is c.standing.ensures (c.deliveries_in.ensures ∙ c.requires.told) c.all_ended.ensures
