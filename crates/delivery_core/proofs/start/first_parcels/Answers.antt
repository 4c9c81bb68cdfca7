use Rattle.std.proofs.Common.{◌≡◌, ℕ, List, map, IfOk, subst, ap, ◌∙◌}
use Rattle.protocol_steps.specs.declared.message.Message.{Message}
use Rattle.protocol_steps.specs.Step.{start_of}
use Rattle.delivery_core.specs.State.{SeatView}
use Rattle.delivery_core.specs.Agents.{agents_of}
use Rattle.delivery_core.proofs.StartLaws.{all_may_start, sends_made}
use Rattle.delivery_core.proofs.start.first_parcels.Goals as goal

pub first_of_all-requires : goal.first_of_all-requires
first_of_all-requires c = all_may_start c.args.problem.now c.args.start.now c.in_ok-seats.seats.items c.in_ok-seats.ensures.made

pub returns : goal.returns
returns c =
    let is = ap (λ (xs : List SeatView). map (λ (x : SeatView). (start_of x.view).sends) xs) c.in_ok-seats.ensures.made ∙ sends_made (agents_of c.args.problem.now c.args.start.now) in
    subst (λ (out : List (List (ℕ × Message))). IfOk c.first_of_all.result (λ sent. sent.items ≡ out)) is c.first_of_all.ensures
