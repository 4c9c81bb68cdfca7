use Rattle.std.proofs.Common.{arith}
use Rattle.std.proofs.lemmas.List.{length-map}
use Rattle.agent_links.specs.Links.{rows_in}
use Rattle.node_seats.proofs.OverLaws.{added_one, added_before, no_link}
use Rattle.node_seats.proofs.links.link_one.Goals as goal

pub new_link-requires-clause-none : goal.new_link-requires-clause-none
new_link-requires-clause-none g c = no_link c.args.plan.now c.args.from c.args.to (rows_in c.args.tails.now) (rows_in c.args.heads.now) c.requires.before

pub returns-clause-added : goal.returns-clause-added
returns-clause-added g c =
    let tails = length-map c.args.tails.now (λ row. row.items) in
    let heads = length-map c.args.heads.now (λ row. row.items) in
    let tails_size = c.requires.tails in
    let heads_size = c.requires.heads in
    let from = c.requires.from in
    let to = c.requires.to in
    added_one c.args.plan.now c.new_link.new.plan c.requires.plan c.args.from c.args.to c.in_ok-tail.tail c.in_ok-tail.head (rows_in c.args.tails.now) (rows_in c.args.heads.now)
    (omega (arith, tails, tails_size, from)) (omega (arith, heads, heads_size, to)) c.requires.before c.in_ok-tail.ensures.made _ _ c.in_ok-push_at.ensures.added c.in_ok-push_at-2.ensures.added

pub returns-clause-before : goal.returns-clause-before
returns-clause-before g c =
    let tails = length-map c.args.tails.now (λ row. row.items) in
    let heads = length-map c.args.heads.now (λ row. row.items) in
    let tails_size = c.requires.tails in
    let heads_size = c.requires.heads in
    let from = c.requires.from in
    let to = c.requires.to in
    added_before c.args.plan.now c.new_link.new.plan c.requires.plan c.args.from c.args.to c.in_ok-tail.tail c.in_ok-tail.head (rows_in c.args.tails.now) (rows_in c.args.heads.now)
    (omega (arith, tails, tails_size, from)) (omega (arith, heads, heads_size, to)) c.requires.before c.in_ok-tail.ensures.made _ _ c.in_ok-push_at.ensures.added c.in_ok-push_at-2.ensures.added
