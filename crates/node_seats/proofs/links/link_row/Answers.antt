use Rattle.std.proofs.Common.{◌≡◌, ◌+◌, ◌<◌, ◌≤◌, ℕ, List, length, get_or, sym, subst, ◌∙◌, inl, arith}
use Rattle.std.proofs.lemmas.List.{take_all}
use Rattle.std.proofs.lemmas.List.Elements.{All-take}
use Rattle.agent_links.specs.Links.{rows_in}
use Rattle.node_seats.specs.Links.{AddLinksOver}
use Rattle.node_seats.proofs.OverLaws.{ascends_below, before_later, frame_then, row_before, row_more}
use Rattle.node_seats.proofs.links.link_row.Goals as goal

pub link_one-requires-clause-before : goal.link_one-requires-clause-before
link_one-requires-clause-before g c =
    let at : c.loop-to.to-index < length c.args.neighbours.now = omega (arith, c.loop-to-test.true, c.loop-to.auto.to-index-end) in
    let is : c.to.inside.0 ≡ get_or c.args.neighbours.now c.loop-to.to-index c.to.inside.0 = subst (λ (x : ℕ). x ≡ get_or c.args.neighbours.now c.loop-to.to-index x) (sym c.to.view_is) c.to-item.is in
    c.loop-to.invariant.before c.to.inside.0 (ascends_below c.args.neighbours.now c.loop-to.to-index c.to.inside.0 c.requires.ascend at is)

pub loop-to-preserved : goal.loop-to-preserved
loop-to-preserved g c =
    let at : c.loop-to.to-index < length c.args.neighbours.now = omega (arith, c.loop-to-test.true, c.loop-to.auto.to-index-end) in
    let is : c.to.inside.0 ≡ get_or c.args.neighbours.now c.loop-to.to-index c.to.inside.0 = subst (λ (x : ℕ). x ≡ get_or c.args.neighbours.now c.loop-to.to-index x) (sym c.to.view_is) c.to-item.is in
    record {
      added = row_more c.args.plan.now c.loop-to.plan c.link_one.new.plan c.args.from c.loop-to.to-index c.to.inside.0 c.args.neighbours.now (rows_in c.args.tails.now) (rows_in c.loop-to.tails) (rows_in c.link_one.new.tails)
          (rows_in c.args.heads.now) (rows_in c.loop-to.heads) (rows_in c.link_one.new.heads) at is c.loop-to.invariant.added c.in_ok-link_one.ensures.added;
      before = row_before c.link_one.new.plan c.args.from c.loop-to.to-index c.to.inside.0 c.args.neighbours.now (rows_in c.link_one.new.tails) (rows_in c.link_one.new.heads) at is c.in_ok-link_one.ensures.before;
      frame = frame_then c.args.plan.now c.loop-to.plan c.link_one.new.plan c.loop-to.invariant.frame c.link_one.ensures.frame;
      tails = c.link_one.ensures.tails ∙ c.loop-to.invariant.tails;
      heads = c.link_one.ensures.heads ∙ c.loop-to.invariant.heads;
    }

pub returns-clause-added : goal.returns-clause-added
returns-clause-added g c =
    let past : length c.args.neighbours.now ≤ c.loop-to.to-index = omega (arith, c.loop-to-test.false, c.loop-to.auto.to-index-end) in
    subst (λ (ns : List ℕ). AddLinksOver c.args.from ns c.args.plan.now (rows_in c.args.tails.now) (rows_in c.args.heads.now) c.loop-to.plan (rows_in c.loop-to.tails) (rows_in c.loop-to.heads))
    (take_all c.loop-to.to-index c.args.neighbours.now past) c.loop-to.invariant.added

pub returns-clause-before : goal.returns-clause-before
returns-clause-before g c =
    let agents = c.args.plan.now.agents in
    before_later c.loop-to.plan c.args.from agents (c.args.from + 1) 0 (rows_in c.loop-to.tails) (rows_in c.loop-to.heads) (inl (omega arith))
    (c.loop-to.invariant.before agents (All-take (λ (k : ℕ). k < agents) c.loop-to.to-index c.args.neighbours.now c.requires.to))
