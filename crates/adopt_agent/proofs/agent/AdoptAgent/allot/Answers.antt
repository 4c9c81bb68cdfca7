use Rattle.adopt_agent.proofs.BoundLaws.{backed_allot, best_allotted, allotted_shown}
use Rattle.adopt_agent.proofs.agent.AdoptAgent.allot.Goals as goal

pub invariant_of-self : goal.invariant_of-self
invariant_of-self c =
    let a = c.self.inside in
    let s = c.self.invariant in
    record {
      ground = s.ground;
      costed = s.costed;
      higher_is = s.higher_is;
      knows_higher_is = s.knows_higher_is;
      backed = backed_allot a.own a.place a.known a.bounds c.allot.new.self a.value c.to_allot-goal.result s.backed c.allot.ensures;
      best_is = best_allotted a.costs.items a.knows_higher a.bounds c.allot.new.self a.value c.to_allot-goal.result a.best s.best_is c.allot.ensures;
      value_below = s.value_below;
      error_within = s.error_within;
      threshold_within = s.threshold_within;
      last_within = s.last_within;
    }

pub returns : goal.returns
returns c =
    let a = c.self.inside in
    allotted_shown a.own a.place a.error a.stage a.known a.value a.threshold a.last_received a.told_to_end a.bounds c.allot.new.self c.to_allot-goal.result c.args.self.now
    c.self.view_is c.to_allot-goal.ensures.goal c.allot.ensures
