use Rattle.std.proofs.Common.{ℕ, List, [], ◌∙◌, sym, subst}
use Rattle.protocol_steps.specs.declared.message.Message.{Message}
use Rattle.protocol_steps.specs.Dpop.{DpopView}
use Rattle.protocol_steps.specs.DpopStep.{dpop_start}
use Rattle.protocol_steps.specs.Placing.{IsPlaceFor}
use Rattle.dpop_agent.specs.Deed.{GivesDpopStep}
use Rattle.dpop_agent.proofs.BatchLaws.{is_start, stands_beside, start_reaches}
use Rattle.dpop_agent.proofs.agent.DpopAgentMachine.start.Goals as goal

pub returns-clause-ok : goal.returns-clause-ok
returns-clause-ok c =
    let old = c.args.self.now in
    let new = c.begin.new.self in
    let empty = c.into_vec-lent.ensures ∙ c.replace.ensures.value ∙ c.requires.empty in
    let begun = subst (λ (ps : List (ℕ × Message)). GivesDpopStep (dpop_start old) new ps c.in-Ok.parcels.items) empty c.in-Ok.ensures.gives in
    let gives = subst (λ (ps : List (ℕ × Message)). GivesDpopStep (dpop_start old) new [] ps) (sym c.from_vec-2.ensures) begun in
    is_start old new c.from_vec-2.result gives

pub returns-clause-receivers : goal.returns-clause-receivers
returns-clause-receivers c =
    let old = c.args.self.now in
    let new = c.begin.new.self in
    let placed = subst (λ (v : DpopView). IsPlaceFor v.own v.place) c.self.view_is c.self.invariant.keeper.placed in
    let empty = c.into_vec-lent.ensures ∙ c.replace.ensures.value ∙ c.requires.empty in
    let begun = subst (λ (ps : List (ℕ × Message)). GivesDpopStep (dpop_start old) new ps c.in-Ok.parcels.items) empty c.in-Ok.ensures.gives in
    let gives = subst (λ (ps : List (ℕ × Message)). GivesDpopStep (dpop_start old) new [] ps) (sym c.from_vec-2.ensures) begun in
    start_reaches old new c.from_vec-2.result (stands_beside old placed) gives
