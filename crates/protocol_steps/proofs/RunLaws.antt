-- Runs by one more event, and runs one after another.
use Rattle.std.proofs.Common.{◌≡◌, List, [], ◌∷◌, ◌++◌, Option, Some, None, ap, ◌∙◌}
use Rattle.std.specs.List.{fold, flat_map}
use Rattle.std.proofs.lemmas.List.Sums.{fold_push, fold-append}
use Rattle.protocol_steps.specs.declared.event.Event.{Event}
use Rattle.protocol_steps.specs.declared.event.EventFault.{EventFault}
use Rattle.protocol_steps.specs.Network.{Network}
use Rattle.protocol_steps.specs.Effect.{effect}
use Rattle.protocol_steps.specs.Run.{event_fault, unless, happen, run}
use Rattle.protocol_steps.specs.Rounds.{RoundsAreARun}

-- one more lawful event of a run
pub happens_next : (net : Network) (e : Event) → event_fault net e ≡ None → happen (Some net) e ≡ Some (effect net e)
happens_next net e fine = ap (λ (f : Option EventFault). unless f (effect net e)) fine

pub run_push : (first net : Network) (es : List Event) (e : Event) → run first es ≡ Some net → event_fault net e ≡ None → run first (es ++ e ∷ []) ≡ Some (effect net e)
run_push first net es e so fine = fold_push happen (Some first) es e ∙ ap (λ (o : Option Network). happen o e) so ∙ happens_next net e fine

-- a run, and then another one
pub run_append : (first net end : Network) (es fs : List Event) → run first es ≡ Some net → run net fs ≡ Some end → run first (es ++ fs) ≡ Some end
run_append first net end es fs so then = fold-append happen (Some first) es fs ∙ ap (λ (o : Option Network). fold happen o fs) so ∙ then

pub rounds_are_a_run : RoundsAreARun
rounds_are_a_run budget before after [] same = ap (λ (net : Network). Some net) same
rounds_are_a_run budget before after (es ∷ pieces) rounds =
    run_append before rounds.1.0 after es (flat_map (λ fs. fs) pieces) rounds.1.1.leads (rounds_are_a_run budget rounds.1.0 after pieces rounds.1.2)
