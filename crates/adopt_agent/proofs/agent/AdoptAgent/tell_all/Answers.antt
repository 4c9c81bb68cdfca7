use Rattle.std.proofs.Common.{◌≡◌, ℕ, List, ap, ◌∙◌}
use Rattle.std.specs.List.{flat_map}
use Rattle.std.proofs.lemmas.Result.{IfOk-weaker}
use Rattle.protocol_steps.specs.Adopt.{AdoptView}
use Rattle.protocol_steps.specs.AdoptStep.{adopt_sends, messages_for}
use Rattle.adopt_agent.specs.Deed.{all_to}
use Rattle.adopt_agent.proofs.agent.AdoptAgent.tell_all.Goals as goal

pub returns : goal.returns
returns c =
    let v : AdoptView = c.args.self.now in
    let near = c.as_slice.ensures ∙ ap (λ (w : AdoptView). w.own.neighbours) c.self.view_is in
    IfOk-weaker c.tell_each.result (λ ps. ps.items ≡ flat_map (λ j. all_to j (messages_for v j)) c.as_slice.result.now) (λ ps. ps.items ≡ adopt_sends v)
    (λ ps e. e ∙ ap (λ (js : List ℕ). flat_map (λ j. all_to j (messages_for v j)) js) near) c.tell_each.ensures
