use Rattle.std.proofs.Common.{◌≡◌, ◌==◌, true, false, ◌++◌, ◌∷◌, [], List, length, sym, ap, ◌∙◌}
use Rattle.protocol_steps.specs.declared.event.Take.{Take}
use Rattle.protocol_steps.specs.declared.event.Event.{Event}
use Rattle.delivery_turns.specs.Turns.{turn}
use Rattle.delivery_turns.proofs.TurnLaws.{added_none, added_one}
use Rattle.delivery_turns.proofs.turn.add_turn.Goals as goal

pub returns-then-is_empty : goal.returns-then-is_empty
returns-then-is_empty g c = λ p net core.
    let one = c.in_ok-take_turn.ensures p net core in
    let takes = c.take_turn.new.takes in
    let none : (length takes.items == 0) ≡ true = sym (c.if-is_empty.ensures ∙ ap (λ n. n == 0) takes.ok.0) in
    (one.0, one.1, added_none c.args.events.now.items (turn net c.args.me) c.args.me takes.items one.2 none)

pub returns : goal.returns
returns g c = λ p net core.
    let one = c.in_ok-take_turn.ensures p net core in
    let takes = c.take_turn.new.takes in
    let some : (length takes.items == 0) ≡ false = sym (c.if-is_empty.ensures ∙ ap (λ n. n == 0) takes.ok.0) in (
      one.0,
      one.1,
      c.in_ok-push.ensures.items
          ∙ ap (λ (ts : List Take). let e : Event = record { agent = c.args.me; takes = ts } in c.args.events.now.items ++ e ∷ []) c.from_vec.ensures
          ∙ added_one c.args.events.now.items (turn net c.args.me) c.args.me takes.items one.2 some,
    )
