use Rattle.std.proofs.Common.{ℕ, ◌+◌, ◌<◌, List, get_or, sym, ap, subst, ◌∙◌}
use Rattle.std.specs.List.{All, slice_set}
use Rattle.std.proofs.lemmas.List.{length-set}
use Rattle.protocol_steps.specs.declared.message.Message.{Message}
use Rattle.protocol_steps.specs.Step.{start_of}
use Rattle.protocol_steps.specs.Machine.{IsToNeighbour}
use Rattle.letter_queues.proofs.ListLaws.{on_ok}
use Rattle.delivery_core.specs.State.{SeatView}
use Rattle.delivery_core.specs.SeatEvents.{deliver_all}
use Rattle.delivery_core.specs.Starts.{Begun}
use Rattle.delivery_core.proofs.StartLaws.{agent_there, may_start, start_below, start_next}
use Rattle.delivery_core.proofs.start.start_one.Goals as goal

pub begin-requires : goal.begin-requires
begin-requires c =
    let n = c.requires.begun in
    let here = agent_there c.args.seats.now c.args.me c.index-seats-me.result c.requires.inside in
    may_start n.0 n.1 c.args.me c.args.seats.now n.2 _ here

pub post-requires : goal.post-requires
post-requires c =
    let n = c.requires.begun in
    let here = agent_there c.args.seats.now c.args.me c.index-seats-me.result c.requires.inside in
    subst (λ (m : ℕ). All (λ (q : ℕ × Message). q.0 < m) c.begin.new.parcels.items) (sym (length-set c.args.seats.now c.args.me c.begin.new.self))
    (start_below n.0 n.1 c.args.me c.args.seats.now n.2 _ here c.begin.new.parcels.items c.in_ok-begin.ensures.receivers)

pub returns-clause-started : goal.returns-clause-started
returns-clause-started c =
    let x : SeatView = get_or c.args.seats.now c.args.me c.index-seats-me.result in
    let here = agent_there c.args.seats.now c.args.me c.index-seats-me.result c.requires.inside in
    on_ok c.post.result c.post.ensures.came (λ new. λ p made b.
    let reach = subst (λ (ms : List (ℕ × Message)). All (IsToNeighbour x.view) ms) c.in_ok-begin.ensures.sends c.in_ok-begin.ensures.receivers in
    let is = new
    ∙ ap (λ (y : SeatView). deliver_all c.args.me (slice_set c.args.seats.now c.args.me y) c.begin.new.parcels.items) c.in_ok-begin.ensures.view
    ∙ ap (λ (ms : List (ℕ × Message)). deliver_all c.args.me (slice_set c.args.seats.now c.args.me (record x { view = (start_of x.view).view })) ms) c.in_ok-begin.ensures.sends in
    subst (λ (xs : List SeatView). Begun p made (c.args.me + 1) xs) (sym is) (start_next p made c.args.me c.args.seats.now b x here reach))
