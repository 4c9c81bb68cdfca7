use Rattle.std.proofs.Common.{◌≡◌, ◌<◌, ◌+◌, ◌-◌, ◌++◌, ℕ, suc, List, map, take, drop, length, get_or, replicate, ap, ◌∙◌, arith}
use Rattle.std.specs.List.{slice_set}
use Rattle.delivery_core.specs.State.{count_waiting}
use Rattle.log_replay.specs.Queues.{QueueView, filled}
use Rattle.log_replay.proofs.QueueLaws.{filled_more, unfilled_at}
use Rattle.log_replay.proofs.row.fill_all.Goals as goal

pub loop-queue-preserved : goal.loop-queue-preserved
loop-queue-preserved c =
    let core = c.args.core.now in
    let from : ℕ = c.args.from in
    let stamp : ℕ = c.args.stamp in
    let row : List QueueView = c.args.queues.now in
    let k : ℕ = c.loop-queue.queue-index in
    let q : QueueView = get_or c.loop-queue.queues k c.queue-item.result in
    let lt : k < length row = omega (arith, c.loop-queue-test.true, c.loop-queue.auto.queue-index-end) in
    let here : q ≡ get_or row k c.queue-item.result = ap (λ (qs : List QueueView). get_or qs k c.queue-item.result) c.loop-queue.invariant ∙ unfilled_at core from stamp row k c.queue-item.result lt in
    let count : c.waiting.result ≡ count_waiting core q.to from = c.waiting.ensures.count ∙ ap (λ (n : ℕ). count_waiting core n from) c.to.ensures in
    let new : c.fill.new.self ≡ filled core from stamp q =
    c.in_ok-fill.ensures ∙ ap (λ (n : ℕ). let r : QueueView = record { to = q.to; stamps = q.stamps ++ replicate (n - length q.stamps) stamp } in r) count in
    ap (λ (qs : List QueueView). slice_set qs k c.fill.new.self) c.loop-queue.invariant
    ∙ ap (λ (r : QueueView). slice_set (map (filled core from stamp) (take k row) ++ drop k row) k r) (new ∙ ap (filled core from stamp) here)
    ∙ filled_more core from stamp row k c.queue-item.result lt
    ∙ (let e : suc k ≡ k + 1 = omega arith in ap (λ (n : ℕ). map (filled core from stamp) (take n row) ++ drop n row) e)
