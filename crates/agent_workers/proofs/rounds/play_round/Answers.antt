use Rattle.std.proofs.Common.{length, max, ap, ◌∙◌, arith}
use Rattle.worker_laws.specs.OneNode.{home}
use Rattle.agent_workers.proofs.SettleLaws.{settling}
use Rattle.agent_workers.proofs.TurnLaws.{one_part_size, turn_round}
use Rattle.agent_workers.proofs.SharedLaws.{workers_hold, shared_round}
use Rattle.std.proofs.lemmas.Result.{IfOk-weaker, IfErr-weaker}
use Rattle.agent_workers.proofs.BreakLaws.{round_left}
use Rattle.agent_workers.proofs.RoundLaws.{sound_from, ready_mid, joined_after, begun_from, same_after, made}
use Rattle.agent_workers.proofs.rounds.play_round.Goals as goal

pub settle_all-waiting-requires-clause-sound : goal.settle_all-waiting-requires-clause-sound
settle_all-waiting-requires-clause-sound g c = sound_from (λ b. (goal.Machine-dyn g (b.vtable, b.value)).meaning b.value) c.args.cells.now c.requires.begun

pub play_cells-requires-clause-ready : goal.play_cells-requires-clause-ready
play_cells-requires-clause-ready g c κs within = ready_mid (λ b. (goal.Machine-dyn g (b.vtable, b.value)).meaning b.value) c.args.nodes c.args.cells.now c.settle_all-waiting.new.cells c.requires.joined c.requires.begun c.settle_all-waiting.ensures.settled.quiet

pub play_cells-requires-clause-few : goal.play_cells-requires-clause-few
play_cells-requires-clause-few g c κs within = let few = c.requires.joined.few in let size = c.settle_all-waiting.ensures.settled.quiet.size in omega (arith, few, size)

pub returns-clause-joined : goal.returns-clause-joined
returns-clause-joined g c = joined_after (λ b. (goal.Machine-dyn g (b.vtable, b.value)).meaning b.value) c.args.nodes c.args.cells.now c.settle_all-waiting.new.cells c.play_cells.new.cells c.requires.joined c.settle_all-waiting.ensures.settled.quiet c.play_cells.ensures.ready

pub returns-clause-begun : goal.returns-clause-begun
returns-clause-begun g c = begun_from (λ b. (goal.Machine-dyn g (b.vtable, b.value)).meaning b.value) c.settle_all-waiting.new.cells c.play_cells.new.cells c.play_cells.ensures.ready

pub returns-clause-round : goal.returns-clause-round
returns-clause-round g c = IfOk-weaker c.play_cells.result _ _ (λ n m. m.round) (made (λ b. (goal.Machine-dyn g (b.vtable, b.value)).meaning b.value) c.args.nodes c.play_cells.result c.args.cells.now c.settle_all-waiting.new.cells c.play_cells.new.cells c.settle_all-waiting.ensures.settled c.play_cells.ensures.ok)

pub returns-clause-counted : goal.returns-clause-counted
returns-clause-counted g c = IfOk-weaker c.play_cells.result _ _ (λ n m. m.counted) (made (λ b. (goal.Machine-dyn g (b.vtable, b.value)).meaning b.value) c.args.nodes c.play_cells.result c.args.cells.now c.settle_all-waiting.new.cells c.play_cells.new.cells c.settle_all-waiting.ensures.settled c.play_cells.ensures.ok)

pub returns-clause-most : goal.returns-clause-most
returns-clause-most g c = IfOk-weaker c.play_cells.result _ _ (λ n m. m.most) (made (λ b. (goal.Machine-dyn g (b.vtable, b.value)).meaning b.value) c.args.nodes c.play_cells.result c.args.cells.now c.settle_all-waiting.new.cells c.play_cells.new.cells c.settle_all-waiting.ensures.settled c.play_cells.ensures.ok)

pub returns-clause-fine : goal.returns-clause-fine
returns-clause-fine g c = IfOk-weaker c.play_cells.result _ _ (λ n m. m.fine) (made (λ b. (goal.Machine-dyn g (b.vtable, b.value)).meaning b.value) c.args.nodes c.play_cells.result c.args.cells.now c.settle_all-waiting.new.cells c.play_cells.new.cells c.settle_all-waiting.ensures.settled c.play_cells.ensures.ok)

pub returns-clause-same : goal.returns-clause-same
returns-clause-same g c = same_after (λ b. (goal.Machine-dyn g (b.vtable, b.value)).meaning b.value) c.args.cells.now c.settle_all-waiting.new.cells c.play_cells.new.cells c.settle_all-waiting.ensures.settled.quiet c.play_cells.ensures.ready

pub returns-clause-left : goal.returns-clause-left
returns-clause-left g c = IfErr-weaker c.play_cells.result _ _ (λ f left. round_left (λ b. (goal.Machine-dyn g (b.vtable, b.value)).meaning b.value) f c.args.workers c.args.cells.now c.settle_all-waiting.new.cells c.play_cells.new.cells c.settle_all-waiting.ensures.settled.quiet left)
    (c.play_cells.ensures.left c.args.workers c.requires.workers (let size = c.settle_all-waiting.ensures.settled.quiet.size in let hold = workers_hold c.args.workers c.part_size-size.result (length c.args.cells.now) c.max-size.result c.requires.workers (c.max-size.ensures ∙ ap (λ n. max n 1) c.div_ceil.ensures) c.part_size-size.ensures.least in omega (arith, size, hold)))

pub returns-clause-turns : goal.returns-clause-turns
returns-clause-turns g c one =
    turn_round (λ b. (goal.Machine-dyn g (b.vtable, b.value)).meaning b.value) (home c.args.nodes (length c.args.cells.now)) c.args.cells.now c.settle_all-waiting.new.cells c.play_cells.new.cells c.play_cells.result (settling (λ b. (goal.Machine-dyn g (b.vtable, b.value)).meaning b.value) (home c.args.nodes (length c.args.cells.now)) c.args.cells.now c.settle_all-waiting.new.cells c.settle_all-waiting.ensures.settled)
    (c.play_cells.ensures.turns (let size = c.settle_all-waiting.ensures.settled.quiet.size in let all = one_part_size c.max-size.result (length c.args.cells.now) c.args.workers one (c.max-size.ensures ∙ ap (λ n. max n 1) c.div_ceil.ensures) in let more = c.part_size-size.ensures.least in omega (arith, size, all, more)))

pub returns-clause-parts : goal.returns-clause-parts
returns-clause-parts g c =
    shared_round (λ b. (goal.Machine-dyn g (b.vtable, b.value)).meaning b.value) c.args.workers c.max-size.result c.part_size-size.result (home c.args.nodes (length c.args.cells.now)) c.args.cells.now c.settle_all-waiting.new.cells c.play_cells.new.cells c.play_cells.result c.requires.workers
    c.settle_all-waiting.ensures.settled.quiet (settling (λ b. (goal.Machine-dyn g (b.vtable, b.value)).meaning b.value) (home c.args.nodes (length c.args.cells.now)) c.args.cells.now c.settle_all-waiting.new.cells c.settle_all-waiting.ensures.settled)
    (c.max-size.ensures ∙ ap (λ n. max n 1) c.div_ceil.ensures) c.part_size-size.ensures.least c.play_cells.ensures.parts
