use Rattle.std.proofs.Common.{◌+◌, ◌≤◌, length, arith}
use Rattle.delivery_turns.specs.Sprints.{turn_share, round_room}
use Rattle.delivery_turns.proofs.KeptLaws.{still_noted}
use Rattle.delivery_turns.proofs.SprintLaws.{sprint_none, sprint_some, sprint_end, sprint_all}
use Rattle.delivery_turns.proofs.sprint.play_sprint.Goals as goal

pub loop-init : goal.loop-init
loop-init g c = (λ p net core. sprint_none p net c.args.state.now c.args.notes.now core, omega arith)

pub play_all-requires-clause-core : goal.play_all-requires-clause-core
play_all-requires-clause-core g c κs within =
    let n = c.requires.core in
    let h = c.loop.invariant.0 n.0 n.1 n.4 in
    let more = h.0.leads.more in
    let most = h.0.counted in
    let lt = c.loop-test.true in
    still_noted round_room (turn_share + 1) c.args.state.now c.loop.state c.args.notes.now c.loop.notes n h.0.events h.0.mid h.0.leads.is h.0.leads.core h.2 (omega (arith, more, most, lt))

pub play_all-requires-clause-few : goal.play_all-requires-clause-few
play_all-requires-clause-few g c κs within =
    let n = c.requires.core in
    let h = (c.loop.invariant.0 n.0 n.1 n.4).0 in
    let old = n.4.shows.size in
    let now = h.leads.core.shows.size in
    let few = c.requires.few in
    omega (arith, old, now, few)

pub returns-then-branch : goal.returns-then-branch
returns-then-branch g c = λ p net core.
    let lt = c.loop-test.true in
    let size = core.shows.size in
    let few : length p.sizes ≤ 1000 = let few = c.requires.few in omega (arith, size, few) in
    sprint_end p net c.loop.counter c.loop.state c.play_all.new.state c.args.notes.now c.loop.notes c.play_all.new.notes c.loop.still c.in_ok-play_all.field-0 few (omega (arith, lt)) c.if-branch.true (c.loop.invariant.0 p net core) c.in_ok-play_all.ensures

pub loop-preserved : goal.loop-preserved
loop-preserved g c = (
  λ p net core.
      let lt = c.loop-test.true in
      let size = core.shows.size in
      let few : length p.sizes ≤ 1000 = let few = c.requires.few in omega (arith, size, few) in
      sprint_some p net c.loop.counter c.loop.state c.play_all.new.state c.args.notes.now c.loop.notes c.play_all.new.notes c.loop.still c.in_ok-play_all.field-0 few (omega (arith, lt)) c.if-branch.false (c.loop.invariant.0 p net core) c.in_ok-play_all.ensures,
  let lt = c.loop-test.true in omega (arith, lt),
)

pub returns : goal.returns
returns g c = λ p net core.
    let done = c.loop-test.false in
    let most = c.loop.invariant.1 in
    sprint_all p net c.loop.counter c.loop.state c.args.notes.now c.loop.notes c.loop.still (omega (arith, done, most)) (c.loop.invariant.0 p net core)
