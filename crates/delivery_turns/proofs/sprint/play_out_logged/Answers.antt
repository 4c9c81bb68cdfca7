use Rattle.std.proofs.Common.{[], arith}
use Rattle.delivery_core.specs.Agents.{agents_of, network_of}
use Rattle.delivery_turns.proofs.PlayedOutLaws.{noted-some, have-played}
use Rattle.delivery_turns.proofs.sprint.play_out_logged.Goals as goal

pub play_sprints-requires-clause-core : goal.play_sprints-requires-clause-core
play_sprints-requires-clause-core g c κs within =
    let p = c.args.problem.now in
    let start = c.args.start.now in
    let core = c.in_ok-state.ensures.core in
    (p, network_of p start, agents_of p start, [], core, c.in_ok-notes.ensures.notes (agents_of p start) core, let few = c.requires.budget in omega (arith, few))

pub log_of-requires : goal.log_of-requires
log_of-requires g c =
    let p = c.args.problem.now in
    noted-some p c.args.budget (agents_of p c.args.start.now) c.in_ok-state.state c.play_sprints.new.state c.in_ok-notes.notes c.play_sprints.new.notes c.in_ok-state.ensures.core c.in_ok-notes.ensures.notes c.in_ok-play_sprints.ensures
    c.problem_is_whole.ensures.few

pub outcome_of-requires : goal.outcome_of-requires
outcome_of-requires g c =
    let p = c.args.problem.now in
    let out = c.in_ok-play_sprints.ensures p (network_of p c.args.start.now) c.in_ok-state.ensures.core in
    let size = out.5.shows.size in
    let some = c.problem_is_whole.ensures.some in
    omega (arith, size, some)

pub returns : goal.returns
returns g c =
    let p = c.args.problem.now in
    have-played p c.args.budget (agents_of p c.args.start.now) c.in_ok-state.state c.play_sprints.new.state c.in_ok-notes.notes c.play_sprints.new.notes c.in_ok-state.ensures.core c.in_ok-notes.ensures.notes c.in_ok-play_sprints.ensures
    c.args.certified _ c.requires.budget c.in_ok-notes.ensures.asked c.in_ok-outcome.ensures c.in_ok-log.ensures.asked c.in_ok-log.ensures.log
