use Rattle.std.proofs.Common.{◌≤◌, ◌+◌, not, length, Some, None, sym, ap, subst, ◌∙◌, arith}
use Rattle.std.proofs.lemmas.Result.{err_from_is_err_and}
use Rattle.dcop_base.specs.Limits.{amount_limit}
use Rattle.run_log.specs.declared.log.LogEvent.{LogEvent}
use Rattle.delivery_core.specs.Agents.{agents_of, network_of}
use Rattle.delivery_core.proofs.RunLaws.{is_state}
use Rattle.log_replay.specs.declared.wrong.Moment.{Moment}
use Rattle.log_replay.specs.Queues.{StampsView}
use Rattle.log_replay.specs.Wrong.{moment_of}
use Rattle.log_replay.specs.Steps.{Replayed}
use Rattle.log_replay.proofs.ReplayLaws.{none_is, some_is, named_so, replayed_none, play_refused, agent_in_last, agent_in_rows, senders_in_rows, right_in_count, replayed_more, replayed_next, ran_all, all_right}
use Rattle.log_replay.proofs.replaying.replay_log.Goals.{then-is_none+in_ok-found, else-is_none}
use Rattle.log_replay.proofs.replaying.replay_log.Goals as goal

pub loop-at-init : goal.loop-at-init
loop-at-init c =
    let p = c.args.problem.now in
    subst (λ (v : StampsView). Replayed p (network_of p c.args.start.now) c.args.log.now 0 c.in_ok-core.core v None None) (sym c.in_ok-stamps.ensures)
    (replayed_none p (agents_of p c.args.start.now) c.args.log.now c.in_ok-core.core c.in_ok-core.ensures.core)

pub returns-in_err-play-clause-end : goal.returns-in_err-play-clause-end
returns-in_err-play-clause-end c =
    let p = err_from_is_err_and c.from_residual-in_err-play.result c.from_residual-in_err-play.ensures.1 in
    rw (p.1, p.2)
    (play_refused c.args.problem.now (network_of c.args.problem.now c.args.start.now) c.args.log.now c.loop-at.at c.loop-at.core c.play.new.core c.loop-at.stamps c.loop-at.stamps c.loop-at.before c.loop-at.found c.loop-at.found c.index-log-at.result c.loop-at.invariant
    c.loop-at-test.true c.index-log-at.is c.in_err-play.field-0.0 c.in_err-play.ensures)

pub follow-requires-clause-agent : goal.follow-requires-clause-agent
follow-requires-clause-agent c =
    agent_in_last c.args.problem.now (network_of c.args.problem.now c.args.start.now) c.args.log.now c.loop-at.at c.loop-at.core c.play.new.core c.loop-at.stamps c.loop-at.stamps c.loop-at.before c.loop-at.found c.loop-at.found c.index-log-at.result c.loop-at.invariant
    c.loop-at-test.true c.index-log-at.is (none_is c.loop-at.found (c.is_none.ensures ∙ ap not c.if-is_none.true)) c.in_ok-play.ensures

pub follow-requires-clause-row : goal.follow-requires-clause-row
follow-requires-clause-row c =
    agent_in_rows c.args.problem.now (network_of c.args.problem.now c.args.start.now) c.args.log.now c.loop-at.at c.loop-at.core c.play.new.core c.loop-at.stamps c.loop-at.stamps c.loop-at.before c.loop-at.found c.loop-at.found c.index-log-at.result c.loop-at.invariant
    c.loop-at-test.true c.index-log-at.is (none_is c.loop-at.found (c.is_none.ensures ∙ ap not c.if-is_none.true)) c.in_ok-play.ensures

pub follow-requires-clause-senders : goal.follow-requires-clause-senders
follow-requires-clause-senders c =
    senders_in_rows c.args.problem.now (network_of c.args.problem.now c.args.start.now) c.args.log.now c.loop-at.at c.loop-at.core c.play.new.core c.loop-at.stamps c.loop-at.stamps c.loop-at.before c.loop-at.found c.loop-at.found c.index-log-at.result c.loop-at.invariant
    c.loop-at-test.true c.index-log-at.is (none_is c.loop-at.found (c.is_none.ensures ∙ ap not c.if-is_none.true)) c.in_ok-play.ensures

pub follow-requires-clause-few : goal.follow-requires-clause-few
follow-requires-clause-few c =
    right_in_count c.args.problem.now (network_of c.args.problem.now c.args.start.now) c.args.log.now c.loop-at.at c.loop-at.core c.play.new.core c.loop-at.stamps c.loop-at.stamps c.loop-at.before c.loop-at.found c.loop-at.found c.index-log-at.result c.loop-at.invariant
    c.loop-at-test.true c.index-log-at.is (none_is c.loop-at.found (c.is_none.ensures ∙ ap not c.if-is_none.true)) c.in_ok-play.ensures

pub loop-at-preserved : goal.loop-at-preserved
loop-at-preserved c =
    let p = c.args.problem.now in
    let first = network_of c.args.problem.now c.args.start.now in
    let log = c.args.log.now in
    let e = c.index-log-at.result in
    let behind = ap (λ (m : Moment). Some m) c.of.ensures in
    let small : e.stamp ≤ amount_limit = subst (λ (x : LogEvent). x.stamp ≤ amount_limit) (sym c.index-log-at.is) (c.requires.stamps c.loop-at.at e c.loop-at-test.true) in
    elim c.if-is_none.branch [
      | then-is_none+in_ok-found w ↦
          named_so p first log (c.loop-at.at + 1) c.play.new.core w.follow.new.stamps c.if-is_none.stamps (Some (moment_of e)) (Some c.of.result) w.in_ok-found.found c.if-is_none.found w.stamps-is behind w.found-is
          (replayed_next p first log c.loop-at.at c.loop-at.core c.play.new.core c.loop-at.stamps w.follow.new.stamps c.loop-at.before c.loop-at.found w.in_ok-found.found e c.loop-at.invariant
          c.loop-at-test.true c.index-log-at.is (none_is c.loop-at.found (c.is_none.ensures ∙ ap not w.if-is_none.true)) c.in_ok-play.ensures small w.in_ok-found.ensures)
      | else-is_none w ↦ (let wrong = some_is c.loop-at.found (c.is_none.ensures ∙ ap not w.if-is_none.false) in
          named_so p first log (c.loop-at.at + 1) c.play.new.core c.loop-at.stamps c.if-is_none.stamps (Some (moment_of e)) (Some c.of.result) c.loop-at.found c.if-is_none.found w.stamps-is behind w.found-is
          (replayed_more p first log c.loop-at.at c.loop-at.core c.play.new.core c.loop-at.stamps c.loop-at.stamps c.loop-at.before c.loop-at.found c.loop-at.found e c.loop-at.invariant c.loop-at-test.true c.index-log-at.is wrong.0 wrong.1 c.in_ok-play.ensures))
    ]

pub returns-in-None-clause-end : goal.returns-in-None-clause-end
returns-in-None-clause-end c =
    let p = c.args.problem.now in
    let first = network_of c.args.problem.now c.args.start.now in
    let was = c.loop-at.invariant in
    let past : length c.args.log.now ≤ c.loop-at.at = omega arith in (
      was.net,
      ran_all p first c.args.log.now c.loop-at.at c.loop-at.core c.loop-at.stamps c.loop-at.before c.loop-at.found was past,
      all_right p first c.args.log.now c.loop-at.at c.loop-at.core c.loop-at.stamps c.loop-at.before c.loop-at.found was past c.in-None.is,
      is_state p was.net c.loop-at.core was.core_is,
    )
