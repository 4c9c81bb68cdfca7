use Rattle.std.proofs.Common.{◌+◌, sym, ap, refl, ◌∙◌, arith}
use Rattle.std.specs.String.{string_bytes}
use Rattle.trace_text.proofs.PlayLaws.{advances_so, refuses_so, is_quiet, is_aloud, played_quietly, played_aloud, played_named, played_all, refused}
use Rattle.trace_text.proofs.tracing.write_events.Goals.{then-number-from+in_ok-found, else-number-from+in_ok-found-2}
use Rattle.trace_text.proofs.tracing.write_events.Goals as goal

pub play-requires : goal.play-requires
play-requires c =
    let some = c.requires in
    let was = c.loop-at.invariant some.0 some.1 some.2 in
    (some.0, was.net, was.core_is)

pub tell-requires : goal.tell-requires
tell-requires c =
    let some = c.requires in
    let was = c.loop-at.invariant some.0 some.1 some.2 in
    (some.0, was.net, was.core_is)

pub returns-in-Some : goal.returns-in-Some
returns-in-Some c p net is =
    let was = c.loop-at.invariant p net is in
    let e = c.index-log-at.result in (
      c.loop-at.at,
      refl,
      elim c.if-number-from.branch [
        | then-number-from+in_ok-found w ↦
            refused p net c.args.names.now c.args.from c.args.log.now (string_bytes c.args.text.now) c.loop-at.at c.loop-at.core w.play.new.core e (string_bytes c.loop-at.text) was c.loop-at-test.true c.index-log-at.is c.in-Some.fault
            (refuses_so c.loop-at.core w.play.new.core e w.in_ok-found.found c.in-Some.fault (sym w.found-is ∙ c.in-Some.is) w.in_ok-found.ensures)
        | else-number-from+in_ok-found-2 w ↦
            refused p net c.args.names.now c.args.from c.args.log.now (string_bytes c.args.text.now) c.loop-at.at c.loop-at.core w.tell.new.core e (string_bytes c.loop-at.text) was c.loop-at-test.true c.index-log-at.is c.in-Some.fault
            (refuses_so c.loop-at.core w.tell.new.core e w.in_ok-found-2.found c.in-Some.fault (sym w.found-is ∙ c.in-Some.is) w.in_ok-found-2.ensures.plays)
      ],
    )

pub loop-at-preserved : goal.loop-at-preserved
loop-at-preserved c p net is =
    let was = c.loop-at.invariant p net is in
    let e = c.index-log-at.result in
    let old = string_bytes c.args.text.now in
    elim c.if-number-from.branch [
      | then-number-from+in_ok-found w ↦
          played_named p net c.args.names.now c.args.from c.args.log.now old (c.loop-at.at + 1) w.play.new.core c.if-number-from.core (string_bytes c.loop-at.text) (string_bytes c.if-number-from.text) w.core-is (ap string_bytes w.text-is)
          (played_quietly p net c.args.names.now c.args.from c.args.log.now old c.loop-at.at c.loop-at.core w.play.new.core e (string_bytes c.loop-at.text) was c.loop-at-test.true c.index-log-at.is
          (advances_so c.loop-at.core w.play.new.core e w.in_ok-found.found (sym w.found-is ∙ c.in_default.is) w.in_ok-found.ensures)
          (is_quiet c.args.from (c.loop-at.at + 1) w.if-number-from.true))
      | else-number-from+in_ok-found-2 w ↦
          played_named p net c.args.names.now c.args.from c.args.log.now old (c.loop-at.at + 1) w.tell.new.core c.if-number-from.core (string_bytes w.tell.new.text) (string_bytes c.if-number-from.text) w.core-is (ap string_bytes w.text-is)
          (played_aloud p net c.args.names.now c.args.from c.args.log.now old c.loop-at.at c.loop-at.core w.tell.new.core e (string_bytes c.loop-at.text) was c.loop-at-test.true c.index-log-at.is (string_bytes w.tell.new.text)
          (advances_so c.loop-at.core w.tell.new.core e w.in_ok-found-2.found (sym w.found-is ∙ c.in_default.is) w.in_ok-found-2.ensures.plays)
          (is_aloud c.args.from (c.loop-at.at + 1) w.if-number-from.false)
          (w.in_ok-found-2.ensures.tells (sym w.found-is ∙ c.in_default.is)))
    ]

pub returns : goal.returns
returns c p net is =
    played_all p net c.args.names.now c.args.from c.args.log.now (string_bytes c.args.text.now) c.loop-at.at c.loop-at.core (string_bytes c.loop-at.text) (c.loop-at.invariant p net is) (omega (arith, c.loop-at-test.false))
