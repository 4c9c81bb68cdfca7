use Rattle.std.proofs.Common.{◌≡◌, ◌<◌, ◌+◌, ◌-◌, ◌∙◌, refl, sym, subst, arith}
use Rattle.node_exchange.specs.Faults.{IsByteFault, IsNoDifference}
use Rattle.node_exchange.specs.Passings.{HaveCome}
use Rattle.node_exchange.proofs.LetterLaws.{all_same, all_same_then}
use Rattle.node_exchange.proofs.ReceiveLaws.{still_across}
use Rattle.node_exchange.proofs.ComeLaws.{none_come, all_come}
use Rattle.node_exchange.proofs.BusyLaws.{still_busy}
use Rattle.node_exchange.proofs.PassLaws.{err_on, nothing_on, fault_still, cause_on}
use Rattle.node_exchange.proofs.TurnLaws.{with_none, with_then, first_then, carried_on, turned_any, turned_long}
use Rattle.node_exchange.proofs.LoadLaws.{rows_next, rows_part, rows_all}
use Rattle.node_exchange.specs.Turned.{row_loads, loads_of, loads, AreTurnedWith}
use Rattle.node_exchange.proofs.WholeLaws.{turned_back, fault_back}
use Rattle.node_exchange.proofs.pass.pass_all.Goals as goal

pub loop-first-init : goal.loop-first-init
loop-first-init g c = record {
  same = all_same c.args.passings.now;
  within = omega arith;
  loads = with_none g.D.W.Wire.told g.D.W.Wire.is_joined 0 c.args.wires.now.items;
  faults = refl;
  dialer = λ d. d;
  wires_honest = λ h none. h;
  come = λ h none. none_come c.args.passings.now none;
  carried = λ all none. none_come c.args.passings.now none;
}

pub pass_from-requires-clause-busy : goal.pass_from-requires-clause-busy
pass_from-requires-clause-busy g c κs within = still_busy c.args.passings.now c.loop-first.passings c.busy_part-busy.result.0 c.busy_part-busy.result.1 c.loop-first.invariant.same c.busy_part-busy.ensures

pub pass_from-requires-clause-across : goal.pass_from-requires-clause-across
pass_from-requires-clause-across g c κs within = still_across c.args.nodes c.args.passings.now c.loop-first.passings c.loop-first.invariant.same c.requires.across

pub pass_from-requires-clause-wires : goal.pass_from-requires-clause-wires
pass_from-requires-clause-wires g c κs within = λ many. subst (λ n. 0 < n) (sym (turned_long g.D.W.Wire.told g.D.W.Wire.is_joined c.args.wires.now.items c.loop-first.wires.items (_, c.loop-first.invariant.loads))) (c.requires.wires many)

pub returns-in_err-pass_from-clause-same : goal.returns-in_err-pass_from-clause-same
returns-in_err-pass_from-clause-same g c = all_same_then c.args.passings.now c.loop-first.passings c.pass_from.new.passings c.loop-first.invariant.same c.pass_from.ensures.same

pub returns-in_err-pass_from-clause-loads : goal.returns-in_err-pass_from-clause-loads
returns-in_err-pass_from-clause-loads g c =
    let i = c.loop-first.invariant in
    carried_on g.D.W.Wire.told g.D.W.Wire.is_joined c.from_residual.result _ _ c.args.wires.now.items c.pass_from.new.wires.items c.from_residual.ensures.1
    (first_then g.D.W.Wire.told g.D.W.Wire.is_joined _ (loads_of c.args.nodes c.loop-first.first c.args.passings.now) (row_loads c.loop-first.first (c.args.nodes - 1 - c.loop-first.first) c.loop-first.passings) (loads c.args.nodes c.args.passings.now) c.args.wires.now.items c.loop-first.wires.items c.pass_from.new.wires.items
    (rows_part c.args.nodes c.loop-first.first c.args.passings.now c.loop-first.passings i.same c.loop-first-test.true) i.loads c.in_err-pass_from.ensures.loads)

pub returns-in_err-pass_from-clause-wires : goal.returns-in_err-pass_from-clause-wires
returns-in_err-pass_from-clause-wires g c = turned_any g.D.W.Wire.told g.D.W.Wire.is_joined c.from_residual.result _ c.args.wires.now.items c.pass_from.new.wires.items (returns-in_err-pass_from-clause-loads g c)

pub returns-in_err-pass_from-clause-cause : goal.returns-in_err-pass_from-clause-cause
returns-in_err-pass_from-clause-cause g c = cause_on _ _ _ c.from_residual.result _ c.loop-first.invariant.faults c.from_residual.ensures.1 c.in_err-pass_from.ensures.cause

pub returns-in_err-pass_from-clause-dialer : goal.returns-in_err-pass_from-clause-dialer
returns-in_err-pass_from-clause-dialer g c = λ d. c.pass_from.ensures.dialer (c.loop-first.invariant.dialer d)

pub returns-in_err-pass_from-clause-differs : goal.returns-in_err-pass_from-clause-differs
returns-in_err-pass_from-clause-differs g c =
    err_on c.from_residual.result _ (IsByteFault c.args.nodes c.args.passings.now) c.from_residual.ensures.1 (fault_still c.args.nodes c.args.passings.now c.loop-first.passings _ c.loop-first.invariant.same c.in_err-pass_from.ensures.differs)

pub returns-in_err-pass_from-clause-honest : goal.returns-in_err-pass_from-clause-honest
returns-in_err-pass_from-clause-honest g c = λ h none.
    let i = c.loop-first.invariant in
    (nothing_on c.from_residual.result _ _ c.from_residual.ensures.1, err_on c.from_residual.result _ IsNoDifference c.from_residual.ensures.1 (c.in_err-pass_from.ensures.honest (i.wires_honest h none) (i.come h none)).1)

pub returns-in_err-pass_from-clause-carried : goal.returns-in_err-pass_from-clause-carried
returns-in_err-pass_from-clause-carried g c = λ all none. (
  nothing_on c.from_residual.result _ _ c.from_residual.ensures.1,
  err_on c.from_residual.result _ IsNoDifference c.from_residual.ensures.1
      (fault_back g.D.W.Wire.told g.D.W.Wire.is_joined _ c.loop-first.wires.items c.pass_from.new.wires.items c.in_err-pass_from.ensures.wires all
      (λ before. (c.in_err-pass_from.ensures.carried all (c.loop-first.invariant.carried before none)).1)),
)

pub loop-first-preserved : goal.loop-first-preserved
loop-first-preserved g c =
    let i = c.loop-first.invariant in
    let next : c.loop-first.first + 1 + 1 ≡ c.loop-first.first + 2 = omega arith in
    record {
      same = all_same_then c.args.passings.now c.loop-first.passings c.pass_from.new.passings i.same c.pass_from.ensures.same;
      within = let test = c.loop-first-test.true in omega (arith, test);
      loads = subst (λ ls. AreTurnedWith g.D.W.Wire.told g.D.W.Wire.is_joined 0 ls c.args.wires.now.items c.pass_from.new.wires.items) (rows_next c.args.nodes c.loop-first.first c.args.passings.now c.loop-first.passings i.same)
          (with_then g.D.W.Wire.told g.D.W.Wire.is_joined 0 _ _ c.args.wires.now.items c.loop-first.wires.items c.pass_from.new.wires.items i.loads c.in_ok-pass_from.ensures.loads);
      faults = c.in_ok-pass_from.ensures.cause ∙ i.faults;
      dialer = λ d. c.pass_from.ensures.dialer (i.dialer d);
      wires_honest = λ h none. (c.in_ok-pass_from.ensures.honest (i.wires_honest h none) (i.come h none)).0.0;
      come = λ h none. subst (λ n. HaveCome (c.loop-first.first + 1) n c.pass_from.new.passings) (sym next) (c.in_ok-pass_from.ensures.honest (i.wires_honest h none) (i.come h none)).0.1;
      carried = λ all none.
          let before = turned_back g.D.W.Wire.told g.D.W.Wire.is_joined c.loop-first.wires.items c.pass_from.new.wires.items c.in_ok-pass_from.ensures.wires all in
          subst (λ n. HaveCome (c.loop-first.first + 1) n c.pass_from.new.passings) (sym next) (c.in_ok-pass_from.ensures.carried all (i.carried before none)).0;
    }

pub returns-clause-same : goal.returns-clause-same
returns-clause-same g c = c.loop-first.invariant.same

pub returns-clause-loads : goal.returns-clause-loads
returns-clause-loads g c =
    let i = c.loop-first.invariant in
    let test = c.loop-first-test.false in
    subst (λ ls. AreTurnedWith g.D.W.Wire.told g.D.W.Wire.is_joined 0 ls c.args.wires.now.items c.loop-first.wires.items) (rows_all c.args.nodes c.loop-first.first c.args.passings.now i.within (omega (arith, test))) i.loads

pub returns-clause-wires : goal.returns-clause-wires
returns-clause-wires g c = (_, c.loop-first.invariant.loads)

pub returns-clause-cause : goal.returns-clause-cause
returns-clause-cause g c = c.loop-first.invariant.faults

pub returns-clause-dialer : goal.returns-clause-dialer
returns-clause-dialer g c = c.loop-first.invariant.dialer

pub returns-clause-honest : goal.returns-clause-honest
returns-clause-honest g c = λ h none.
    let i = c.loop-first.invariant in
    let test = c.loop-first-test.false in (
      (i.wires_honest h none, all_come c.loop-first.first c.args.nodes c.loop-first.passings (omega (arith, test)) (still_across c.args.nodes c.args.passings.now c.loop-first.passings i.same c.requires.across) (i.come h none)),
      tt,
    )

pub returns-clause-carried : goal.returns-clause-carried
returns-clause-carried g c = λ all none.
    let i = c.loop-first.invariant in
    let test = c.loop-first-test.false in
    (all_come c.loop-first.first c.args.nodes c.loop-first.passings (omega (arith, test)) (still_across c.args.nodes c.args.passings.now c.loop-first.passings i.same c.requires.across) (i.carried all none), tt)
