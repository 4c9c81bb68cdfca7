use Rattle.std.proofs.Common.{◌<◌, ◌+◌, ◌-◌, ◌∙◌, [], ◌∷◌, length, refl, sym, subst, arith}
use Rattle.node_exchange.specs.Faults.{IsByteFault, IsNoDifference}
use Rattle.node_exchange.proofs.LetterLaws.{all_same, all_same_then}
use Rattle.node_exchange.proofs.ReceiveLaws.{still_across}
use Rattle.node_exchange.proofs.ComeLaws.{next_row}
use Rattle.node_exchange.proofs.BusyLaws.{still_busy}
use Rattle.node_exchange.proofs.PassLaws.{err_on, nothing_on, fault_still, two_in_order, cause_on}
use Rattle.node_exchange.proofs.TurnLaws.{with_none, with_then, first_then, carried_on, turned_any, turned_long}
use Rattle.node_exchange.proofs.LoadLaws.{row_none, row_next, row_part, row_all}
use Rattle.node_exchange.specs.Turned.{load, row_loads, AreTurnedWith}
use Rattle.node_exchange.proofs.WholeLaws.{turned_back, fault_back}
use Rattle.node_exchange.proofs.pass.pass_from.Goals as goal

pub loop-second-init : goal.loop-second-init
loop-second-init g c = record {
  after = omega arith;
  same = all_same c.args.passings.now;
  within = let lt = c.requires.inside in omega (arith, lt);
  loads = subst (λ ls. AreTurnedWith g.D.W.Wire.told g.D.W.Wire.is_joined 0 ls c.args.wires.now.items c.args.wires.now.items) (sym (row_none c.args.first (c.args.first + 1) c.args.passings.now refl)) (with_none g.D.W.Wire.told g.D.W.Wire.is_joined 0 c.args.wires.now.items);
  faults = refl;
  dialer = λ d. d;
  wires_honest = λ h come. h;
  come = λ h come. come;
  carried = λ all come. come;
}

pub pass_pair-requires-clause-busy : goal.pass_pair-requires-clause-busy
pass_pair-requires-clause-busy g c κs within = still_busy c.args.passings.now c.loop-second.passings c.args.busy.0 c.args.busy.1 c.loop-second.invariant.same c.requires.busy

pub pass_pair-requires-clause-across : goal.pass_pair-requires-clause-across
pass_pair-requires-clause-across g c κs within = (c.args.nodes, still_across c.args.nodes c.args.passings.now c.loop-second.passings c.loop-second.invariant.same c.requires.across)

pub pass_pair-requires-clause-wires : goal.pass_pair-requires-clause-wires
pass_pair-requires-clause-wires g c =
    let i = c.loop-second.invariant in
    let after = i.after in
    let test = c.loop-second-test.true in
    let lt : 0 < length c.args.wires.now.items = c.requires.wires (omega (arith, after, test)) in
    let long = turned_long g.D.W.Wire.told g.D.W.Wire.is_joined c.args.wires.now.items c.loop-second.wires.items (_, i.loads) in
    omega (arith, lt, long)

pub returns-in_err-pass_pair-clause-same : goal.returns-in_err-pass_pair-clause-same
returns-in_err-pass_pair-clause-same g c = all_same_then c.args.passings.now c.loop-second.passings c.pass_pair.new.passings c.loop-second.invariant.same c.pass_pair.ensures.same

pub returns-in_err-pass_pair-clause-loads : goal.returns-in_err-pass_pair-clause-loads
returns-in_err-pass_pair-clause-loads g c =
    let i = c.loop-second.invariant in
    carried_on g.D.W.Wire.told g.D.W.Wire.is_joined c.from_residual.result _ _ c.args.wires.now.items c.pass_pair.new.wires.items c.from_residual.ensures.1
    (first_then g.D.W.Wire.told g.D.W.Wire.is_joined _ (row_loads c.args.first (c.loop-second.second - 1 - c.args.first) c.args.passings.now) (load c.args.first c.loop-second.second c.loop-second.passings ∷ []) (row_loads c.args.first (c.args.nodes - 1 - c.args.first) c.args.passings.now) c.args.wires.now.items c.loop-second.wires.items c.pass_pair.new.wires.items
    (row_part c.args.nodes c.args.first c.loop-second.second c.args.passings.now c.loop-second.passings i.same i.after c.loop-second-test.true) i.loads c.in_err-pass_pair.ensures.loads)

pub returns-in_err-pass_pair-clause-wires : goal.returns-in_err-pass_pair-clause-wires
returns-in_err-pass_pair-clause-wires g c = turned_any g.D.W.Wire.told g.D.W.Wire.is_joined c.from_residual.result _ c.args.wires.now.items c.pass_pair.new.wires.items (returns-in_err-pass_pair-clause-loads g c)

pub returns-in_err-pass_pair-clause-cause : goal.returns-in_err-pass_pair-clause-cause
returns-in_err-pass_pair-clause-cause g c = cause_on _ _ _ c.from_residual.result _ c.loop-second.invariant.faults c.from_residual.ensures.1 c.in_err-pass_pair.ensures.cause

pub returns-in_err-pass_pair-clause-dialer : goal.returns-in_err-pass_pair-clause-dialer
returns-in_err-pass_pair-clause-dialer g c = λ d. c.pass_pair.ensures.dialer (c.loop-second.invariant.dialer d)

pub returns-in_err-pass_pair-clause-differs : goal.returns-in_err-pass_pair-clause-differs
returns-in_err-pass_pair-clause-differs g c =
    let after = c.loop-second.invariant.after in
    err_on c.from_residual.result _ (IsByteFault c.args.nodes c.args.passings.now) c.from_residual.ensures.1
    (fault_still c.args.nodes c.args.passings.now c.loop-second.passings _ c.loop-second.invariant.same
    (c.in_err-pass_pair.ensures.differs c.args.nodes (two_in_order c.args.nodes c.args.first c.loop-second.second (omega (arith, after)) c.loop-second-test.true)))

pub returns-in_err-pass_pair-clause-honest : goal.returns-in_err-pass_pair-clause-honest
returns-in_err-pass_pair-clause-honest g c = λ h come.
    let i = c.loop-second.invariant in
    (nothing_on c.from_residual.result _ _ c.from_residual.ensures.1, err_on c.from_residual.result _ IsNoDifference c.from_residual.ensures.1 (c.in_err-pass_pair.ensures.honest (i.wires_honest h come) (i.come h come)).1)

pub returns-in_err-pass_pair-clause-carried : goal.returns-in_err-pass_pair-clause-carried
returns-in_err-pass_pair-clause-carried g c = λ all come. (
  nothing_on c.from_residual.result _ _ c.from_residual.ensures.1,
  err_on c.from_residual.result _ IsNoDifference c.from_residual.ensures.1
      (fault_back g.D.W.Wire.told g.D.W.Wire.is_joined _ c.loop-second.wires.items c.pass_pair.new.wires.items c.in_err-pass_pair.ensures.wires all
      (λ before. (c.in_err-pass_pair.ensures.carried all (c.loop-second.invariant.carried before come)).1)),
)

pub loop-second-preserved : goal.loop-second-preserved
loop-second-preserved g c =
    let i = c.loop-second.invariant in
    let after = i.after in
    record {
      after = omega (arith, after);
      same = all_same_then c.args.passings.now c.loop-second.passings c.pass_pair.new.passings i.same c.pass_pair.ensures.same;
      within = let test = c.loop-second-test.true in omega (arith, test);
      loads = subst (λ ls. AreTurnedWith g.D.W.Wire.told g.D.W.Wire.is_joined 0 ls c.args.wires.now.items c.pass_pair.new.wires.items) (row_next c.args.first c.loop-second.second c.args.passings.now c.loop-second.passings i.same after)
          (with_then g.D.W.Wire.told g.D.W.Wire.is_joined 0 _ _ c.args.wires.now.items c.loop-second.wires.items c.pass_pair.new.wires.items i.loads c.in_ok-pass_pair.ensures.loads);
      faults = c.in_ok-pass_pair.ensures.cause ∙ i.faults;
      dialer = λ d. c.pass_pair.ensures.dialer (i.dialer d);
      wires_honest = λ h come. (c.in_ok-pass_pair.ensures.honest (i.wires_honest h come) (i.come h come)).0.0;
      come = λ h come. (c.in_ok-pass_pair.ensures.honest (i.wires_honest h come) (i.come h come)).0.1;
      carried = λ all come.
          let before = turned_back g.D.W.Wire.told g.D.W.Wire.is_joined c.loop-second.wires.items c.pass_pair.new.wires.items c.in_ok-pass_pair.ensures.wires all in
          (c.in_ok-pass_pair.ensures.carried all (i.carried before come)).0;
    }

pub returns-clause-same : goal.returns-clause-same
returns-clause-same g c = c.loop-second.invariant.same

pub returns-clause-loads : goal.returns-clause-loads
returns-clause-loads g c =
    let i = c.loop-second.invariant in
    let test = c.loop-second-test.false in
    subst (λ ls. AreTurnedWith g.D.W.Wire.told g.D.W.Wire.is_joined 0 ls c.args.wires.now.items c.loop-second.wires.items) (row_all c.args.nodes c.args.first c.loop-second.second c.args.passings.now i.within (omega (arith, test))) i.loads

pub returns-clause-wires : goal.returns-clause-wires
returns-clause-wires g c = (_, c.loop-second.invariant.loads)

pub returns-clause-cause : goal.returns-clause-cause
returns-clause-cause g c = c.loop-second.invariant.faults

pub returns-clause-dialer : goal.returns-clause-dialer
returns-clause-dialer g c = c.loop-second.invariant.dialer

pub returns-clause-honest : goal.returns-clause-honest
returns-clause-honest g c = λ h come.
    let i = c.loop-second.invariant in
    let test = c.loop-second-test.false in (
      (i.wires_honest h come, next_row c.args.first c.loop-second.second c.args.nodes c.loop-second.passings (omega (arith, test)) (still_across c.args.nodes c.args.passings.now c.loop-second.passings i.same c.requires.across) (i.come h come)),
      tt,
    )

pub returns-clause-carried : goal.returns-clause-carried
returns-clause-carried g c = λ all come.
    let i = c.loop-second.invariant in
    let test = c.loop-second-test.false in
    (next_row c.args.first c.loop-second.second c.args.nodes c.loop-second.passings (omega (arith, test)) (still_across c.args.nodes c.args.passings.now c.loop-second.passings i.same c.requires.across) (i.carried all come), tt)
