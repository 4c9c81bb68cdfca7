use Rattle.std.proofs.Common.{List, Option, length, ap, subst, ◌∙◌, arith}
use Rattle.dcop_base.specs.Table.{CostTable, IsTable}
use Rattle.dpop_agent.specs.declared.made.Made.{Made}
use Rattle.dpop_agent.specs.Joint.{IsJoint}
use Rattle.dpop_agent.specs.Remade.{sent_of, with_sent}
use Rattle.dpop_agent.proofs.CellLaws.{projects}
use Rattle.dpop_agent.proofs.RemakeLaws.{counts, sent_keeper}
use Rattle.dpop_agent.proofs.made.remake.Goals as goal

pub returns-in_err-sent-clause-within : goal.returns-in_err-sent-clause-within
returns-in_err-sent-clause-within g c =
    let own = c.args.own.now in
    let place = c.args.place.now in
    let kept = c.args.kept.now.items in
    let joint = subst (λ (ms : List (Option Made)). IsJoint (with_sent own place ms) c.in_ok-joined.joined) c.as_slice.ensures.value c.in_ok-joined.ensures in
    let count = counts own place kept c.requires c.in_ok-joined.joined (subst IsTable c.joined.view_is c.joined.invariant) joint in
    let cells = ap length (c.as_slice-2.ensures ∙ ap (λ (t : CostTable). t.cells) c.joined.view_is) in
    let adds = c.add.ensures in
    omega (arith, count, cells, adds)

pub returns-clause-made : goal.returns-clause-made
returns-clause-made g c =
    let own = c.args.own.now in
    let place = c.args.place.now in
    let kept = c.args.kept.now.items in
    let joint = subst (λ (ms : List (Option Made)). IsJoint (with_sent own place ms) c.in_ok-joined.joined) c.as_slice.ensures.value c.in_ok-joined.ensures in
    record {
      joined = joint;
      sent = projects own place (sent_of kept place.children) (sent_keeper own place kept c.requires) c.in_ok-joined.joined joint c.in_ok-sent.sent c.in_ok-sent.ensures;
    }

pub returns-clause-counted : goal.returns-clause-counted
returns-clause-counted g c =
    let own = c.args.own.now in
    let place = c.args.place.now in
    let kept = c.args.kept.now.items in
    let joint = subst (λ (ms : List (Option Made)). IsJoint (with_sent own place ms) c.in_ok-joined.joined) c.as_slice.ensures.value c.in_ok-joined.ensures in
    let count = counts own place kept c.requires c.in_ok-joined.joined (subst IsTable c.joined.view_is c.joined.invariant) joint in
    let cells = ap length (c.as_slice-2.ensures ∙ ap (λ (t : CostTable). t.cells) c.joined.view_is) in
    let adds = c.add.ensures in
    omega (arith, count, cells, adds)

pub returns-clause-within : goal.returns-clause-within
returns-clause-within g c =
    let own = c.args.own.now in
    let place = c.args.place.now in
    let kept = c.args.kept.now.items in
    let joint = subst (λ (ms : List (Option Made)). IsJoint (with_sent own place ms) c.in_ok-joined.joined) c.as_slice.ensures.value c.in_ok-joined.ensures in
    let count = counts own place kept c.requires c.in_ok-joined.joined (subst IsTable c.joined.view_is c.joined.invariant) joint in
    let cells = ap length (c.as_slice-2.ensures ∙ ap (λ (t : CostTable). t.cells) c.joined.view_is) in
    let adds = c.add.ensures in
    omega (arith, count, cells, adds)
