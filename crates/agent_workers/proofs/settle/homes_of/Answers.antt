use Rattle.std.proofs.Common.{◌∙◌, length-set, arith}
use Rattle.worker_laws.specs.OneNode.{home as home_of}
use Rattle.agent_workers.proofs.SettleLaws.{homes_more}
use Rattle.agent_workers.proofs.settle.homes_of.Goals as goal

pub loop-agent-preserved : goal.loop-agent-preserved
loop-agent-preserved c =
    let test = c.loop-agent-test.true in
    let few = c.requires.few in
    let long = c.loop-agent.invariant.0 in (
      length-set c.loop-agent.homes c.loop-agent.agent c.home.result ∙ long,
      homes_more (λ k. home_of c.args.nodes c.args.agents k) c.loop-agent.homes c.loop-agent.agent c.home.result (omega (arith, test, few, long)) c.home.ensures c.loop-agent.invariant.1,
    )

pub returns : goal.returns
returns c = λ many. let few = c.requires.few in let long = c.loop-agent.invariant.0 in let test = c.loop-agent-test.false in record {
  size = omega (arith, few, long);
  each = λ k d lt. c.loop-agent.invariant.1 k d (omega (arith, lt, test));
}
