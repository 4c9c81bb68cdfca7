use Rattle.std.proofs.Common.{sym, refl}
use Rattle.worker_laws.specs.OneNode.{home}
use Rattle.tcp_links.proofs.ExchangeLaws.{idle_slices}
use Rattle.tcp_links.proofs.run.prepare.Goals as goal

pub returns-clause-idle : goal.returns-clause-idle
returns-clause-idle g c = idle_slices (home c.args.plan.now.nodes c.args.plan.now.agents) c.as_slice.result.now c.args.plan.now.kept.items _ _ (sym c.as_slice.ensures.value) refl c.in_ok-plan.ensures.idle
