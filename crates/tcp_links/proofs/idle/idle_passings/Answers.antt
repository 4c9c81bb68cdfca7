use Rattle.std.proofs.Common.{List, ◌∷◌, [], ◌++◌, take, sym, ap, ◌∙◌, subst}
use Rattle.std.proofs.lemmas.List.{take_more}
use Rattle.worker_laws.specs.OneNode.{home}
use Rattle.worker_laws.specs.Wires.{Wire}
use Rattle.node_exchange.specs.Passings.{Passing}
use Rattle.tcp_links.specs.Woven.{AreLinksIdle}
use Rattle.tcp_links.proofs.WeaveLaws.{idle_push}
use Rattle.tcp_links.proofs.idle.idle_passings.Goals as goal

pub loop-link-preserved : goal.loop-link-preserved
loop-link-preserved c =
    let before = take c.loop-link.link-index c.args.kept.now in
    let more = take_more c.args.kept.now c.loop-link.link-index c.link-item.result c.loop-link-test.true ∙ ap (λ (w : Wire). before ++ w ∷ []) (sym c.link-item.is) in
    subst (λ (ws : List Wire). AreLinksIdle (home c.args.nodes c.args.agents) ws c.push.new.self.items) (sym more)
    (subst (λ (ps : List Passing). AreLinksIdle (home c.args.nodes c.args.agents) (before ++ c.link-item.result ∷ []) ps) (sym c.in_ok-push.ensures.items)
    (idle_push (home c.args.nodes c.args.agents) before c.loop-link.passings.items c.link-item.result c.idle_passing.result c.loop-link.invariant c.idle_passing.ensures))
