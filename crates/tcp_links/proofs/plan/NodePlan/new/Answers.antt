use Rattle.std.proofs.Common.{◌≡◌, ◌+◌, ◌∷◌, [], length, sym, ap, subst, ◌∙◌, arith}
use Rattle.std.specs.List.{All}
use Rattle.std.proofs.lemmas.List.{length-append}
use Rattle.std.proofs.lemmas.List.Elements.{All-push}
use Rattle.wire_pump.specs.Pump.{HaveAll}
use Rattle.wire_pump.specs.Dialer.{IsNew}
use Rattle.tcp_links.proofs.PlanLaws.{nothing_all}
use Rattle.tcp_links.proofs.plan.NodePlan.new.Goals as goal

pub loop-preserved : goal.loop-preserved
loop-preserved g c =
    let i = c.loop.invariant in
    let items = c.in_ok-push.ensures.items in
    let was = i.count in
    let one : length c.push.new.self.items ≡ length c.loop.wires.items + 1 = ap length items ∙ length-append c.loop.wires.items (c.in_ok-pair.pair ∷ []) in
    record {
      faults = c.in_ok-pair.ensures.cause ∙ i.faults;
      count = omega (arith, was, one);
      new = subst (λ ps. All (λ pair. IsNew (g.W.Wire.told pair.0) × IsNew (g.W.Wire.told pair.1)) ps) (sym items)
          (All-push (λ pair. IsNew (g.W.Wire.told pair.0) × IsNew (g.W.Wire.told pair.1)) c.loop.wires.items c.in_ok-pair.pair i.new c.in_ok-pair.ensures.new);
      dialer = λ h. c.pair.ensures.honest.0 (i.dialer h);
      joined = λ h. subst (λ ps. All (λ pair. g.W.Wire.is_joined pair.0 pair.1) ps) (sym items)
          (All-push (λ pair. g.W.Wire.is_joined pair.0 pair.1) c.loop.wires.items c.in_ok-pair.pair (i.joined h) (c.in_ok-pair.ensures.joined (i.dialer h)));
      all = λ h. subst (λ ps. All (λ pair. HaveAll (g.W.Wire.told pair.0) (g.W.Wire.told pair.1)) ps) (sym items)
          (All-push (λ pair. HaveAll (g.W.Wire.told pair.0) (g.W.Wire.told pair.1)) c.loop.wires.items c.in_ok-pair.pair (i.all h)
          (let told = c.in_ok-pair.ensures.told (i.dialer h) in nothing_all _ _ told.0 told.1));
    }

pub returns-clause-honest : goal.returns-clause-honest
returns-clause-honest g c = λ h. record { joined = c.loop.invariant.joined h; all = c.loop.invariant.all h }
