use Rattle.std.proofs.Common.{sym, subst, ◌∙◌}
use Rattle.node_exchange.specs.Payloads.{IsFoundAs}
use Rattle.node_exchange.specs.Reads.{AreOpened}
use Rattle.node_exchange.proofs.ReadLaws.{opens_next, opens_none}
use Rattle.node_exchange.proofs.read.open_all.Goals as goal

pub returns-in_default-2 : goal.returns-in_default-2
returns-in_default-2 c = λ ls good is.
    opens_none ls c.loop-payload.letters.items c.loop-payload.reader c.next.new.self c.in-Some.payload (c.loop-payload.invariant ls good is) c.in-Some.ensures.handed
    (λ from to e f t own code. subst (λ o. IsFoundAs o from to e) c.in_default-2.is (c.in_ok-letter.ensures.only from to e f t own (c.as_slice.ensures ∙ code)))

pub loop-payload-preserved : goal.loop-payload-preserved
loop-payload-preserved c = λ ls good is.
    subst (λ items. AreOpened ls items c.next.new.self.ready) (sym c.in_ok-push.ensures.items)
    (opens_next ls c.loop-payload.letters.items c.loop-payload.reader c.next.new.self c.in-Some.payload c.in-Some-2.letter (c.loop-payload.invariant ls good is) c.in-Some.ensures.handed
    (λ from to e f t own code. subst (λ o. IsFoundAs o from to e) c.in-Some-2.is (c.in_ok-letter.ensures.only from to e f t own (c.as_slice.ensures ∙ code))))
