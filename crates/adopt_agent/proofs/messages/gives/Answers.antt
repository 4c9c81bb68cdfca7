use Rattle.std.proofs.Common.{ℕ, Some, sym, ap, subst, ◌∙◌}
use Rattle.std.proofs.lemmas.Bool.{eqb-true}
use Rattle.adopt_context.specs.Context.{AscendsFrom, Context}
use Rattle.adopt_context.proofs.KnownLaws.{put_same}
use Rattle.adopt_agent.proofs.messages.gives.Goals as goal

pub returns-in-Some : goal.returns-in-Some
returns-in-Some c = λ is.
    let known : Context = c.args.known.now in
    put_same 0 known c.args.var c.args.value (subst (λ (x : Context). AscendsFrom 0 x) c.pairs.ensures.pairs c.pairs.ensures.ascend)
    (sym c.get.ensures ∙ c.in-Some.is ∙ ap (λ (d : ℕ). Some d) (eqb-true c.in-Some.other c.args.value (sym c.eq.ensures ∙ is)))
