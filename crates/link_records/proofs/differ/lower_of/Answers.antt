use Rattle.std.proofs.Common.{ℕ, Option, sym, subst, ◌∙◌}
use Rattle.std.proofs.lemmas.Bool.{true≢false}
use Rattle.link_records.specs.Found.{IsLowestOf}
use Rattle.link_records.proofs.LowestLaws.{held_too, lowest_yet, lower, lowest_first}
use Rattle.link_records.proofs.differ.lower_of.Goals as goal

pub returns-then-has_held : goal.returns-then-has_held
returns-then-has_held c = held_too c.args.kept.now c.args.link c.index-kept-link.result c.index-kept-link.is c.args.lowest (c.has_held.ensures.0 c.if-has_held.true) c.requires.lowest

pub returns-then-not-comes_before : goal.returns-then-not-comes_before
returns-then-not-comes_before c =
    lowest_yet c.args.kept.now c.args.link c.index-kept-link-in-Some.result c.index-kept-link-in-Some.is c.in-Some.old c.index-kept-old.result c.index-kept-old.is
    (λ before. true≢false (sym (c.comes_before.ensures.1 before) ∙ c.if-not-comes_before.true)) (subst (λ (o : Option ℕ). IsLowestOf c.args.kept.now c.args.link o) c.in-Some.is c.requires.lowest)

pub returns-else-not-comes_before : goal.returns-else-not-comes_before
returns-else-not-comes_before c =
    lower c.args.kept.now c.args.link c.index-kept-link.result c.index-kept-link.is c.in-Some.old c.index-kept-old.result c.index-kept-link-in-Some.result c.requires.inside
    (λ held. true≢false (sym (c.has_held.ensures.1 held) ∙ c.if-has_held.false)) c.index-kept-old.is c.index-kept-link-in-Some.is (c.comes_before.ensures.0 c.if-not-comes_before.false)
    (subst (λ (o : Option ℕ). IsLowestOf c.args.kept.now c.args.link o) c.in-Some.is c.requires.lowest)

pub returns-in_default : goal.returns-in_default
returns-in_default c =
    lowest_first c.args.kept.now c.args.link c.index-kept-link.result c.index-kept-link.is c.requires.inside (λ held. true≢false (sym (c.has_held.ensures.1 held) ∙ c.if-has_held.false))
    (subst (λ (o : Option ℕ). IsLowestOf c.args.kept.now c.args.link o) c.in_default.is c.requires.lowest)
