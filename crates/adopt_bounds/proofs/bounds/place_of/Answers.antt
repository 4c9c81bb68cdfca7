use Rattle.std.proofs.Common.{◌≡◌, ℕ, ◌<◌, Option, Some, None, length, refl, sym, ap, subst, ◌∙◌}
use Rattle.std.specs.Option.{unwrap_or}
use Rattle.adopt_context.specs.Context.{or_zero}
use Rattle.adopt_bounds.specs.Rows.{place_of}
use Rattle.adopt_bounds.proofs.RowLaws.{place_within}
use Rattle.adopt_bounds.proofs.bounds.place_of.Goals as goal

is_or_zero : (o : Option ℕ) → unwrap_or o 0 ≡ or_zero o
is_or_zero None = refl
is_or_zero (Some k) = refl

pub returns-clause-place : goal.returns-clause-place
returns-clause-place c = c.unwrap_or.ensures ∙ is_or_zero c.position_of.result ∙ ap (λ (o : Option ℕ). or_zero o) c.position_of.ensures

pub returns-clause-within : goal.returns-clause-within
returns-clause-within c =
    let place : c.unwrap_or.result ≡ place_of c.args.children.now c.args.child =
    c.unwrap_or.ensures ∙ is_or_zero c.position_of.result ∙ ap (λ (o : Option ℕ). or_zero o) c.position_of.ensures in
    subst (λ (k : ℕ). k < length c.args.children.now) (sym place) (place_within c.args.children.now c.args.child c.requires.child)
