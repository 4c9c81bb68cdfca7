-- A context of which all is known already tells nothing new, and fits the path.
use Rattle.std.proofs.Common.{◌≡◌, true, not, ◌||◌, [], ◌∷◌, is_some, refl, ap, ◌∙◌}
use Rattle.std.specs.List.{fold}
use Rattle.std.proofs.lemmas.Bool.{cond_both, and_from, and_parts}
use Rattle.dcop_base.specs.Table.{has}
use Rattle.adopt_context.specs.Context.{AscendsFrom, Context, is_value, part_of, put, value_in}
use Rattle.adopt_context.proofs.KnownLaws.{each_pair, put_same, value_is}
use Rattle.protocol_steps.specs.Adopt.{AdoptView}
use Rattle.protocol_steps.specs.AdoptCost.{learned}
use Rattle.protocol_steps.specs.AdoptRange.{fits, in_range}

-- what is learned where all is known is what is known
pub learned_known : (v : AdoptView) (r x : Context) → AscendsFrom 0 x → part_of r x ≡ true → fold (learned v) x r ≡ x
learned_known v [] x up part = refl
learned_known v (p ∷ ps) x up part =
    let both = and_parts (is_value (value_in x p.0) p.1) (part_of ps x) part in
    let there = value_is (value_in x p.0) p.1 both.0 in
    let one : learned v x p ≡ x =
    cond_both (not (has v.own.neighbours p.0) || not (is_some (value_in x p.0))) (put x p.0 p.1) x (λ (y : Context). y ≡ x) (λ _. put_same 0 x p.0 p.1 up there) (λ _. refl) in
    ap (λ (y : Context). fold (learned v) y ps) one ∙ learned_known v ps x up both.1

-- a part of a context that fits the path fits it too
pub part_fits : (v : AdoptView) (c x : Context) → fits v x ≡ true → part_of c x ≡ true → fits v c ≡ true
part_fits v [] x fit part = refl
part_fits v (p ∷ ps) x fit part =
    let both = and_parts (is_value (value_in x p.0) p.1) (part_of ps x) part in
    and_from (in_range v p.0 p.1) (fits v ps) (each_pair (in_range v) x fit p.0 p.1 (value_is (value_in x p.0) p.1 both.0)) (part_fits v ps x fit both.1)
