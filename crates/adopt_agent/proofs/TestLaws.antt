-- A place that the tests use: variable 0 above its only neighbour 1.
use Rattle.std.proofs.Common.{◌≡◌, ℕ, ◌+◌, ◌<◌, true, not, List, [], ◌∷◌, refl, sym, ap, subst, ◌∙◌, arith}
use Rattle.std.specs.List.Sorted.{IsStrictlyIncreasing}
use Rattle.std.proofs.lemmas.Bool.{false≢true}
use Rattle.std.proofs.lemmas.Option.{none-some}
use Rattle.std.proofs.lemmas.List.Elements.{All-nil, All-cons}
use Rattle.dcop_base.specs.Limits.{variable_limit}
use Rattle.dcop_base.specs.Table.{has}
use Rattle.dcop_base.specs.declared.knowledge.Private.{Private}
use Rattle.pseudotree.specs.declared.agent.Place.{Place}
use Rattle.protocol_steps.specs.Knowledge.{IsSize}
use Rattle.protocol_steps.specs.Placing.{IsPlaceFor}

one_rises : IsStrictlyIncreasing (1 ∷ [])
one_rises k lt = let short : k + 1 < 1 = lt in omega (arith, short)

pub placed : (own : Private) (place : Place) → own.me ≡ 0 → own.neighbours ≡ 1 ∷ [] → place ≡ record { me = 0; path = []; path_sizes = []; children = 1 ∷ []; lower = 1 ∷ [] } → IsPlaceFor own place
placed own place me near is = subst (λ (p : Place). IsPlaceFor own p) (sym is) (record {
  me = sym me;
  path = record { few = omega arith; apart = refl; without = refl; below = All-nil (λ u. u < variable_limit); sized = refl; sizes = All-nil IsSize };
  agree = λ u among above. absurd (false≢true above);
  split = λ u among. sym (ap not (sym (ap (λ (ns : List ℕ). has ns u) near) ∙ among));
  parent = λ parent last. absurd (none-some parent last);
  lower = (one_rises, All-cons (λ u. has own.neighbours u ≡ true) 1 [] (ap (λ (ns : List ℕ). has ns 1) near) (All-nil (λ u. has own.neighbours u ≡ true)));
  children = (one_rises, All-cons (λ u. has (1 ∷ []) u ≡ true) 1 [] refl (All-nil (λ u. has (1 ∷ []) u ≡ true)));
})
