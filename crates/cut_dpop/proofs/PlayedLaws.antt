-- What a turn that was played gives.
use Rattle.std.proofs.Common.{◌≡◌, ℕ, ◌-◌, ◌*◌, ◌<◌, List, [], length, get_or, sym, ap, subst, ◌∙◌, arith}
use Rattle.std.specs.List.{All, slice_index}
use Rattle.std.proofs.lemmas.List.{length-map}
use Rattle.std.proofs.lemmas.List.Elements.{length_all_zip}
use Rattle.dcop_base.specs.Problem.{Dcop, cost}
use Rattle.cost_table.specs.Slices.{put_in}
use Rattle.cost_table.proofs.ProblemCutLaws.{length-ones_at}
use Rattle.dcop_optimum.specs.TreeOptimum.{IsFirstOptimumOf}
use Rattle.pseudotree.specs.Place.{sizes_of}
use Rattle.protocol_steps.specs.declared.outcome.Outcome.{Outcome}
use Rattle.protocol_steps.specs.Values.{choices}
use Rattle.run_laws.specs.Slice.{AreCut, AreCutValues, slice_of}
use Rattle.run_laws.specs.Turns.{turn_count}
use Rattle.cut_dpop.specs.Start.{HaveFirst}
use Rattle.cut_dpop.specs.Played.{turn_of, IsTurnPlayed}
use Rattle.cut_dpop.proofs.BestLaws.{turn-within}

module _ (p : Dcop) (paths : List (List ℕ)) (cut sizes : List ℕ) (sized : sizes ≡ sizes_of p cut) (number : ℕ) (turn : List ℕ) (is : turn ≡ get_or (choices sizes) number []) where
  pub turn-is : turn ≡ turn_of p cut number
  turn-is = is ∙ ap (λ (ss : List ℕ). get_or (choices ss) number []) sized

  pub turn-values : number < turn_count p cut → AreCutValues p cut turn
  turn-values lt = subst (AreCutValues p cut) (sym turn-is) (turn-within p cut number lt)

  pub turn-long : number < turn_count p cut → length cut ≡ length turn
  turn-long lt = sym (length-map cut (slice_index p.sizes)) ∙ length_all_zip (λ s v. v < s) (sizes_of p cut) turn (turn-values lt)

  module _ (left : Dcop) (outcome : Outcome) (left_is : left ≡ slice_of p cut turn) (first : HaveFirst left paths outcome) where
    pub left-long : length outcome.values ≡ length p.sizes
    left-long =
        sym (length_all_zip (λ s v. v < s) left.sizes outcome.values first.first.assignment)
        ∙ ap (λ (q : Dcop). length q.sizes) left_is ∙ length-ones_at cut p.sizes

    pub cut-inside : AreCut p cut → All (λ v. v < length outcome.values) cut
    cut-inside may k d lt = let low = may.within k d lt in let long = left-long in omega (arith, low, long)

    pub is-played : (total : ℕ) (values : List ℕ) → total ≡ cost left outcome.values → values ≡ put_in cut turn outcome.values
        → IsTurnPlayed p paths cut number (record { cost = total; values = values; deliveries = outcome.deliveries })
    is-played total values et ev =
        let same : left ≡ slice_of p cut (turn_of p cut number) = left_is ∙ ap (slice_of p cut) turn-is in
        let count : length left.sizes ≡ length p.sizes = ap (λ (q : Dcop). length q.sizes) left_is ∙ length-ones_at cut p.sizes in record {
          others = outcome.values;
          first = subst (λ (q : Dcop). IsFirstOptimumOf q paths outcome.values) same first.first;
          cost_is = et ∙ ap (λ (q : Dcop). cost q outcome.values) same;
          values_are = ev ∙ ap (λ (t : List ℕ). put_in cut t outcome.values) turn-is;
          deliveries = first.deliveries ∙ ap (λ (n : ℕ). 2 * (n - 1)) count;
        }
