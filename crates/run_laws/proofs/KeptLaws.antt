-- The turn that is kept, and the answer of a cut.
use Rattle.std.proofs.Common.{◌≡◌, ℕ, ◌+◌, ◌*◌, ◌<◌, ◌≤◌, List, refl, sym, ap, subst, ◌∙◌, inl, inr, arith}
use Rattle.std.specs.List.{All, slice_index}
use Rattle.std.proofs.Math.Nat.{mul-le-mul_right}
use Rattle.std.proofs.lemmas.Bool.{cases_lt}
use Rattle.std.proofs.lemmas.List.Elements.{length_all_zip, All-map}
use Rattle.dcop_base.specs.Table.{AreWithin, product, cell_place}
use Rattle.dcop_base.specs.Problem.{Dcop, cost}
use Rattle.dcop_base.specs.Whole.{IsProblem}
use Rattle.dcop_base.proofs.TableLaws.{cell_place-lt}
use Rattle.cost_table.specs.Slices.{put_in}
use Rattle.dcop_optimum.specs.Optimum.{IsOptimum}
use Rattle.dcop_optimum.specs.TreeOptimum.{IsFirstOptimumOf}
use Rattle.dcop_optimum.proofs.PlaceLaws.{place_before, before_cases}
use Rattle.dcop_optimum.proofs.OptimumLaws.{some_optimum, optimum_same, least_within}
use Rattle.dcop_optimum.proofs.TreeOptimumLaws.{first_optima_of_trees_are_one}
use Rattle.pseudotree.specs.Place.{sizes_of}
use Rattle.pseudotree.specs.Pseudotree.{IsPseudotree}
use Rattle.run_laws.specs.Slice.{AreCut, AreCutValues, slice_of}
use Rattle.run_laws.specs.Kept.{IsKeptTurn, IsCutAnswer, CutAnswersAreOptimal, CutAnswersAreOne}
use Rattle.run_laws.proofs.SliceLaws.{slices_are_problems, costs-kept}
use Rattle.run_laws.proofs.SlicingLaws.{optima_are_least_of_slices}
use Rattle.run_laws.proofs.TreeLaws.{slices_keep_trees}

pub cut_answers_are_optimal : CutAnswersAreOptimal
cut_answers_are_optimal p paths cut least values h is answer =
    let turn = answer.turn in
    let others = answer.others in
    let kept = answer.kept in
    let keeps = costs-kept p cut turn h is kept.within in
    let same = optimum_same (slice_of p cut turn) (cost (slice_of p cut turn) others) least answer.first.optimal kept.cost in
    record {
      optimum = (optima_are_least_of_slices p cut h is least).1 (record { attained = (turn, kept.within, kept.cost); lowest = kept.lowest });
      assignment = subst (AreWithin p.sizes) (sym answer.values_are) (keeps.assignment others answer.first.assignment);
      costs = ap (cost p) answer.values_are ∙ sym (keeps.same_cost others answer.first.assignment) ∙ same;
    }

-- one turn is kept
turn-same : (p : Dcop) (cut a b : List ℕ) (c d : ℕ) → IsKeptTurn p cut a c → IsKeptTurn p cut b d → a ≡ b
turn-same p cut a b c d at_a at_b =
    let long = length_all_zip (λ s v. v < s) (sizes_of p cut) a at_a.within in
    let long' = length_all_zip (λ s v. v < s) (sizes_of p cut) b at_b.within in
    elim (before_cases a b (sym long ∙ long')) [
      | inl same ↦ same
      | inr orders ↦ elim orders [
        | inl before ↦ (let less = at_b.first a c at_a.within before at_a.cost in
            let low = at_a.lowest b d at_b.within at_b.cost in
            absurd (omega (arith, less, low)))
        | inr before ↦ (let less = at_a.first b d at_b.within before at_b.cost in
            let low = at_b.lowest a c at_a.within at_a.cost in
            absurd (omega (arith, less, low)))
      ]
    ]

module _ (p : Dcop) (paths : List (List ℕ)) (cut : List ℕ) (problem : IsProblem p) (pseudo : IsPseudotree p paths) where
  answer-same : (c d : ℕ) (a b : List ℕ) → IsCutAnswer p paths cut c a → IsCutAnswer p paths cut d b → (c ≡ d) × (a ≡ b)
  answer-same c d a b at_a at_b =
      let turn = turn-same p cut at_a.turn at_b.turn c d at_a.kept at_b.kept in
      let cost_b : IsOptimum (slice_of p cut at_a.turn) d = subst (λ (t : List ℕ). IsOptimum (slice_of p cut t) d) (sym turn) at_b.kept.cost in
      let first_b : IsFirstOptimumOf (slice_of p cut at_a.turn) paths at_b.others = subst (λ (t : List ℕ). IsFirstOptimumOf (slice_of p cut t) paths at_b.others) (sym turn) at_b.first in
      let slice = slices_are_problems p cut at_a.turn problem in
      let tree = (slices_keep_trees p cut at_a.turn).pseudotree paths in
      let others = (first_optima_of_trees_are_one (slice_of p cut at_a.turn) paths slice (tree.0 pseudo)).one at_a.others at_b.others at_a.first first_b in (
        optimum_same (slice_of p cut at_a.turn) c d at_a.kept.cost cost_b,
        at_a.values_are ∙ ap (put_in cut at_a.turn) others ∙ ap (λ (t : List ℕ). put_in cut t at_b.others) turn ∙ sym at_b.values_are,
      )

  -- the cost of a turn, and then its place: the least of these is that of the kept turn
  unfoldable cost_of_turn : List ℕ → ℕ
  cost_of_turn turn = (some_optimum (slice_of p cut turn) (slices_are_problems p cut turn problem)).0

  is_cost : (turn : List ℕ) → IsOptimum (slice_of p cut turn) (cost_of_turn turn)
  unfolding cost_of_turn
  is_cost turn = (some_optimum (slice_of p cut turn) (slices_are_problems p cut turn problem)).1

  kept-from_least : (turn : List ℕ) → AreCutValues p cut turn
      → ((other : List ℕ) → AreCutValues p cut other → cost_of_turn turn * product (sizes_of p cut) + cell_place (sizes_of p cut) turn ≤ cost_of_turn other * product (sizes_of p cut) + cell_place (sizes_of p cut) other)
      → IsKeptTurn p cut turn (cost_of_turn turn)
  kept-from_least turn w least =
      let ss = sizes_of p cut in
      let lowest : (other : List ℕ) → AreCutValues p cut other → cost_of_turn turn ≤ cost_of_turn other =
      λ other w'. elim (cases_lt (cost_of_turn other) (cost_of_turn turn)) [
        | inr le ↦ le
        | inl less ↦ (let low = least other w' in
            let below = cell_place-lt ss other w' in
            let rows = mul-le-mul_right (product ss) less in
            absurd (omega arith))
      ] in
      record {
        within = w;
        cost = is_cost turn;
        lowest = λ other c w' at. (let low = lowest other w' in let same = optimum_same (slice_of p cut other) (cost_of_turn other) c (is_cost other) at in omega (arith, low, same));
        first = λ other c w' before at. (let low = lowest other w' in
            let same = optimum_same (slice_of p cut other) (cost_of_turn other) c (is_cost other) at in
            let le = least other w' in
            let place = place_before ss other turn w' w before in
            elim (cases_lt (cost_of_turn turn) c) [
              | inl less ↦ less
              | inr more ↦ (let equal : cost_of_turn other ≡ cost_of_turn turn = omega (arith, low, same, more) in
                  let rows = ap (λ (n : ℕ). n * product ss) equal in
                  absurd (omega (arith, le, place, rows)))
            ]);
      }

  some-answer : AreCut p cut → (least : ℕ) × (values : List ℕ) × IsCutAnswer p paths cut least values
  some-answer is =
      let ss = sizes_of p cut in
      let positive : All (λ s. 1 ≤ s) ss = All-map (λ s. 1 ≤ s) (slice_index p.sizes) cut (λ k d lt. (problem.sizes _ 0 (is.within k d lt)).0) in
      let best = least_within ss positive (λ turn. cost_of_turn turn * product ss + cell_place ss turn) in
      let turn = best.0 in
      let slice = slices_are_problems p cut turn problem in
      let tree = (slices_keep_trees p cut turn).pseudotree paths in
      let first = (first_optima_of_trees_are_one (slice_of p cut turn) paths slice (tree.0 pseudo)).some in (
        cost_of_turn turn,
        put_in cut turn first.0,
        record { turn = turn; kept = kept-from_least turn best.1 best.2; others = first.0; first = first.1; values_are = refl },
      )

pub cut_answers_are_one : CutAnswersAreOne
cut_answers_are_one p paths cut problem pseudo is = record {
  some = some-answer p paths cut problem pseudo is;
  one = answer-same p paths cut problem pseudo;
}
