-- The slicing law: an assignment is one of the slice at its own values of the cut.
use Rattle.std.proofs.Common.{◌≡◌, ℕ, zero, suc, ◌<◌, ◌≤◌, Bool, false, ◌||◌, cond, eqb, List, [], ◌∷◌, length, get_or, set, refl, sym, ap, ◌∙◌, inl, inr, length-set, get_or-set_same, get_or-set_other, arith}
use Rattle.std.specs.List.{All, fold}
use Rattle.std.proofs.lemmas.Bool.{cases_Bool, eqb-true, eqb-false, or_parts}
use Rattle.std.proofs.lemmas.List.{ext_get_or}
use Rattle.std.proofs.lemmas.List.Elements.{All-head, All-tail, AllZip-get_or}
use Rattle.dcop_base.specs.Table.{has, AreWithin, values_at}
use Rattle.dcop_base.specs.Problem.{Dcop, IsAssignment, cost}
use Rattle.dcop_base.specs.Whole.{IsProblem}
use Rattle.cost_table.specs.Slices.{put_in, ones_at}
use Rattle.cost_table.proofs.ProblemCutLaws.{length-put_in}
use Rattle.dcop_optimum.specs.Optimum.{IsOptimum}
use Rattle.dcop_optimum.proofs.OptimumLaws.{some_optimum}
use Rattle.run_laws.specs.Slice.{AreCut, AreCutValues, slice_of}
use Rattle.run_laws.specs.Slicing.{IsLeastOfSlices, SlicingLaw}
use Rattle.run_laws.proofs.SliceLaws.{slices_are_problems, costs-kept}

-- an assignment with 0 for each cut variable
abbrev pub zeros_at : List ℕ → List ℕ → List ℕ
zeros_at cut values = fold (λ xs c. set xs c 0) values cut

zero-within : (ss xs : List ℕ) (k : ℕ) → AreWithin ss xs → AreWithin (set ss k 1) (set xs k 0)
zero-within [] [] k w = tt
zero-within [] (x ∷ xs) k w = absurd w
zero-within (s ∷ ss) [] k w = absurd w
zero-within (s ∷ ss) (x ∷ xs) zero w = (omega arith, w.1)
zero-within (s ∷ ss) (x ∷ xs) (suc k) w = (w.0, zero-within ss xs k w.1)

zeros-within : (cut ss xs : List ℕ) → AreWithin ss xs → AreWithin (ones_at cut ss) (zeros_at cut xs)
zeros-within [] ss xs w = w
zeros-within (c ∷ cs) ss xs w = zeros-within cs (set ss c 1) (set xs c 0) (zero-within ss xs c w)

zeros-length : (cut xs : List ℕ) → length (zeros_at cut xs) ≡ length xs
zeros-length [] xs = refl
zeros-length (c ∷ cs) xs = zeros-length cs (set xs c 0) ∙ length-set xs c 0

-- other variables keep their values
zeros-other : (cut xs : List ℕ) (k : ℕ) → has cut k ≡ false → get_or (zeros_at cut xs) k 0 ≡ get_or xs k 0
zeros-other [] xs k e = refl
zeros-other (c ∷ cs) xs k e =
    let parts = or_parts (eqb c k) (has cs k) e in
    zeros-other cs (set xs c 0) k parts.1 ∙ get_or-set_other xs c k 0 0 (λ same. eqb-false c k parts.0 (sym same))

-- the values that an assignment has of the cut, put into another one
put-own : (cut values xs : List ℕ) (k : ℕ) → k < length xs → get_or (put_in cut (values_at cut values) xs) k 0 ≡ cond (has cut k) (get_or values k 0) (get_or xs k 0)
put-own [] values xs k lt = refl
put-own (c ∷ cs) values xs k lt =
    let inner = put_in cs (values_at cs values) xs in
    let long = length-put_in cs (values_at cs values) xs in
    elim (cases_Bool (eqb c k)) [
      | inl t ↦ (let same : c ≡ k = eqb-true c k t in
          ap (λ (n : ℕ). get_or (set inner c (get_or values n 0)) k 0) same
          ∙ ap (λ (n : ℕ). get_or (set inner n (get_or values k 0)) k 0) same
          ∙ get_or-set_same inner k (get_or values k 0) 0 (omega (arith, lt, long))
          ∙ sym (ap (λ (b : Bool). cond (b || has cs k) (get_or values k 0) (get_or xs k 0)) t))
      | inr f ↦ get_or-set_other inner c k (get_or values c 0) 0 (λ same. eqb-false c k f (sym same))
          ∙ put-own cs values xs k lt
          ∙ sym (ap (λ (b : Bool). cond (b || has cs k) (get_or values k 0) (get_or xs k 0)) f)
    ]

-- so an assignment is made of its own values of the cut and the rest
pub put-back : (cut values : List ℕ) → put_in cut (values_at cut values) (zeros_at cut values) ≡ values
put-back cut values =
    let long = length-put_in cut (values_at cut values) (zeros_at cut values) in
    let zeros = zeros-length cut values in
    ext_get_or 0 (put_in cut (values_at cut values) (zeros_at cut values)) values (long ∙ zeros) (λ k lt.
    put-own cut values (zeros_at cut values) k (omega (arith, lt, long)) ∙ elim (cases_Bool (has cut k)) [
      | inl t ↦ ap (λ (b : Bool). cond b (get_or values k 0) (get_or (zeros_at cut values) k 0)) t
      | inr f ↦ ap (λ (b : Bool). cond b (get_or values k 0) (get_or (zeros_at cut values) k 0)) f ∙ zeros-other cut values k f
    ])

-- the values of the cut are below their sizes
own-within : (ss cut values : List ℕ) → All (λ v. v < length ss) cut → AreWithin ss values → AreWithin (values_at cut ss) (values_at cut values)
own-within ss [] values all w = tt
own-within ss (c ∷ cs) values all w =
    (AllZip-get_or (λ s v. v < s) ss values c 0 0 w (All-head (λ v. v < length ss) c cs all), own-within ss cs values (All-tail (λ v. v < length ss) c cs all) w)

-- an assignment as one of a slice
pub record IsSliced (p : Dcop) (cut values : List ℕ) : Type 0 where
  pub turn : List ℕ
  pub others : List ℕ
  pub within : AreCutValues p cut turn
  pub assignment : IsAssignment (slice_of p cut turn) others
  pub costs : cost (slice_of p cut turn) others ≡ cost p values

pub sliced : (p : Dcop) (cut values : List ℕ) → IsProblem p → AreCut p cut → IsAssignment p values → IsSliced p cut values
sliced p cut values h is w =
    let turn = values_at cut values in
    let others = zeros_at cut values in
    let within = own-within p.sizes cut values is.within w in
    let inside = zeros-within cut p.sizes values w in record {
      turn = turn;
      others = others;
      within = within;
      assignment = inside;
      costs = (costs-kept p cut turn h is within).same_cost others inside ∙ ap (cost p) (put-back cut values);
    }

least-of-slices : (p : Dcop) (cut : List ℕ) → IsProblem p → AreCut p cut → (least : ℕ) → IsOptimum p least → IsLeastOfSlices p cut least
least-of-slices p cut h is least optimum =
    let best = sliced p cut optimum.attained.0 h is optimum.attained.1 in
    let keeps = λ (turn : List ℕ) (w : AreCutValues p cut turn). costs-kept p cut turn h is w in
    let above : (turn : List ℕ) → AreCutValues p cut turn → (others : List ℕ) → IsAssignment (slice_of p cut turn) others → least ≤ cost (slice_of p cut turn) others =
    λ turn w others a. (let low = optimum.lowest (put_in cut turn others) ((keeps turn w).assignment others a) in
    let same = (keeps turn w).same_cost others a in
    omega (arith, low, same)) in
    record {
      attained = (
        best.turn,
        best.within,
        record {
          attained = (best.others, best.assignment, best.costs ∙ optimum.attained.2);
          lowest = above best.turn best.within;
        },
      );
      lowest = λ turn c w at. (let low = above turn w at.attained.0 at.attained.1 in
          let costs = at.attained.2 in
          omega (arith, low, costs));
    }

least-is-optimum : (p : Dcop) (cut : List ℕ) → IsProblem p → AreCut p cut → (least : ℕ) → IsLeastOfSlices p cut least → IsOptimum p least
least-is-optimum p cut h is least best =
    let turn = best.attained.0 in
    let within = best.attained.1 in
    let at = best.attained.2 in
    let keeps = costs-kept p cut turn h is within in record {
      attained = (
        put_in cut turn at.attained.0,
        keeps.assignment at.attained.0 at.attained.1,
        sym (keeps.same_cost at.attained.0 at.attained.1) ∙ at.attained.2,
      );
      lowest = λ values w. (let own = sliced p cut values h is w in
          let optimum = some_optimum (slice_of p cut own.turn) (slices_are_problems p cut own.turn h) in
          let low = best.lowest own.turn optimum.0 own.within optimum.1 in
          let below = optimum.1.lowest own.others own.assignment in
          let costs = own.costs in
          omega (arith, low, below, costs));
    }

pub optima_are_least_of_slices : SlicingLaw
optima_are_least_of_slices p cut h is least = (least-of-slices p cut h is least, least-is-optimum p cut h is least)
