-- What a search comes to, in the problem's own costs.
use Rattle.std.proofs.Common.{◌≡◌, ℕ, ◌+◌, ◌*◌, ◌≤◌, true, false, List, length, get_or, Option, Some, None, refl, sym, ap, subst, ◌∙◌, inl, inr, arith}
use Rattle.std.proofs.lemmas.Bool.{cases_Bool}
use Rattle.dcop_base.specs.Limits.{amount_limit, count_limit}
use Rattle.dcop_base.specs.Table.{CostTable}
use Rattle.dcop_base.specs.Problem.{Dcop, IsAssignment, cost}
use Rattle.dcop_base.specs.Whole.{IsProblem}
use Rattle.dcop_base.specs.Values.{cost_with}
use Rattle.shared_costs.specs.Values.{AreValues}
use Rattle.shared_costs.specs.Shared.{AreSharedCosts}
use Rattle.shared_costs.specs.Tables.{AreDepths, depths_cost}
use Rattle.shared_costs.specs.declared.shared.SharedCosts.{SharedCosts}
use Rattle.bucket_bounds.specs.Bounds.{AreBucketBounds}
use Rattle.bucket_bounds.specs.declared.bucket.Bucket.{Bucket}
use Rattle.bound_search.specs.Estimate.{unscaled, IsPassedOver}
use Rattle.bound_search.specs.Known.{IsBelow, IsKnown, IsNoWorse}
use Rattle.bound_search.specs.Searched.{IsBoundSearch, most_nodes}
use Rattle.bound_search.specs.Grounds.{AreGrounds, scaled_cost}
use Rattle.bound_search.specs.Descent.{IsRoom, IsStanding, far_of}
use Rattle.bound_search.specs.First.{HasSearched}
use Rattle.bound_search.specs.Visits.{Far, far, HasVisited}
use Rattle.bound_search.specs.declared.known.Known.{Known}
use Rattle.bound_search.specs.declared.progress.Progress.{Progress}
use Rattle.bound_search.specs.declared.rules.Rules.{Rules}
use Rattle.bound_search.specs.declared.searching.Ended.{Ended}
use Rattle.bound_search.proofs.RowLaws.{values_of}
use Rattle.bound_search.proofs.FirstLaws.{zeros_are_values}
use Rattle.bound_search.proofs.ScaleLaws.{unscaled_low, scale_apart}
use Rattle.bound_search.proofs.VisitLaws.{far_same}

module _ (p : Dcop) (shared : SharedCosts) (buckets : List Bucket) (problem : IsProblem p) (costs : AreSharedCosts p shared) (bounds : AreBucketBounds p.sizes shared.depths buckets) where
  -- at each values the buckets' tables sum to the scaled cost
  cost_is : (value : ℕ → ℕ) → AreValues p.sizes value → scaled_cost buckets value ≡ shared.scale * cost_with p.tables value
  cost_is value all = ap (λ (ds : List (List CostTable)). depths_cost ds value) bounds.tables ∙ costs.sums value all

  pub grounds_of : AreGrounds p.sizes shared.scale buckets
  grounds_of = record {
    depths = subst (λ (ds : List (List CostTable)). AreDepths p.sizes ds) (sym bounds.tables) costs.depths;
    bounds = subst (λ (ds : List (List CostTable)). AreBucketBounds p.sizes ds buckets) (sym bounds.tables) bounds;
    scaled = costs.scale.some;
    whole = λ value all. (cost_with p.tables value, cost_is value all);
    some = problem.some;
    few = problem.few;
    sized = problem.sizes;
  }

  -- what is known before
  pub standing_of : (known : Known) (found : List ℕ) (error budget room : ℕ) (now : Progress) → IsKnown p known → found ≡ known.values → IsRoom (record { scale = shared.scale; error = error; budget = budget }) known.best room
      → now ≡ record { best = known.best; found = known.found; nodes = known.nodes; lower = 18446744073709551615; spent = false; room = room }
      → IsStanding p.sizes buckets (record { scale = shared.scale; error = error; budget = budget }) found now
  standing_of known found error budget room now is same room_is e =
      subst (λ (q : Progress). IsStanding p.sizes buckets (record { scale = shared.scale; error = error; budget = budget }) found q) (sym e)
      (subst (λ (xs : List ℕ). IsStanding p.sizes buckets (record { scale = shared.scale; error = error; budget = budget }) xs (record { best = known.best; found = known.found; nodes = known.nodes; lower = 18446744073709551615; spent = false; room = room })) (sym same) (record {
        many = is.many;
        taken = λ h. (let one = is.found h in record {
          within = one.assignment;
          cost = cost p known.values;
          best_is = one.cost;
          cost_is = cost_is (λ v. get_or known.values v 0) (values_of p.sizes known.values one.assignment);
        });
        room = room_is;
        spent = λ h. absurd (let never : false ≡ true = h in cc);
      }))

  -- no assignment costs less than what the search comes to, and that is an amount
  lower_within : (rules : Rules) (old new : Progress) → HasSearched p.sizes buckets rules old new → new.lower ≤ amount_limit
  lower_within rules old new searched =
      let zeros = values_of p.sizes _ (zeros_are_values p.sizes shared.scale buckets grounds_of) in
      let low = searched.lower _ zeros in
      let most = grounds_of.depths.capped _ zeros in
      omega (arith, low, most)

  known_is : (error budget : ℕ) (found : List ℕ) (new : Progress) (known : Known) → IsStanding p.sizes buckets (record { scale = shared.scale; error = error; budget = budget }) found new
      → known.best ≡ new.best → known.found ≡ new.found → known.values ≡ found → IsKnown p known
  known_is error budget found new known standing best is_found values = record {
    many = ap (λ (xs : List ℕ). length xs) values ∙ standing.many;
    found = λ h. (let taken = standing.taken (sym is_found ∙ h) in
        let at = cost_is (λ v. get_or found v 0) (values_of p.sizes found taken.within) in
        let same = scale_apart shared.scale taken.cost (cost p found) costs.scale.some (sym taken.cost_is ∙ at) in
        record {
          assignment = subst (λ (xs : List ℕ). IsAssignment p xs) (sym values) taken.within;
          cost = best ∙ taken.best_is ∙ ap (λ (n : ℕ). Some n) same ∙ ap (λ (xs : List ℕ). Some (cost p xs)) (sym values);
        });
  }

  ended_with : (rules : Rules) (best : Option ℕ) (lower : ℕ) → IsPassedOver rules.scale rules.error best lower → (b : ℕ) × (best ≡ Some b) × (b ≤ unscaled rules.scale lower + rules.error)
  ended_with rules None lower h = absurd h
  ended_with rules (Some b) lower h = (b, refl, h)

  -- a search of the problem
  pub searched_is : (error budget : ℕ) (before known : Known) (found : List ℕ) (old new : Progress) (ended : Ended) → IsStanding p.sizes buckets (record { scale = shared.scale; error = error; budget = budget }) found new
      → HasSearched p.sizes buckets (record { scale = shared.scale; error = error; budget = budget }) old new
      → HasVisited p.sizes buckets (record { scale = shared.scale; error = error; budget = budget }) (far_of old) (far_of new)
      → before.best ≡ old.best → before.found ≡ old.found → before.nodes ≡ old.nodes → old.lower ≡ 18446744073709551615 → old.spent ≡ false
      → known.best ≡ new.best → known.found ≡ new.found → known.nodes ≡ new.nodes → known.values ≡ found → ended.lower ≡ unscaled shared.scale new.lower → ended.spent ≡ new.spent
      → IsBoundSearch p shared.scale buckets error budget before known ended
  searched_is error budget before known found old new ended standing searched visits old_best old_found old_nodes top unspent best is_found nodes values lower spent =
      let further = searched.further in
      let within = lower_within (record { scale = shared.scale; error = error; budget = budget }) old new searched in
      record {
        known = known_is error budget found new known standing best is_found values;
        more = record {
          best = subst (λ (b : Option ℕ). IsNoWorse known.best b) (sym old_best) (subst (λ (b : Option ℕ). IsNoWorse b old.best) (sym best) further.best);
          still = λ h. is_found ∙ further.still (sym old_found ∙ h);
          same = λ h. best ∙ further.same (sym is_found ∙ h) ∙ sym old_best;
          better = λ none found_too. subst (λ (b : Option ℕ). IsBelow known.best b) (sym old_best) (subst (λ (b : Option ℕ). IsBelow b old.best) (sym best) (further.better (sym old_found ∙ none) (sym is_found ∙ found_too)));
        };
        found = λ none. is_found ∙ searched.found (sym old_best ∙ none);
        lower = λ vs inside.
            (let all = values_of p.sizes vs inside in
            let low = searched.lower (λ v. get_or vs v 0) all in
            let at = cost_is (λ v. get_or vs v 0) all in
            let most = unscaled_low shared.scale new.lower (cost p vs) costs.scale.some (omega (arith, low, at)) in
            omega (arith, lower, most));
        ends = elim (cases_Bool new.spent) [
          | inl reached ↦ inr (
            spent ∙ reached,
            record {
              some = (let one = searched.known reached in (one.0, best ∙ one.1));
              reached = (let most = standing.spent reached in omega (arith, most, nodes));
            },
          )
          | inr ended_too ↦ (let kept = further.kept ended_too in
              let with = ended_with (record { scale = shared.scale; error = error; budget = budget }) new.best new.lower (standing.room.above new.lower within (omega (arith, kept.1, top, within))) in
              inl (spent ∙ ended_too, record { best = with.0; known_is = best ∙ with.1; within = omega (arith, with.2, lower) }))
        ];
        counted = omega (arith, further.counted, old_nodes, nodes);
        nodes = subst (λ (n : ℕ). n ≤ most_nodes budget (length p.sizes) before.best before.nodes) (sym nodes)
            (subst (λ (b : Option ℕ). new.nodes ≤ most_nodes budget (length p.sizes) b before.nodes) (sym old_best)
            (subst (λ (n : ℕ). new.nodes ≤ most_nodes budget (length p.sizes) old.best n) (sym old_nodes) searched.nodes));
        tree = omega (arith, searched.tree, nodes, old_nodes);
        effort = λ none first. (let least = searched.effort (sym old_found ∙ none) (sym is_found ∙ first) in omega (arith, least, nodes, old_nodes));
        straight = λ exact few. (let straight = searched.straight exact (omega (arith, few, old_nodes)) in
            record { whole = spent ∙ straight.0; few = omega (arith, straight.1, nodes, old_nodes) });
        visits = (let rules : Rules = record { scale = shared.scale; error = error; budget = budget } in
            let from : far_of old ≡ far before.best before.nodes count_limit false = far_same old.best before.best old.nodes before.nodes old.lower count_limit old.spent false (sym old_best) (sym old_nodes) top unspent in
            let to : far_of new ≡ far known.best known.nodes new.lower ended.spent = far_same new.best known.best new.nodes known.nodes new.lower new.lower new.spent ended.spent (sym best) (sym nodes) refl (sym spent) in
            (new.lower, subst (λ (s : Far). HasVisited p.sizes buckets rules s (far known.best known.nodes new.lower ended.spent)) from (subst (λ (s : Far). HasVisited p.sizes buckets rules (far_of old) s) to visits), lower));
      }
