-- What stages of a search come to, one behind the other.
use Rattle.std.proofs.Common.{◌≡◌, ℕ, zero, suc, ◌+◌, ◌<◌, ◌≤◌, ◌⊎◌, max, min, Bool, true, false, List, length, Option, Some, None, Result, Ok, Err, IfOk, refl, sym, subst, ◌∙◌, inl, inr, arith}
use Rattle.std.specs.List.{All}
use Rattle.std.proofs.lemmas.Bool.{cases_Bool}
use Rattle.dcop_base.specs.Limits.{joined_limit}
use Rattle.dcop_base.specs.Problem.{Dcop, cost}
use Rattle.dcop_base.specs.declared.memory.NoMemory.{NoMemory}
use Rattle.shared_costs.specs.Shared.{AreSharedCosts}
use Rattle.shared_costs.specs.declared.shared.SharedCosts.{SharedCosts}
use Rattle.bucket_bounds.specs.Bounds.{AreBucketBounds, kept_cells}
use Rattle.bucket_bounds.specs.MiniBuckets.{AreMiniBuckets}
use Rattle.bucket_bounds.specs.Parting.{IsPartedDuly}
use Rattle.bucket_bounds.specs.declared.bucket.Bucket.{Bucket}
use Rattle.bound_search.specs.Known.{IsKnown, IsNoWorse, IsBelow}
use Rattle.bound_search.specs.Searched.{HasSearchEnded, EndsSo, IsBoundSearch, most_nodes}
use Rattle.bound_search.specs.declared.known.Known.{Known}
use Rattle.bound_search.specs.declared.searching.Ended.{Ended}
use Rattle.search_stages.specs.Outcomes.{most_visited, IsLowerBound, IsSoFar, IsOutcome}
use Rattle.search_stages.specs.Stages.{IsApart, IsNothingYet, IsStage}
use Rattle.search_stages.specs.declared.asked.Asked.{Asked}
use Rattle.search_stages.specs.declared.stages.Outcome.{Outcome}
use Rattle.search_stages.proofs.EndLaws.{not_both, has_ended, has_spent}

some_not_none : (best : Option ℕ) (n : ℕ) → best ≡ Some n → best ≡ None → ⊥
some_not_none best n some none = let both = sym some ∙ none in cc

below_still : (new old best : Option ℕ) → IsNoWorse new old → IsBelow old best → IsBelow new best
below_still new None best no_worse below = absurd below
below_still None (Some old) best no_worse below = absurd no_worse
below_still (Some new) (Some old) None no_worse below = tt
below_still (Some new) (Some old) (Some best) no_worse below = omega (arith, no_worse, below)

most_within : (budget whole count : ℕ) (best : Option ℕ) (before after : ℕ) → budget ≤ whole → before ≤ max whole count → (best ≡ None → before ≡ 0)
    → after ≤ most_nodes budget count best before → after ≤ max whole count
most_within budget whole count None before after few within first most = let zero_is = first refl in omega (arith, few, zero_is, most)
most_within budget whole count (Some b) before after few within first most = omega (arith, few, within, most)

budget_visited : (budget count : ℕ) (best : Option ℕ) → budget ≤ most_visited budget count best
budget_visited budget count None = omega arith
budget_visited budget count (Some b) = omega arith

most_still : (budget whole count : ℕ) (best known : Option ℕ) (before after : ℕ) → budget ≤ whole → before ≤ most_visited whole count best → (known ≡ None → (before ≡ 0) × (best ≡ None))
    → after ≤ most_nodes budget count known before → after ≤ most_visited whole count best
most_still budget whole count best None before after few within first most =
    let none = first refl in
    let zero_is = none.0 in
    let so_many : after ≤ max whole count = omega (arith, few, zero_is, most) in
    subst (λ (b : Option ℕ). after ≤ most_visited whole count b) (sym none.1) so_many
most_still budget whole count best (Some b) before after few within first most =
    let least = budget_visited whole count best in omega (arith, few, within, least, most)

-- something is known at the end of a stage
something_known : (error budget : ℕ) (known : Known) (ended : Ended) → EndsSo error budget known ended → known.best ≡ None → ⊥
something_known error budget known ended ends none = elim ends [
  | inl done ↦ some_not_none known.best done.1.best done.1.known_is none
  | inr spent ↦ some_not_none known.best spent.1.some.0 spent.1.some.1 none
]

-- a stage that ended with this budget, or has reached the whole one, ends so with that
ends_whole : (error budget whole : ℕ) (known : Known) (ended : Ended) → EndsSo error budget known ended → (ended.spent ≡ false) ⊎ (whole ≤ known.nodes) → EndsSo error whole known ended
ends_whole error budget whole known ended ends how = elim ends [
  | inl done ↦ inl done
  | inr spent ↦ elim how [
    | inl not_spent ↦ absurd (not_both ended.spent not_spent spent.0)
    | inr reached ↦ inr (spent.0, record { some = spent.1.some; reached = reached })
  ]
]

-- a search that has ended has so by a greater bound
ended_above : (error : ℕ) (known : Known) (low lower : ℕ) → low ≤ lower → HasSearchEnded error known low → HasSearchEnded error known lower
ended_above error known low lower above done = record {
  best = done.best;
  known_is = done.known_is;
  within = (let within = done.within in omega (arith, above, within));
}

min_is : (a b : ℕ) → a ≤ b → min a b ≡ a
min_is a b few = omega (arith, few)

-- a stage, by what was made in it
pub stage_made : (p : Dcop) (shared : SharedCosts) (asked : Asked) (budget limit : ℕ) (before : Outcome) (buckets : List Bucket) (known : Known) (own : Ended) (lower : ℕ) (spent : Bool)
    → before.ended.spent ≡ true → budget ≤ asked.budget → limit ≤ joined_limit → AreBucketBounds p.sizes shared.depths buckets
    → AreMiniBuckets p.sizes (min limit joined_limit) asked.cells 0 buckets → All (IsPartedDuly p.sizes (min limit joined_limit)) buckets → kept_cells buckets ≤ asked.cells
    → IsBoundSearch p shared.scale buckets asked.error budget before.known known own → lower ≡ max own.lower before.ended.lower
    → (spent ≡ true → (own.spent ≡ true) × IsApart asked.error known.best lower)
    → (spent ≡ false → (own.spent ≡ false) ⊎ ((sum : ℕ) × (known.best ≡ Some sum) × (sum ≤ lower + asked.error)))
    → IsStage p shared asked budget limit before (record { known = known; ended = record { lower = lower; spent = spent } })
stage_made p shared asked budget limit before buckets known own lower spent needed within joined bounds mini parted kept searched greatest apart ended = record {
  needed = needed;
  within = within;
  buckets = buckets;
  bounds = bounds;
  joined = joined;
  mini = subst (λ (n : ℕ). AreMiniBuckets p.sizes n asked.cells 0 buckets) (min_is limit joined_limit joined) mini;
  parted = subst (λ (n : ℕ). All (IsPartedDuly p.sizes n) buckets) (min_is limit joined_limit joined) parted;
  kept = kept;
  own = own;
  searched = searched;
  lower = greatest;
  spent = apart;
  ended = λ none. elim (ended none) [
    | inl last ↦ ended_above asked.error known own.lower lower (omega (arith, greatest)) (has_ended asked.error budget known own searched.ends last)
    | inr near ↦ record { best = near.0; known_is = near.1; within = near.2 }
  ];
}

-- how the stages ended, by the budget of the last one
stage_ends : (p : Dcop) (shared : SharedCosts) (asked : Asked) (budget limit : ℕ) (before after : Outcome) → IsStage p shared asked budget limit before after → EndsSo asked.error budget after.known after.ended
stage_ends p shared asked budget limit before after stage = elim (cases_Bool after.ended.spent) [
  | inl spent ↦ inr (spent, has_spent asked.error budget after.known stage.own stage.searched.ends (stage.spent spent).0)
  | inr none ↦ inl (none, stage.ended none)
]

module _ (p : Dcop) (shared : SharedCosts) (asked : Asked) (best : Option ℕ) where
  -- before the first stage
  pub so_far_first : (limit : ℕ) (o : Outcome) → IsKnown p o.known → IsNothingYet best o → IsSoFar p shared asked best limit o
  so_far_first limit o known yet =
      let zero_nodes = yet.nodes in
      let zero_lower = yet.lower in
      record {
        stages = (zero, yet);
        spent = yet.spent;
        known = known;
        same = λ h. yet.sought;
        better = λ h. absurd (not_both o.known.found yet.none h);
        lower = λ values within. omega (arith, zero_lower);
        first = λ h. zero_nodes;
        few = omega (arith, zero_nodes);
        effort = λ h. absurd (not_both o.known.found yet.none h);
        nodes = omega (arith, zero_nodes);
      }

  module _ (budget earlier limit : ℕ) (before after : Outcome) (so_far : IsSoFar p shared asked best earlier before) (wider : earlier < limit) (stage : IsStage p shared asked budget limit before after) where
    was_none : after.known.found ≡ false → before.known.found ≡ false
    was_none none = elim (cases_Bool before.known.found) [
      | inl had ↦ absurd (not_both after.known.found none (stage.searched.more.still had))
      | inr had_none ↦ had_none
    ]

    same_still : after.known.found ≡ false → after.known.best ≡ best
    same_still none = stage.searched.more.same none ∙ so_far.same (was_none none)

    better_still : after.known.found ≡ true → IsBelow after.known.best best
    better_still found = elim (cases_Bool before.known.found) [
      | inl had ↦ below_still after.known.best before.known.best best stage.searched.more.best (so_far.better had)
      | inr none ↦ subst (λ (b : Option ℕ). IsBelow after.known.best b) (so_far.same none) (stage.searched.more.better none found)
    ]

    found_some : best ≡ None → after.known.found ≡ true
    found_some any = elim (cases_Bool before.known.found) [
      | inl had ↦ stage.searched.more.still had
      | inr none ↦ stage.searched.found (so_far.same none ∙ any)
    ]

    lower_still : IsLowerBound p after.ended.lower
    lower_still values within =
        let before_least = so_far.lower values within in
        let own_least = stage.searched.lower values within in
        let greatest = stage.lower in
        omega (arith, before_least, own_least, greatest)

    nothing_before : before.known.best ≡ None → (before.known.nodes ≡ 0) × (best ≡ None)
    nothing_before none = (
      so_far.first none,
      elim (cases_Bool before.known.found) [
        | inl had ↦ absurd (some_not_none before.known.best (cost p before.known.values) (so_far.known.found had).cost none)
        | inr had_none ↦ sym (so_far.same had_none) ∙ none
      ],
    )

    effort_still : after.known.found ≡ true → length p.sizes ≤ after.known.nodes
    effort_still found = elim (cases_Bool before.known.found) [
      | inl had ↦ (let least = so_far.effort had in let counted = stage.searched.counted in omega (arith, least, counted))
      | inr none ↦ (let least = stage.searched.effort none found in omega (arith, least))
    ]

    nodes_still : after.known.nodes ≤ most_visited asked.budget (length p.sizes) best
    nodes_still = most_still budget asked.budget (length p.sizes) best before.known.best before.known.nodes after.known.nodes stage.within so_far.nodes nothing_before stage.searched.nodes

    ends_so : EndsSo asked.error budget after.known after.ended
    ends_so = stage_ends p shared asked budget limit before after stage

    -- after one more stage that is spent
    pub so_far_more : after.ended.spent ≡ true → IsSoFar p shared asked best limit after
    so_far_more spent = record {
      stages = (suc so_far.stages.0, (budget, earlier, before, wider, so_far.stages.1, stage));
      spent = spent;
      known = stage.searched.known;
      same = same_still;
      better = better_still;
      lower = lower_still;
      first = λ none. absurd (something_known asked.error budget after.known after.ended ends_so none);
      effort = effort_still;
      few = most_within budget asked.budget (length p.sizes) before.known.best before.known.nodes after.known.nodes stage.within so_far.few so_far.first stage.searched.nodes;
      nodes = nodes_still;
    }

    -- after the last one
    pub outcome_is : AreSharedCosts p shared → (after.ended.spent ≡ false) ⊎ (asked.budget ≤ after.known.nodes) ⊎ (budget ≡ asked.budget) → IsOutcome p asked best after
    outcome_is costs how = record {
      stages = (shared, suc so_far.stages.0, limit, costs, (budget, earlier, before, wider, so_far.stages.1, stage));
      known = stage.searched.known;
      some = found_some;
      same = same_still;
      better = better_still;
      lower = lower_still;
      ends = elim how [
        | inl not_spent ↦ ends_whole asked.error budget asked.budget after.known after.ended ends_so (inl not_spent)
        | inr rest ↦ elim rest [
          | inl reached ↦ ends_whole asked.error budget asked.budget after.known after.ended ends_so (inr reached)
          | inr whole ↦ subst (λ (b : ℕ). EndsSo asked.error b after.known after.ended) whole ends_so
        ]
      ];
      apart = λ spent. (stage.spent spent).1;
      effort = effort_still;
      nodes = nodes_still;
    }

-- the same of a last stage that had the whole budget, unless memory was wanted
pub last_outcome : (p : Dcop) (shared : SharedCosts) (asked : Asked) (best : Option ℕ) (earlier limit : ℕ) (before : Outcome) (result : Result Outcome NoMemory) → AreSharedCosts p shared
    → IsSoFar p shared asked best earlier before → earlier < limit → IfOk result (IsStage p shared asked asked.budget limit before) → IfOk result (IsOutcome p asked best)
last_outcome p shared asked best earlier limit before (Ok after) costs so_far wider stage = outcome_is p shared asked best asked.budget earlier limit before after so_far wider stage costs (inr (inr refl))
last_outcome p shared asked best earlier limit before (Err none) costs so_far wider stage = tt
