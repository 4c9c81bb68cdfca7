-- The end of a run by the core state, and by the network.
use Rattle.std.proofs.Common.{◌≡◌, ℕ, ◌≤◌, min, ◌==◌, List, map, Option, Some, None, sym, ap, ap₂, ◌∙◌, inl, inr, arith}
use Rattle.std.specs.List.{list_all, slice_get}
use Rattle.std.specs.Option.{option_or}
use Rattle.std.proofs.lemmas.Bool.{cases_lt, cond-false, ne_eqb}
use Rattle.dcop_base.specs.Limits.{amount_limit, count_limit}
use Rattle.protocol_steps.specs.View.{View, ended_of, value_of}
use Rattle.protocol_steps.specs.Network.{Network}
use Rattle.protocol_steps.specs.Effect.{has_ended, deliveries}
use Rattle.run_laws.specs.AdoptEnd.{values_of}
use Rattle.problem_text.specs.File.{TextFile}
use Rattle.certificate_text.specs.declared.report.Report.{Report}
use Rattle.certificate_text.specs.declared.verdict.Differs.{Differs}
use Rattle.certificate_text.specs.declared.verdict.Differs.TheVariants.{Deliveries}
use Rattle.delivery_core.specs.State.{CoreView, views_of}
use Rattle.delivery_core.specs.NetworkState.{IsStateOf}
use Rattle.minimised_problem.specs.Differences.{status_difference, count_difference, value_difference, bound_difference, standing_at, root_standing, end_difference}
use Rattle.log_check.specs.Ends.{core_difference}

-- a count that is cut off differs from a printed number where the count itself does
count_cut : (left n : ℕ) → left ≤ amount_limit → count_difference left (min n count_limit) ≡ count_difference left n
count_cut left n small = elim (cases_lt count_limit n) [
  | inl above ↦ (let cut : min n count_limit ≡ count_limit = omega (arith, above) in
      let twice : min (min n count_limit) count_limit ≡ min n count_limit = omega arith in
      cond-false (left == min n count_limit) None (Some (Deliveries left (min (min n count_limit) count_limit))) (ne_eqb left (min n count_limit) (λ e. omega (arith, e, cut, small)))
      ∙ ap (λ (k : ℕ). Some (Deliveries left k)) twice
      ∙ sym (cond-false (left == n) None (Some (Deliveries left (min n count_limit))) (ne_eqb left n (λ e. omega (arith, e, above, small)))))
  | inr within ↦ (let same : min n count_limit ≡ n = omega (arith, within) in ap (λ (k : ℕ). count_difference left k) same)
]

module _ (f : TextFile) (s : CoreView) (r : Report) (end : Network) (is : IsStateOf end s) (small : r.deliveries ≤ amount_limit) where
  pub end_same : core_difference f s r ≡ end_difference f end r
  end_same =
      let status : status_difference (list_all ended_of (views_of s.seats)) r.status ≡ status_difference (has_ended end) r.status =
      ap (λ (vs : List View). status_difference (list_all ended_of vs) r.status) is.views in
      let count : count_difference r.deliveries s.delivered ≡ count_difference r.deliveries (deliveries end) =
      ap (λ (k : ℕ). count_difference r.deliveries k) is.delivered ∙ count_cut r.deliveries (deliveries end) small in
      let values : value_difference 0 r.values (map value_of (views_of s.seats)) ≡ value_difference 0 r.values (values_of end) =
      ap (λ (vs : List View). value_difference 0 r.values (map value_of vs)) is.views in
      let bounds : bound_difference f (standing_at (slice_get (views_of s.seats) 0)) r ≡ bound_difference f (root_standing end) r =
      ap (λ (vs : List View). bound_difference f (standing_at (slice_get vs 0)) r) is.views in
      ap₂ (λ (a b : Option Differs). option_or a b) status
      (ap₂ (λ (a b : Option Differs). option_or a b) count
      (ap₂ (λ (a b : Option Differs). option_or a b) values bounds))
