-- The law on runs of DPOP agents.
use Rattle.std.proofs.Common.{◌≡◌, ℕ, ◌<◌, Bool, true, false, cond, List, map, length, Some, None, refl, sym, ap, subst, ◌∙◌, arith}
use Rattle.std.specs.List.{range_with_len, All, slice_get}
use Rattle.std.specs.Option.{option_map}
use Rattle.std.proofs.lemmas.Option.{none-some, same_Some, slice_get-map, get_or_from_slice_get}
use Rattle.std.proofs.lemmas.List.{ext_get_or, length-map}
use Rattle.std.proofs.lemmas.List.FromFn.{length-range_with_len}
use Rattle.dcop_base.specs.Table.{CostTable}
use Rattle.dcop_base.specs.Problem.{Dcop}
use Rattle.dcop_base.specs.Whole.{IsProblem}
use Rattle.pseudotree.specs.Pseudotree.{IsPseudotree, IsLinked}
use Rattle.pseudotree.specs.Width.{IsNarrow}
use Rattle.pseudotree.specs.Fault.{parents_of}
use Rattle.protocol_steps.specs.declared.message.Message.{Message}
use Rattle.protocol_steps.specs.Dpop.{DpopView}
use Rattle.protocol_steps.specs.View.{DpopKind, value_of}
use Rattle.protocol_steps.specs.Network.{Network, link}
use Rattle.protocol_steps.specs.Effect.{has_ended}
use Rattle.dcop_optimum.specs.TreeOptimum.{IsFirstOptimumOf}
use Rattle.dcop_optimum.specs.Certificate.{IsTableCertificate}
use Rattle.dcop_optimum.proofs.JoinLaws.{listed, listed_at}
use Rattle.run_laws.specs.DpopAgents.{IsOptimumTable, IsSent, AreAgents, AreUncut}
use Rattle.run_laws.specs.DpopLaws.{separators_of, MadeTables, IsWhole, HoldsOfDpop, DpopRuns}
use Rattle.run_laws.proofs.Plan.{Plan}
use Rattle.run_laws.proofs.SomePlan.{some_plan}
use Rattle.run_laws.proofs.Marks.{Marks, joined, ended, view}
use Rattle.run_laws.proofs.DpopRunSteps.{IsAt, runs_on}
use Rattle.run_laws.proofs.DpopStartLaws.{at_start, starts}
use Rattle.run_laws.proofs.UncutLaws.{uncut}
use Rattle.run_laws.proofs.DpopPendingLaws.{few_utils, few_values, nothing_else, each_ended, not_yet, too_early, all_utils, all_values}
use Rattle.run_laws.proofs.TableLaws.{optimum_table, sent_good, cells_of, util_is, first_values, certificate, stands}

module _ (p : Dcop) (paths : List (List ℕ)) (problem : IsProblem p) (pseudo : IsPseudotree p paths) (linked : IsLinked p paths) (narrow : IsNarrow p paths) where
  abbrev plan : Plan p paths
  plan = some_plan p paths problem pseudo

  module _ (end : Network) (s : Marks) (is : IsAt p paths problem pseudo linked narrow plan end s) where
    count : length paths ≡ length p.sizes
    count = pseudo.sized

    -- the table that an agent has made
    made : (i : ℕ) → i < length paths → (b : Bool) (t : CostTable) → cond b (Some (plan.table i)) None ≡ Some t → IsOptimumTable p paths i t
    made i lt true t e = subst (λ (u : CostTable). IsOptimumTable p paths i u) (same_Some (plan.table i) t e) (optimum_table p paths problem pseudo plan i lt)
    made i lt false t e = absurd (none-some t e)

    agents : AreAgents p paths end.views
    agents i lt =
        let size = count in
        let inside : i < length paths = omega (arith, lt, size) in (
          DpopKind (view plan s i),
          is.views i inside,
          record {
            made = refl;
            started = refl;
            not_failed = refl;
            beside = stands p paths problem pseudo plan linked i;
            table = λ t e. made i inside (joined plan s i) t e;
          },
        )

    uncut_are : (i : ℕ) → i < length p.sizes → (v : DpopView) × (slice_get end.views i ≡ Some (DpopKind v)) × AreUncut p paths i v
    uncut_are i lt =
        let size = count in
        let inside : i < length paths = omega (arith, lt, size) in
        (view plan s i, is.views i inside, uncut p paths problem pseudo plan i inside s.up (ended plan s i) (view plan s i).made (view plan s i).value)

    sent_are : (i j : ℕ) → i < length p.sizes → All (IsSent p paths i) (link end.desks i j)
    sent_are i j lt =
        let size = count in
        let inside : i < length paths = omega (arith, lt, size) in
        subst (λ (ms : List Message). All (IsSent p paths i) ms) (sym (is.sent_is j i inside))
        (sent_good p paths problem pseudo plan i inside _ _ _)

    module _ (done : has_ended end ≡ true) where
      ended_at : (i : ℕ) → i < length paths → ended plan s i ≡ true
      ended_at = each_ended p paths problem pseudo linked narrow plan end s is done

      values_are : map value_of end.views ≡ listed p plan.value
      values_are =
          let size = count in
          let views = is.count in
          let long = length-map end.views value_of in
          ext_get_or 0 (map value_of end.views) (listed p plan.value)
          (long ∙ views ∙ size ∙ sym (length-map (range_with_len 0 (length p.sizes)) plan.value ∙ length-range_with_len 0 (length p.sizes)))
          (λ i lt.
          let inside : i < length paths = omega (arith, lt, long, views) in
          get_or_from_slice_get (map value_of end.views) i (plan.value i) 0
          (slice_get-map value_of end.views i ∙ ap (option_map value_of) (is.views i inside) ∙ ap (λ (b : Bool). Some (cond b (plan.value i) 0)) (ended_at i inside))
          ∙ sym (listed_at p plan.value i (omega (arith, inside, size))))

      tables : MadeTables p paths (cells_of p paths problem pseudo plan) end.views
      tables i lt =
          let size = count in
          let inside : i < length paths = omega (arith, lt, size) in (
            DpopKind (view plan s i),
            is.views i inside,
            ap (λ (b : Bool). cond b (Some (plan.table i)) None) (is.fit.ended_joined i (ended_at i inside))
                ∙ ap (λ (t : CostTable). Some t) (sym (util_is p paths problem pseudo plan i inside)),
          )

      whole : IsWhole p paths end
      whole =
          let size = count in
          record {
            all_utils = let all = all_utils p paths problem pseudo linked narrow plan end s is done in omega (arith, all, size);
            all_values = let all = all_values p paths problem pseudo linked narrow plan end s is done in omega (arith, all, size);
            first = subst (λ (ds : List ℕ). IsFirstOptimumOf p paths ds) (sym values_are) (first_values p paths problem pseudo plan);
            cells = cells_of p paths problem pseudo plan;
            tables = tables;
            certificate =
                subst (λ (ds : List ℕ). IsTableCertificate p (parents_of paths) (separators_of p paths) (cells_of p paths problem pseudo plan) ds) (sym values_are)
                (certificate p paths problem pseudo plan);
          }

    pub holds : HoldsOfDpop p paths end
    holds =
        let size = count in
        record {
          few_utils = let few = few_utils p paths problem pseudo linked narrow plan end s is in omega (arith, few, size);
          few_values = let few = few_values p paths problem pseudo linked narrow plan end s is in omega (arith, few, size);
          nothing_else = nothing_else p paths problem pseudo linked narrow plan end s is;
          sent = sent_are;
          sized = is.count ∙ size;
          agents = agents;
          uncut = uncut_are;
          pending = not_yet p paths problem pseudo linked narrow plan end s is;
          early = λ h. let low = too_early p paths problem pseudo linked narrow plan end s is h in omega (arith, low, size);
          whole = whole;
        }

pub dpop_runs : DpopRuns
dpop_runs = record {
  runs = λ p paths problem pseudo linked narrow es end r.
      let plan : Plan p paths = some_plan p paths problem pseudo in
      let now = runs_on p paths problem pseudo linked narrow plan _ end at_start es (starts p paths problem pseudo linked narrow plan) r in
      holds p paths problem pseudo linked narrow end now.0 now.1;
}
