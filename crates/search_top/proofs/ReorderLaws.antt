-- The report of a search on a file in another order is one on the file, with what was found told in its own order.
use Rattle.std.proofs.Common.{◌≡◌, ℕ, ◌+◌, ◌<◌, ◌≤◌, List, [], ◌∷◌, length, map, Option, Some, None, IfSome, option_map, refl, sym, ap, subst, ◌∙◌}
use Rattle.std.specs.List.{AllZip, slice_index}
use Rattle.std.proofs.lemmas.List.Elements.{length_all_zip}
use Rattle.std.proofs.lemmas.List.Sums.{sum_by-cons}
use Rattle.problem_text.proofs.NamesLaws.{length-map}
use Rattle.dcop_base.specs.Table.{CostTable, AreWithin, values_at, greatest}
use Rattle.dcop_base.specs.Problem.{IsAssignment, cost}
use Rattle.dcop_base.specs.Faults.{greatest_sum}
use Rattle.dcop_base.specs.Whole.{IsProblem}
use Rattle.dcop_optimum.specs.Goal.{top_of}
use Rattle.problem_text.specs.File.{TextFile}
use Rattle.problem_text.specs.declared.file.Goal.{Goal}
use Rattle.minimised_problem.specs.Goal.{solved, IsAtMostWorse}
use Rattle.problem_order.specs.Reordered.{IsTableFor, IsReordered}
use Rattle.problem_order.specs.Costs.{CostTheSame}
use Rattle.shared_costs.specs.Shared.{AreSharedCosts}
use Rattle.search_stages.specs.Outcomes.{most_visited, IsOutcome, TellsOutcome}
use Rattle.search_stages.specs.Stages.{AreStages}
use Rattle.search_stages.specs.Turning.{told_sum, found_told, report_told}
use Rattle.search_stages.specs.declared.asked.Asked.{Asked}
use Rattle.search_stages.specs.declared.report.Found.{Found}
use Rattle.search_stages.specs.declared.report.SearchEnding.{SearchEnding}
use Rattle.search_stages.specs.declared.report.SearchEnding.TheVariants.{Solved, Spent, NoneBetter}
use Rattle.search_stages.specs.declared.report.SearchReport.{SearchReport}
use Rattle.search_stages.specs.declared.stages.Outcome.{Outcome}
use Rattle.search_top.specs.Outside.{AreToldOutside}
use Rattle.search_top.specs.Report.{IsBetterSum, IsFoundIn, IsBoundOf, EndsBy, IsSearchReport}
use Rattle.search_top.specs.Staged.{IsOfStages}
use Rattle.search_top.proofs.OutsideLaws.{within_outside}
use Rattle.search_top.proofs.TellLaws.{found-is, some-told, bound-told, within-told, ends-is, visited-told, effort-is}

-- the same tables in another order have the same greatest cells
greatest_sum_same : (order : List ℕ) (ts us : List CostTable) → AllZip (IsTableFor order) ts us → greatest_sum us ≡ greatest_sum ts
greatest_sum_same order [] [] are = refl
greatest_sum_same order [] (u ∷ us) are = absurd are
greatest_sum_same order (t ∷ ts) [] are = absurd are
greatest_sum_same order (t ∷ ts) (u ∷ us) are =
    sum_by-cons (λ (w : CostTable). greatest w.cells) u us
    ∙ ap (λ (cs : List ℕ). greatest cs + greatest_sum us) are.0.cells
    ∙ ap (λ (n : ℕ). greatest t.cells + n) (greatest_sum_same order ts us are.1)
    ∙ sym (sum_by-cons (λ (w : CostTable). greatest w.cells) t ts)

some_is_some : {A : Type 0} (x y : A) → Some x ≡ Some y → x ≡ y
some_is_some x y same = cc

-- the report with this found in place of its own
abbrev pub with_found : SearchReport → Option Found → SearchReport
with_found r found = record { ending = r.ending; goal = r.goal; error = r.error; nodes = r.nodes; bound = r.bound; found = found }

-- what is found inside has a value for each variable
pub found_many : (order : List ℕ) (new : TextFile) (asked : Asked) (found : Option Found) → length new.problem.sizes ≡ length order → IfSome found (IsFoundIn new.goal new.problem asked.better)
    → IfSome found (λ inside. length inside.values ≡ length order)
found_many order new asked None many is = tt
found_many order new asked (Some found) many is = sym (length_all_zip (λ s v. v < s) new.problem.sizes found.values is.assignment) ∙ many

some_told : (order : List ℕ) (inside outside : Option Found) → AreToldOutside order inside outside → (one : Found) → inside ≡ Some one → (other : Found) × (outside ≡ Some other) × (other.cost ≡ one.cost)
some_told order None outside told one is = absurd (let never = is in cc)
some_told order (Some inside) None told one is = absurd told
some_told order (Some inside) (Some outside) told one is = (outside, refl, told.cost ∙ ap (λ (f : Found). f.cost) (some_is_some inside one is))

none_told : (order : List ℕ) (inside outside : Option Found) → AreToldOutside order inside outside → inside ≡ None → outside ≡ None
none_told order None None told is = refl
none_told order None (Some outside) told is = absurd told
none_told order (Some inside) outside told is = absurd (let never = is in cc)

better_same : (goal goal' : Goal) (cost cost' : ℕ) (better : Option ℕ) → goal ≡ goal' → cost ≡ cost' → IfSome better (λ asked. IsBetterSum goal cost asked) → IfSome better (λ asked. IsBetterSum goal' cost' asked)
better_same goal goal' cost cost' better same equal is =
    subst (λ (g : Goal). IfSome better (λ asked. IsBetterSum g cost' asked)) same
    (subst (λ (n : ℕ). IfSome better (λ asked. IsBetterSum goal n asked)) equal is)

-- what is said of a goal and a top sum is said of the same ones
same_told : (Said : Goal → ℕ → Type 0) (goal goal' : Goal) (top top' : ℕ) → goal ≡ goal' → top ≡ top' → Said goal top → Said goal' top'
same_told Said goal goal' top top' one other is = subst (λ (g : Goal). Said g top') one (subst (λ (t : ℕ). Said goal t) other is)

module _ (old new : TextFile) (order : List ℕ) (reordered : IsReordered old order new) where
  pub count_same : length new.problem.sizes ≡ length order
  count_same = ap length reordered.sizes ∙ length-map (λ v. slice_index old.problem.sizes v) order

  module _ (same : CostTheSame old new order) (asked : Asked) where
    found_outside : (inside outside : Option Found) → AreToldOutside order inside outside → IfSome inside (IsFoundIn new.goal new.problem asked.better) → IfSome outside (IsFoundIn old.goal old.problem asked.better)
    found_outside None None told is = tt
    found_outside None (Some outside) told is = absurd told
    found_outside (Some inside) None told is = absurd told
    found_outside (Some inside) (Some outside) told is =
        let there : AreWithin (map (λ v. slice_index old.problem.sizes v) order) (values_at order outside.values) =
        subst (λ (ss : List ℕ). AreWithin ss (values_at order outside.values)) reordered.sizes
        (subst (λ (vs : List ℕ). AreWithin new.problem.sizes vs) (sym told.values) is.assignment) in
        let here : IsAssignment old.problem outside.values = within_outside old.problem.sizes order outside.values reordered.is_order told.many there in
        record {
          assignment = here;
          sum = told.cost ∙ is.sum ∙ ap (λ (vs : List ℕ). cost new.problem vs) (sym told.values) ∙ (same.by_names outside.values here).cost;
          sought = better_same new.goal old.goal inside.cost outside.cost asked.better reordered.goal (sym told.cost) is.sought;
        }

    bound_outside : (bound : ℕ) → IsBoundOf new.goal new.problem bound → IsBoundOf old.goal old.problem bound
    bound_outside bound is values within =
        let one = same.by_names values within in
        subst (λ (g : Goal). IsAtMostWorse g 0 bound (cost old.problem values)) reordered.goal
        (subst (λ (n : ℕ). IsAtMostWorse new.goal 0 bound n) one.cost (is (values_at order values) one.assignment))

    told_apart : (goal : Goal) (bound : ℕ) (inside outside : Option Found) → AreToldOutside order inside outside → IfSome inside (λ told. IsAtMostWorse goal asked.error told.cost bound → ⊥)
        → IfSome outside (λ told. IsAtMostWorse goal asked.error told.cost bound → ⊥)
    told_apart goal bound None None told apart = tt
    told_apart goal bound None (Some outside) told apart = absurd told
    told_apart goal bound (Some inside) None told apart = absurd told
    told_apart goal bound (Some inside) (Some outside) told apart = subst (λ (n : ℕ). IsAtMostWorse goal asked.error n bound → ⊥) (sym told.cost) apart

    none_inside : (inside outside : Option Found) → AreToldOutside order inside outside → outside ≡ None → inside ≡ None
    none_inside None outside told none = refl
    none_inside (Some inside) None told none = absurd told
    none_inside (Some inside) (Some outside) told none = cc

    told_effort : (Said : Type 0) (inside outside : Option Found) → AreToldOutside order inside outside → IfSome inside (λ found. Said) → IfSome outside (λ found. Said)
    told_effort Said None None told said = tt
    told_effort Said None (Some outside) told said = absurd told
    told_effort Said (Some inside) None told said = absurd told
    told_effort Said (Some inside) (Some outside) told said = said

    ends_outside : (inside : SearchReport) (found : Option Found) → AreToldOutside order inside.found found → (ending : SearchEnding) → EndsBy asked inside ending → EndsBy asked (with_found inside found) ending
    ends_outside inside found told Solved is =
        let one = some_told order inside.found found told is.found is.known in
        record {
          found = one.0;
          known = one.1;
          within = subst (λ (n : ℕ). IsAtMostWorse inside.goal asked.error n inside.bound) (sym one.2) is.within;
        }
    ends_outside inside found told Spent is = record {
      reached = is.reached;
      apart = told_apart inside.goal inside.bound inside.found found told is.apart;
      sought = λ none. is.sought (none_inside inside.found found told none);
    }
    ends_outside inside found told NoneBetter is = record {
      none = none_told order inside.found found told is.none;
      better = is.better;
      sought = is.sought;
      within = is.within;
    }

    module _ (o : Outcome) (found : Option Found) (whole : IsProblem new.problem)
        (is : IsOutcome (solved new.goal new.problem) asked (option_map (told_sum new.goal (top_of new.problem)) asked.better) o)
        (told : AreToldOutside order (found_told new.goal (top_of new.problem) o.known) found) where
      top : top_of new.problem ≡ top_of old.problem
      top = greatest_sum_same order old.problem.tables new.problem.tables reordered.tables

      count : length new.problem.sizes ≡ length old.problem.sizes
      count = count_same ∙ reordered.is_order.many

      abbrev told_inside : SearchReport
      told_inside = report_told new.goal (top_of new.problem) asked o

      stages_outside : IsOfStages old.goal old.problem asked (with_found told_inside found)
      stages_outside = record {
        order = order;
        inside = new.problem;
        ordered = record { is_order = reordered.is_order; sizes = reordered.sizes; tables = reordered.tables };
        shared = is.stages.0;
        costs = same_told (λ goal sum. AreSharedCosts (solved goal new.problem) is.stages.0) new.goal old.goal (top_of new.problem) (top_of old.problem) reordered.goal top is.stages.3;
        count = is.stages.1;
        limit = is.stages.2;
        outcome = o;
        stages = same_told (λ goal sum. AreStages (solved goal new.problem) is.stages.0 asked (option_map (told_sum goal sum) asked.better) is.stages.1 is.stages.2 o) new.goal old.goal (top_of new.problem) (top_of old.problem) reordered.goal top is.stages.4;
        nodes = refl;
        bound = same_told (λ goal sum. told_sum new.goal (top_of new.problem) o.ended.lower ≡ told_sum goal sum o.ended.lower) new.goal old.goal (top_of new.problem) (top_of old.problem) reordered.goal top refl;
        found = same_told (λ goal sum. AreToldOutside order (found_told goal sum o.known) found) new.goal old.goal (top_of new.problem) (top_of old.problem) reordered.goal top told;
        ending = refl;
      }

      -- the report of an outcome, with what was found told outside
      told_outside : IsSearchReport old.goal old.problem asked (with_found told_inside found)
      told_outside = record {
        same_goal = reordered.goal;
        error = refl;
        found = found_outside told_inside.found found told (found-is new.goal new.problem asked o whole is);
        some = λ any. (let one = some-told new.goal new.problem asked o is any in let other = some_told order told_inside.found found told one.0 one.1 in (other.0, other.1));
        bound = bound_outside told_inside.bound (bound-told new.goal new.problem o.ended.lower whole is.lower);
        within = subst (λ (n : ℕ). told_inside.bound ≤ n) top (within-told new.goal new.problem o.ended.lower whole is.lower);
        ends = ends_outside told_inside found told told_inside.ending (ends-is new.goal new.problem asked o whole is);
        nodes = subst (λ (n : ℕ). told_inside.nodes ≤ most_visited asked.budget n asked.better) count (visited-told new.goal new.problem asked.budget o.known.nodes asked.better is.nodes);
        effort = told_effort (length old.problem.sizes ≤ told_inside.nodes) told_inside.found found told (subst (λ (n : ℕ). IfSome told_inside.found (λ one. n ≤ told_inside.nodes)) count (effort-is new.goal new.problem asked o whole is));
        stages = stages_outside;
      }

    pub report_outside : (inside : SearchReport) (found : Option Found) → IsProblem new.problem → TellsOutcome new.goal new.problem asked inside → AreToldOutside order inside.found found
        → IsSearchReport old.goal old.problem asked (with_found inside found)
    report_outside inside found whole tells =
        subst (λ (r : SearchReport). AreToldOutside order r.found found → IsSearchReport old.goal old.problem asked (with_found r found)) (sym tells.told)
        (told_outside tells.outcome found whole tells.came)
