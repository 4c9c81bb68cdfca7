-- What came of a search on the problem solved, told of the problem.
use Rattle.std.proofs.Common.{◌≡◌, ℕ, ◌+◌, ◌<◌, ◌≤◌, Bool, true, false, List, length, replicate, Option, Some, None, IfSome, option_map, if◌then◌else◌, refl, sym, ap, subst, ◌∙◌, arith}
use Rattle.std.proofs.lemmas.List.Elements.{All-weaker}
use Rattle.dcop_base.specs.Problem.{Dcop, IsAssignment, cost}
use Rattle.dcop_base.specs.Whole.{IsProblem}
use Rattle.dcop_base.specs.Limits.{size_limit}
use Rattle.dcop_base.proofs.ProblemLaws.{cost-le-greatest_sum}
use Rattle.dcop_optimum.specs.Goal.{top_of}
use Rattle.dcop_optimum.proofs.PlaceLaws.{zeros_within}
use Rattle.dcop_optimum.proofs.TurnLaws.{sum_to_top}
use Rattle.problem_text.specs.declared.file.Goal.{Goal}
use Rattle.problem_text.specs.declared.file.Goal.TheVariants.{Min, Max}
use Rattle.minimised_problem.specs.Goal.{solved, IsAtMostWorse}
use Rattle.bound_search.specs.Known.{IsBelow}
use Rattle.search_stages.specs.Outcomes.{most_visited, IsOutcome, TellsOutcome}
use Rattle.search_stages.specs.Stages.{IsApart}
use Rattle.search_stages.specs.Turning.{told_sum, found_told, ending_told, report_told}
use Rattle.search_stages.specs.declared.asked.Asked.{Asked}
use Rattle.search_stages.specs.declared.report.Found.{Found}
use Rattle.search_stages.specs.declared.report.SearchReport.{SearchReport}
use Rattle.search_stages.specs.declared.stages.Outcome.{Outcome}
use Rattle.search_stages.proofs.EndLaws.{has_ended, has_spent}
use Rattle.search_top.specs.Report.{IsBetterSum, IsFoundIn, IsBoundOf, HasSpent, EndsBy}

-- an assignment with its sum
abbrev pub with_sum : Goal → ℕ → List ℕ → ℕ → Found
with_sum goal top values best = record { cost = told_sum goal top best; values = values }

-- the assignments are those of the problem
assignment-of : (goal : Goal) (p : Dcop) (values : List ℕ) → IsAssignment (solved goal p) values → IsAssignment p values
assignment-of Min p values is = is
assignment-of Max p values is = is

assignment-in : (goal : Goal) (p : Dcop) (values : List ℕ) → IsAssignment p values → IsAssignment (solved goal p) values
assignment-in Min p values is = is
assignment-in Max p values is = is

sizes-solved : (goal : Goal) (p : Dcop) → length (solved goal p).sizes ≡ length p.sizes
sizes-solved Min p = refl
sizes-solved Max p = refl

-- what an assignment costs there is told as its sum
sum-told : (goal : Goal) (p : Dcop) (values : List ℕ) → IsProblem p → IsAssignment p values → told_sum goal (top_of p) (cost (solved goal p) values) ≡ cost p values
sum-told Min p values whole is = refl
sum-told Max p values whole is = let costs = sum_to_top p whole values is in omega (arith, costs)

-- what is less there is better
better-told : (goal : Goal) (top best sum : ℕ) → best < told_sum goal top sum → IsBetterSum goal (told_sum goal top best) sum
better-told Min top best sum less = less
better-told Max top best sum less = omega (arith, less)

-- what is at most so much more there is at most so much worse
worse-told : (goal : Goal) (top error sum lower : ℕ) → sum ≤ lower + error → IsAtMostWorse goal error (told_sum goal top sum) (told_sum goal top lower)
worse-told Min top error sum lower most = most
worse-told Max top error sum lower most = omega (arith, most)

-- the same of a sum that was told
sought-told : (goal : Goal) (top error sum lower : ℕ) → told_sum goal top sum ≤ lower + error → IsAtMostWorse goal error sum (told_sum goal top lower)
sought-told Min top error sum lower most = most
sought-told Max top error sum lower most = omega (arith, most)

-- some assignment costs at least the lower bound, so the bound is at most the top sum
pub within-told : (goal : Goal) (p : Dcop) (lower : ℕ) → IsProblem p → ((values : List ℕ) → IsAssignment (solved goal p) values → lower ≤ cost (solved goal p) values)
    → told_sum goal (top_of p) lower ≤ top_of p
within-told Min p lower whole below =
    let ones = All-weaker (λ s. (1 ≤ s) × (s ≤ size_limit)) (λ s. 1 ≤ s) (λ s both. both.0) p.sizes whole.sizes in
    let zeros = replicate (length p.sizes) 0 in
    let least = below zeros (zeros_within p.sizes ones) in
    let most = cost-le-greatest_sum p zeros in
    omega (arith, least, most)
within-told Max p lower whole below = omega arith

-- a sum that is better than what was asked for, where something was
sought-in : (goal : Goal) (top best : ℕ) (better : Option ℕ) → IsBelow (Some best) (option_map (told_sum goal top) better) → IfSome better (λ sum. IsBetterSum goal (told_sum goal top best) sum)
sought-in goal top best None below = tt
sought-in goal top best (Some sum) below = better-told goal top best sum below

-- an assignment that is known as found, told of the problem
found-in : (goal : Goal) (p : Dcop) (better : Option ℕ) (found : Bool) (best : Option ℕ) (values : List ℕ) → IsProblem p
    → (found ≡ true → IsAssignment (solved goal p) values × (best ≡ Some (cost (solved goal p) values)))
    → (found ≡ true → IsBelow best (option_map (told_sum goal (top_of p)) better))
    → IfSome (if found then option_map (with_sum goal (top_of p) values) best else None) (IsFoundIn goal p better)
found-in goal p better false best values whole known below = tt
found-in goal p better true None values whole known below = absurd (below refl)
found-in goal p better true (Some best) values whole known below =
    let of = assignment-of goal p values (known refl).0 in
    let same : best ≡ cost (solved goal p) values = cc (known refl).1 in
    record {
      assignment = of;
      sum = ap (told_sum goal (top_of p)) same ∙ sum-told goal p values whole of;
      sought = sought-in goal (top_of p) best better (below refl);
    }

-- where an assignment is known as found it is told, and else none
found-some : (goal : Goal) (top : ℕ) (found : Bool) (best : Option ℕ) (values : List ℕ) (sum : ℕ) → found ≡ true → best ≡ Some sum
    → (if found then option_map (with_sum goal top values) best else None) ≡ Some (with_sum goal top values sum)
found-some goal top true (Some best) values sum is known = ap (λ (b : Option ℕ). option_map (with_sum goal top values) b) known
found-some goal top true None values sum is known = cc
found-some goal top false best values sum is known = cc

found-none : (goal : Goal) (top : ℕ) (found : Bool) (best : Option ℕ) (values : List ℕ) → found ≡ false
    → (if found then option_map (with_sum goal top values) best else None) ≡ None
found-none goal top true best values is = cc
found-none goal top false best values is = refl

-- what was to be bettered, by what is told of it
sought-of : (goal : Goal) (top : ℕ) (better : Option ℕ) (best : ℕ) → option_map (told_sum goal top) better ≡ Some best → (sum : ℕ) × (better ≡ Some sum) × (told_sum goal top sum ≡ best)
sought-of goal top None best e = cc
sought-of goal top (Some sum) best e = (sum, refl, cc e)

-- what is more than so much above the bound there is more than so much worse
apart-told : (goal : Goal) (top error sum lower : ℕ) → sum ≤ top → lower + error < sum → IsAtMostWorse goal error (told_sum goal top sum) (told_sum goal top lower) → ⊥
apart-told Min top error sum lower most apart near = omega (arith, apart, near)
apart-told Max top error sum lower most apart near = omega (arith, most, apart, near)

-- the same of a sum that was told
apart-sought : (goal : Goal) (top error sum lower : ℕ) → lower + error < told_sum goal top sum → IsAtMostWorse goal error sum (told_sum goal top lower) → ⊥
apart-sought Min top error sum lower apart near = omega (arith, apart, near)
apart-sought Max top error sum lower apart near = omega (arith, apart, near)

-- an assignment costs at most the top sum
cost-within : (goal : Goal) (p : Dcop) (values : List ℕ) → IsProblem p → IsAssignment (solved goal p) values → cost (solved goal p) values ≤ top_of p
cost-within Min p values whole is = cost-le-greatest_sum p values
cost-within Max p values whole is = let costs = sum_to_top p whole values is in omega (arith, costs)

apart-found : (goal : Goal) (top error lower : ℕ) (found : Bool) (best : Option ℕ) (values : List ℕ) → (found ≡ true → IfSome best (λ sum. sum ≤ top)) → IsApart error best lower
    → IfSome (if found then option_map (with_sum goal top values) best else None) (λ told. IsAtMostWorse goal error told.cost (told_sum goal top lower) → ⊥)
apart-found goal top error lower false best values most apart = tt
apart-found goal top error lower true None values most apart = tt
apart-found goal top error lower true (Some sum) values most apart = apart-told goal top error sum lower (most refl) apart

apart-none : (goal : Goal) (top error lower : ℕ) (better best : Option ℕ) → best ≡ option_map (told_sum goal top) better → IsApart error best lower
    → IfSome better (λ sum. IsAtMostWorse goal error sum (told_sum goal top lower) → ⊥)
apart-none goal top error lower None best e apart = tt
apart-none goal top error lower (Some sum) best e apart =
    apart-sought goal top error sum lower (subst (λ (b : Option ℕ). IsApart error b lower) e apart)

-- where nothing is told as found, nothing was known as found
none-found : (goal : Goal) (top : ℕ) (found : Bool) (best : Option ℕ) (values : List ℕ) (sum : ℕ) → (found ≡ true → best ≡ Some sum)
    → (if found then option_map (with_sum goal top values) best else None) ≡ None → found ≡ false
none-found goal top false best values sum known e = refl
none-found goal top true None values sum known e = let has = known refl in cc
none-found goal top true (Some n) values sum known e = cc

some-within : (best : Option ℕ) (sum top : ℕ) → best ≡ Some sum → sum ≤ top → IfSome best (λ n. n ≤ top)
some-within best sum top e le = subst (λ (b : Option ℕ). IfSome b (λ n. n ≤ top)) (sym e) le

spent-told : (goal : Goal) (p : Dcop) (asked : Asked) (o : Outcome) → IsProblem p → IsOutcome (solved goal p) asked (option_map (told_sum goal (top_of p)) asked.better) o
    → o.ended.spent ≡ true → HasSpent asked (report_told goal (top_of p) asked o)
spent-told goal p asked o whole is spent = record {
  reached = (has_spent asked.error asked.budget o.known o.ended is.ends spent).reached;
  apart = apart-found goal (top_of p) asked.error o.ended.lower o.known.found o.known.best o.known.values
      (λ known. let found = is.known.found known in some-within o.known.best (cost (solved goal p) o.known.values) (top_of p) found.cost (cost-within goal p o.known.values whole found.assignment))
      (is.apart spent);
  sought = λ none. (let not = none-found goal (top_of p) o.known.found o.known.best o.known.values (cost (solved goal p) o.known.values) (λ known. (is.known.found known).cost) none in
      apart-none goal (top_of p) asked.error o.ended.lower asked.better o.known.best (is.same not) (is.apart spent));
}

-- how a search ended, told of the problem
ends-told : (goal : Goal) (p : Dcop) (asked : Asked) (o : Outcome) → IsProblem p → IsOutcome (solved goal p) asked (option_map (told_sum goal (top_of p)) asked.better) o
    → (found spent : Bool) → o.known.found ≡ found → o.ended.spent ≡ spent → EndsBy asked (report_told goal (top_of p) asked o) (ending_told found spent)
ends-told goal p asked o whole is found true known spent = spent-told goal p asked o whole is spent
ends-told goal p asked o whole is true false known spent =
    let ended = has_ended asked.error asked.budget o.known o.ended is.ends spent in
    record {
      found = with_sum goal (top_of p) o.known.values ended.best;
      known = found-some goal (top_of p) o.known.found o.known.best o.known.values ended.best known ended.known_is;
      within = worse-told goal (top_of p) asked.error ended.best o.ended.lower ended.within;
    }
ends-told goal p asked o whole is false false known spent =
    let ended = has_ended asked.error asked.budget o.known o.ended is.ends spent in
    let sought = sought-of goal (top_of p) asked.better ended.best (sym (is.same known) ∙ ended.known_is) in
    let most = ended.within in
    let same = sought.2 in
    record {
      none = found-none goal (top_of p) o.known.found o.known.best o.known.values known;
      better = sought.0;
      sought = sought.1;
      within = sought-told goal (top_of p) asked.error sought.0 o.ended.lower (rw same most);
    }

-- without a sum to be bettered an assignment is told
pub some-told : (goal : Goal) (p : Dcop) (asked : Asked) (o : Outcome) → IsOutcome (solved goal p) asked (option_map (told_sum goal (top_of p)) asked.better) o
    → asked.better ≡ None → (found : Found) × (found_told goal (top_of p) o.known ≡ Some found)
some-told goal p asked o is none =
    let known = is.some (ap (λ (b : Option ℕ). option_map (told_sum goal (top_of p)) b) none) in
    let sum = cost (solved goal p) o.known.values in
    (with_sum goal (top_of p) o.known.values sum, found-some goal (top_of p) o.known.found o.known.best o.known.values sum known (is.known.found known).cost)

-- no sum is better than the bound that is told
pub bound-told : (goal : Goal) (p : Dcop) (lower : ℕ) → IsProblem p → ((values : List ℕ) → IsAssignment (solved goal p) values → lower ≤ cost (solved goal p) values)
    → IsBoundOf goal p (told_sum goal (top_of p) lower)
bound-told goal p lower whole below values is =
    let least = below values (assignment-in goal p values is) in
    subst (λ (sum : ℕ). IsAtMostWorse goal 0 (told_sum goal (top_of p) lower) sum) (sum-told goal p values whole is)
    (worse-told goal (top_of p) 0 lower (cost (solved goal p) values) (omega (arith, least)))

-- what is to be bettered is told as a sum, where something is
most-visited : (told : ℕ → ℕ) (budget count : ℕ) (better : Option ℕ) → most_visited budget count (option_map told better) ≡ most_visited budget count better
most-visited told budget count None = refl
most-visited told budget count (Some sum) = refl

pub visited-told : (goal : Goal) (p : Dcop) (budget nodes : ℕ) (better : Option ℕ) → nodes ≤ most_visited budget (length (solved goal p).sizes) (option_map (told_sum goal (top_of p)) better)
    → nodes ≤ most_visited budget (length p.sizes) better
visited-told goal p budget nodes better few =
    subst (λ (most : ℕ). nodes ≤ most) (most-visited (told_sum goal (top_of p)) budget (length p.sizes) better)
    (subst (λ (count : ℕ). nodes ≤ most_visited budget count (option_map (told_sum goal (top_of p)) better)) (sizes-solved goal p) few)

-- what is told as found was known as found
effort-told : {Said : Type 0} (goal : Goal) (top : ℕ) (found : Bool) (best : Option ℕ) (values : List ℕ) → (found ≡ true → Said)
    → IfSome (if found then option_map (with_sum goal top values) best else None) (λ told. Said)
effort-told goal top false best values said = tt
effort-told goal top true None values said = tt
effort-told goal top true (Some sum) values said = said refl

module _ (goal : Goal) (p : Dcop) (asked : Asked) (o : Outcome) (whole : IsProblem p) (is : IsOutcome (solved goal p) asked (option_map (told_sum goal (top_of p)) asked.better) o) where
  -- what is told as found is an assignment of the problem, with its sum
  pub found-is : IfSome (found_told goal (top_of p) o.known) (IsFoundIn goal p asked.better)
  found-is = found-in goal p asked.better o.known.found o.known.best o.known.values whole (λ known. let found = is.known.found known in (found.assignment, found.cost)) is.better

  pub ends-is : EndsBy asked (report_told goal (top_of p) asked o) (ending_told o.known.found o.ended.spent)
  ends-is = ends-told goal p asked o whole is o.known.found o.ended.spent refl refl

  pub effort-is : IfSome (found_told goal (top_of p) o.known) (λ told. length p.sizes ≤ o.known.nodes)
  effort-is = effort-told goal (top_of p) o.known.found o.known.best o.known.values (λ known. subst (λ (n : ℕ). n ≤ o.known.nodes) (sizes-solved goal p) (is.effort known))

-- what a report tells as found is so
pub found-told : (goal : Goal) (p : Dcop) (asked : Asked) (r : SearchReport) → IsProblem p → TellsOutcome goal p asked r → IfSome r.found (IsFoundIn goal p asked.better)
found-told goal p asked r whole tells =
    subst (λ (s : SearchReport). IfSome s.found (IsFoundIn goal p asked.better)) (sym tells.told) (found-is goal p asked tells.outcome whole tells.came)
