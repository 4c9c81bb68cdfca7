use Rattle.std.proofs.Common.{◌≡◌, ℕ, ◌+◌, ◌<◌, List, length, get_or, set, drop, sym, ap, subst, ◌∙◌, arith}
use Rattle.std.proofs.lemmas.List.{drop_all, get_or-set_same}
use Rattle.std.proofs.lemmas.List.Elements.{length_all_zip}
use Rattle.dcop_base.specs.Values.{with_own}
use Rattle.shared_costs.specs.Values.{AgreeBelow}
use Rattle.bound_search.specs.Estimate.{estimate}
use Rattle.bound_search.specs.Descent.{HasDescended, far_of}
use Rattle.bound_search.specs.declared.progress.Progress.{Progress}
use Rattle.bound_search.proofs.RowLaws.{values_of, within_set, agree_set, agree_more, agree_less, row_agrees, sum_left}
use Rattle.bound_search.proofs.EstimateLaws.{estimate_agrees}
use Rattle.bound_search.proofs.DescentLaws.{visiting_start, visiting_next, visiting_end, descent_taken, standing_taken, standing_opened, standing_stopped, few_left, entry_is}
use Rattle.bound_search.specs.Visits.{VisitsFrom}
use Rattle.bound_search.proofs.VisitLaws.{visits_taken, visits_start, visits_next, visits_end}
use Rattle.bound_search.proofs.descent.+descend.Goals as goal

pub returns-then-depth-sizes-clause-standing : goal.returns-then-depth-sizes-clause-standing
returns-then-depth-sizes-clause-standing t c =
    let value : ℕ → ℕ = λ v. get_or c.args.values.now v 0 in
    let is : c.args.least ≡ estimate (length c.args.sizes.now) c.args.buckets.now value = c.requires.least ∙ ap (λ (n : ℕ). estimate n c.args.buckets.now value) c.if-depth-sizes.true in
    let long = length_all_zip (λ s v. v < s) c.args.sizes.now c.args.values.now c.requires.within in
    standing_taken c.args.sizes.now c.args.buckets.now c.args.rules c.requires.grounds c.args.least c.args.values.now c.copy_from_slice.new.self c.args.progress.now c.take.new.progress c.requires.within (values_of c.args.sizes.now c.args.values.now c.requires.within) is c.copy_from_slice.ensures.after (sym long)
    c.requires.standing.spent c.take.ensures.best c.take.ensures.nodes c.take.ensures.spent c.take.ensures.room

pub returns-then-depth-sizes-clause-descended : goal.returns-then-depth-sizes-clause-descended
returns-then-depth-sizes-clause-descended t c =
    let value : ℕ → ℕ = λ v. get_or c.args.values.now v 0 in
    let is : c.args.least ≡ estimate (length c.args.sizes.now) c.args.buckets.now value = c.requires.least ∙ ap (λ (n : ℕ). estimate n c.args.buckets.now value) c.if-depth-sizes.true in
    subst (λ (n : ℕ). HasDescended c.args.sizes.now c.args.buckets.now c.args.rules n c.args.least value c.args.progress.now c.take.new.progress) (sym c.if-depth-sizes.true)
    (descent_taken c.args.sizes.now c.args.buckets.now c.args.rules c.requires.grounds c.args.least value c.args.progress.now c.take.new.progress (values_of c.args.sizes.now c.args.values.now c.requires.within) is (c.requires.room c.if-depth-sizes.true) c.requires.standing.room
    c.take.ensures.best c.take.ensures.found c.take.ensures.nodes c.take.ensures.lower c.take.ensures.spent c.take.ensures.room)

pub returns-then-depth-sizes-clause-visits : goal.returns-then-depth-sizes-clause-visits
returns-then-depth-sizes-clause-visits t c =
    let value : ℕ → ℕ = λ v. get_or c.args.values.now v 0 in
    let is : c.args.least ≡ estimate (length c.args.sizes.now) c.args.buckets.now value = c.requires.least ∙ ap (λ (n : ℕ). estimate n c.args.buckets.now value) c.if-depth-sizes.true in
    let old = far_of c.args.progress.now in
    let new = far_of c.take.new.progress in
    subst (λ (n : ℕ). VisitsFrom (drop n c.args.sizes.now) c.args.buckets.now c.args.rules n value old new) (sym c.if-depth-sizes.true)
    (subst (λ (left : List ℕ). VisitsFrom left c.args.buckets.now c.args.rules (length c.args.sizes.now) value old new) (sym (drop_all (length c.args.sizes.now) c.args.sizes.now (omega arith)))
    (visits_taken c.args.sizes.now c.args.buckets.now c.args.rules c.requires.grounds c.args.least value c.args.progress.now c.take.new.progress (values_of c.args.sizes.now c.args.values.now c.requires.within) is c.take.ensures.best c.take.ensures.nodes c.take.ensures.lower c.take.ensures.spent))

pub bounds-values-depth : goal.bounds-values-depth
bounds-values-depth t c =
    let long = length_all_zip (λ s v. v < s) c.args.sizes.now c.args.values.now c.requires.within in
    let ne = c.if-depth-sizes.false in
    omega (arith, long, ne, c.requires.depth)

pub fill_estimates-requires-clause-within : goal.fill_estimates-requires-clause-within
fill_estimates-requires-clause-within t c =
    let inside : c.args.depth < length c.args.sizes.now = omega (arith, c.if-depth-sizes.false, c.requires.depth) in
    let size = c.requires.grounds.sized c.args.depth 0 inside in
    within_set c.args.sizes.now c.args.values.now c.args.depth 0 c.requires.within (omega (arith, size.0))

pub fill_estimates-requires-clause-least : goal.fill_estimates-requires-clause-least
fill_estimates-requires-clause-least t c =
    c.requires.least ∙ estimate_agrees c.args.sizes.now c.args.rules.scale c.args.buckets.now c.requires.grounds c.args.depth (λ v. get_or c.args.values.now v 0) (λ v. get_or (set c.args.values.now c.args.depth 0) v 0) c.requires.depth (agree_set c.args.values.now c.args.depth 0)

pub visits-init : goal.visits-init
visits-init t c =
    let inside : c.args.depth < length c.args.sizes.now = omega (arith, c.if-depth-sizes.false, c.requires.depth) in
    let size = c.requires.grounds.sized c.args.depth 0 inside in
    let value : ℕ → ℕ = λ v. get_or c.args.values.now v 0 in
    let long : length c.split_at_mut-row.result.0.now ≡ get_or c.args.sizes.now c.args.depth 0 = c.split_at_mut-row.ensures.front_len ∙ c.from.ensures in
    let each : (a : ℕ) → a < length c.fill_estimates.new.row → get_or c.fill_estimates.new.row a 0 ≡ estimate (c.args.depth + 1) c.args.buckets.now (with_own c.args.depth a value) =
    λ a lt. c.fill_estimates.ensures a (omega (arith, lt, c.fill_estimates.auto.row)) ∙ row_agrees c.args.sizes.now c.args.rules.scale c.args.buckets.now c.requires.grounds c.args.values.now c.args.depth a 0 inside in
    record {
      within = within_set c.args.sizes.now c.args.values.now c.args.depth 0 c.requires.within (omega (arith, size.0));
      same = agree_set c.args.values.now c.args.depth 0;
      standing = c.requires.standing;
      visiting = visiting_start c.args.sizes.now c.args.buckets.now c.args.rules c.requires.grounds c.args.depth c.args.least value c.fill_estimates.new.row c.args.progress.now inside (values_of c.args.sizes.now c.args.values.now c.requires.within) c.requires.least (c.fill_estimates.auto.row ∙ long) each;
      turned = visits_start c.args.sizes.now c.args.buckets.now c.args.rules c.requires.grounds c.args.depth value c.fill_estimates.new.row c.args.progress.now inside (values_of c.args.sizes.now c.args.values.now c.requires.within) (c.fill_estimates.auto.row ∙ long) each;
      rest = omega (arith, sum_left c.args.sizes.now c.args.depth inside, c.requires.rows, c.split_at_mut-row.ensures.back_len, c.from.ensures);
    }

pub returns-then-not-opens-clause-standing : goal.returns-then-not-opens-clause-standing
returns-then-not-opens-clause-standing t c = standing_stopped c.args.sizes.now c.args.buckets.now c.args.rules c.requires.grounds c.least_of-value.result.1 c.visits.found c.visits.progress c.opens.new.progress c.visits.invariant.standing c.if-not-opens.ensures

pub returns-then-not-opens-clause-descended : goal.returns-then-not-opens-clause-descended
returns-then-not-opens-clause-descended t c =
    let inside : c.args.depth < length c.args.sizes.now = omega (arith, c.if-depth-sizes.false, c.requires.depth) in
    visiting_end c.args.sizes.now c.args.buckets.now c.args.rules c.requires.grounds c.args.depth c.args.least (λ v. get_or c.args.values.now v 0) c.visits.row c.args.progress.now c.visits.progress c.opens.new.progress c.least_of-value.result.0 c.least_of-value.result.1 inside c.visits.invariant.standing.room
    c.least_of-value.ensures.place c.least_of-value.ensures.entry c.least_of-value.ensures.least c.visits.invariant.visiting c.if-not-opens.ensures

pub returns-then-not-opens-clause-visits : goal.returns-then-not-opens-clause-visits
returns-then-not-opens-clause-visits t c =
    let inside : c.args.depth < length c.args.sizes.now = omega (arith, c.if-depth-sizes.false, c.requires.depth) in
    visits_end c.args.sizes.now c.args.buckets.now c.args.rules c.requires.grounds c.args.depth c.args.least (λ v. get_or c.args.values.now v 0) c.visits.row c.args.progress.now c.visits.progress c.opens.new.progress c.least_of-value.result.0 c.least_of-value.result.1 inside (values_of c.args.sizes.now c.args.values.now c.requires.within) c.visits.invariant.standing.room
    c.least_of-value.ensures.place c.least_of-value.ensures.entry c.least_of-value.ensures.least c.visits.invariant.visiting c.if-not-opens.ensures c.visits.invariant.turned

pub bounds-values-depth-in-visits : goal.bounds-values-depth-in-visits
bounds-values-depth-in-visits t c =
    let long = length_all_zip (λ s v. v < s) c.args.sizes.now c.visits.values c.visits.invariant.within in
    omega (arith, long, c.if-depth-sizes.false, c.requires.depth)

pub descend-requires : goal.descend-requires
descend-requires t c =
    let inside : c.args.depth < length c.args.sizes.now = omega (arith, c.if-depth-sizes.false, c.requires.depth) in
    let opened = c.if-not-opens.ensures in
    let visiting = c.visits.invariant.visiting in
    let a = c.least_of-value.result.0 in
    let long = length_all_zip (λ s v. v < s) c.args.sizes.now c.visits.values c.visits.invariant.within in
    let value : ℕ → ℕ = λ v. get_or c.args.values.now v 0 in
    let behind : ℕ → ℕ = λ v. get_or (set c.visits.values c.args.depth a) v 0 in
    let agree : AgreeBelow c.args.depth value behind = agree_more c.args.depth value (λ v. get_or c.visits.values v 0) behind c.visits.invariant.same (agree_set c.visits.values c.args.depth a) in
    let own : behind c.args.depth ≡ a = get_or-set_same c.visits.values c.args.depth a 0 (omega (arith, inside, long)) in
    let below : a < get_or c.args.sizes.now c.args.depth 0 = omega (arith, c.least_of-value.ensures.place, visiting.long) in
    let entry = entry_is c.args.sizes.now c.args.buckets.now c.args.rules c.requires.grounds c.args.depth c.args.least value behind c.visits.row c.args.progress.now c.visits.progress c.opens.new.progress a c.least_of-value.result.1 inside
    c.least_of-value.ensures.place c.least_of-value.ensures.entry c.visits.invariant.standing.room.counted visiting opened agree own in
    let room : c.opens.new.progress.room ≡ c.visits.progress.room = ap (λ (q : Progress). q.room) opened.2 in
    let nodes : c.opens.new.progress.nodes ≡ c.visits.progress.nodes + 1 = ap (λ (q : Progress). q.nodes) opened.2 in
    let best : c.opens.new.progress.best ≡ c.visits.progress.best = ap (λ (q : Progress). q.best) opened.2 in (
      omega (arith, inside),
      (
        c.requires.grounds,
        (
          omega (arith, inside),
          (
            within_set c.args.sizes.now c.visits.values c.args.depth a c.visits.invariant.within below,
            (
              entry,
              (
                (λ last. omega (arith, room, opened.0)),
                (
                  (λ none. (let left = few_left c.args.sizes.now c.args.buckets.now c.args.rules c.requires.grounds c.args.depth c.args.least value c.visits.row c.args.progress.now c.visits.progress 18446744073709551615 visiting c.requires.few (sym best ∙ none) in
                      omega (arith, left, nodes, inside))),
                  (
                    c.visits.invariant.rest,
                    standing_opened c.args.sizes.now c.args.buckets.now c.args.rules c.requires.grounds c.least_of-value.result.1 c.visits.found c.visits.progress c.opens.new.progress c.visits.invariant.standing opened,
                  ),
                ),
              ),
            ),
          ),
        ),
      ),
    )

pub visits-preserved : goal.visits-preserved
visits-preserved t c =
    let inside : c.args.depth < length c.args.sizes.now = omega (arith, c.if-depth-sizes.false, c.requires.depth) in
    let a = c.least_of-value.result.0 in
    let long = length_all_zip (λ s v. v < s) c.args.sizes.now c.visits.values c.visits.invariant.within in
    let value : ℕ → ℕ = λ v. get_or c.args.values.now v 0 in
    let behind : ℕ → ℕ = λ v. get_or (set c.visits.values c.args.depth a) v 0 in
    let agree : AgreeBelow c.args.depth value behind = agree_more c.args.depth value (λ v. get_or c.visits.values v 0) behind c.visits.invariant.same (agree_set c.visits.values c.args.depth a) in
    let own : behind c.args.depth ≡ a = get_or-set_same c.visits.values c.args.depth a 0 (omega (arith, inside, long)) in
    record {
      within = c.descend.ensures.within;
      same = agree_less c.args.depth value behind (λ v. get_or c.descend.new.values v 0) agree c.descend.ensures.same;
      standing = c.descend.ensures.standing;
      visiting = visiting_next c.args.sizes.now c.args.buckets.now c.args.rules c.requires.grounds c.args.depth c.args.least value behind c.visits.row c.args.progress.now c.visits.progress c.opens.new.progress c.descend.new.progress a c.least_of-value.result.1 inside c.visits.invariant.standing.room.counted
          c.least_of-value.ensures.place c.least_of-value.ensures.entry c.least_of-value.ensures.least c.visits.invariant.visiting c.if-not-opens.ensures agree own c.descend.ensures.descended;
      turned = visits_next c.args.sizes.now c.args.buckets.now c.args.rules c.requires.grounds c.args.depth c.args.least value behind c.visits.row c.args.progress.now c.visits.progress c.opens.new.progress c.descend.new.progress a c.least_of-value.result.1 inside (values_of c.args.sizes.now c.args.values.now c.requires.within) c.visits.invariant.standing.room
          c.least_of-value.ensures.place c.least_of-value.ensures.entry c.least_of-value.ensures.least c.visits.invariant.visiting c.if-not-opens.ensures agree own c.descend.ensures.visits c.visits.invariant.turned;
      rest = omega (arith, c.visits.invariant.rest, c.descend.auto.rows);
    }
