-- Laws of a descent.
use Rattle.std.proofs.Common.{◌≡◌, ℕ, ◌+◌, ◌*◌, ◌-◌, ◌/◌, ◌<◌, ◌≤◌, ◌⊎◌, Bool, true, false, min, max, List, length, get_or, set, drop, Option, Some, None, refl, sym, ap, subst, ◌∙◌, inl, inr, arith}
use Rattle.std.proofs.lemmas.Bool.{cases_Bool, cases_lt, cases_eq}
use Rattle.std.proofs.lemmas.List.{length-set, get_or-set_same, get_or-set_other}
use Rattle.dcop_base.specs.Limits.{amount_limit}
use Rattle.dcop_base.specs.Table.{AreWithin}
use Rattle.dcop_base.specs.Values.{with_own}
use Rattle.shared_costs.specs.Values.{AreValues, AgreeBelow}
use Rattle.bucket_bounds.specs.Bounds.{tables_in}
use Rattle.bucket_bounds.specs.Exact.{AreExact}
use Rattle.bucket_bounds.specs.declared.bucket.Bucket.{Bucket}
use Rattle.bound_search.specs.Estimate.{estimate, unscaled, IsPassedOver}
use Rattle.bound_search.specs.Known.{IsBelow, IsNoWorse}
use Rattle.bound_search.specs.Searched.{most_nodes, tree_nodes, TakesEffort}
use Rattle.bound_search.specs.Grounds.{AreGrounds, scaled_cost}
use Rattle.bound_search.specs.Descent.{IsRoom, IsStanding, IsFurther, IsStraight, HasDescended, IsOpened}
use Rattle.bound_search.specs.declared.progress.Progress.{Progress}
use Rattle.bound_search.specs.declared.rules.Rules.{Rules}
use Rattle.bound_search.proofs.EstimateLaws.{estimate_agrees, estimate_within, estimate_all, estimate_behind, own_agrees, own_values, least_next}
use Rattle.bound_search.proofs.TreeLaws.{done, to_visit, to_visit_first, to_visit_next, tree_left, tree_first, tree_next, tree_end}
use Rattle.bound_search.proofs.ScaleLaws.{cost_back, unscaled_is}

-- the best is no worse than itself, and than what is no worse than it
pub no_worse_same : (best : Option ℕ) → IsNoWorse best best
no_worse_same None = tt
no_worse_same (Some best) = omega arith

no_worse_more : (a b c : Option ℕ) → IsNoWorse b a → IsNoWorse c b → IsNoWorse c a
no_worse_more None b c h g = tt
no_worse_more (Some a) None c h g = absurd h
no_worse_more (Some a) (Some b) None h g = absurd g
no_worse_more (Some a) (Some b) (Some c) h g = omega arith

below_more : (a b c : Option ℕ) → IsBelow b a → IsNoWorse c b → IsBelow c a
below_more a None c h g = absurd h
below_more a (Some b) None h g = absurd g
below_more None (Some b) (Some c) h g = tt
below_more (Some a) (Some b) (Some c) h g = omega arith

no_worse_below : (old new : Option ℕ) → IsBelow new old → IsNoWorse new old
no_worse_below None new h = tt
no_worse_below (Some old) None h = absurd h
no_worse_below (Some old) (Some new) h = omega arith

not_both : (b : Bool) → b ≡ false → b ≡ true → ⊥
not_both b none some = let both = sym none ∙ some in cc

pub further_same : (p : Progress) → IsFurther p p
further_same p = record {
  lower = omega arith;
  room = omega arith;
  best = no_worse_same p.best;
  still = λ h. h;
  same = λ h. refl;
  better = λ none found. absurd (not_both p.found none found);
  counted = omega arith;
  kept = λ h. (h, omega arith);
}

pub further_more : (a b c : Progress) → IsFurther a b → IsFurther b c → IsFurther a c
further_more a b c first next = record {
  lower = omega (arith, first.lower, next.lower);
  room = omega (arith, first.room, next.room);
  best = no_worse_more a.best b.best c.best first.best next.best;
  still = λ h. next.still (first.still h);
  same = λ h. elim (cases_Bool b.found) [
    | inl found ↦ absurd (let still = next.still found in cc)
    | inr none ↦ next.same h ∙ first.same none
  ];
  better = λ none found. elim (cases_Bool b.found) [
    | inl early ↦ below_more a.best b.best c.best (first.better none early) next.best
    | inr late ↦ subst (λ (best : Option ℕ). IsBelow c.best best) (first.same late) (next.better late found)
  ];
  counted = omega (arith, first.counted, next.counted);
  kept = λ h. (let late = next.kept h in let early = first.kept late.0 in (early.0, omega (arith, early.1, late.1, next.room)));
}

-- a node more
opened_further : (budget f : ℕ) (old new : Progress) → IsOpened budget f old new true → IsFurther old new
opened_further budget f old new h =
    subst (λ (q : Progress). IsFurther old q) (sym h.2) (record {
      lower = omega arith;
      room = omega arith;
      best = no_worse_same old.best;
      still = λ e. e;
      same = λ e. refl;
      better = λ none found. absurd (not_both old.found none found);
      counted = omega arith;
      kept = λ e. (e, omega arith);
    })

-- the last value that is looked at
stopped_further : (budget f : ℕ) (old new : Progress) → IsOpened budget f old new false → IsFurther old new
stopped_further budget f old new h =
    subst (λ (q : Progress). IsFurther old q) (sym h.1) (record {
      lower = omega arith;
      room = omega arith;
      best = no_worse_same old.best;
      still = λ e. e;
      same = λ e. refl;
      better = λ none found. absurd (not_both old.found none found);
      counted = omega arith;
      kept = λ e. elim h.2 [
        | inl passed ↦ (sym passed.1 ∙ e, omega (arith, passed.0))
        | inr reached ↦ absurd (let both = sym reached.1 ∙ e in cc)
      ];
    })

-- the values of a row are looked at: so many were visited, and the others have their estimates
pub record IsFresh (sizes : List ℕ) (buckets : List Bucket) (f : ℕ) (row : List ℕ) (old now : Progress) : Type 0 where
  pub same : now ≡ old
  pub within : (a : ℕ) → a < length row → get_or row a 0 ≤ amount_limit
  pub least : AreExact sizes (tables_in buckets) buckets → (a : ℕ) × (a < length row) × (get_or row a 0 ≤ f)

pub record HasBegun (sizes : List ℕ) (buckets : List Bucket) (rules : Rules) (depth f : ℕ) (row : List ℕ) (old now : Progress) : Type 0 where
  pub known : (best : ℕ) × (now.best ≡ Some best)
  pub found : old.best ≡ None → now.found ≡ true
  pub nodes : now.nodes ≤ most_nodes rules.budget (length sizes - depth) old.best old.nodes
  pub effort : TakesEffort (length sizes - depth) old.found old.nodes now.found now.nodes
  pub straight : AreExact sizes (tables_in buckets) buckets → old.nodes + (length sizes - depth) ≤ rules.budget → IsStraight (length sizes - depth) f old now × ((a : ℕ) → a < length row → now.room ≤ get_or row a 0)

pub record IsVisiting (sizes : List ℕ) (buckets : List Bucket) (rules : Rules) (depth f : ℕ) (value : ℕ → ℕ) (row : List ℕ) (old now : Progress) : Type 0 where
  pub long : length row ≡ get_or sizes depth 0
  pub further : IsFurther old now
  pub entries : (a : ℕ) → a < length row → get_or row a 0 < done → get_or row a 0 ≡ estimate (depth + 1) buckets (with_own depth a value)
  pub low : (other : ℕ → ℕ) → AreValues sizes other → AgreeBelow depth value other → min now.lower (get_or row (other depth) 0) ≤ scaled_cost buckets other
  pub tree : now.nodes + to_visit row * (1 + tree_nodes (drop (depth + 1) sizes)) ≤ old.nodes + tree_nodes (drop depth sizes)
  pub begun : IsFresh sizes buckets f row old now ⊎ HasBegun sizes buckets rules depth f row old now

most_least : (budget count before nodes : ℕ) (best : Option ℕ) → nodes ≤ budget → nodes ≤ most_nodes budget count best before
most_least budget count before nodes None le = omega arith
most_least budget count before nodes (Some best) le = omega arith

pub most_before : (budget count before : ℕ) (best : Option ℕ) → before ≤ most_nodes budget count best before
most_before budget count before None = omega arith
most_before budget count before (Some best) = omega arith

most_first : (budget count before nodes : ℕ) (best : Option ℕ) → 1 ≤ count → best ≡ None ⊎ before < budget → nodes ≤ most_nodes budget (count - 1) best (before + 1) → nodes ≤ most_nodes budget count best before
most_first budget count before nodes None some room_left le = omega arith
most_first budget count before nodes (Some best) some (inl e) le = absurd (let none = e in cc)
most_first budget count before nodes (Some best) some (inr lt) le = omega arith

pub none_not_some : (best : Option ℕ) (n : ℕ) → best ≡ None → best ≡ Some n → ⊥
none_not_some best n e h = let both = sym e ∙ h in cc

module _ (sizes : List ℕ) (buckets : List Bucket) (rules : Rules) (grounds : AreGrounds sizes rules.scale buckets) where
  -- a row of estimates, before the first value is visited
  pub visiting_start : (depth f : ℕ) (value : ℕ → ℕ) (row : List ℕ) (old : Progress) → depth < length sizes → AreValues sizes value → f ≡ estimate depth buckets value → length row ≡ get_or sizes depth 0
      → ((a : ℕ) → a < length row → get_or row a 0 ≡ estimate (depth + 1) buckets (with_own depth a value)) → IsVisiting sizes buckets rules depth f value row old old
  visiting_start depth f value row old lt all is long each = record {
    long = long;
    further = further_same old;
    entries = λ a h below. each a h;
    low = λ other within agree.
        (let here : other depth < length row = omega (arith, within depth lt, long) in
        let entry = each (other depth) here in
        let low = estimate_behind sizes rules.scale buckets grounds depth value other lt within agree in
        omega (arith, entry, low));
    tree = (let later = tree_nodes (drop (depth + 1) sizes) in
        let most = tree_first (to_visit row) (get_or sizes depth 0) later old.nodes (omega (arith, to_visit_first row, long)) in
        subst (λ (n : ℕ). old.nodes + to_visit row * (1 + later) ≤ old.nodes + n) (sym (tree_left sizes depth lt)) most);
    begun = inl (record {
      same = refl;
      within = λ a h. (let entry = each a h in
          let low = estimate_within sizes rules.scale buckets grounds (depth + 1) (with_own depth a value) (omega (arith, lt)) (own_values sizes rules.scale buckets grounds depth a value all (omega (arith, h, long))) in
          omega (arith, entry, low));
      least = λ exact. (let least = least_next sizes rules.scale buckets grounds depth value lt all exact in
          let here : least.value < length row = omega (arith, least.below, long) in
          (least.value, here, omega (arith, each least.value here, least.least, is)));
    });
  }

  -- a value more was visited
  pub visiting_next : (depth f : ℕ) (value behind : ℕ → ℕ) (row : List ℕ) (old now mid new : Progress) (a m : ℕ) → depth < length sizes → now.room ≤ done → a < length row → m ≡ get_or row a 0 → ((k : ℕ) → k < length row → m ≤ get_or row k 0)
      → IsVisiting sizes buckets rules depth f value row old now → IsOpened rules.budget m now mid true → AgreeBelow depth value behind → behind depth ≡ a
      → HasDescended sizes buckets rules (depth + 1) m behind mid new → IsVisiting sizes buckets rules depth f value (set row a done) old new
  visiting_next depth f value behind row old now mid new a m lt room_most inside at least visiting opened agree own descended =
      let nodes : mid.nodes ≡ now.nodes + 1 = ap (λ (q : Progress). q.nodes) opened.2 in
      let lower : mid.lower ≡ now.lower = ap (λ (q : Progress). q.lower) opened.2 in
      let best : mid.best ≡ now.best = ap (λ (q : Progress). q.best) opened.2 in
      let found : mid.found ≡ now.found = ap (λ (q : Progress). q.found) opened.2 in
      let spent : mid.spent ≡ now.spent = ap (λ (q : Progress). q.spent) opened.2 in
      let count : length sizes - (depth + 1) ≡ length sizes - depth - 1 = omega (arith, lt) in
      let some : 1 ≤ length sizes - depth = omega (arith, lt) in
      record {
        long = length-set row a done ∙ visiting.long;
        further = further_more old now new visiting.further (further_more now mid new (opened_further rules.budget m now mid opened) descended.further);
        entries = λ b h below. elim (cases_eq b a) [
          | inl same ↦ absurd (let is = ap (λ (n : ℕ). get_or (set row a done) n 0) same ∙ get_or-set_same row a done 0 inside in omega (arith, is, below))
          | inr ne ↦ (let is = get_or-set_other row a b done 0 ne in
              is ∙ visiting.entries b (omega (arith, h, length-set row a done)) (omega (arith, is, below)))
        ];
        low = λ other within behind_too. elim (cases_eq (other depth) a) [
          | inl same ↦ (let low = descended.lower other within (λ v h. elim (cases_lt v depth) [
            | inl before ↦ behind_too v before ∙ sym (agree v before)
            | inr last ↦ (let is : v ≡ depth = omega (arith, h, last) in ap other is ∙ same ∙ sym own ∙ ap behind (sym is))
          ]) in
              omega (arith, low))
          | inr ne ↦ (let is = get_or-set_other row a (other depth) done 0 ne in
              omega (arith, is, visiting.low other within behind_too, descended.further.lower, lower))
        ];
        tree = (let below : get_or row a 0 < done = omega (arith, at, opened.0, room_most) in
            let later = tree_nodes (drop (depth + 1) sizes) in
            let mine : new.nodes ≤ now.nodes + 1 + later = omega (arith, descended.tree, nodes) in
            tree_next (to_visit row) (to_visit (set row a done)) later now.nodes new.nodes (old.nodes + tree_nodes (drop depth sizes)) (to_visit_next row a inside below) visiting.tree mine);
        begun = inr (record {
          known = descended.known;
          found = λ none. elim visiting.begun [
            | inl fresh ↦ descended.found (best ∙ ap (λ (q : Progress). q.best) fresh.same ∙ none)
            | inr begun ↦ descended.further.still (found ∙ begun.found none)
          ];
          nodes = elim visiting.begun [
            | inl fresh ↦ (let still : now.best ≡ old.best = ap (λ (q : Progress). q.best) fresh.same in
                let before : now.nodes ≡ old.nodes = ap (λ (q : Progress). q.nodes) fresh.same in
                let room_left : old.best ≡ None ⊎ old.nodes < rules.budget = subst (λ (q : Progress). q.best ≡ None ⊎ q.nodes < rules.budget) fresh.same opened.1 in
                most_first rules.budget (length sizes - depth) old.nodes new.nodes old.best some room_left
                (subst (λ (c : ℕ). new.nodes ≤ most_nodes rules.budget c old.best (old.nodes + 1)) count
                (subst (λ (n : ℕ). new.nodes ≤ most_nodes rules.budget (length sizes - (depth + 1)) old.best n) (nodes ∙ ap (λ (n : ℕ). n + 1) before)
                (subst (λ (b : Option ℕ). new.nodes ≤ most_nodes rules.budget (length sizes - (depth + 1)) b mid.nodes) (best ∙ still) descended.nodes))))
            | inr begun ↦ (let below : now.nodes < rules.budget = elim opened.1 [
              | inl none ↦ absurd (none_not_some now.best begun.known.0 none begun.known.1)
              | inr lt ↦ lt
            ] in
                let most : new.nodes ≤ max rules.budget mid.nodes = subst (λ (b : Option ℕ). new.nodes ≤ most_nodes rules.budget (length sizes - (depth + 1)) b mid.nodes) (best ∙ begun.known.1) descended.nodes in
                most_least rules.budget (length sizes - depth) old.nodes new.nodes old.best (omega (arith, most, below, nodes)))
          ];
          effort = λ none first. elim (cases_Bool now.found) [
            | inl early ↦ elim visiting.begun [
              | inl fresh ↦ absurd (not_both now.found (ap (λ (q : Progress). q.found) fresh.same ∙ none) early)
              | inr begun ↦ (let least = begun.effort none early in omega (arith, least, nodes, descended.further.counted))
            ]
            | inr late ↦ (let least = descended.effort (found ∙ late) first in omega (arith, least, nodes, count, some, visiting.further.counted))
          ];
          straight = λ exact few. elim visiting.begun [
            | inl fresh ↦ (let before : now.nodes ≡ old.nodes = ap (λ (q : Progress). q.nodes) fresh.same in
                let unspent : now.spent ≡ old.spent = ap (λ (q : Progress). q.spent) fresh.same in
                let straight = descended.straight exact (omega (arith, few, nodes, before, count, some)) in
                let first = fresh.least exact in
                let low = least first.0 first.1 in
                let within = fresh.within a inside in (
                  record {
                    whole = straight.whole ∙ spent ∙ unspent;
                    few = omega (arith, straight.few, nodes, before, count, some);
                    room = omega (arith, straight.room, low, first.2);
                  },
                  λ b h. elim (cases_eq b a) [
                    | inl same ↦ (let is = ap (λ (n : ℕ). get_or (set row a done) n 0) same ∙ get_or-set_same row a done 0 inside in omega (arith, is, straight.room, at, within))
                    | inr ne ↦ (let is = get_or-set_other row a b done 0 ne in let more = least b (omega (arith, h, length-set row a done)) in omega (arith, is, straight.room, more))
                  ],
                ))
            | inr begun ↦ absurd (let straight = begun.straight exact few in let room = straight.1 a inside in omega (arith, room, at, opened.0))
          ];
        });
      }

  -- the least value that is left is not visited
  pub visiting_end : (depth f : ℕ) (value : ℕ → ℕ) (row : List ℕ) (old now new : Progress) (a m : ℕ) → depth < length sizes → IsRoom rules now.best now.room → a < length row → m ≡ get_or row a 0 → ((k : ℕ) → k < length row → m ≤ get_or row k 0)
      → IsVisiting sizes buckets rules depth f value row old now → IsOpened rules.budget m now new false → HasDescended sizes buckets rules depth f value old new
  visiting_end depth f value row old now new a m lt room inside at least visiting stopped =
      let nodes : new.nodes ≡ now.nodes = ap (λ (q : Progress). q.nodes) stopped.1 in
      let lower : new.lower ≡ min now.lower m = ap (λ (q : Progress). q.lower) stopped.1 in
      let best : new.best ≡ now.best = ap (λ (q : Progress). q.best) stopped.1 in
      let found : new.found ≡ now.found = ap (λ (q : Progress). q.found) stopped.1 in
      let same_room : new.room ≡ now.room = ap (λ (q : Progress). q.room) stopped.1 in
      let spent : new.spent ≡ stopped.0 = ap (λ (q : Progress). q.spent) stopped.1 in
      let some : 1 ≤ length sizes - depth = omega (arith, lt) in
      -- with nothing known the first value is visited
      let never : IsFresh sizes buckets f row old now → now.best ≡ None → ⊥ = λ fresh none. elim stopped.2 [
        | inl passed ↦ (let over = room.above m (omega (arith, at, fresh.within a inside)) passed.0 in subst (λ (b : Option ℕ). IsPassedOver rules.scale rules.error b m) none over)
        | inr reached ↦ none_not_some now.best reached.3.0 none reached.3.1
      ] in
      record {
        further = further_more old now new visiting.further (stopped_further rules.budget m now new stopped);
        lower = λ other within agree. (let here : other depth < length row = omega (arith, within depth lt, visiting.long) in
            omega (arith, lower, least (other depth) here, visiting.low other within agree));
        known = elim visiting.begun [
          | inl fresh ↦ known_of new.best (λ none. never fresh (sym best ∙ none))
          | inr begun ↦ (begun.known.0, best ∙ begun.known.1)
        ];
        found = λ none. elim visiting.begun [
          | inl fresh ↦ absurd (never fresh (ap (λ (q : Progress). q.best) fresh.same ∙ none))
          | inr begun ↦ found ∙ begun.found none
        ];
        nodes = elim visiting.begun [
          | inl fresh ↦ (let before : now.nodes ≡ old.nodes = ap (λ (q : Progress). q.nodes) fresh.same in
              subst (λ (n : ℕ). n ≤ most_nodes rules.budget (length sizes - depth) old.best old.nodes) (sym (nodes ∙ before)) (most_before rules.budget (length sizes - depth) old.nodes old.best))
          | inr begun ↦ subst (λ (n : ℕ). n ≤ most_nodes rules.budget (length sizes - depth) old.best old.nodes) (sym nodes) begun.nodes
        ];
        tree = subst (λ (n : ℕ). n ≤ old.nodes + tree_nodes (drop depth sizes)) (sym nodes) (tree_end now.nodes (to_visit row * (1 + tree_nodes (drop (depth + 1) sizes))) (old.nodes + tree_nodes (drop depth sizes)) visiting.tree);
        effort = λ none first. elim visiting.begun [
          | inl fresh ↦ absurd (not_both now.found (ap (λ (q : Progress). q.found) fresh.same ∙ none) (sym found ∙ first))
          | inr begun ↦ (let least = begun.effort none (sym found ∙ first) in omega (arith, least, nodes))
        ];
        straight = λ exact few. elim visiting.begun [
          | inl fresh ↦ (let first = fresh.least exact in
              let low = least first.0 first.1 in
              let before : now.nodes ≡ old.nodes = ap (λ (q : Progress). q.nodes) fresh.same in
              let unspent : now.spent ≡ old.spent = ap (λ (q : Progress). q.spent) fresh.same in
              elim stopped.2 [
                | inl passed ↦ record {
                  whole = spent ∙ passed.1 ∙ unspent;
                  few = omega (arith, nodes, before);
                  room = omega (arith, same_room, passed.0, low, first.2);
                }
                | inr reached ↦ absurd (omega (arith, reached.2, before, few, some))
              ])
          | inr begun ↦ (let straight = begun.straight exact few in
              let past = straight.1 a inside in
              record {
                whole = elim stopped.2 [
                  | inl passed ↦ spent ∙ passed.1 ∙ straight.0.whole
                  | inr reached ↦ absurd (omega (arith, reached.0, past, at))
                ];
                few = omega (arith, straight.0.few, nodes);
                room = omega (arith, straight.0.room, same_room);
              })
        ];
      }
    where
      known_of : (b : Option ℕ) → (b ≡ None → ⊥) → (n : ℕ) × (b ≡ Some n)
      known_of None h = absurd (h refl)
      known_of (Some n) h = (n, refl)

  -- an assignment that is not passed over is better than the best
  taken_better : (best : Option ℕ) (c f : ℕ) → unscaled rules.scale f ≡ c → (IsPassedOver rules.scale rules.error best f → ⊥) → IsBelow (Some c) best
  taken_better None c f e h = tt
  taken_better (Some best) c f e h = elim (cases_lt c best) [
    | inl lt ↦ omega (arith, lt)
    | inr le ↦ absurd (h (omega (arith, e, le)))
  ]

  -- an assignment is taken
  pub descent_taken : (f : ℕ) (value : ℕ → ℕ) (old new : Progress) → AreValues sizes value → f ≡ estimate (length sizes) buckets value → f < old.room → IsRoom rules old.best old.room
      → new.best ≡ Some (f / rules.scale) → new.found ≡ true → new.nodes ≡ old.nodes → new.lower ≡ min old.lower f → new.spent ≡ old.spent → IsRoom rules new.best new.room
      → HasDescended sizes buckets rules (length sizes) f value old new
  descent_taken f value old new all is below room best found nodes lower spent new_room =
      let whole = grounds.whole value all in
      let c = whole.0 in
      let cost : f ≡ rules.scale * c = is ∙ estimate_all sizes rules.scale buckets grounds value ∙ whole.1 in
      let back : new.best ≡ Some c = best ∙ ap (λ (n : ℕ). Some n) (cost_back rules.scale c f grounds.scaled cost) in
      let up = unscaled_is rules.scale c f grounds.scaled cost in
      let within : f ≤ amount_limit = (let most = estimate_within sizes rules.scale buckets grounds (length sizes) value (omega arith) all in omega (arith, most, is)) in
      let room_now : new.room ≤ f = elim (cases_lt f new.room) [
        | inl lt ↦ absurd (subst (λ (b : Option ℕ). IsPassedOver rules.scale rules.error b f → ⊥) back (new_room.below f within lt) (omega (arith, up)))
        | inr le ↦ le
      ] in
      let better = subst (λ (b : Option ℕ). IsBelow b old.best) (sym back) (taken_better old.best c f up (room.below f within below)) in
      record {
        further = record {
          lower = omega (arith, lower);
          room = omega (arith, room_now, below);
          best = no_worse_below old.best new.best better;
          still = λ h. found;
          same = λ h. absurd (let both = sym h ∙ found in cc);
          better = λ none some. better;
          counted = omega (arith, nodes);
          kept = λ h. (sym spent ∙ h, omega (arith, lower, room_now));
        };
        lower = λ other inside agree. (let same = estimate_agrees sizes rules.scale buckets grounds (length sizes) value other (omega arith) agree in
            let at = estimate_all sizes rules.scale buckets grounds other in
            omega (arith, lower, same, at, is));
        known = (f / rules.scale, best);
        found = λ h. found;
        nodes = subst (λ (n : ℕ). n ≤ most_nodes rules.budget (length sizes - length sizes) old.best old.nodes) (sym nodes) (most_before rules.budget (length sizes - length sizes) old.nodes old.best);
        tree = omega (arith, nodes);
        effort = λ none first. omega (arith, nodes);
        straight = λ exact few. record { whole = spent; few = omega (arith, nodes); room = room_now };
      }

  pub standing_taken : (f : ℕ) (values found : List ℕ) (old new : Progress) → AreWithin sizes values → AreValues sizes (λ v. get_or values v 0) → f ≡ estimate (length sizes) buckets (λ v. get_or values v 0) → found ≡ values → length values ≡ length sizes
      → (old.spent ≡ true → rules.budget ≤ old.nodes) → new.best ≡ Some (f / rules.scale) → new.nodes ≡ old.nodes → new.spent ≡ old.spent → IsRoom rules new.best new.room
      → IsStanding sizes buckets rules found new
  standing_taken f values found old new within all is same long spent_old best nodes spent new_room =
      let value : ℕ → ℕ = λ v. get_or values v 0 in
      let whole = grounds.whole value all in
      let c = whole.0 in
      let cost : f ≡ rules.scale * c = is ∙ estimate_all sizes rules.scale buckets grounds value ∙ whole.1 in
      subst (λ (xs : List ℕ). IsStanding sizes buckets rules xs new) (sym same) (record {
        many = long;
        taken = λ h. record { within = within; cost = c; best_is = best ∙ ap (λ (n : ℕ). Some n) (cost_back rules.scale c f grounds.scaled cost); cost_is = whole.1 };
        room = new_room;
        spent = λ h. (let most = spent_old (sym spent ∙ h) in omega (arith, most, nodes));
      })

  -- what holds of a search still holds when a value is opened, and when none is
  pub standing_opened : (m : ℕ) (found : List ℕ) (old new : Progress) → IsStanding sizes buckets rules found old → IsOpened rules.budget m old new true → IsStanding sizes buckets rules found new
  standing_opened m found old new standing opened =
      subst (λ (q : Progress). IsStanding sizes buckets rules found q) (sym opened.2) (record {
        many = standing.many;
        taken = standing.taken;
        room = standing.room;
        spent = λ h. (let most = standing.spent h in omega (arith, most));
      })

  pub standing_stopped : (m : ℕ) (found : List ℕ) (old new : Progress) → IsStanding sizes buckets rules found old → IsOpened rules.budget m old new false → IsStanding sizes buckets rules found new
  standing_stopped m found old new standing stopped =
      subst (λ (q : Progress). IsStanding sizes buckets rules found q) (sym stopped.1) (record {
        many = standing.many;
        taken = standing.taken;
        room = standing.room;
        spent = λ h. elim stopped.2 [
          | inl passed ↦ standing.spent (sym passed.1 ∙ h)
          | inr reached ↦ reached.2
        ];
      })

  -- nodes that are still counted where nothing is known
  pub few_left : (depth f : ℕ) (value : ℕ → ℕ) (row : List ℕ) (old now : Progress) (most : ℕ) → IsVisiting sizes buckets rules depth f value row old now → (old.best ≡ None → old.nodes + (length sizes - depth) ≤ most) → now.best ≡ None → now.nodes + (length sizes - depth) ≤ most
  few_left depth f value row old now most visiting few none = elim visiting.begun [
    | inl fresh ↦ (let left = few (sym (ap (λ (q : Progress). q.best) fresh.same) ∙ none) in let nodes : now.nodes ≡ old.nodes = ap (λ (q : Progress). q.nodes) fresh.same in omega (arith, left, nodes))
    | inr begun ↦ absurd (none_not_some now.best begun.known.0 none begun.known.1)
  ]

  -- the least entry that is visited is an estimate
  pub entry_is : (depth f : ℕ) (value behind : ℕ → ℕ) (row : List ℕ) (old now mid : Progress) (a m : ℕ) → depth < length sizes → a < length row → m ≡ get_or row a 0 → now.room ≤ done → IsVisiting sizes buckets rules depth f value row old now → IsOpened rules.budget m now mid true → AgreeBelow depth value behind → behind depth ≡ a → m ≡ estimate (depth + 1) buckets behind
  entry_is depth f value behind row old now mid a m lt inside at most visiting opened agree own =
      let entry = visiting.entries a inside (omega (arith, at, opened.0, most)) in
      at ∙ entry ∙ estimate_agrees sizes rules.scale buckets grounds (depth + 1) (with_own depth a value) behind (omega (arith, lt)) (own_agrees depth a value behind agree own)
