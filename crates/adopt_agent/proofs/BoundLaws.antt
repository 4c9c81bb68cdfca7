-- The bounds of an agent, from its costs and the bounds of its children.
use Rattle.std.proofs.Common.{◌≡◌, ℕ, zero, suc, ◌+◌, ◌-◌, ◌<◌, ◌≤◌, Bool, true, ◌&&◌, eqb, cond, nat_lt, List, [], ◌∷◌, ◌++◌, map, length, take, drop, get_or, set, replicate, Option, Some, None, refl, sym, ap, ap₂, subst, ◌∙◌, arith}
use Rattle.std.specs.Cmp.Lexicographic.{pointwise}
use Rattle.std.proofs.lemmas.Bool.{and_parts, cond_both, cond-true, eqb-true, false≢true}
use Rattle.std.proofs.lemmas.List.{length-map, length-set, length-replicate, take_at}
use Rattle.std.proofs.lemmas.List.Sums.{sum_by-cons}
use Rattle.dcop_base.specs.declared.knowledge.Private.{Private}
use Rattle.pseudotree.specs.declared.agent.Place.{Place}
use Rattle.adopt_context.specs.Context.{Context, names_all, part_of}
use Rattle.adopt_context.specs.Bounds.{Entry, blank, row_at, entry_at, cap, capped, plus_bound, lower_sum, upper_sum, lower_at, upper_at, is_below, lowest}
use Rattle.adopt_context.specs.Allot.{kept, reset, lower_to, raised, raise, lowered, cut, share_sum, allot}
use Rattle.adopt_context.proofs.RowLaws.{reset_at, set_each}
use Rattle.adopt_bounds.specs.Rows.{BoundsView}
use Rattle.protocol_steps.specs.Adopt.{AdoptView, higher}
use Rattle.protocol_steps.specs.AdoptBounds.{at_context, lower_of, upper_of, best_lower, best_upper}
use Rattle.protocol_steps.specs.AdoptStep.{to_allot, allotted}
use Rattle.adopt_agent.specs.declared.best.Best.{Best}
use Rattle.adopt_agent.specs.declared.stage.Stage.{Stage}
use Rattle.adopt_agent.specs.Best.{AreBest, AreLeast}
use Rattle.adopt_agent.specs.Costs.{cost_where}
use Rattle.adopt_agent.specs.Stage.{view_at}
use Rattle.adopt_agent.specs.Sound.{AreCosts, RestOn, AreBacked}
use Rattle.adopt_agent.proofs.LowestLaws.{lowest_same}

-- what is written over all of a list
pub written_back : (n : ℕ) (new old : List ℕ) → n ≡ length new → take n (new ++ drop (length new) old) ≡ new
written_back n new old e = take_at new (drop (length new) old) n (sym e)

module _ (v : AdoptView) (costs : List ℕ) (costed : AreCosts v.own v.place v.known costs) where
  pub lower_shown : (d : ℕ) → d < v.own.size → lower_at (λ e. get_or costs e 0) v.rows d ≡ lower_of v d
  lower_shown d lt = ap (λ (x : ℕ). cap (x + lower_sum (row_at v.rows d))) (costed.each d lt)

  pub best_lower_shown : 1 ≤ v.own.size → lowest nat_lt (lower_at (λ e. get_or costs e 0) v.rows) (length costs - 1) ≡ best_lower v
  best_lower_shown some =
      ap (λ (n : ℕ). lowest nat_lt (lower_at (λ e. get_or costs e 0) v.rows) (n - 1)) costed.counted
      ∙ lowest_same nat_lt (lower_at (λ e. get_or costs e 0) v.rows) (lower_of v) (v.own.size - 1) (λ d le. lower_shown d (omega (arith, le, some)))

  module _ (knows_higher : Bool) (knows_higher_is : knows_higher ≡ names_all v.known (higher v)) where
    pub upper_shown : (d : ℕ) → d < v.own.size → upper_at (cost_where knows_higher costs) v.rows d ≡ upper_of v d
    upper_shown d lt =
        ap₂ (λ (b : Bool) (x : ℕ). capped (plus_bound (cond b (Some x) None) (upper_sum (row_at v.rows d)))) knows_higher_is (costed.each d lt)

    pub best_upper_shown : 1 ≤ v.own.size → lowest is_below (upper_at (cost_where knows_higher costs) v.rows) (length costs - 1) ≡ best_upper v
    best_upper_shown some =
        ap (λ (n : ℕ). lowest is_below (upper_at (cost_where knows_higher costs) v.rows) (n - 1)) costed.counted
        ∙ lowest_same is_below (upper_at (cost_where knows_higher costs) v.rows) (upper_of v) (v.own.size - 1) (λ d le. upper_shown d (omega (arith, le, some)))

-- bounds after a reset
pub backed_reset : (own : Private) (place : Place) (known x : Context) (bounds after : BoundsView) → AreBacked own place known bounds → after ≡ record bounds { rows = reset x bounds.rows } → AreBacked own place x after
backed_reset own place known x bounds after backed is = subst (λ (b : BoundsView). AreBacked own place x b) (sym is) (record {
  children = backed.children;
  counted = length-map bounds.rows (λ row. map (kept x) row) ∙ backed.counted;
  rest = λ d k.
      let e : Entry = entry_at bounds.rows d k in
      subst (λ (f : Entry). part_of f.context x ≡ true) (sym (reset_at x bounds.rows d k))
      (cond_both (part_of e.context x) e blank (λ (f : Entry). part_of f.context x ≡ true) (λ part. part) (λ _. refl));
})

-- what does not speak of shares stays where a row is allotted
allot_same : {X : Type 0} (f : List Entry → X) → ((lack : ℕ) (row : List Entry) → f (raise lack row) ≡ f row) → ((excess : ℕ) (row : List Entry) → f (cut excess row) ≡ f row)
    → (goal : ℕ) (row : List Entry) → f (allot goal row) ≡ f row
allot_same f up down goal row =
    cond_both (nat_lt (share_sum row) goal) (raise (goal - share_sum row) row) (cond (nat_lt goal (share_sum row)) (cut (share_sum row - goal) row) row) (λ r. f r ≡ f row)
    (λ _. up (goal - share_sum row) row)
    (λ _. cond_both (nat_lt goal (share_sum row)) (cut (share_sum row - goal) row) row (λ r. f r ≡ f row) (λ _. down (share_sum row - goal) row) (λ _. refl))

raise_context : (k lack : ℕ) (row : List Entry) → (get_or (raise lack row) k blank).context ≡ (get_or row k blank).context
raise_context k lack [] = refl
raise_context zero lack (e ∷ es) = refl
raise_context (suc k) lack (e ∷ es) = raise_context k (lack + e.share - raised lack e) es

cut_context : (k excess : ℕ) (row : List Entry) → (get_or (cut excess row) k blank).context ≡ (get_or row k blank).context
cut_context k excess [] = refl
cut_context zero excess (e ∷ es) = refl
cut_context (suc k) excess (e ∷ es) = cut_context k (excess + lowered excess e - e.share) es

allot_context : (goal : ℕ) (row : List Entry) (k : ℕ) → (get_or (allot goal row) k blank).context ≡ (get_or row k blank).context
allot_context goal row k = allot_same (λ r. (get_or r k blank).context) (raise_context k) (cut_context k) goal row

raise_lower : (lack : ℕ) (row : List Entry) → lower_sum (raise lack row) ≡ lower_sum row
raise_lower lack [] = refl
raise_lower lack (e ∷ es) =
    let rest = raise_lower (lack + e.share - raised lack e) es in
    let f : Entry → ℕ = λ (x : Entry). x.lower in
    omega (arith, rest, sum_by-cons f (record e { share = raised lack e }) (raise (lack + e.share - raised lack e) es), sum_by-cons f e es)

cut_lower : (excess : ℕ) (row : List Entry) → lower_sum (cut excess row) ≡ lower_sum row
cut_lower excess [] = refl
cut_lower excess (e ∷ es) =
    let rest = cut_lower (excess + lowered excess e - e.share) es in
    let f : Entry → ℕ = λ (x : Entry). x.lower in
    omega (arith, rest, sum_by-cons f (record e { share = lowered excess e }) (cut (excess + lowered excess e - e.share) es), sum_by-cons f e es)

allot_lower : (goal : ℕ) (row : List Entry) → lower_sum (allot goal row) ≡ lower_sum row
allot_lower = allot_same lower_sum raise_lower cut_lower

raise_upper : (lack : ℕ) (row : List Entry) → upper_sum (raise lack row) ≡ upper_sum row
raise_upper lack [] = refl
raise_upper lack (e ∷ es) = ap (λ (u : Option ℕ). plus_bound e.upper u) (raise_upper (lack + e.share - raised lack e) es)

cut_upper : (excess : ℕ) (row : List Entry) → upper_sum (cut excess row) ≡ upper_sum row
cut_upper excess [] = refl
cut_upper excess (e ∷ es) = ap (λ (u : Option ℕ). plus_bound e.upper u) (cut_upper (excess + lowered excess e - e.share) es)

allot_upper : (goal : ℕ) (row : List Entry) → upper_sum (allot goal row) ≡ upper_sum row
allot_upper = allot_same upper_sum raise_upper cut_upper

-- a row after one of the rows was allotted
row_allotted : {X : Type 0} (f : List Entry → X) → ((goal : ℕ) (row : List Entry) → f (allot goal row) ≡ f row) → (rows : List (List Entry)) (d goal e : ℕ) → f (row_at (set rows d (allot goal (row_at rows d))) e) ≡ f (row_at rows e)
row_allotted f same rows d goal = set_each [] (λ i row. f row ≡ f (row_at rows i)) rows d (allot goal (row_at rows d)) (same goal (row_at rows d)) (λ i. refl)

-- the least bounds after a row was allotted
pub best_allotted : (costs : List ℕ) (knows_higher : Bool) (bounds after : BoundsView) (d goal : ℕ) (best : Best) → AreBest costs knows_higher bounds.rows best → after ≡ record bounds { rows = set bounds.rows d (allot goal (row_at bounds.rows d)) } → AreBest costs knows_higher after.rows best
best_allotted costs knows_higher bounds after d goal best least is =
    let size : ℕ = length costs in
    let rows : List (List Entry) = set bounds.rows d (allot goal (row_at bounds.rows d)) in
    let own : ℕ → ℕ = λ e. get_or costs e 0 in
    let whole : ℕ → Option ℕ = cost_where knows_higher costs in
    let lowers : lower_at own rows ≡ lower_at own bounds.rows = λ i e. cap (own e + row_allotted lower_sum allot_lower bounds.rows d goal e i) in
    let uppers : upper_at whole rows ≡ upper_at whole bounds.rows = λ i e. capped (plus_bound (whole e) (row_allotted upper_sum allot_upper bounds.rows d goal e i)) in
    subst (λ (b : BoundsView). AreBest costs knows_higher b.rows best) (sym is)
    (subst (λ (g : ℕ → Option ℕ). AreLeast size (lower_at own rows) g best) (sym uppers)
    (subst (λ (f : ℕ → ℕ). AreLeast size f (upper_at whole bounds.rows) best) (sym lowers) least))

-- bounds after a row was allotted
pub backed_allot : (own : Private) (place : Place) (known : Context) (bounds after : BoundsView) (d goal : ℕ) → AreBacked own place known bounds → after ≡ record bounds { rows = set bounds.rows d (allot goal (row_at bounds.rows d)) } → AreBacked own place known after
backed_allot own place known bounds after d goal backed is = subst (λ (b : BoundsView). AreBacked own place known b) (sym is) (record {
  children = backed.children;
  counted = length-set bounds.rows d (allot goal (row_at bounds.rows d)) ∙ backed.counted;
  rest =
      set_each [] (λ i row. (k : ℕ) → part_of (get_or row k blank).context known ≡ true) bounds.rows d (allot goal (row_at bounds.rows d))
      (λ k. subst (λ (c : Context). part_of c known ≡ true) (sym (allot_context goal (row_at bounds.rows d) k)) (backed.rest d k)) backed.rest;
})

-- what is to be allotted
pub goal_shown : (own : Private) (place : Place) (error : ℕ) (stage : Stage) (known : Context) (value threshold last : ℕ) (told : Bool) (bounds : BoundsView) (costs : List ℕ) (cost goal : ℕ) (v : AdoptView)
    → view_at own place error stage known value threshold last told bounds.rows ≡ v → AreCosts own place known costs → value < own.size → cost ≡ get_or costs value 0
    → goal ≡ lower_to (threshold - cost) (capped (upper_sum (row_at bounds.rows value)))
    → goal ≡ to_allot v
goal_shown own place error stage known value threshold last told bounds costs cost goal v view costed below is goal_is =
    goal_is ∙ ap (λ (x : ℕ). lower_to (threshold - x) (capped (upper_sum (row_at bounds.rows value)))) (is ∙ costed.each value below) ∙ ap to_allot view

-- what allotting gives
pub allotted_shown : (own : Private) (place : Place) (error : ℕ) (stage : Stage) (known : Context) (value threshold last : ℕ) (told : Bool) (bounds after : BoundsView) (goal : ℕ) (v : AdoptView)
    → view_at own place error stage known value threshold last told bounds.rows ≡ v → goal ≡ to_allot v
    → after ≡ record bounds { rows = set bounds.rows value (allot goal (row_at bounds.rows value)) }
    → view_at own place error stage known value threshold last told after.rows ≡ allotted v
allotted_shown own place error stage known value threshold last told bounds after goal v view right after_is =
    ap (λ (b : BoundsView). view_at own place error stage known value threshold last told b.rows) after_is
    ∙ ap (λ (g : ℕ). view_at own place error stage known value threshold last told (set bounds.rows value (allot g (row_at bounds.rows value)))) (right ∙ sym (ap to_allot view))
    ∙ ap allotted view

each_replicate : {X : Type 0} (P : X → Type 0) (n : ℕ) (x none : X) → P x → P none → (j : ℕ) → P (get_or (replicate n x) j none)
each_replicate P zero x none a b j = b
each_replicate P (suc n) x none a b zero = a
each_replicate P (suc n) x none a b (suc j) = each_replicate P n x none a b j

-- bounds of which nothing is known rest on nothing
blank_rests : (size width : ℕ) → RestOn [] (replicate size (replicate width blank))
blank_rests size width = λ d k.
    each_replicate (λ (row : List Entry). part_of (get_or row k blank).context [] ≡ true) size (replicate width blank) []
    (each_replicate (λ (e : Entry). part_of e.context [] ≡ true) width blank blank refl refl k) refl d

pub backed_new : (own : Private) (place : Place) (known : Context) (bounds : BoundsView) (width : ℕ) → known ≡ [] → bounds.children ≡ place.children → bounds.rows ≡ replicate own.size (replicate width blank) → AreBacked own place known bounds
backed_new own place known bounds width none children rows = record {
  children = children;
  counted = ap (λ (rs : List (List Entry)). length rs) rows ∙ length-replicate own.size (replicate width blank);
  rest = subst (λ (x : Context). RestOn x bounds.rows) (sym none) (subst (λ (rs : List (List Entry)). RestOn [] rs) (sym rows) (blank_rests own.size width));
}

row_same : (x : Context) (row : List Entry) → ((k : ℕ) → part_of (get_or row k blank).context x ≡ true) → map (kept x) row ≡ row
row_same x [] rest = refl
row_same x (e ∷ es) rest = ap₂ (λ (f : Entry) (fs : List Entry). f ∷ fs) (cond-true (part_of e.context x) e blank (rest 0)) (row_same x es (λ k. rest (suc k)))

-- nothing is forgotten where each entry rests on what is known
pub reset_same : (x : Context) (rows : List (List Entry)) → RestOn x rows → reset x rows ≡ rows
reset_same x [] rest = refl
reset_same x (row ∷ rows) rest = ap₂ (λ (r : List Entry) (rs : List (List Entry)). r ∷ rs) (row_same x row (rest 0)) (reset_same x rows (λ d k. rest (suc d) k))

pub at_same : (v : AdoptView) (x : Context) → v.known ≡ x → RestOn v.known v.rows → v ≡ at_context v x
at_same v x same rest =
    ap (λ (rows : List (List Entry)). record v { rows = rows }) (sym (reset_same v.known v.rows rest))
    ∙ ap (λ (y : Context). record v { known = y; rows = reset y v.rows }) same

-- pairs that are equal one by one
pub pairs_same : (xs ys : Context) → pointwise (λ x y. eqb x.0 y.0 && eqb x.1 y.1) xs ys ≡ true → xs ≡ ys
pairs_same [] [] h = refl
pairs_same [] (y ∷ ys) h = absurd (false≢true h)
pairs_same (x ∷ xs) [] h = absurd (false≢true h)
pairs_same (x ∷ xs) (y ∷ ys) h =
    let parts = and_parts (eqb x.0 y.0 && eqb x.1 y.1) (pointwise (λ x y. eqb x.0 y.0 && eqb x.1 y.1) xs ys) h in
    let both = and_parts (eqb x.0 y.0) (eqb x.1 y.1) parts.0 in
    ap₂ (λ (p : ℕ × ℕ) (ps : Context). p ∷ ps) (ap₂ (λ (a : ℕ) (b : ℕ). let p : ℕ × ℕ = (a, b) in p) (eqb-true x.0 y.0 both.0) (eqb-true x.1 y.1 both.1)) (pairs_same xs ys parts.1)
