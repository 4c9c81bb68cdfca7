-- What one more variable that is known brings: the tables that name it are added to the costs, and entries rest on as much as before.
use Rattle.std.proofs.Common.{◌≡◌, ℕ, ◌+◌, ◌<◌, ◌≤◌, zero, suc, Bool, true, false, cond, ◌&&◌, ◌||◌, eqb, List, [], ◌∷◌, length, get_or, min, replicate, Option, Some, None, is_some, refl, sym, ap, ap₂, subst, ◌∙◌, inl, inr, arith}
use Rattle.std.specs.List.{All, filter, list_all, zip}
use Rattle.std.proofs.lemmas.Bool.{cases_Bool, cond-true, cond-false, eqb-true, eq-eqb, and_parts, false≢true}
use Rattle.std.proofs.lemmas.Option.{none-some}
use Rattle.std.proofs.lemmas.List.{get_or_default}
use Rattle.std.proofs.lemmas.List.Sums.{sum_by-append}
use Rattle.dcop_base.specs.Table.{CostTable, cell_place, has}
use Rattle.dcop_base.specs.Values.{cell_with, cost_with, with_own}
use Rattle.dcop_base.specs.Limits.{amount_limit}
use Rattle.dcop_base.specs.declared.knowledge.Private.{Private}
use Rattle.pseudotree.specs.declared.agent.Place.{Place}
use Rattle.adopt_context.specs.Context.{Context, value_in, is_value, names_all, part_of, put}
use Rattle.adopt_context.specs.Bounds.{Entry, cap}
use Rattle.adopt_context.proofs.KnownLaws.{put_all, put_else, value_is}
use Rattle.adopt_bounds.specs.Rows.{BoundsView}
use Rattle.protocol_steps.specs.Adopt.{AdoptView}
use Rattle.protocol_steps.specs.Placing.{IsPlaceFor}
use Rattle.protocol_steps.specs.AdoptRange.{fits, in_range, is_within}
use Rattle.protocol_steps.specs.Values.{valued}
use Rattle.protocol_steps.specs.Knowledge.{IsKnowledge, IsKnownTable}
use Rattle.protocol_steps.specs.AdoptBounds.{at_context, counts}
use Rattle.protocol_steps.proofs.PrivateLaws.{has_at}
use Rattle.adopt_agent.specs.Costs.{IsGrown}
use Rattle.adopt_agent.specs.declared.best.Best.{Best}
use Rattle.adopt_agent.specs.Best.{AreBest}
use Rattle.adopt_agent.specs.declared.stage.Stage.{Stage}
use Rattle.adopt_agent.specs.Stage.{knowing, view_at}
use Rattle.adopt_agent.specs.Sound.{AreAdded, AreCosts, IsAdoptGround, IsSound, RestOn}
use Rattle.adopt_agent.proofs.BoundLaws.{reset_same}
use Rattle.adopt_agent.proofs.CountLaws.{cap_more, found_there}
use Rattle.adopt_agent.proofs.KeptLaws.{filtered_same}
use Rattle.adopt_agent.proofs.DifferLaws.{all_settled, values_same}

-- a variable that was not named gets a value
pub put_grows : (c : Context) (v a : ℕ) → value_in c v ≡ None → IsGrown c (put c v a) v
put_grows c v a none = record {
  unnamed = none;
  others = λ w other. put_else c v a w (λ (same : v ≡ w). false≢true (sym other ∙ eq-eqb w v (sym same)));
}

-- a part of what was known is a part of what is known now
part_grows : (c x y : Context) (v : ℕ) → IsGrown x y v → part_of c x ≡ true → part_of c y ≡ true
part_grows [] x y v grown part = refl
part_grows (p ∷ ps) x y v grown part =
    let both = and_parts (is_value (value_in x p.0) p.1) (part_of ps x) part in
    let there = value_is (value_in x p.0) p.1 both.0 in
    let other : eqb p.0 v ≡ false = elim (cases_Bool (eqb p.0 v)) [
      | inl same ↦ absurd (none-some p.1 (sym grown.unnamed ∙ ap (value_in x) (sym (eqb-true p.0 v same)) ∙ there))
      | inr differs ↦ differs
    ] in
    ap₂ (λ (o : Option ℕ) (b : Bool). is_value o p.1 && b) (grown.others p.0 other) (part_grows ps x y v grown both.1)
    ∙ ap (λ (b : Bool). b && true) both.0

-- entries rest on what is known now
pub rest_grows : (x y : Context) (v : ℕ) (rows : List (List Entry)) → IsGrown x y v → RestOn x rows → RestOn y rows
rest_grows x y v rows grown rest = λ d k. part_grows _ x y v grown (rest d k)

-- costs by tables are within the cap
pub costs_within : (own : Private) (place : Place) (known : Context) (costs : List ℕ) → AreCosts own place known costs → All (λ c. c ≤ amount_limit) costs
costs_within own place known costs costed = λ k none (inside : k < length costs).
    let counted = costed.counted in
    let least = get_or_default costs k none 0 inside in
    let is = costed.each k (omega (arith, inside, counted)) in
    below_cap (get_or costs k none) _ (least ∙ is)
  where
    below_cap : (c x : ℕ) → c ≡ min x amount_limit → c ≤ amount_limit
    below_cap c x e = omega (arith, e)

pub nothing_at : (n d : ℕ) → get_or (replicate n 0) d 0 ≡ (let none : ℕ = 0 in none)
nothing_at zero d = refl
nothing_at (suc n) zero = refl
nothing_at (suc n) (suc d) = nothing_at n d

nothing_more : (b : ℕ) → 0 + b ≡ b
nothing_more b = omega arith

-- the tables that count, added to nothing: all name the agent
pub costs_whole : (own : Private) (place : Place) (known : Context) → IsKnowledge own → (n : ℕ) (none costs : List ℕ) → none ≡ replicate n 0 → AreAdded own place known own.me none costs → AreCosts own place known costs
costs_whole own place known knowledge n none costs zeros added = record {
  counted = added.counted;
  each = λ d lt.
      let value = with_own own.me d (valued known) in
      let q : CostTable → Bool = λ t. has t.scope own.me && counts (knowing own place known) t in
      added.each d lt
      ∙ ap (λ (n : ℕ). cap (n + cost_with (filter q own.tables) value)) (ap (λ (xs : List ℕ). get_or xs d 0) zeros ∙ nothing_at n d)
      ∙ ap cap (nothing_more (cost_with (filter q own.tables) value))
      ∙ ap cap (filtered_same q (counts (knowing own place known)) value value own.tables
      (λ k t inside. (ap (λ (b : Bool). b && counts (knowing own place known) (get_or own.tables k t)) (named (get_or own.tables k t) (knowledge.tables k t inside)), λ _. refl)));
}
  where
    named : (t : CostTable) → IsKnownTable own t → has t.scope own.me ≡ true
    named t one = subst (λ (u : ℕ). has t.scope u ≡ true) one.named.2 (has_at t.scope one.named.0 own.me one.named.1)

-- the cost of one more table
pub one_table : (q : CostTable → Bool) (f : ℕ → ℕ) (t : CostTable) (ts : List CostTable) → cost_with (filter q (t ∷ ts)) f ≡ cond (q t) (cell_with t f) 0 + cost_with (filter q ts) f
one_table q f t ts = elim (cases_Bool (q t)) [
  | inl passes ↦
      ap (λ (us : List CostTable). cost_with us f) (cond-true (q t) (t ∷ filter q ts) (filter q ts) passes)
      ∙ sum_by-append (λ u. cell_with u f) (t ∷ []) (filter q ts)
      ∙ summed (cell_with t f) (cost_with (filter q ts) f) (cond (q t) (cell_with t f) 0) (cond-true (q t) (cell_with t f) 0 passes)
  | inr fails ↦
      ap (λ (us : List CostTable). cost_with us f) (cond-false (q t) (t ∷ filter q ts) (filter q ts) fails)
      ∙ alone (cost_with (filter q ts) f) (cond (q t) (cell_with t f) 0) (cond-false (q t) (cell_with t f) 0 fails)
]
  where
    summed : (a b c : ℕ) → c ≡ a → 0 + a + b ≡ c + b
    summed a b c e = omega (arith, e)

    alone : (b c : ℕ) → c ≡ 0 → b ≡ c + b
    alone b c e = omega (arith, e)

-- a table that names the new variable did not count, and another one counts as before
split_one : (named before now : Bool) (m n : ℕ) → (named ≡ true → before ≡ false) → (named ≡ false → now ≡ before) → (named ≡ false → before ≡ true → m ≡ n) → cond now n 0 ≡ cond before m 0 + cond (named && now) n 0
split_one true before now m n not_yet same cells =
    let none : cond before m 0 ≡ 0 = ap (λ (b : Bool). cond b m 0) (not_yet refl) in
    omega (arith, none)
split_one false true now m n not_yet same cells =
    let all : cond now n 0 ≡ n = ap (λ (b : Bool). cond b n 0) (same refl) in
    let cell : m ≡ n = cells refl refl in
    omega (arith, all, cell)
split_one false false now m n not_yet same cells =
    let none : cond now n 0 ≡ 0 = ap (λ (b : Bool). cond b n 0) (same refl) in
    omega (arith, none)

module _ (own : Private) (place : Place) (before known : Context) (v : ℕ) (grown : IsGrown before known v) (apart : eqb v own.me ≡ false) where
  abbrev is_settled : Context → ℕ → Bool
  is_settled c u = eqb u own.me || (has place.path u && is_some (value_in c u))

  -- a table that names the new variable did not count
  named_unsettled : (us : List ℕ) → has us v ≡ true → list_all (is_settled before) us ≡ false
  named_unsettled [] h = absurd (false≢true h)
  named_unsettled (u ∷ us) h = elim (cases_Bool (eqb u v)) [
    | inl here ↦
        let is : u ≡ v = eqb-true u v here in
        let none : is_settled before u ≡ false = ap (is_settled before) is ∙ ap₂ (λ (b : Bool) (o : Option ℕ). b || (has place.path v && is_some o)) apart grown.unnamed ∙ and_false (has place.path v) in
        ap (λ (b : Bool). b && list_all (is_settled before) us) none
    | inr other ↦
        let later : has us v ≡ true = ap (λ (b : Bool). b || has us v) (sym other) ∙ h in
        ap (λ (b : Bool). is_settled before u && b) (named_unsettled us later) ∙ and_false (is_settled before u)
  ]
    where
      and_false : (b : Bool) → (b && false) ≡ false
      and_false true = refl
      and_false false = refl

  -- the cost of the tables that count, and of those of them that name the new variable
  cost_grows : (d : ℕ) (ts : List CostTable) → cost_with (filter (counts (knowing own place known)) ts) (with_own own.me d (valued known)) ≡ cost_with (filter (counts (knowing own place before)) ts) (with_own own.me d (valued before)) + cost_with (filter (λ t. has t.scope v && counts (knowing own place known) t) ts) (with_own own.me d (valued known))
  cost_grows d [] = refl
  cost_grows d (t ∷ ts) =
      let f : ℕ → ℕ = with_own own.me d (valued before) in
      let g : ℕ → ℕ = with_own own.me d (valued known) in
      let q : CostTable → Bool = counts (knowing own place before) in
      let s : CostTable → Bool = counts (knowing own place known) in
      let r : CostTable → Bool = λ u. has u.scope v && s u in
      let one = split_one (has t.scope v) (q t) (s t) (cell_with t f) (cell_with t g) (named_unsettled t.scope) (all_settled own place before known v grown.others t.scope)
      (λ none _. ap (λ (xs : List ℕ). get_or t.cells (cell_place t.sizes xs) 0) (values_same own place before known v grown.others d t.scope none)) in
      one_table s g t ts
      ∙ summed (cond (s t) (cell_with t g) 0) (cond (q t) (cell_with t f) 0) (cond (r t) (cell_with t g) 0) (cost_with (filter s ts) g) (cost_with (filter q ts) f) (cost_with (filter r ts) g) one (cost_grows d ts)
      ∙ ap₂ (λ (m : ℕ) (n : ℕ). m + n) (sym (one_table q f t ts)) (sym (one_table r g t ts))
    where
      summed : (a b c x y z : ℕ) → a ≡ b + c → x ≡ y + z → a + x ≡ b + y + (c + z)
      summed a b c x y z one rest = omega (arith, one, rest)

  -- costs to which those of the tables that name the new variable are added
  pub costs_grow : (old new : List ℕ) → AreCosts own place before old → AreAdded own place known v old new → AreCosts own place known new
  costs_grow old new costed added = record {
    counted = added.counted;
    each = λ d lt. added.each d lt
        ∙ cap_more (get_or old d 0) (cost_with (filter (counts (knowing own place before)) own.tables) (with_own own.me d (valued before))) _ (costed.each d lt)
        ∙ ap cap (sym (cost_grows d own.tables));
  }

-- a variable within the ranges of the path is another one than the agent
pub ranged_other : (own : Private) (place : Place) (known : Context) (u a : ℕ) → IsPlaceFor own place → in_range (knowing own place known) u a ≡ true → eqb u own.me ≡ false
ranged_other own place known u a placed range = elim (cases_Bool (eqb u own.me)) [
  | inl same ↦ absurd (false≢true (sym placed.path.without ∙ ap (has place.path) (sym (eqb-true u own.me same)) ∙ in_path (value_in (zip place.path place.path_sizes) u) refl range))
  | inr other ↦ other
]
  where
    in_path : (o : Option ℕ) → value_in (zip place.path place.path_sizes) u ≡ o → is_within o a ≡ true → has place.path u ≡ true
    in_path None e h = absurd (false≢true h)
    in_path (Some size) e h = found_there place.path place.path_sizes u size e

-- a value within the ranges of the path fits beside what is known
pub ground_grows : (own : Private) (place : Place) (known : Context) (u a : ℕ) (x : Context) → IsAdoptGround own place known → in_range (knowing own place known) u a ≡ true → x ≡ put known u a → IsAdoptGround own place x
ground_grows own place known u a x ground range is = record {
  own_fits = ground.own_fits;
  placed = ground.placed;
  known_fits = subst (λ (y : Context). fits (knowing own place y) y ≡ true) (sym is) (put_all (in_range (knowing own place known)) known u a ground.known_fits range);
}

-- an agent stays sound where it knows one more variable, with the costs for what it knows
pub sound_grows : (own : Private) (place : Place) (higher_ones : List ℕ) (error : ℕ) (known : Context) (costs : List ℕ) (knows : Bool) (bounds : BoundsView) (best : Best) (value threshold last : ℕ) → IsSound own place higher_ones error known costs knows bounds best value threshold last
    → (u a : ℕ) (x : Context) (new : List ℕ) (all : Bool) (least : Best) → value_in known u ≡ None → in_range (knowing own place known) u a ≡ true → x ≡ put known u a
    → ((before : Context) → IsGrown before x u → AreCosts own place before costs → AreCosts own place x new) → all ≡ names_all x higher_ones → AreBest new all bounds.rows least
    → IsSound own place higher_ones error x new all bounds least value threshold last
sound_grows own place higher_ones error known costs knows bounds best value threshold last s u a x new all least none range is grow names best_is =
    let grown : IsGrown known x u = subst (λ (y : Context). IsGrown known y u) (sym is) (put_grows known u a none) in
    record {
      ground = ground_grows own place known u a x s.ground range is;
      costed = grow known grown s.costed;
      higher_is = s.higher_is;
      knows_higher_is = names ∙ ap (λ (near : List ℕ). names_all x near) s.higher_is;
      backed = record { children = s.backed.children; counted = s.backed.counted; rest = rest_grows known x u bounds.rows grown s.backed.rest };
      best_is = best_is;
      value_below = s.value_below;
      error_within = s.error_within;
      threshold_within = s.threshold_within;
      last_within = s.last_within;
    }

-- what an agent shows where it knows one more variable
pub grown_shown : (own : Private) (place : Place) (error : ℕ) (stage : Stage) (known : Context) (value threshold last : ℕ) (told : Bool) (rows : List (List Entry)) (v : AdoptView) (u a : ℕ) (x : Context)
    → view_at own place error stage known value threshold last told rows ≡ v → RestOn known rows → value_in known u ≡ None → x ≡ put known u a
    → view_at own place error stage x value threshold last told rows ≡ at_context v (put v.known u a)
grown_shown own place error stage known value threshold last told rows v u a x view rest none is =
    let grown : IsGrown known (put known u a) u = put_grows known u a none in
    ap (λ (y : Context). view_at own place error stage y value threshold last told rows) is
    ∙ ap (λ (rs : List (List Entry)). view_at own place error stage (put known u a) value threshold last told rs) (sym (reset_same (put known u a) rows (rest_grows known (put known u a) u rows grown rest)))
    ∙ ap (λ (w : AdoptView). at_context w (put w.known u a)) view
