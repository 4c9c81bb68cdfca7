-- What the costs are where one known value is another one: the tables that name its variable cost what they cost now, in place of what they cost before.
use Rattle.std.proofs.Common.{◌≡◌, ℕ, ◌+◌, ◌-◌, ◌<◌, ◌≤◌, zero, suc, Bool, true, false, cond, not, ◌&&◌, eqb, nat_lt, List, [], ◌∷◌, length, get_or, min, replicate, Option, is_some, refl, sym, ap, ap₂, ◌∙◌, inl, inr, arith}
use Rattle.std.specs.List.{All, filter, list_all}
use Rattle.std.proofs.lemmas.Bool.{cases_Bool, and_parts, eqb-true, eq-eqb, ltb-true, false≢true}
use Rattle.std.proofs.lemmas.List.{get_or_default}
use Rattle.dcop_base.specs.Table.{CostTable, cell_place, has}
use Rattle.dcop_base.specs.Values.{cell_with, cost_with, with_own}
use Rattle.dcop_base.specs.Limits.{amount_limit}
use Rattle.dcop_base.specs.declared.knowledge.Private.{Private}
use Rattle.pseudotree.specs.declared.agent.Place.{Place}
use Rattle.adopt_context.specs.Context.{Context, value_in, names_all, put}
use Rattle.adopt_context.specs.Bounds.{cap}
use Rattle.adopt_context.proofs.KnownLaws.{put_else, put_here}
use Rattle.protocol_steps.specs.Values.{valued}
use Rattle.protocol_steps.specs.AdoptBounds.{counts}
use Rattle.adopt_agent.specs.Costs.{Differ}
use Rattle.adopt_agent.specs.Stage.{knowing}
use Rattle.adopt_agent.specs.Sound.{AreAdded, AreCosts}
use Rattle.adopt_agent.proofs.DifferLaws.{all_settled, values_same}
use Rattle.adopt_agent.proofs.GrowLaws.{nothing_at, one_table}
use Rattle.adopt_agent.proofs.KeptLaws.{filtered_same}

-- another value is put
pub put_differs : (c : Context) (v a : ℕ) → Differ c (put c v a) v
put_differs c v a = λ w other. put_else c v a w (λ (same : v ≡ w). false≢true (sym other ∙ eq-eqb w v (sym same)))

-- a context in which a variable that it names gets another value names the same ones
pub names_put : (c : Context) (v a : ℕ) (vars : List ℕ) → is_some (value_in c v) ≡ true → names_all (put c v a) vars ≡ names_all c vars
names_put c v a [] some = refl
names_put c v a (u ∷ us) some = ap₂ (λ (b : Bool) (d : Bool). b && d) one (names_put c v a us some)
  where
    one : is_some (value_in (put c v a) u) ≡ is_some (value_in c u)
    one = elim (cases_Bool (eqb u v)) [
      | inl here ↦
          let same : u ≡ v = eqb-true u v here in
          ap (λ (w : ℕ). is_some (value_in (put c v a) w)) same ∙ ap (λ (o : Option ℕ). is_some o) (put_here c v a) ∙ sym some ∙ sym (ap (λ (w : ℕ). is_some (value_in c w)) same)
      | inr other ↦ ap (λ (o : Option ℕ). is_some o) (put_differs c v a u other)
    ]

-- numbers that all are below the cap
pub whole_at : (xs : List ℕ) (d : ℕ) → list_all (λ c. nat_lt c amount_limit) xs ≡ true → d < length xs → get_or xs d 0 < amount_limit
whole_at [] d all lt = absurd (omega (arith, lt))
whole_at (x ∷ xs) zero all lt = ltb-true x amount_limit (and_parts (nat_lt x amount_limit) (list_all (λ c. nat_lt c amount_limit) xs) all).0
whole_at (x ∷ xs) (suc d) all lt = whole_at xs d (and_parts (nat_lt x amount_limit) (list_all (λ c. nat_lt c amount_limit) xs) all).1 (omega (arith, lt))

-- a property of each number, told at the default 0
pub all_from_each : (xs : List ℕ) (n : ℕ) → ((d : ℕ) → d < length xs → get_or xs d 0 ≤ n) → All (λ c. c ≤ n) xs
all_from_each xs n each = λ k none (inside : k < length xs).
    let least = get_or_default xs k none 0 inside in
    let low = each k inside in
    omega (arith, least, low)

passes_same : (b m n : Bool) → (b ≡ false → m ≡ n) → (not b && m) ≡ (not b && n)
passes_same true m n same = refl
passes_same false m n same = same refl

not_first : (b m : Bool) → (not b && m) ≡ true → b ≡ false
not_first true m h = absurd (false≢true h)
not_first false m h = refl

-- the tables that count, and those of them that name a variable
split_named : (v : ℕ) (s : CostTable → Bool) (f : ℕ → ℕ) (ts : List CostTable) → cost_with (filter s ts) f ≡ cost_with (filter (λ t. not (has t.scope v) && s t) ts) f + cost_with (filter (λ t. has t.scope v && s t) ts) f
split_named v s f [] = refl
split_named v s f (t ∷ ts) =
    let q : CostTable → Bool = λ u. not (has u.scope v) && s u in
    let r : CostTable → Bool = λ u. has u.scope v && s u in
    one_table s f t ts
    ∙ summed (cond (s t) (cell_with t f) 0) (cond (q t) (cell_with t f) 0) (cond (r t) (cell_with t f) 0) (cost_with (filter s ts) f) (cost_with (filter q ts) f) (cost_with (filter r ts) f) (either (has t.scope v) (cond (s t) (cell_with t f) 0) (s t) (cell_with t f) refl) (split_named v s f ts)
    ∙ ap₂ (λ (m : ℕ) (n : ℕ). m + n) (sym (one_table q f t ts)) (sym (one_table r f t ts))
  where
    summed : (a b c x y z : ℕ) → a ≡ b + c → x ≡ y + z → a + x ≡ b + y + (c + z)
    summed a b c x y z one rest = omega (arith, one, rest)

    either : (b : Bool) (all : ℕ) (m : Bool) (n : ℕ) → all ≡ cond m n 0 → all ≡ cond (not b && m) n 0 + cond (b && m) n 0
    either true all m n e = omega (arith, e)
    either false all m n e = omega (arith, e)

-- a share of a sum that is below the cap, exchanged
exchanged : (rest o n old share mid new : ℕ) → old ≡ min (rest + o) amount_limit → old < amount_limit → share ≡ min (0 + o) amount_limit → mid ≡ old - share → new ≡ min (mid + n) amount_limit → new ≡ min (rest + n) amount_limit
exchanged rest o n old share mid new first below some left last = omega (arith, first, below, some, left, last)

share_least : (rest o old share : ℕ) → old ≡ min (rest + o) amount_limit → share ≡ min (0 + o) amount_limit → share ≤ old
share_least rest o old share first some = omega (arith, first, some)

module _ (own : Private) (place : Place) (before known : Context) (v : ℕ) (others : Differ before known v) where
  abbrev named : Context → CostTable → Bool
  named c t = has t.scope v && counts (knowing own place c) t

  abbrev unnamed : Context → CostTable → Bool
  unnamed c t = not (has t.scope v) && counts (knowing own place c) t

  -- the tables that do not name the variable
  rest_same : (d : ℕ) (ts : List CostTable) → cost_with (filter (unnamed before) ts) (with_own own.me d (valued before)) ≡ cost_with (filter (unnamed known) ts) (with_own own.me d (valued known))
  rest_same d ts = filtered_same (unnamed before) (unnamed known) (with_own own.me d (valued before)) (with_own own.me d (valued known)) ts (λ k t inside. one (get_or ts k t))
    where
      one : (t : CostTable) → (unnamed before t ≡ unnamed known t) × (unnamed before t ≡ true → cell_with t (with_own own.me d (valued before)) ≡ cell_with t (with_own own.me d (valued known)))
      one t = (
        passes_same (has t.scope v) (counts (knowing own place before) t) (counts (knowing own place known) t) (λ none. sym (all_settled own place before known v others t.scope none)),
        λ passes. ap (λ (xs : List ℕ). get_or t.cells (cell_place t.sizes xs) 0) (values_same own place before known v others d t.scope (not_first (has t.scope v) (counts (knowing own place before) t) passes)),
      )

  module _ (old none share : List ℕ) (n : ℕ) (costed : AreCosts own place before old) (zeros : none ≡ replicate n 0) (added : AreAdded own place before v none share) where
    old_is : (d : ℕ) → d < own.size → get_or old d 0 ≡ min (cost_with (filter (unnamed before) own.tables) (with_own own.me d (valued before)) + cost_with (filter (named before) own.tables) (with_own own.me d (valued before))) amount_limit
    old_is d lt = costed.each d lt ∙ ap cap (split_named v (counts (knowing own place before)) (with_own own.me d (valued before)) own.tables)

    share_is : (d : ℕ) → d < own.size → get_or share d 0 ≡ min (0 + cost_with (filter (named before) own.tables) (with_own own.me d (valued before))) amount_limit
    share_is d lt = added.each d lt ∙ ap (λ (x : ℕ). cap (x + cost_with (filter (named before) own.tables) (with_own own.me d (valued before)))) (ap (λ (xs : List ℕ). get_or xs d 0) zeros ∙ nothing_at n d)

    -- what is taken off is there
    pub share_there : (d : ℕ) → d < own.size → get_or share d 0 ≤ get_or old d 0
    share_there d lt = share_least _ _ (get_or old d 0) (get_or share d 0) (old_is d lt) (share_is d lt)

    -- the costs for what is known now
    pub costs_exchanged : (mid new : List ℕ) → list_all (λ c. nat_lt c amount_limit) old ≡ true → ((d : ℕ) → d < length old → get_or mid d 0 ≡ get_or old d 0 - get_or share d 0) → AreAdded own place known v mid new → AreCosts own place known new
    costs_exchanged mid new whole left more = record {
      counted = more.counted;
      each = λ d lt.
          let counted = costed.counted in
          let inside : d < length old = omega (arith, lt, counted) in
          exchanged _ _ (cost_with (filter (named known) own.tables) (with_own own.me d (valued known))) (get_or old d 0) (get_or share d 0) (get_or mid d 0) (get_or new d 0) (old_is d lt) (whole_at old d whole inside) (share_is d lt) (left d inside) (more.each d lt)
          ∙ ap (λ (x : ℕ). cap (x + cost_with (filter (named known) own.tables) (with_own own.me d (valued known)))) (rest_same d own.tables)
          ∙ ap cap (sym (split_named v (counts (knowing own place known)) (with_own own.me d (valued known)) own.tables));
    }
