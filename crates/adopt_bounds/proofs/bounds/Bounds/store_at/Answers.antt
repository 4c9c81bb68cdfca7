use Rattle.std.proofs.Common.{◌≡◌, ℕ, ◌+◌, ◌*◌, ◌<◌, List, [], Option, true, false, max, length, set, ap, sym, subst, ◌∙◌, arith}
use Rattle.adopt_context.specs.Allot.{lower_to}
use Rattle.adopt_context.specs.Bounds.{Entry, entry_at, row_at}
use Rattle.adopt_context.specs.Context.{Context, compatible, or_zero, union}
use Rattle.adopt_context.specs.Merge.{is_at_most, lesser, merged, put_entry}
use Rattle.adopt_bounds.specs.Rows.{BoundsView, entries_of, rows_of}
use Rattle.adopt_bounds.specs.Totals.{missing_of, totals_of}
use Rattle.adopt_bounds.specs.declared.interval.Interval.{Interval}
use Rattle.adopt_bounds.proofs.PlaceLaws.{seen_entry, seen_totals, seen_small, seen_holds, seen_within, merged_within, seen_put, seen_put_rows, or_zero_within, missing_one, view_of}
use Rattle.adopt_bounds.proofs.bounds.Bounds.store_at.Goals as goal

pub returns-in_default-clause-stored : goal.returns-in_default-clause-stored
returns-in_default-clause-stored c =
    let b = c.self.inside in
    let n = length b.totals.items in
    let w = length b.children in
    let d = c.args.d in
    let k = c.args.place in
    let i = c.index_at-index.result in
    let rows = c.args.self.now.rows in
    let e = entry_at rows d k in
    let children : c.as_slice.result.now ≡ b.children = c.as_slice.ensures in
    let same : b.children ≡ c.args.self.now.children = ap (λ (v : BoundsView). v.children) c.self.view_is in
    let seen : rows_of n w (entries_of b.lower.items b.upper.items b.share.items b.contexts.items) ≡ rows = ap (λ (v : BoundsView). v.rows) c.self.view_is in
    let place : k < w = subst (λ (xs : List ℕ). k < length xs) (sym same) c.requires.place in
    let index : i ≡ d * w + k = c.index_at-index.ensures ∙ ap (λ (xs : List ℕ). d * length xs + k) children in
    let entry = seen_entry n w d k i b.lower.items b.upper.items b.share.items b.contexts.items rows c.index.result.now c.index-2.result.now 0 [] c.self.invariant.parts seen c.requires.value place index in
    let low : e.lower ≡ c.index.result.now = ap (λ (y : Entry). y.lower) entry ∙ sym c.index.ensures in
    let high : e.upper ≡ c.index-2.result.now = ap (λ (y : Entry). y.upper) entry ∙ sym c.index-2.ensures in
    let crossed : is_at_most (max c.index.result.now c.args.lower) (lesser c.index-2.result.now c.args.upper) ≡ false = c.in_default.ensures in
    sym (ap (λ x. is_at_most (max x c.args.lower) (lesser e.upper c.args.upper)) low ∙ ap (λ (u : Option ℕ). is_at_most (max c.index.result.now c.args.lower) (lesser u c.args.upper)) high ∙ crossed)

pub union-requires : goal.union-requires
union-requires c =
    let b = c.self.inside in
    let n = length b.totals.items in
    let w = length b.children in
    let d = c.args.d in
    let k = c.args.place in
    let i = c.index_at-index.result in
    let rows = c.args.self.now.rows in
    let e = entry_at rows d k in
    let children : c.as_slice.result.now ≡ b.children = c.as_slice.ensures in
    let same : b.children ≡ c.args.self.now.children = ap (λ (v : BoundsView). v.children) c.self.view_is in
    let seen : rows_of n w (entries_of b.lower.items b.upper.items b.share.items b.contexts.items) ≡ rows = ap (λ (v : BoundsView). v.rows) c.self.view_is in
    let place : k < w = subst (λ (xs : List ℕ). k < length xs) (sym same) c.requires.place in
    let index : i ≡ d * w + k = c.index_at-index.ensures ∙ ap (λ (xs : List ℕ). d * length xs + k) children in
    let entry = seen_entry n w d k i b.lower.items b.upper.items b.share.items b.contexts.items rows c.index.result.now c.index-2.result.now 0 c.index_mut.result.now c.self.invariant.parts seen c.requires.value place index in
    let low : e.lower ≡ c.index.result.now = ap (λ (y : Entry). y.lower) entry ∙ sym c.index.ensures in
    let high : e.upper ≡ c.index-2.result.now = ap (λ (y : Entry). y.upper) entry ∙ sym c.index-2.ensures in
    let context : e.context ≡ c.index_mut.result.now = ap (λ (y : Entry). y.context) entry ∙ sym c.index_mut.ensures.value in
    subst (λ (x : Context). compatible x c.args.context.now ≡ true) context c.requires.compatible

pub exchange-requires-clause-lower : goal.exchange-requires-clause-lower
exchange-requires-clause-lower c =
    let b = c.self.inside in
    let n = length b.totals.items in
    let w = length b.children in
    let d = c.args.d in
    let k = c.args.place in
    let i = c.index_at-index.result in
    let rows = c.args.self.now.rows in
    let e = entry_at rows d k in
    let children : c.as_slice.result.now ≡ b.children = c.as_slice.ensures in
    let same : b.children ≡ c.args.self.now.children = ap (λ (v : BoundsView). v.children) c.self.view_is in
    let seen : rows_of n w (entries_of b.lower.items b.upper.items b.share.items b.contexts.items) ≡ rows = ap (λ (v : BoundsView). v.rows) c.self.view_is in
    let place : k < w = subst (λ (xs : List ℕ). k < length xs) (sym same) c.requires.place in
    let index : i ≡ d * w + k = c.index_at-index.ensures ∙ ap (λ (xs : List ℕ). d * length xs + k) children in
    let entry = seen_entry n w d k i b.lower.items b.upper.items b.share.items b.contexts.items rows c.index.result.now c.index-2.result.now 0 [] c.self.invariant.parts seen c.requires.value place index in
    let low : e.lower ≡ c.index.result.now = ap (λ (y : Entry). y.lower) entry ∙ sym c.index.ensures in
    let high : e.upper ≡ c.index-2.result.now = ap (λ (y : Entry). y.upper) entry ∙ sym c.index-2.ensures in
    let t = c.index_mut-2.result.now in
    let right : t ≡ totals_of (row_at rows d) = seen_totals w d c.from.result b.lower.items b.upper.items b.share.items b.contexts.items b.totals.items rows t c.self.invariant seen c.requires.value (c.from.ensures ∙ c.d.view_is) c.index_mut-2.ensures.value in
    let holds = seen_holds w d k b.lower.items b.upper.items b.share.items b.contexts.items b.totals.items rows t c.self.invariant seen c.requires.value place right in
    omega (arith, holds.lower, low)

pub exchange-requires-clause-upper : goal.exchange-requires-clause-upper
exchange-requires-clause-upper c =
    let b = c.self.inside in
    let n = length b.totals.items in
    let w = length b.children in
    let d = c.args.d in
    let k = c.args.place in
    let i = c.index_at-index.result in
    let rows = c.args.self.now.rows in
    let e = entry_at rows d k in
    let children : c.as_slice.result.now ≡ b.children = c.as_slice.ensures in
    let same : b.children ≡ c.args.self.now.children = ap (λ (v : BoundsView). v.children) c.self.view_is in
    let seen : rows_of n w (entries_of b.lower.items b.upper.items b.share.items b.contexts.items) ≡ rows = ap (λ (v : BoundsView). v.rows) c.self.view_is in
    let place : k < w = subst (λ (xs : List ℕ). k < length xs) (sym same) c.requires.place in
    let index : i ≡ d * w + k = c.index_at-index.ensures ∙ ap (λ (xs : List ℕ). d * length xs + k) children in
    let entry = seen_entry n w d k i b.lower.items b.upper.items b.share.items b.contexts.items rows c.index.result.now c.index-2.result.now 0 [] c.self.invariant.parts seen c.requires.value place index in
    let low : e.lower ≡ c.index.result.now = ap (λ (y : Entry). y.lower) entry ∙ sym c.index.ensures in
    let high : e.upper ≡ c.index-2.result.now = ap (λ (y : Entry). y.upper) entry ∙ sym c.index-2.ensures in
    let t = c.index_mut-2.result.now in
    let right : t ≡ totals_of (row_at rows d) = seen_totals w d c.from.result b.lower.items b.upper.items b.share.items b.contexts.items b.totals.items rows t c.self.invariant seen c.requires.value (c.from.ensures ∙ c.d.view_is) c.index_mut-2.ensures.value in
    let holds = seen_holds w d k b.lower.items b.upper.items b.share.items b.contexts.items b.totals.items rows t c.self.invariant seen c.requires.value place right in
    omega (arith, holds.upper, ap (λ (u : Option ℕ). or_zero u) high)

pub exchange-requires-clause-missing : goal.exchange-requires-clause-missing
exchange-requires-clause-missing c =
    let b = c.self.inside in
    let n = length b.totals.items in
    let w = length b.children in
    let d = c.args.d in
    let k = c.args.place in
    let i = c.index_at-index.result in
    let rows = c.args.self.now.rows in
    let e = entry_at rows d k in
    let children : c.as_slice.result.now ≡ b.children = c.as_slice.ensures in
    let same : b.children ≡ c.args.self.now.children = ap (λ (v : BoundsView). v.children) c.self.view_is in
    let seen : rows_of n w (entries_of b.lower.items b.upper.items b.share.items b.contexts.items) ≡ rows = ap (λ (v : BoundsView). v.rows) c.self.view_is in
    let place : k < w = subst (λ (xs : List ℕ). k < length xs) (sym same) c.requires.place in
    let index : i ≡ d * w + k = c.index_at-index.ensures ∙ ap (λ (xs : List ℕ). d * length xs + k) children in
    let entry = seen_entry n w d k i b.lower.items b.upper.items b.share.items b.contexts.items rows c.index.result.now c.index-2.result.now 0 [] c.self.invariant.parts seen c.requires.value place index in
    let low : e.lower ≡ c.index.result.now = ap (λ (y : Entry). y.lower) entry ∙ sym c.index.ensures in
    let high : e.upper ≡ c.index-2.result.now = ap (λ (y : Entry). y.upper) entry ∙ sym c.index-2.ensures in
    let t = c.index_mut-2.result.now in
    let right : t ≡ totals_of (row_at rows d) = seen_totals w d c.from.result b.lower.items b.upper.items b.share.items b.contexts.items b.totals.items rows t c.self.invariant seen c.requires.value (c.from.ensures ∙ c.d.view_is) c.index_mut-2.ensures.value in
    let holds = seen_holds w d k b.lower.items b.upper.items b.share.items b.contexts.items b.totals.items rows t c.self.invariant seen c.requires.value place right in
    omega (arith, holds.missing, ap (λ (u : Option ℕ). missing_of u) high)

pub exchange-requires-clause-lower_fits : goal.exchange-requires-clause-lower_fits
exchange-requires-clause-lower_fits c =
    let b = c.self.inside in
    let n = length b.totals.items in
    let w = length b.children in
    let d = c.args.d in
    let k = c.args.place in
    let i = c.index_at-index.result in
    let rows = c.args.self.now.rows in
    let e = entry_at rows d k in
    let children : c.as_slice.result.now ≡ b.children = c.as_slice.ensures in
    let same : b.children ≡ c.args.self.now.children = ap (λ (v : BoundsView). v.children) c.self.view_is in
    let seen : rows_of n w (entries_of b.lower.items b.upper.items b.share.items b.contexts.items) ≡ rows = ap (λ (v : BoundsView). v.rows) c.self.view_is in
    let place : k < w = subst (λ (xs : List ℕ). k < length xs) (sym same) c.requires.place in
    let index : i ≡ d * w + k = c.index_at-index.ensures ∙ ap (λ (xs : List ℕ). d * length xs + k) children in
    let entry = seen_entry n w d k i b.lower.items b.upper.items b.share.items b.contexts.items rows c.index.result.now c.index-2.result.now 0 [] c.self.invariant.parts seen c.requires.value place index in
    let low : e.lower ≡ c.index.result.now = ap (λ (y : Entry). y.lower) entry ∙ sym c.index.ensures in
    let high : e.upper ≡ c.index-2.result.now = ap (λ (y : Entry). y.upper) entry ∙ sym c.index-2.ensures in
    let t = c.index_mut-2.result.now in
    let short : length b.lower.items < 9223372036854775808 = omega (arith, b.lower.ok.0, b.lower.ok.1, b.lower.small) in
    let small = seen_small w d c.from.result b.lower.items b.upper.items b.share.items b.contexts.items b.totals.items rows t c.self.invariant seen c.requires.value (c.from.ensures ∙ c.d.view_is) c.index_mut-2.ensures.value short in
    let within = merged_within e c.args.context.now c.args.lower c.args.upper (seen_within n w d k i b.lower.items b.upper.items b.share.items b.contexts.items rows c.self.invariant.parts seen c.requires.value place index) c.requires.lower c.requires.upper in
    let m = merged e c.args.context.now c.args.lower c.args.upper in
    let new_low : c.in-Some.new.lower ≡ m.lower = ap (λ (z : Interval). z.lower) c.in-Some.ensures.1 ∙ ap (λ z. max z c.args.lower) (sym low) in
    let new_high : c.in-Some.new.upper ≡ m.upper = ap (λ (z : Interval). z.upper) c.in-Some.ensures.1 ∙ ap (λ (u : Option ℕ). lesser u c.args.upper) (sym high) in
    omega (arith, small.lower, within.lower, new_low)

pub exchange-requires-clause-upper_fits : goal.exchange-requires-clause-upper_fits
exchange-requires-clause-upper_fits c =
    let b = c.self.inside in
    let n = length b.totals.items in
    let w = length b.children in
    let d = c.args.d in
    let k = c.args.place in
    let i = c.index_at-index.result in
    let rows = c.args.self.now.rows in
    let e = entry_at rows d k in
    let children : c.as_slice.result.now ≡ b.children = c.as_slice.ensures in
    let same : b.children ≡ c.args.self.now.children = ap (λ (v : BoundsView). v.children) c.self.view_is in
    let seen : rows_of n w (entries_of b.lower.items b.upper.items b.share.items b.contexts.items) ≡ rows = ap (λ (v : BoundsView). v.rows) c.self.view_is in
    let place : k < w = subst (λ (xs : List ℕ). k < length xs) (sym same) c.requires.place in
    let index : i ≡ d * w + k = c.index_at-index.ensures ∙ ap (λ (xs : List ℕ). d * length xs + k) children in
    let entry = seen_entry n w d k i b.lower.items b.upper.items b.share.items b.contexts.items rows c.index.result.now c.index-2.result.now 0 [] c.self.invariant.parts seen c.requires.value place index in
    let low : e.lower ≡ c.index.result.now = ap (λ (y : Entry). y.lower) entry ∙ sym c.index.ensures in
    let high : e.upper ≡ c.index-2.result.now = ap (λ (y : Entry). y.upper) entry ∙ sym c.index-2.ensures in
    let t = c.index_mut-2.result.now in
    let short : length b.lower.items < 9223372036854775808 = omega (arith, b.lower.ok.0, b.lower.ok.1, b.lower.small) in
    let small = seen_small w d c.from.result b.lower.items b.upper.items b.share.items b.contexts.items b.totals.items rows t c.self.invariant seen c.requires.value (c.from.ensures ∙ c.d.view_is) c.index_mut-2.ensures.value short in
    let within = merged_within e c.args.context.now c.args.lower c.args.upper (seen_within n w d k i b.lower.items b.upper.items b.share.items b.contexts.items rows c.self.invariant.parts seen c.requires.value place index) c.requires.lower c.requires.upper in
    let m = merged e c.args.context.now c.args.lower c.args.upper in
    let new_low : c.in-Some.new.lower ≡ m.lower = ap (λ (z : Interval). z.lower) c.in-Some.ensures.1 ∙ ap (λ z. max z c.args.lower) (sym low) in
    let new_high : c.in-Some.new.upper ≡ m.upper = ap (λ (z : Interval). z.upper) c.in-Some.ensures.1 ∙ ap (λ (u : Option ℕ). lesser u c.args.upper) (sym high) in
    omega (arith, small.upper, or_zero_within m.upper within.upper, ap (λ (u : Option ℕ). or_zero u) new_high)

pub exchange-requires-clause-missing_fits : goal.exchange-requires-clause-missing_fits
exchange-requires-clause-missing_fits c =
    let b = c.self.inside in
    let n = length b.totals.items in
    let w = length b.children in
    let d = c.args.d in
    let k = c.args.place in
    let i = c.index_at-index.result in
    let rows = c.args.self.now.rows in
    let e = entry_at rows d k in
    let children : c.as_slice.result.now ≡ b.children = c.as_slice.ensures in
    let same : b.children ≡ c.args.self.now.children = ap (λ (v : BoundsView). v.children) c.self.view_is in
    let seen : rows_of n w (entries_of b.lower.items b.upper.items b.share.items b.contexts.items) ≡ rows = ap (λ (v : BoundsView). v.rows) c.self.view_is in
    let place : k < w = subst (λ (xs : List ℕ). k < length xs) (sym same) c.requires.place in
    let index : i ≡ d * w + k = c.index_at-index.ensures ∙ ap (λ (xs : List ℕ). d * length xs + k) children in
    let entry = seen_entry n w d k i b.lower.items b.upper.items b.share.items b.contexts.items rows c.index.result.now c.index-2.result.now 0 [] c.self.invariant.parts seen c.requires.value place index in
    let low : e.lower ≡ c.index.result.now = ap (λ (y : Entry). y.lower) entry ∙ sym c.index.ensures in
    let high : e.upper ≡ c.index-2.result.now = ap (λ (y : Entry). y.upper) entry ∙ sym c.index-2.ensures in
    let t = c.index_mut-2.result.now in
    let short : length b.lower.items < 9223372036854775808 = omega (arith, b.lower.ok.0, b.lower.ok.1, b.lower.small) in
    let small = seen_small w d c.from.result b.lower.items b.upper.items b.share.items b.contexts.items b.totals.items rows t c.self.invariant seen c.requires.value (c.from.ensures ∙ c.d.view_is) c.index_mut-2.ensures.value short in
    let within = merged_within e c.args.context.now c.args.lower c.args.upper (seen_within n w d k i b.lower.items b.upper.items b.share.items b.contexts.items rows c.self.invariant.parts seen c.requires.value place index) c.requires.lower c.requires.upper in
    let m = merged e c.args.context.now c.args.lower c.args.upper in
    let new_low : c.in-Some.new.lower ≡ m.lower = ap (λ (z : Interval). z.lower) c.in-Some.ensures.1 ∙ ap (λ z. max z c.args.lower) (sym low) in
    let new_high : c.in-Some.new.upper ≡ m.upper = ap (λ (z : Interval). z.upper) c.in-Some.ensures.1 ∙ ap (λ (u : Option ℕ). lesser u c.args.upper) (sym high) in
    omega (arith, small.missing, missing_one c.in-Some.new.upper)

pub invariant_of-self-2 : goal.invariant_of-self-2
invariant_of-self-2 c =
    let b = c.self.inside in
    let n = length b.totals.items in
    let w = length b.children in
    let d = c.args.d in
    let k = c.args.place in
    let i = c.index_at-index.result in
    let rows = c.args.self.now.rows in
    let e = entry_at rows d k in
    let children : c.as_slice.result.now ≡ b.children = c.as_slice.ensures in
    let same : b.children ≡ c.args.self.now.children = ap (λ (v : BoundsView). v.children) c.self.view_is in
    let seen : rows_of n w (entries_of b.lower.items b.upper.items b.share.items b.contexts.items) ≡ rows = ap (λ (v : BoundsView). v.rows) c.self.view_is in
    let place : k < w = subst (λ (xs : List ℕ). k < length xs) (sym same) c.requires.place in
    let index : i ≡ d * w + k = c.index_at-index.ensures ∙ ap (λ (xs : List ℕ). d * length xs + k) children in
    let entry = seen_entry n w d k i b.lower.items b.upper.items b.share.items b.contexts.items rows c.index.result.now c.index-2.result.now c.index-3.result.now c.index_mut.result.now c.self.invariant.parts seen c.requires.value place index in
    let low : e.lower ≡ c.index.result.now = ap (λ (y : Entry). y.lower) entry ∙ sym c.index.ensures in
    let high : e.upper ≡ c.index-2.result.now = ap (λ (y : Entry). y.upper) entry ∙ sym c.index-2.ensures in
    let t = c.index_mut-2.result.now in
    let right : t ≡ totals_of (row_at rows d) = seen_totals w d c.from.result b.lower.items b.upper.items b.share.items b.contexts.items b.totals.items rows t c.self.invariant seen c.requires.value (c.from.ensures ∙ c.d.view_is) c.index_mut-2.ensures.value in
    let short : length b.lower.items < 9223372036854775808 = omega (arith, b.lower.ok.0, b.lower.ok.1, b.lower.small) in
    let small = seen_small w d c.from.result b.lower.items b.upper.items b.share.items b.contexts.items b.totals.items rows t c.self.invariant seen c.requires.value (c.from.ensures ∙ c.d.view_is) c.index_mut-2.ensures.value short in
    let within = merged_within e c.args.context.now c.args.lower c.args.upper (seen_within n w d k i b.lower.items b.upper.items b.share.items b.contexts.items rows c.self.invariant.parts seen c.requires.value place index) c.requires.lower c.requires.upper in
    let m = merged e c.args.context.now c.args.lower c.args.upper in
    let new_low : c.in-Some.new.lower ≡ m.lower = ap (λ (z : Interval). z.lower) c.in-Some.ensures.1 ∙ ap (λ z. max z c.args.lower) (sym low) in
    let new_high : c.in-Some.new.upper ≡ m.upper = ap (λ (z : Interval). z.upper) c.in-Some.ensures.1 ∙ ap (λ (u : Option ℕ). lesser u c.args.upper) (sym high) in
    let share : e.share ≡ c.index-3.result.now = ap (λ (y : Entry). y.share) entry ∙ sym c.index-3.ensures in
    let context : e.context ≡ c.index_mut.result.now = ap (λ (y : Entry). y.context) entry ∙ sym c.index_mut.ensures.value in
    let new_share : c.nearest.result ≡ m.share =
    c.nearest.ensures ∙ ap (λ x. lower_to (max x c.in-Some.new.lower) c.in-Some.new.upper) (sym share)
    ∙ ap (λ x. lower_to (max e.share x) c.in-Some.new.upper) new_low ∙ ap (λ (u : Option ℕ). lower_to (max e.share m.lower) u) new_high in
    let new_context : c.union.new.self ≡ m.context = c.in_ok-union.ensures.joined ∙ ap (λ (x : Context). union x c.args.context.now) (sym context) in
    rw (new_low, new_high, new_share, new_context)
    (seen_put w d i k b.lower.items b.upper.items b.share.items b.contexts.items b.totals.items rows m c.from.result t c.exchange.new.self c.self.invariant seen c.requires.value place index (c.from.ensures ∙ c.d.view_is) right
    within.lower within.upper within.share
    (omega (arith, c.exchange.ensures.lower, low, new_low))
    (omega (arith, c.exchange.ensures.upper, ap (λ (u : Option ℕ). or_zero u) high, ap (λ (u : Option ℕ). or_zero u) new_high))
    (omega (arith, c.exchange.ensures.missing, ap (λ (u : Option ℕ). missing_of u) high, ap (λ (u : Option ℕ). missing_of u) new_high)))

pub returns-clause-stored : goal.returns-clause-stored
returns-clause-stored c =
    let b = c.self.inside in
    let n = length b.totals.items in
    let w = length b.children in
    let d = c.args.d in
    let k = c.args.place in
    let i = c.index_at-index.result in
    let rows = c.args.self.now.rows in
    let e = entry_at rows d k in
    let children : c.as_slice.result.now ≡ b.children = c.as_slice.ensures in
    let same : b.children ≡ c.args.self.now.children = ap (λ (v : BoundsView). v.children) c.self.view_is in
    let seen : rows_of n w (entries_of b.lower.items b.upper.items b.share.items b.contexts.items) ≡ rows = ap (λ (v : BoundsView). v.rows) c.self.view_is in
    let place : k < w = subst (λ (xs : List ℕ). k < length xs) (sym same) c.requires.place in
    let index : i ≡ d * w + k = c.index_at-index.ensures ∙ ap (λ (xs : List ℕ). d * length xs + k) children in
    let entry = seen_entry n w d k i b.lower.items b.upper.items b.share.items b.contexts.items rows c.index.result.now c.index-2.result.now 0 [] c.self.invariant.parts seen c.requires.value place index in
    let low : e.lower ≡ c.index.result.now = ap (λ (y : Entry). y.lower) entry ∙ sym c.index.ensures in
    let high : e.upper ≡ c.index-2.result.now = ap (λ (y : Entry). y.upper) entry ∙ sym c.index-2.ensures in
    let apart : is_at_most (max c.index.result.now c.args.lower) (lesser c.index-2.result.now c.args.upper) ≡ true = c.in-Some.ensures.0 in
    sym (ap (λ x. is_at_most (max x c.args.lower) (lesser e.upper c.args.upper)) low ∙ ap (λ (u : Option ℕ). is_at_most (max c.index.result.now c.args.lower) (lesser u c.args.upper)) high ∙ apart)

pub returns-clause-merged : goal.returns-clause-merged
returns-clause-merged c =
    let b = c.self.inside in
    let n = length b.totals.items in
    let w = length b.children in
    let d = c.args.d in
    let k = c.args.place in
    let i = c.index_at-index.result in
    let rows = c.args.self.now.rows in
    let e = entry_at rows d k in
    let children : c.as_slice.result.now ≡ b.children = c.as_slice.ensures in
    let same : b.children ≡ c.args.self.now.children = ap (λ (v : BoundsView). v.children) c.self.view_is in
    let seen : rows_of n w (entries_of b.lower.items b.upper.items b.share.items b.contexts.items) ≡ rows = ap (λ (v : BoundsView). v.rows) c.self.view_is in
    let place : k < w = subst (λ (xs : List ℕ). k < length xs) (sym same) c.requires.place in
    let index : i ≡ d * w + k = c.index_at-index.ensures ∙ ap (λ (xs : List ℕ). d * length xs + k) children in
    let entry = seen_entry n w d k i b.lower.items b.upper.items b.share.items b.contexts.items rows c.index.result.now c.index-2.result.now c.index-3.result.now c.index_mut.result.now c.self.invariant.parts seen c.requires.value place index in
    let low : e.lower ≡ c.index.result.now = ap (λ (y : Entry). y.lower) entry ∙ sym c.index.ensures in
    let high : e.upper ≡ c.index-2.result.now = ap (λ (y : Entry). y.upper) entry ∙ sym c.index-2.ensures in
    let t = c.index_mut-2.result.now in
    let short : length b.lower.items < 9223372036854775808 = omega (arith, b.lower.ok.0, b.lower.ok.1, b.lower.small) in
    let small = seen_small w d c.from.result b.lower.items b.upper.items b.share.items b.contexts.items b.totals.items rows t c.self.invariant seen c.requires.value (c.from.ensures ∙ c.d.view_is) c.index_mut-2.ensures.value short in
    let within = merged_within e c.args.context.now c.args.lower c.args.upper (seen_within n w d k i b.lower.items b.upper.items b.share.items b.contexts.items rows c.self.invariant.parts seen c.requires.value place index) c.requires.lower c.requires.upper in
    let m = merged e c.args.context.now c.args.lower c.args.upper in
    let new_low : c.in-Some.new.lower ≡ m.lower = ap (λ (z : Interval). z.lower) c.in-Some.ensures.1 ∙ ap (λ z. max z c.args.lower) (sym low) in
    let new_high : c.in-Some.new.upper ≡ m.upper = ap (λ (z : Interval). z.upper) c.in-Some.ensures.1 ∙ ap (λ (u : Option ℕ). lesser u c.args.upper) (sym high) in
    let share : e.share ≡ c.index-3.result.now = ap (λ (y : Entry). y.share) entry ∙ sym c.index-3.ensures in
    let context : e.context ≡ c.index_mut.result.now = ap (λ (y : Entry). y.context) entry ∙ sym c.index_mut.ensures.value in
    let new_share : c.nearest.result ≡ m.share =
    c.nearest.ensures ∙ ap (λ x. lower_to (max x c.in-Some.new.lower) c.in-Some.new.upper) (sym share)
    ∙ ap (λ x. lower_to (max e.share x) c.in-Some.new.upper) new_low ∙ ap (λ (u : Option ℕ). lower_to (max e.share m.lower) u) new_high in
    let new_context : c.union.new.self ≡ m.context = c.in_ok-union.ensures.joined ∙ ap (λ (x : Context). union x c.args.context.now) (sym context) in
    let put = seen_put_rows w d i k b.lower.items b.upper.items b.share.items b.contexts.items b.totals.items rows m c.from.result c.exchange.new.self seen c.requires.value place index in
    let written : rows_of (length (set b.totals.items c.from.result c.exchange.new.self)) w
    (entries_of (set b.lower.items i c.in-Some.new.lower) (set b.upper.items i c.in-Some.new.upper) (set b.share.items i c.nearest.result) (set b.contexts.items i c.union.new.self))
    ≡ put_entry rows d k m = rw (new_low, new_high, new_share, new_context) put in
    ap (λ (rs : List (List Entry)). view_of b.children rs) written ∙ ap (λ (xs : List ℕ). view_of xs (put_entry rows d k m)) same
