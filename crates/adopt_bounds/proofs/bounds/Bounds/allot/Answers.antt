use Rattle.std.proofs.Common.{◌≡◌, ℕ, ◌+◌, ◌*◌, ◌<◌, List, length, take, drop, set, ◌++◌, ap, sym, subst, ◌∙◌}
use Rattle.std.proofs.lemmas.List.{take_at, with_items_is}
use Rattle.std.specs.Vec.{with_items}
use Rattle.adopt_context.specs.Allot.{allot}
use Rattle.adopt_context.specs.Bounds.{Entry, row_at}
use Rattle.adopt_bounds.specs.Rows.{BoundsView, entries_of, rows_of}
use Rattle.adopt_bounds.specs.Totals.{AreBounds}
use Rattle.adopt_bounds.proofs.PlaceLaws.{share_bounds, seen_allot, seen_value, row_parts, row_seen, view_of}
use Rattle.adopt_bounds.proofs.bounds.Bounds.allot.Goals as goal

pub invariant_of-self : goal.invariant_of-self
invariant_of-self c =
    let b = c.self.inside in
    let new = c.allot_at.new.share in
    let long : length new ≡ length b.share.items = c.allot_at.auto.share ∙ ap (λ (xs : List ℕ). length xs) c.as_mut_slice.ensures.value in
    let same : take b.share.len (new ++ drop (length new) b.share.items) ≡ new = take_at new (drop (length new) b.share.items) b.share.len (long ∙ sym b.share.ok.0) in
    subst (λ (xs : List ℕ). AreBounds (length b.children) b.lower.items b.upper.items xs b.contexts.items b.totals.items) (sym same)
    (share_bounds (length b.children) b.lower.items b.upper.items b.share.items new b.contexts.items b.totals.items c.self.invariant long c.allot_at.ensures.share_within)

pub returns : goal.returns
returns c =
    let b = c.self.inside in
    let n = length b.totals.items in
    let w = length b.children in
    let m = length c.as_slice-width.result.now in
    let i = c.from.result * m in
    let new = c.allot_at.new.share in
    let long : length new ≡ length b.share.items = c.allot_at.auto.share ∙ ap (λ (xs : List ℕ). length xs) c.as_mut_slice.ensures.value in
    let items : (with_items b.share new).items ≡ new = with_items_is b.share new (long ∙ sym b.share.ok.0) in
    let seen : rows_of n w (entries_of b.lower.items b.upper.items b.share.items b.contexts.items) ≡ c.args.self.now.rows = ap (λ (v : BoundsView). v.rows) c.self.view_is in
    let children : b.children ≡ c.args.self.now.children = ap (λ (v : BoundsView). v.children) c.self.view_is in
    let wide : m ≡ w = ap (λ (xs : List ℕ). length xs) c.as_slice-width.ensures in
    let value : c.from.result ≡ c.args.d = c.from.ensures ∙ c.d.view_is in
    let at : i ≡ c.args.d * w = ap (λ x. c.from.result * x) wide ∙ ap (λ x. x * w) value in
    let before : take i new ≡ take i b.share.items = c.allot_at.ensures.before ∙ ap (λ (xs : List ℕ). take i xs) c.as_mut_slice.ensures.value in
    let behind : drop (i + w) new ≡ drop (i + w) b.share.items =
    subst (λ j. drop (i + j) new ≡ drop (i + j) b.share.items) wide (c.allot_at.ensures.behind ∙ ap (λ (xs : List ℕ). drop (i + m) xs) c.as_mut_slice.ensures.value) in
    let inside : c.args.d < n = seen_value n w c.args.d (entries_of b.lower.items b.upper.items b.share.items b.contexts.items) c.args.self.now.rows seen c.requires.value in
    let contexts = take w (drop i b.contexts.items) in
    let parts = row_parts n w c.args.d b.lower.items b.upper.items b.share.items b.contexts.items c.self.invariant.parts inside in
    let count : length contexts ≡ w = ap (λ j. length (take w (drop j b.contexts.items))) at ∙ parts.context_count in
    let row = row_seen i m w c.args.goal c.as_slice.result.now b.lower.items c.as_slice-2.result.now b.upper.items c.as_mut_slice.result.now b.share.items new contexts wide c.as_slice.ensures.value c.as_slice-2.ensures.value c.as_mut_slice.ensures.value
    (c.allot_at.ensures.row contexts (count ∙ sym wide)) in
    let rows = seen_allot n w c.args.d i c.args.goal b.lower.items b.upper.items b.share.items new b.contexts.items c.args.self.now.rows seen c.requires.value at before behind row in
    ap (λ (xs : List ℕ). view_of b.children (rows_of n w (entries_of b.lower.items b.upper.items xs b.contexts.items))) items
    ∙ ap (λ (rs : List (List Entry)). view_of b.children rs) rows
    ∙ ap (λ (xs : List ℕ). view_of xs (set c.args.self.now.rows c.args.d (allot c.args.goal (row_at c.args.self.now.rows c.args.d)))) children
