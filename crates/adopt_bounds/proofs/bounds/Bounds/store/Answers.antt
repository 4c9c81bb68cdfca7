use Rattle.std.proofs.Common.{◌≡◌, ℕ, ◌<◌, true, if◌then◌else◌, IfOk, List, length, ap, subst, sym, ◌∙◌}
use Rattle.adopt_context.specs.Bounds.{entry_at}
use Rattle.adopt_context.specs.Context.{compatible}
use Rattle.adopt_context.specs.Merge.{may_merge}
use Rattle.adopt_bounds.specs.Rows.{BoundsView, merged_at, place_of}
use Rattle.adopt_bounds.proofs.bounds.Bounds.store.Goals as goal

pub store_at-requires-clause-place : goal.store_at-requires-clause-place
store_at-requires-clause-place c =
    let same = c.as_slice.ensures ∙ ap (λ (v : BoundsView). v.children) c.self.view_is in
    subst (λ (xs : List ℕ). c.place_of-place.result < length xs) same c.place_of-place.ensures.within

pub store_at-requires-clause-compatible : goal.store_at-requires-clause-compatible
store_at-requires-clause-compatible c =
    let b = c.args.self.now in
    let same = c.as_slice.ensures ∙ ap (λ (v : BoundsView). v.children) c.self.view_is in
    let place : c.place_of-place.result ≡ place_of b.children c.args.child = c.place_of-place.ensures.place ∙ ap (λ (xs : List ℕ). place_of xs c.args.child) same in
    subst (λ (k : ℕ). compatible (entry_at b.rows c.args.d k).context c.args.context.now ≡ true) (sym place) c.requires.compatible

pub returns-clause-stored : goal.returns-clause-stored
returns-clause-stored c =
    let b = c.args.self.now in
    let same = c.as_slice.ensures ∙ ap (λ (v : BoundsView). v.children) c.self.view_is in
    let place : c.place_of-place.result ≡ place_of b.children c.args.child = c.place_of-place.ensures.place ∙ ap (λ (xs : List ℕ). place_of xs c.args.child) same in
    subst (λ (k : ℕ). IfOk c.store_at.result (λ stored. stored ≡ may_merge (entry_at b.rows c.args.d k) c.args.lower c.args.upper)) place c.store_at.ensures.stored

pub returns-clause-merged : goal.returns-clause-merged
returns-clause-merged c =
    let b = c.args.self.now in
    let same = c.as_slice.ensures ∙ ap (λ (v : BoundsView). v.children) c.self.view_is in
    let place : c.place_of-place.result ≡ place_of b.children c.args.child = c.place_of-place.ensures.place ∙ ap (λ (xs : List ℕ). place_of xs c.args.child) same in
    subst
    (λ (k : ℕ). IfOk c.store_at.result (λ stored. c.store_at.new.self ≡ (if stored then merged_at b c.args.d k c.args.context.now c.args.lower c.args.upper else b)))
    place c.store_at.ensures.merged
