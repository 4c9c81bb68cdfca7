use Rattle.std.proofs.Common.{◌≡◌, ℕ, ◌+◌, ◌*◌, ◌<◌, List, None, [], length, ap, sym, subst, ◌∙◌}
use Rattle.adopt_context.specs.Bounds.{Entry}
use Rattle.adopt_bounds.specs.Rows.{BoundsView}
use Rattle.adopt_bounds.proofs.PlaceLaws.{seen_entry}
use Rattle.adopt_bounds.proofs.bounds.Bounds.share_at.Goals as goal

pub returns-clause-share : goal.returns-clause-share
returns-clause-share c =
    let b = c.self.inside in
    let w = length b.children in
    let k = c.args.place in
    let seen : b.children ≡ c.args.self.now.children = ap (λ (v : BoundsView). v.children) c.self.view_is in
    let place : k < w = subst (λ (xs : List ℕ). k < length xs) (sym seen) c.requires.place in
    let index : c.index_at.result ≡ c.args.d * w + k = c.index_at.ensures ∙ ap (λ (xs : List ℕ). c.args.d * length xs + k) c.as_slice.ensures in
    let entry = seen_entry (length b.totals.items) w c.args.d k c.index_at.result b.lower.items b.upper.items b.share.items b.contexts.items c.args.self.now.rows 0 None c.index.result.now [] c.self.invariant.parts
    (ap (λ (v : BoundsView). v.rows) c.self.view_is) c.requires.value place index in
    c.index.ensures ∙ sym (ap (λ (e : Entry). e.share) entry)
