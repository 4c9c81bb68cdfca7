use Rattle.std.proofs.Common.{◌≡◌, ℕ, ◌<◌, List, length, ap, subst, ◌∙◌}
use Rattle.adopt_context.specs.Bounds.{entry_at}
use Rattle.adopt_bounds.specs.Rows.{BoundsView, place_of}
use Rattle.adopt_bounds.proofs.bounds.Bounds.threshold_of.Goals as goal

pub share_at-requires-clause-place : goal.share_at-requires-clause-place
share_at-requires-clause-place c =
    let same = c.as_slice.ensures ∙ ap (λ (v : BoundsView). v.children) c.self.view_is in
    subst (λ (xs : List ℕ). c.place_of.result < length xs) same c.place_of.ensures.within

pub returns-clause-share : goal.returns-clause-share
returns-clause-share c =
    let same = c.as_slice.ensures ∙ ap (λ (v : BoundsView). v.children) c.self.view_is in
    let place : c.place_of.result ≡ place_of c.args.self.now.children c.args.child =
    c.place_of.ensures.place ∙ ap (λ (xs : List ℕ). place_of xs c.args.child) same in
    c.share_at.ensures.share ∙ ap (λ (k : ℕ). (entry_at c.args.self.now.rows c.args.d k).share) place
