use Rattle.std.proofs.Common.{◌≡◌, ◌<◌, ◌+◌, length, ap, ◌∙◌, arith}
use Rattle.adopt_context.specs.Bounds.{cap, row_at}
use Rattle.adopt_bounds.specs.Rows.{BoundsView}
use Rattle.adopt_bounds.specs.Totals.{totals_of}
use Rattle.adopt_bounds.specs.declared.totals.Totals.{Totals}
use Rattle.adopt_bounds.proofs.PlaceLaws.{seen_totals, seen_small}
use Rattle.adopt_bounds.proofs.bounds.Bounds.lb_of.Goals as goal

pub lower_with-requires : goal.lower_with-requires
lower_with-requires c =
    let b = c.self.inside in
    let short : length b.lower.items < 9223372036854775808 = omega (arith, b.lower.ok.0, b.lower.ok.1, b.lower.small) in
    let small = seen_small (length b.children) c.args.d c.from.result b.lower.items b.upper.items b.share.items b.contexts.items b.totals.items c.args.self.now.rows c.index.result.now c.self.invariant
    (ap (λ (v : BoundsView). v.rows) c.self.view_is) c.requires.value (c.from.ensures ∙ c.d.view_is) c.index.ensures short in
    omega (arith, small.lower)

pub returns : goal.returns
returns c =
    let b = c.self.inside in
    let is : c.index.result.now ≡ totals_of (row_at c.args.self.now.rows c.args.d) =
    seen_totals (length b.children) c.args.d c.from.result b.lower.items b.upper.items b.share.items b.contexts.items b.totals.items c.args.self.now.rows c.index.result.now c.self.invariant
    (ap (λ (v : BoundsView). v.rows) c.self.view_is) c.requires.value (c.from.ensures ∙ c.d.view_is) c.index.ensures in
    c.lower_with.ensures ∙ ap (λ (t : Totals). cap (c.args.own + t.lower)) is
