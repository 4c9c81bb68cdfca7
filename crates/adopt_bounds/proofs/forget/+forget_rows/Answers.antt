use Rattle.std.proofs.Common.{◌≡◌, List, map, take, drop, length, ap, subst, refl, ◌∙◌, arith}
use Rattle.adopt_context.specs.Bounds.{Entry}
use Rattle.adopt_context.specs.Allot.{kept, reset}
use Rattle.adopt_bounds.specs.Rows.{entries_of, rows_of}
use Rattle.adopt_bounds.specs.Totals.{AreBounds, AreEntryParts, totals_of}
use Rattle.adopt_bounds.specs.declared.totals.Totals.{Totals}
use Rattle.adopt_bounds.proofs.BoundsLaws.{first_totals, rest_bounds, bounds_join, reset_join}
use Rattle.adopt_bounds.proofs.forget.+forget_rows.Goals as goal

pub forget_row-requires-clause-totals : goal.forget_row-requires-clause-totals
forget_row-requires-clause-totals t c =
    rw (c.split_at_mut-row_lower.ensures.front, c.split_at_mut-row_upper.ensures.front, c.split_at_mut-row_share.ensures.front, c.split_at_mut-row_contexts.ensures.front)
    (first_totals c.args.width c.args.lower.now c.args.upper.now c.args.share.now c.args.contexts.now c.in-Some.first.now c.in-Some.totals.now c.args.totals.now c.in-Some.ensures.cases.0 c.requires)

pub forget_rows-requires : goal.forget_rows-requires
forget_rows-requires t c =
    let fewer = ap (λ (xs : List Totals). length xs) c.in-Some.ensures.cases.0 in
    let rest : AreBounds c.args.width c.split_at_mut-row_lower.result.1.now c.split_at_mut-row_upper.result.1.now c.split_at_mut-row_share.result.1.now c.split_at_mut-row_contexts.result.1.now c.in-Some.totals.now =
    rw (c.split_at_mut-row_lower.ensures.back, c.split_at_mut-row_upper.ensures.back, c.split_at_mut-row_share.ensures.back, c.split_at_mut-row_contexts.ensures.back)
    (rest_bounds c.args.width c.args.lower.now c.args.upper.now c.args.share.now c.args.contexts.now c.in-Some.first.now c.in-Some.totals.now c.args.totals.now c.in-Some.ensures.cases.0 c.requires) in
    (omega (arith, c.decreases, fewer), rest)

pub returns-clause-bounds : goal.returns-clause-bounds
returns-clause-bounds t c =
    let wide : length c.split_at_mut-row_lower.result.0.now ≡ c.args.width = c.split_at_mut-row_lower.ensures.front_len in
    let parts : AreEntryParts (length c.split_at_mut-row_lower.result.0.now) c.forget_row.new.lower c.forget_row.new.upper c.forget_row.new.share c.forget_row.new.contexts = c.forget_row.ensures.parts in
    let totals : c.forget_row.new.totals ≡ totals_of (entries_of c.forget_row.new.lower c.forget_row.new.upper c.forget_row.new.share c.forget_row.new.contexts) = c.forget_row.ensures.totals in
    let rest : AreBounds c.args.width c.forget_rows.new.lower c.forget_rows.new.upper c.forget_rows.new.share c.forget_rows.new.contexts c.forget_rows.new.totals = c.forget_rows.ensures.bounds in
    bounds_join c.args.width c.forget_row.new.lower c.forget_rows.new.lower c.forget_row.new.upper c.forget_rows.new.upper c.forget_row.new.share c.forget_rows.new.share c.forget_row.new.contexts c.forget_rows.new.contexts
    c.forget_row.new.totals c.forget_rows.new.totals (subst (λ n. AreEntryParts n c.forget_row.new.lower c.forget_row.new.upper c.forget_row.new.share c.forget_row.new.contexts) wide parts) totals rest

pub returns-clause-rows : goal.returns-clause-rows
returns-clause-rows t c =
    let wide : length c.split_at_mut-row_lower.result.0.now ≡ c.args.width = c.split_at_mut-row_lower.ensures.front_len in
    let parts : AreEntryParts (length c.split_at_mut-row_lower.result.0.now) c.forget_row.new.lower c.forget_row.new.upper c.forget_row.new.share c.forget_row.new.contexts = c.forget_row.ensures.parts in
    let row : entries_of c.forget_row.new.lower c.forget_row.new.upper c.forget_row.new.share c.forget_row.new.contexts
    ≡ map (kept c.args.known.now) (entries_of c.split_at_mut-row_lower.result.0.now c.split_at_mut-row_upper.result.0.now c.split_at_mut-row_share.result.0.now c.split_at_mut-row_contexts.result.0.now) =
    c.forget_row.ensures.entries in
    let front : entries_of c.split_at_mut-row_lower.result.0.now c.split_at_mut-row_upper.result.0.now c.split_at_mut-row_share.result.0.now c.split_at_mut-row_contexts.result.0.now
    ≡ entries_of (take c.args.width c.args.lower.now) (take c.args.width c.args.upper.now) (take c.args.width c.args.share.now) (take c.args.width c.args.contexts.now) =
    rw (c.split_at_mut-row_lower.ensures.front, c.split_at_mut-row_upper.ensures.front, c.split_at_mut-row_share.ensures.front, c.split_at_mut-row_contexts.ensures.front) refl in
    let rest : rows_of (length c.in-Some.totals.now) c.args.width (entries_of c.forget_rows.new.lower c.forget_rows.new.upper c.forget_rows.new.share c.forget_rows.new.contexts)
    ≡ reset c.args.known.now (rows_of (length c.in-Some.totals.now) c.args.width (entries_of c.split_at_mut-row_lower.result.1.now c.split_at_mut-row_upper.result.1.now c.split_at_mut-row_share.result.1.now c.split_at_mut-row_contexts.result.1.now)) =
    c.forget_rows.ensures.rows in
    let back : entries_of c.split_at_mut-row_lower.result.1.now c.split_at_mut-row_upper.result.1.now c.split_at_mut-row_share.result.1.now c.split_at_mut-row_contexts.result.1.now
    ≡ entries_of (drop c.args.width c.args.lower.now) (drop c.args.width c.args.upper.now) (drop c.args.width c.args.share.now) (drop c.args.width c.args.contexts.now) =
    rw (c.split_at_mut-row_lower.ensures.back, c.split_at_mut-row_upper.ensures.back, c.split_at_mut-row_share.ensures.back, c.split_at_mut-row_contexts.ensures.back) refl in
    reset_join c.args.known.now c.args.width c.forget_row.new.lower c.forget_rows.new.lower c.forget_row.new.upper c.forget_rows.new.upper c.forget_row.new.share c.forget_rows.new.share c.forget_row.new.contexts c.forget_rows.new.contexts
    c.args.lower.now c.args.upper.now c.args.share.now c.args.contexts.now c.in-Some.first.now c.in-Some.totals.now c.args.totals.now c.in-Some.ensures.cases.0
    (subst (λ n. AreEntryParts n c.forget_row.new.lower c.forget_row.new.upper c.forget_row.new.share c.forget_row.new.contexts) wide parts)
    (row ∙ ap (λ (es : List Entry). map (kept c.args.known.now) es) front)
    (rest ∙ ap (λ (es : List Entry). reset c.args.known.now (rows_of (length c.in-Some.totals.now) c.args.width es)) back)
