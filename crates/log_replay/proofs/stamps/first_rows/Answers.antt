use Rattle.std.proofs.Common.{◌++◌, ◌∷◌, [], List, map, sym, ap, ◌∙◌, arith}
use Rattle.std.specs.List.{range_with_len}
use Rattle.std.proofs.lemmas.List.FromFn.{map-range_with_len_more}
use Rattle.log_replay.specs.Queues.{QueueView, first_row}
use Rattle.log_replay.proofs.stamps.first_rows.Goals as goal

pub loop-me-preserved : goal.loop-me-preserved
loop-me-preserved c =
    let row = first_row c.args.problem.now c.args.core.now in
    c.in_ok-push.ensures.items
    ∙ ap (λ (rows : List (List QueueView)). rows ++ c.in_ok-first_row.field-0 ∷ []) c.loop-me.invariant
    ∙ ap (λ (r : List QueueView). map row (range_with_len 0 c.loop-me.me) ++ r ∷ []) c.in_ok-first_row.ensures
    ∙ sym (map-range_with_len_more row 0 c.loop-me.me c.loop-me.me (omega arith))
