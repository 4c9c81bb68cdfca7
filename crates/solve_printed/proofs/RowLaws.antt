-- What agents have come to, row by row.
use Rattle.std.proofs.Common.{◌≡◌, ℕ, zero, suc, ◌+◌, ◌≤◌, ◌<◌, List, [], ◌∷◌, ◌++◌, length, drop, Some, slice_get, ap, sym, ◌∙◌, append_assoc, add-one, arith}
use Rattle.std.specs.List.{All}
use Rattle.std.specs.Option.{option_map}
use Rattle.std.proofs.Math.ListN.{drop_of_length-le}
use Rattle.std.proofs.lemmas.List.{append-nil, length-map}
use Rattle.std.proofs.lemmas.List.Elements.{All-nil, All-cons}
use Rattle.std.proofs.lemmas.Option.{none-some, same_Some}
use Rattle.protocol_steps.specs.View.{View}
use Rattle.delivery_core.specs.State.{SeatView, views_of}
use Rattle.solve_report.specs.declared.replay.AgentRow.{AgentRow}
use Rattle.solve_report.specs.Replay.{IsNamedAgent}
use Rattle.solve_printed.specs.Rows.{row_of, rows_from}

-- the row of the agent at a place, and those behind it
rows-at : (i at : ℕ) (vs : List View) (row : AgentRow) → option_map (row_of i) (slice_get vs at) ≡ Some row
    → rows_from i (drop at vs) ≡ row ∷ rows_from (i + 1) (drop (suc at) vs)
rows-at i at [] row is = absurd (none-some row is)
rows-at i zero (v ∷ vs) row is = ap (λ (r : AgentRow). r ∷ rows_from (i + 1) vs) (same_Some (row_of i v) row is)
rows-at i (suc at) (v ∷ vs) row is = rows-at i at vs row is

-- one row more
pub rows-more : (vs : List View) (at : ℕ) (done new all : List AgentRow) (row : AgentRow) → option_map (row_of at) (slice_get vs at) ≡ Some row → new ≡ done ++ row ∷ []
    → done ++ rows_from at (drop at vs) ≡ all → new ++ rows_from (at + 1) (drop (at + 1) vs) ≡ all
rows-more vs at done new all row is pushed before =
    let next : rows_from at (drop at vs) ≡ row ∷ rows_from (at + 1) (drop (at + 1) vs) = rw (← add-one at) at (rows-at at at vs row is) in
    ap (λ (rows : List AgentRow). rows ++ rows_from (at + 1) (drop (at + 1) vs)) pushed
    ∙ append_assoc done (row ∷ []) (rows_from (at + 1) (drop (at + 1) vs))
    ∙ ap (λ (rows : List AgentRow). done ++ rows) (sym next)
    ∙ before

-- all rows
pub rows-all : (seats : List SeatView) (at : ℕ) (done all : List AgentRow) → length seats ≤ at → done ++ rows_from at (drop at (views_of seats)) ≡ all → done ≡ all
rows-all seats at done all many before =
    let size = length-map seats (λ (x : SeatView). x.view) in
    let none : drop at (views_of seats) ≡ [] = drop_of_length-le (views_of seats) (omega (arith, size, many)) in
    sym (append-nil done)
    ∙ ap (λ (vs : List View). done ++ rows_from at vs) (sym none)
    ∙ before

-- each row is of a variable that is there
pub rows-named : (n i : ℕ) (vs : List View) → i + length vs ≤ n → All (IsNamedAgent n) (rows_from i vs)
rows-named n i [] few = All-nil (IsNamedAgent n)
rows-named n i (v ∷ vs) few =
    let here : i < n = omega (arith, few) in
    All-cons (IsNamedAgent n) (row_of i v) (rows_from (i + 1) vs) here (rows-named n (i + 1) vs (omega (arith, few)))
