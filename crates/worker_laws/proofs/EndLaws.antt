-- How a run of cells has ended.
use Rattle.std.proofs.Common.{◌≡◌, ℕ, Bool, false, ◌&&◌, if◌then◌else◌, List, [], ◌∷◌, map, length, drop, Option, Some, refl, sym, ap, ap₂, ◌∙◌, inl, inr, arith}
use Rattle.std.specs.List.{slice_get, list_all}
use Rattle.std.specs.Option.{option_map}
use Rattle.std.proofs.Math.Seq.{drop-nil}
use Rattle.std.proofs.lemmas.Bool.{cases_Bool, cases_lt}
use Rattle.std.proofs.lemmas.Option.{slice_get-map}
use Rattle.std.proofs.lemmas.List.{append-nil, length-map}
use Rattle.protocol_steps.specs.declared.message.Message.{Message}
use Rattle.protocol_steps.specs.declared.run_end.RunEnd.TheVariants.{AllEnded, Spent, Still}
use Rattle.protocol_steps.specs.View.{View, ended_of, value_of, standing_of, table_of, place_of}
use Rattle.protocol_steps.specs.Network.{Desk, Network, messages_to, sent_at, waiting}
use Rattle.protocol_steps.specs.Effect.{pending_at, has_ended}
use Rattle.protocol_steps.specs.Links.{taken_at}
use Rattle.protocol_steps.specs.RunEnds.{NothingPending}
use Rattle.protocol_steps.proofs.AccountLaws.{drop_front}
use Rattle.worker_laws.specs.Cells.{CellState, lane}
use Rattle.worker_laws.specs.CellRuns.{plain, IsRunOfCells, all_ended, NothingWaits}
use Rattle.worker_laws.specs.WorkerLaws.{CellsTellEnds, CellsTellOutcomes}
use Rattle.worker_laws.proofs.EachLaws.{there, past}

all_map : (cells : List CellState) → list_all ended_of (map (λ (c : CellState). c.view) cells) ≡ all_ended cells
all_map [] = refl
all_map (c ∷ cells) = ap (λ (b : Bool). ended_of c.view && b) (all_map cells)

module _ (budget : ℕ) (made : List View) (cells : List CellState) (end : Network) (r : IsRunOfCells budget made cells end) where
  ended_is : has_ended end ≡ all_ended cells
  ended_is = ap (λ (vs : List View). list_all ended_of vs) r.views ∙ all_map cells

  -- nothing waits on a link whose messages were all taken
  none_waits : (i j : ℕ) (to : CellState) → slice_get cells i ≡ Some to → ended_of to.view ≡ false → NothingWaits cells → waiting end.desks i j ≡ []
  none_waits i j to e live idle = elim (cases_lt j (length cells)) [
    | inl in_j ↦
        let from = there cells j in_j in
        let on = r.links i j to from.0 e from.1 in
        let all : lane j to.taken ≡ lane i from.0.sent = idle i j to from.0 e from.1 live in
        ap₂ (λ (k : ℕ) (ms : List Message). drop k ms) on.taken on.sent
        ∙ ap (λ (es : List (ℕ × Message)). drop (length (lane j to.taken)) (plain es)) (sym all ∙ sym (append-nil (lane j to.taken)))
        ∙ drop_front (lane j to.taken) []
    | inr out ↦
        let size = r.sized in
        ap (λ (o : Option Desk). drop (taken_at end.desks i j) (messages_to i (sent_at o))) (past end.desks j (omega (arith, out, size)))
        ∙ drop-nil (taken_at end.desks i j)
  ]

  nothing_pending : NothingWaits cells → NothingPending end
  nothing_pending idle i j = elim (cases_lt i (length cells)) [
    | inl in_i ↦
        let to = there cells i in_i in
        let view : slice_get end.views i ≡ Some to.0.view =
        ap (λ (vs : List View). slice_get vs i) r.views ∙ slice_get-map (λ (c : CellState). c.view) cells i ∙ ap (option_map (λ (c : CellState). c.view)) to.1 in
        ap (pending_at end i j) view ∙ elim (cases_Bool (ended_of to.0.view)) as (λ (_ : _). (if ended_of to.0.view then [] else waiting end.desks i j) ≡ []) [
          | inl done ↦ ap (λ (b : Bool). if b then [] else waiting end.desks i j) done
          | inr live ↦ ap (λ (b : Bool). if b then [] else waiting end.desks i j) live ∙ none_waits i j to.0 to.1 live idle
        ]
    | inr out ↦
        let long : length end.views ≡ length cells = ap length r.views ∙ length-map cells (λ (c : CellState). c.view) in
        ap (pending_at end i j) (past end.views i (omega (arith, out, long)))
  ]

pub cells_tell_ends : CellsTellEnds
cells_tell_ends budget made cells end (AllEnded n) r h = (h.0 ∙ sym r.delivered, ended_is budget made cells end r ∙ h.1)
cells_tell_ends budget made cells end (Spent n) r h = (
  h.0 ∙ sym r.delivered,
  ended_is budget made cells end r ∙ h.1,
  let low = h.2 in let is = r.delivered in omega (arith, low, is),
)
cells_tell_ends budget made cells end (Still n) r h = (
  h.0 ∙ sym r.delivered,
  ended_is budget made cells end r ∙ h.1,
  let low = h.2 in let is = r.delivered in omega (arith, low, is),
  nothing_pending budget made cells end r h.3,
)

map_view : {A : Type 0} (f : View → A) (cells : List CellState) → map f (map (λ (c : CellState). c.view) cells) ≡ map (λ (c : CellState). f c.view) cells
map_view f [] = refl
map_view f (c ∷ cells) = ap (λ xs. f c.view ∷ xs) (map_view f cells)

first_view : (cells : List CellState) → option_map standing_of (slice_get (map (λ (c : CellState). c.view) cells) 0) ≡ option_map (λ (c : CellState). standing_of c.view) (slice_get cells 0)
first_view [] = refl
first_view (c ∷ cells) = refl

pub cells_tell_outcomes : CellsTellOutcomes
cells_tell_outcomes budget made cells end outcome r o = record {
  values = o.values ∙ sym (ap (λ (vs : List View). map value_of vs) r.views ∙ map_view value_of cells);
  tables = o.tables ∙ sym (ap (λ (vs : List View). map table_of vs) r.views ∙ map_view table_of cells);
  places = o.places ∙ sym (ap (λ (vs : List View). map place_of vs) r.views ∙ map_view place_of cells);
  top = ap (λ (vs : List View). option_map standing_of (slice_get vs 0)) r.views ∙ first_view cells ∙ o.top;
  deliveries = o.deliveries ∙ sym r.delivered;
  ended = o.ended ∙ sym (ended_is budget made cells end r);
}
