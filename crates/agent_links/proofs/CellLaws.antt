-- Cells made of the agents of a start are ready to be run.
use Rattle.std.proofs.Common.{◌≡◌, ℕ, zero, suc, ◌<◌, ◌≤◌, List, [], ◌∷◌, map, length, slice_get, slice_index_or, Some, refl, sym, ap, subst, ◌∙◌, arith}
use Rattle.std.specs.List.{range_with_len}
use Rattle.std.proofs.lemmas.Option.{none-some, same_Some, slice_get_within}
use Rattle.std.proofs.lemmas.List.FromFn.{length-map-range_with_len, get_or-map-range_with_len}
use Rattle.std.specs.declared.dyn_box.DynBox.{DynBox}
use Rattle.std.specs.declared.alloc.Global.{Global}
use Rattle.dcop_base.specs.Limits.{variable_limit}
use Rattle.dcop_base.specs.Problem.{Dcop}
use Rattle.dcop_base.specs.Whole.{IsProblem}
use Rattle.dcop_base.specs.Knowledge.{private_of as known_by}
use Rattle.dcop_base.specs.declared.knowledge.Private.{Private}
use Rattle.protocol_steps.specs.View.{View}
use Rattle.delivery_core.specs.declared.start.Start.{Start}
use Rattle.delivery_core.specs.Agents.{agents_of}
use Rattle.delivery_core.specs.Starts.{agent_of}
use Rattle.agent_cells.specs.declared.cell.Cell.{Cell}
use Rattle.agent_cells.specs.Links.{Tail, Head}
use Rattle.agent_links.specs.Beside.{AreBeside}
use Rattle.agent_links.specs.Ready.{IsNewCell, AreReady}
use Rattle.agent_links.proofs.ReadyLaws.{new_ready}
use Rattle.agent_links.specs.declared.seat.Seat.{Seat}
use Rattle.agent_links.specs.Kinds.{view_of}
use Rattle.agent_links.specs.Seats.{all_neighbours, AreSeated, AreSeats}
use Rattle.agent_links.proofs.SeatLaws.{agents_made, known_lists, known_beside, lists_size}

stands : {A : Type 0} (xs : List A) (i : ℕ) → i < length xs → (x : A) × (slice_get xs i ≡ Some x)
stands [] i lt = absurd (omega (arith, lt))
stands (x ∷ xs) zero lt = (x, refl)
stands (x ∷ xs) (suc i) lt = stands xs i (omega (arith, lt))

or_at : {A : Type 0} (xs : List A) (i : ℕ) (x d : A) → slice_get xs i ≡ Some x → slice_index_or xs i d ≡ x
or_at [] zero x d e = absurd (none-some x e)
or_at [] (suc i) x d e = absurd (none-some x e)
or_at (y ∷ xs) zero x d e = same_Some y x e
or_at (y ∷ xs) (suc i) x d e = or_at xs i x d e

made_at : (p : Dcop) (start : Start) (i : ℕ) (v : View) → i < length p.sizes → slice_get (agents_of p start) i ≡ Some v → agent_of p start i ≡ v
made_at p start i v lt e =
    sym (get_or-map-range_with_len (agent_of p start) 0 (length p.sizes) i i v lt (omega arith))
    ∙ or_at (map (agent_of p start) (range_with_len 0 (length p.sizes))) i v v (ap (λ (vs : List View). slice_get vs i) (sym (agents_made p start)) ∙ e)

-- neighbours in a problem are neighbours of each other
pub all_beside : (p : Dcop) → AreBeside (all_neighbours p)
all_beside p =
    let known : List Private = map (known_by p) (range_with_len 0 (length p.sizes)) in
    subst (λ (ls : List (List ℕ)). AreBeside ls) (known_lists p known refl) (known_beside p known refl)

-- there are as many agents as variables
pub agents_size : (p : Dcop) (start : Start) → length (agents_of p start) ≡ length (all_neighbours p)
agents_size p start = ap (λ (vs : List View). length vs) (agents_made p start) ∙ length-map-range_with_len (agent_of p start) 0 (length p.sizes) ∙ sym (lists_size p)

module _ {X : Type 0} {F : X → Type 0} (M : DynBox X Global F → View) where
  -- how a cell is made from a seat
  abbrev pub IsCellOf : Seat → Cell X F → Type 0
  IsCellOf s c = IsNewCell M (view_of s.agent) s.me s.tails.items s.heads.items c

  -- cells made of seated agents are new cells of the agents of the start
  pub seated_new : (p : Dcop) (start : Start) (tails : List (List Tail)) (heads : List (List Head)) (seats : List Seat) (cells : List (Cell X F)) → AreSeated p start tails heads seats → length cells ≡ length seats
      → ((k : ℕ) (s : Seat) (c : Cell X F) → k < length seats → IsCellOf (slice_index_or seats k s) (slice_index_or cells k c))
      → (i : ℕ) (v : View) (c : Cell X F) → slice_get (agents_of p start) i ≡ Some v → slice_get cells i ≡ Some c → IsNewCell M v i (slice_index_or tails i []) (slice_index_or heads i []) c
  seated_new p start tails heads seats cells are size each i v c ev ec =
      let within = slice_get_within cells i c ec in
      let lt : i < length seats = omega (arith, within, size) in
      let many = are.size in
      let in_all : i < length p.sizes = omega (arith, lt, many) in
      let s = stands seats i lt in
      let q = are.each i s.0 s.1 in
      let n = subst (λ (x : Seat). IsCellOf x c) (or_at seats i s.0 s.0 s.1) (subst (λ (y : Cell X F). IsCellOf (slice_index_or seats i s.0) y) (or_at cells i c c ec) (each i s.0 c lt)) in
      record {
        cell = n.cell;
        begun = n.begun;
        me_is = n.me_is ∙ q.me_is;
        view_is = n.view_is ∙ q.view_is ∙ made_at p start i v in_all ev;
        tails_are = n.tails_are ∙ q.tails_are;
        heads_are = n.heads_are ∙ q.heads_are;
      }

  pub seats_ready : (p : Dcop) (start : Start) (seats : List Seat) (cells : List (Cell X F)) → IsProblem p → AreSeats p start seats → length cells ≡ length seats
      → ((k : ℕ) (s : Seat) (c : Cell X F) → k < length seats → IsCellOf (slice_index_or seats k s) (slice_index_or cells k c))
      → AreReady M (agents_of p start) cells
  seats_ready p start seats cells whole are size each =
      let lists = lists_size p in
      let few : length p.sizes ≤ variable_limit = whole.few in
      let seated : AreSeated p start are.tails are.heads seats = record { size = are.size; each = are.each } in
      new_ready M (all_neighbours p) (all_beside p) are.tails are.heads are.linked (agents_of p start) cells (omega (arith, lists, few)) (agents_size p start) (size ∙ are.size ∙ sym lists)
      (seated_new p start are.tails are.heads seats cells seated size each)
