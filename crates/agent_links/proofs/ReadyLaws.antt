-- New cells over the links between their agents are ready to be run.
use Rattle.std.proofs.Common.{◌≡◌, ℕ, zero, suc, ◌<◌, ◌≤◌, List, [], ◌∷◌, map, length, slice_get, slice_index_or, Some, refl, sym, ap, ap₂, subst, ◌∙◌, arith}
use Rattle.std.specs.List.{All, Contains, range_with_len}
use Rattle.std.specs.List.Sorted.{IsStrictlyIncreasing}
use Rattle.std.proofs.lemmas.Bool.{false≢true}
use Rattle.std.proofs.lemmas.Option.{slice_get_within}
use Rattle.std.proofs.lemmas.List.Kept.{IsStrictlyIncreasing-filter}
use Rattle.std.specs.declared.dyn_box.DynBox.{DynBox}
use Rattle.std.specs.declared.alloc.Global.{Global}
use Rattle.dcop_base.specs.Limits.{variable_limit}
use Rattle.dcop_base.proofs.FirstLaws.{Contains-filter, Contains-range, IsStrictlyIncreasing-range}
use Rattle.dcop_base.proofs.KnowledgeLaws.{All-filter-range}
use Rattle.protocol_steps.specs.View.{View}
use Rattle.worker_laws.specs.Cells.{peers, IsWired}
use Rattle.worker_laws.specs.OneNode.{home}
use Rattle.agent_cells.specs.declared.cell.Cell.{Cell}
use Rattle.agent_cells.specs.Links.{Tail, Head, lanes_sent, lanes_taken}
use Rattle.agent_cells.specs.Settled.{EndsJoin}
use Rattle.agent_cells.specs.State.{state_of, tails_in, heads_in}
use Rattle.agent_workers.specs.Joined.{AreCellsJoined}
use Rattle.agent_links.specs.Beside.{AreBeside, near}
use Rattle.agent_links.specs.Links.{one_node, AreLinksIn, AreLinks}
use Rattle.agent_links.specs.Ready.{IsNewCell, AreReadyIn, AreReady}
use Rattle.agent_links.proofs.ListLaws.{from_filter}
use Rattle.agent_links.proofs.PairLaws.{list_at}

-- there is an element at each place of a list
stands : {A : Type 0} (xs : List A) (i : ℕ) → i < length xs → (x : A) × (slice_get xs i ≡ Some x)
stands [] i lt = absurd (omega (arith, lt))
stands (x ∷ xs) zero lt = (x, refl)
stands (x ∷ xs) (suc i) lt = stands xs i (omega (arith, lt))

-- a list that is another one read off
read_off : {A B : Type 0} (f : A → B) (xs : List A) (ys : List B) → length ys ≡ length xs → ((i : ℕ) (x : A) (y : B) → slice_get xs i ≡ Some x → slice_get ys i ≡ Some y → f x ≡ y) → map f xs ≡ ys
read_off f [] [] long each = refl
read_off f [] (y ∷ ys) long each = absurd (omega (arith, long))
read_off f (x ∷ xs) [] long each = absurd (omega (arith, long))
read_off f (x ∷ xs) (y ∷ ys) long each = ap₂ (λ b bs. b ∷ bs) (each 0 x y refl refl) (read_off f xs ys (omega (arith, long)) (λ i a b e h. each (suc i) a b e h))

module _ {X : Type 0} {F : X → Type 0} (M : DynBox X Global F → View) (lists : List (List ℕ)) (b : AreBeside lists) (ts : List (List Tail)) (hs : List (List Head)) (nodes : ℕ) (node : ℕ → ℕ) (l : AreLinksIn node lists ts hs)
    (made : List View) (cells : List (Cell X F)) (few : length lists ≤ variable_limit) (made_size : length made ≡ length lists) (size : length cells ≡ length lists)
    (new : (i : ℕ) (v : View) (c : Cell X F) → slice_get made i ≡ Some v → slice_get cells i ≡ Some c → IsNewCell M v i (slice_index_or ts i []) (slice_index_or hs i []) c)
    (homes : (i j : ℕ) → i < length lists → j < length lists → home nodes (length cells) i ≡ home nodes (length cells) j → node i ≡ node j) where
  abbrev n : ℕ
  n = length lists

  inside : (i : ℕ) (c : Cell X F) → slice_get cells i ≡ Some c → i < n
  inside i c e = let lt = slice_get_within cells i c e in omega (arith, lt, size)

  at : (i : ℕ) (c : Cell X F) → slice_get cells i ≡ Some c → (v : View) × IsNewCell M v i (slice_index_or ts i []) (slice_index_or hs i []) c
  at i c e =
      let lt = inside i c e in
      let v = stands made i (omega (arith, lt, made_size)) in
      (v.0, new i v.0 c v.1 e)

  sent_to : (i : ℕ) (c : Cell X F) → slice_get cells i ≡ Some c → peers (state_of M c).sent ≡ near b.edge n i
  sent_to i c e = ap (λ (xs : List Tail). peers (lanes_sent xs)) (at i c e).1.tails_are ∙ l.tail_peers i (inside i c e) ∙ list_at lists b i (inside i c e)

  taken_of : (i : ℕ) (c : Cell X F) → slice_get cells i ≡ Some c → peers (state_of M c).taken ≡ near b.edge n i
  taken_of i c e = ap (λ (xs : List Head). peers (lanes_taken xs)) (at i c e).1.heads_are ∙ l.head_peers i (inside i c e) ∙ list_at lists b i (inside i c e)

  wired : (i : ℕ) (c : Cell X F) → slice_get cells i ≡ Some c → IsWired (length cells) i (state_of M c)
  wired i c e = record {
    me = (at i c e).1.me_is;
    both = sent_to i c e ∙ sym (taken_of i c e);
    ascend = subst (λ (ns : List ℕ). IsStrictlyIncreasing ns) (sym (taken_of i c e)) (IsStrictlyIncreasing-filter (b.edge i) (range_with_len 0 n) (IsStrictlyIncreasing-range 0 n));
    below = subst (λ (ns : List ℕ). All (λ (j : ℕ). j < length cells) ns) (sym (taken_of i c e)) (subst (λ (m : ℕ). All (λ (j : ℕ). j < m) (near b.edge n i)) (sym size) (All-filter-range (b.edge i) n));
  }

  joined : AreCellsJoined M nodes cells
  joined = record {
    few = omega (arith, few, size);
    wired = wired;
    others = λ i c e has.
        let r = from_filter (b.edge i) (range_with_len 0 n) i (subst (λ (ns : List ℕ). Contains ns i) (taken_of i c e) has) in
        false≢true (sym (b.apart i) ∙ r.0);
    back = λ i j x y e f has.
        let r = from_filter (b.edge i) (range_with_len 0 n) j (subst (λ (ns : List ℕ). Contains ns j) (taken_of i x e) has) in
        subst (λ (ns : List ℕ). Contains ns i) (sym (taken_of j y f)) (Contains-filter (b.edge j) (range_with_len 0 n) i (Contains-range n i (inside i x e)) (b.both j i ∙ r.0));
    ends = λ i j x y e f same.
        let p = (at i x e).1 in
        let q = (at j y f).1 in
        subst (λ (k : ℕ). EndsJoin (tails_in x) k (heads_in y) x.me) (sym q.me_is)
        (subst (λ (k : ℕ). EndsJoin (tails_in x) j (heads_in y) k) (sym p.me_is)
        (subst (λ (us : List Tail). EndsJoin us j (heads_in y) i) (sym p.tails_are)
        (subst (λ (gs : List Head). EndsJoin (slice_index_or ts i []) j gs i) (sym q.heads_are) (l.joined i j (inside i x e) (inside j y f) (homes i j (inside i x e) (inside j y f) same)))));
  }

  pub new_ready_in : AreReadyIn M nodes made cells
  new_ready_in = record {
    joined = joined;
    sound = record { each = λ i c e. (at i c e).1.cell };
    fresh = record { each = λ i c e. (at i c e).1.begun };
    views = read_off (λ c. (state_of M c).view) cells made (made_size ∙ sym size) (λ i c v e f. (new i v c f e).view_is);
  }

-- in one node all links are inside it
pub new_ready : {X : Type 0} {F : X → Type 0} (M : DynBox X Global F → View) (lists : List (List ℕ)) → AreBeside lists → (ts : List (List Tail)) (hs : List (List Head)) → AreLinks lists ts hs → (made : List View) (cells : List (Cell X F))
    → length lists ≤ variable_limit → length made ≡ length lists → length cells ≡ length lists
    → ((i : ℕ) (v : View) (c : Cell X F) → slice_get made i ≡ Some v → slice_get cells i ≡ Some c → IsNewCell M v i (slice_index_or ts i []) (slice_index_or hs i []) c) → AreReady M made cells
new_ready M lists b ts hs l made cells few made_size size new = new_ready_in M lists b ts hs 1 one_node l made cells few made_size size new (λ i j in_i in_j same. refl)
