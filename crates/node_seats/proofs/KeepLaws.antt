-- For which pairs of agents a plan keeps links.
use Rattle.std.proofs.Common.{◌≡◌, ◌≢◌, ℕ, zero, suc, ◌-◌, ◌<◌, ◌⊎◌, List, [], ◌∷◌, ◌++◌, map, length, get_or, Some, slice_get, slice_index_or, refl, sym, ap, subst, ◌∙◌, inl, inr, arith}
use Rattle.std.specs.List.{Contains, range_with_len}
use Rattle.std.proofs.lemmas.Option.{none-some}
use Rattle.std.proofs.lemmas.List.{length-append, length-map, get_or-map, get_or_append_left, get_or-append_right}
use Rattle.dcop_base.proofs.FirstLaws.{Contains-range}
use Rattle.worker_laws.specs.OneNode.{home}
use Rattle.worker_laws.specs.Wires.{Wire}
use Rattle.agent_links.specs.Links.{row, pairs_to}
use Rattle.agent_links.proofs.ListLaws.{from_parts, into_parts}
use Rattle.tcp_links.specs.declared.plan.NodePlan.{NodePlan}
use Rattle.link_records.specs.Left.{fresh_link}
use Rattle.node_seats.specs.Links.{node_in, KeepsPairs}
use Rattle.node_seats.proofs.LeadLaws.{stands_more, last_at}

-- what a list with one element more has
contains_more : {A : Type 0} (xs : List A) (y x : A) → Contains (xs ++ y ∷ []) x → Contains xs x ⊎ (x ≡ y)
contains_more xs y x c = elim (stands_more xs y x c.0 (record { inside = c.1; is = c.2 })) [
  | inl s ↦ inl (c.0, s.inside, s.is)
  | inr e ↦ inr e
]

contains_old : {A : Type 0} (xs : List A) (y x : A) → Contains xs x → Contains (xs ++ y ∷ []) x
contains_old xs y x c = let long = length-append xs (y ∷ []) in let lt = c.1 in (c.0, omega (arith, long, lt), get_or_append_left xs (y ∷ []) x c.0 c.1 ∙ c.2)

contains_last : {A : Type 0} (xs : List A) (y : A) → Contains (xs ++ y ∷ []) y
contains_last {A} xs y =
    let long = length-append xs (y ∷ []) in
    let first : length xs - length xs ≡ 0 = omega arith in
    (length xs, omega (arith, long), get_or-append_right xs (y ∷ []) (length xs) (length xs) y refl (omega arith) ∙ ap (λ (k : ℕ). get_or (y ∷ []) k y) first)

get_more : {A : Type 0} (xs : List A) (y x : A) (k : ℕ) → slice_get xs k ≡ Some x → slice_get (xs ++ y ∷ []) k ≡ Some x
get_more [] y x zero e = absurd (none-some x e)
get_more [] y x (suc k) e = absurd (none-some x e)
get_more (z ∷ zs) y x zero e = e
get_more (z ∷ zs) y x (suc k) e = get_more zs y x k e

get_last : {A : Type 0} (xs : List A) (y : A) → slice_get (xs ++ y ∷ []) (length xs) ≡ Some y
get_last [] y = refl
get_last (x ∷ xs) y = get_last xs y

module _ {W : Type 0} (p q : NodePlan W) (agents : q.agents ≡ p.agents) (nodes : q.nodes ≡ p.nodes) where
  -- the node of an agent, in a plan of as many agents and nodes
  pub same_home : (i : ℕ) → node_in q i ≡ node_in p i
  same_home i = ap (λ (k : ℕ). home k q.agents i) nodes ∙ ap (λ (m : ℕ). home p.nodes m i) agents

  still_apart : (i j : ℕ) → node_in q i ≢ node_in q j → node_in p i ≢ node_in p j
  still_apart i j apart e = apart (same_home i ∙ e ∙ sym (same_home j))

  -- a pair inside a node needs no link
  pub keeps_still : (pairs : List (ℕ × ℕ)) (from to : ℕ) → node_in p from ≡ node_in p to → q.kept.items ≡ p.kept.items → KeepsPairs (node_in p) p.kept.items pairs → KeepsPairs (node_in q) q.kept.items (pairs ++ (from, to) ∷ [])
  keeps_still pairs from to here kept keeps = record {
    each = λ i j has apart. elim (contains_more pairs (from, to) (i, j) has) [
      | inl old ↦ (let r = keeps.each i j old (still_apart i j apart) in (r.0, r.1, subst (λ (ws : List Wire). slice_get ws r.0 ≡ Some r.1) (sym kept) r.2, r.3, r.4))
      | inr new ↦ absurd (still_apart i j apart (ap (λ (x : ℕ × ℕ). node_in p x.0) new ∙ here ∙ sym (ap (λ (x : ℕ × ℕ). node_in p x.1) new)))
    ];
    no_other = λ k w at. contains_old pairs (from, to) (w.sender, w.receiver) (keeps.no_other k w (subst (λ (ws : List Wire). slice_get ws k ≡ Some w) kept at));
  }

  -- and one between two nodes has the new link
  pub keeps_more : (pairs : List (ℕ × ℕ)) (from to : ℕ) → q.kept.items ≡ p.kept.items ++ fresh_link from to ∷ [] → KeepsPairs (node_in p) p.kept.items pairs → KeepsPairs (node_in q) q.kept.items (pairs ++ (from, to) ∷ [])
  keeps_more pairs from to kept keeps = record {
    each = λ i j has apart. elim (contains_more pairs (from, to) (i, j) has) [
      | inl old ↦ (let r = keeps.each i j old (still_apart i j apart) in
          (r.0, r.1, subst (λ (ws : List Wire). slice_get ws r.0 ≡ Some r.1) (sym kept) (get_more p.kept.items (fresh_link from to) r.1 r.0 r.2), r.3, r.4))
      | inr new ↦ (
        length p.kept.items,
        fresh_link from to,
        subst (λ (ws : List Wire). slice_get ws (length p.kept.items) ≡ Some (fresh_link from to)) (sym kept) (get_last p.kept.items (fresh_link from to)),
        sym (ap (λ (x : ℕ × ℕ). x.0) new),
        sym (ap (λ (x : ℕ × ℕ). x.1) new),
      )
    ];
    no_other = λ k w at. elim (last_at p.kept.items (fresh_link from to) w k (subst (λ (ws : List Wire). slice_get ws k ≡ Some w) kept at)) [
      | inl old ↦ contains_old pairs (from, to) (w.sender, w.receiver) (keeps.no_other k w old)
      | inr new ↦ subst (λ (v : Wire). Contains (pairs ++ (from, to) ∷ []) (v.sender, v.receiver)) new.1 (contains_last pairs (from, to))
    ];
  }

-- one of some elements, each of them mapped
contains_map : {A B : Type 0} (f : A → B) (xs : List A) (x : A) → Contains xs x → Contains (map f xs) (f x)
contains_map {A} {B} f xs x c =
    let long = length-map xs f in
    let lt = c.1 in
    (c.0, omega (arith, lt, long), get_or-map f xs c.0 x (f x) c.1 ∙ ap f c.2)

in_row : (from : ℕ) (tos : List ℕ) (i j : ℕ) → Contains (row from tos) (i, j) → (from ≡ i) × Contains tos j
in_row from tos i j c =
    let pair : ℕ → ℕ × ℕ = λ to. (from, to) in
    let that : ℕ × ℕ = (i, j) in
    let long = length-map tos pair in
    let lt = c.1 in
    let inside : c.0 < length tos = omega (arith, lt, long) in
    let is : pair (get_or tos c.0 j) ≡ that = sym (get_or-map pair tos c.0 j that inside) ∙ c.2 in
    (ap (λ (x : ℕ × ℕ). x.0) is, (c.0, inside, ap (λ (x : ℕ × ℕ). x.1) is))

-- the second agent of a pair is among the neighbours of the first
pub from_pairs : (lists : List (List ℕ)) (n i j : ℕ) → Contains (pairs_to lists n) (i, j) → Contains (slice_index_or lists i []) j
from_pairs lists n i j c =
    let r = from_parts (λ (k : ℕ). row k (slice_index_or lists k [])) (range_with_len 0 n) (i, j) c in
    let q = in_row r.0 (slice_index_or lists r.0 []) i j r.2 in
    subst (λ (k : ℕ). Contains (slice_index_or lists k []) j) q.0 q.1

-- and each neighbour of an agent makes a pair with it
pub into_pairs : (lists : List (List ℕ)) (n i j : ℕ) → i < n → Contains (slice_index_or lists i []) j → Contains (pairs_to lists n) (i, j)
into_pairs lists n i j lt has =
    let pair : ℕ → ℕ × ℕ = λ to. (i, to) in
    into_parts (λ (k : ℕ). row k (slice_index_or lists k [])) (range_with_len 0 n) i (i, j) (Contains-range n i lt) (contains_map pair (slice_index_or lists i []) j has)
