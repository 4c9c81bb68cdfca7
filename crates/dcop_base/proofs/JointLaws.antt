-- Joints: they connect a problem, there is one list of them, and only the scopes of the tables decide it.
use Rattle.std.proofs.Common.{◌≡◌, ℕ, Bool, true, not, ◌&&◌, ◌||◌, List, [], ◌∷◌, map, length, get_or, refl, sym, ◌∙◌, ap, ap₂, inl, inr, ◌==◌, All, Contains}
use Rattle.std.specs.List.{list_any}
use Rattle.std.proofs.lemmas.Bool.{and_from, or_left, or_right, eq-eqb, ne_eqb, not_from_false, cases_eq}
use Rattle.std.proofs.lemmas.List.Elements.{All-head, All-tail}
use Rattle.dcop_base.specs.Table.{CostTable, has}
use Rattle.dcop_base.specs.Problem.{Dcop}
use Rattle.dcop_base.specs.Graph.{share_table, are_joined, are_neighbours, AreConnected, AreJoints, IsConnected}
use Rattle.dcop_base.proofs.PathLaws.{AreConnected-same, AreConnected-edge, AreConnected-trans, AreConnected-into, AreConnected-more, share_table-swap}
use Rattle.dcop_base.proofs.FirstLaws.{Contains-cases, Contains-none}

-- equal numbers, asked either way
pub eqb-swap : (u v : ℕ) → (u == v) ≡ (v == u)
eqb-swap u v = elim (cases_eq u v) [
  | inl e ↦ eq-eqb u v e ∙ sym (eq-eqb v u (sym e))
  | inr n ↦ ne_eqb u v n ∙ sym (ne_eqb v u (λ e. n (sym e)))
]

pub or_swap : (a b : Bool) → (a || b) ≡ (b || a)
or_swap Bool.true Bool.true = refl
or_swap Bool.true Bool.false = refl
or_swap Bool.false Bool.true = refl
or_swap Bool.false Bool.false = refl

pub are_joined-swap : (joints : List (ℕ × ℕ)) (u v : ℕ) → are_joined joints u v ≡ are_joined joints v u
are_joined-swap [] u v = refl
are_joined-swap (j ∷ js) u v =
    ap₂ (λ (a : Bool) (b : Bool). a || b) (or_swap (j.0 == u && j.1 == v) (j.0 == v && j.1 == u)) (are_joined-swap js u v)

-- neighbours are neighbours of each other
pub are_neighbours-swap : (p : Dcop) (u v : ℕ) → are_neighbours p u v ≡ are_neighbours p v u
are_neighbours-swap p u v =
    ap₂ (λ (a : Bool) (b : Bool). a && b) (ap not (eqb-swap u v))
    (ap₂ (λ (a : Bool) (b : Bool). a || b) (share_table-swap p.tables u v) (are_joined-swap p.joints u v))

pub are_neighbours-sym : (p : Dcop) (u v : ℕ) → are_neighbours p u v ≡ true → are_neighbours p v u ≡ true
are_neighbours-sym p u v h = are_neighbours-swap p v u ∙ h

-- two variables that share a table or a joint are connected by neighbours, be they different or one
pub connected_by_neighbours : (p : Dcop) (u v : ℕ) → (share_table p.tables u v || are_joined p.joints u v) ≡ true → AreConnected (are_neighbours p) u v
connected_by_neighbours p u v h = elim (cases_eq u v) [
  | inl e ↦ AreConnected-same (are_neighbours p) u v e
  | inr n ↦ AreConnected-edge (are_neighbours p) u v (and_from (not (u == v)) (share_table p.tables u v || are_joined p.joints u v) (not_from_false (u == v) (ne_eqb u v n)) h)
]

-- what is connected by tables is connected by neighbours
pub neighbours-from_tables : (p : Dcop) (u v : ℕ) → AreConnected (share_table p.tables) u v → AreConnected (are_neighbours p) u v
neighbours-from_tables p = AreConnected-into (share_table p.tables) (are_neighbours p)
    (λ u v e. connected_by_neighbours p u v (or_left (share_table p.tables u v) (are_joined p.joints u v) e))

-- joints from variable 0 join it to each of their second variables
pub are_joined-second : (joints : List (ℕ × ℕ)) (f : ℕ) → All (λ (j : ℕ × ℕ). j.0 ≡ 0) joints → Contains (map (λ (j : ℕ × ℕ). j.1) joints) f → are_joined joints 0 f ≡ true
are_joined-second [] f zeros h = absurd (Contains-none f h)
are_joined-second (j ∷ js) f zeros h = elim (Contains-cases j.1 (map (λ (i : ℕ × ℕ). i.1) js) f h) [
  | inl e ↦ or_left ((j.0 == 0 && j.1 == f) || (j.0 == f && j.1 == 0)) (are_joined js 0 f)
      (or_left (j.0 == 0 && j.1 == f) (j.0 == f && j.1 == 0)
      (and_from (j.0 == 0) (j.1 == f) (eq-eqb j.0 0 (All-head (λ (i : ℕ × ℕ). i.0 ≡ 0) j js zeros)) (eq-eqb j.1 f e)))
  | inr c ↦ or_right ((j.0 == 0 && j.1 == f) || (j.0 == f && j.1 == 0)) (are_joined js 0 f)
      (are_joined-second js f (All-tail (λ (i : ℕ × ℕ). i.0 ≡ 0) j js zeros) c)
]

-- the joints connect the problem
pub IsConnected-joints : (p : Dcop) → AreJoints (length p.sizes) p.tables p.joints → IsConnected p
IsConnected-joints p joints v lt =
    let reached : (f : ℕ) × (Contains (0 ∷ map (λ (j : ℕ × ℕ). j.1) p.joints) f) × (AreConnected (share_table p.tables) f v) = joints.every v lt in
    let to_first : AreConnected (are_neighbours p) 0 reached.0 = elim (Contains-cases 0 (map (λ (j : ℕ × ℕ). j.1) p.joints) reached.0 reached.1) [
      | inl e ↦ AreConnected-same (are_neighbours p) 0 reached.0 e
      | inr c ↦ connected_by_neighbours p 0 reached.0 (or_right (share_table p.tables 0 reached.0) (are_joined p.joints 0 reached.0) (are_joined-second p.joints reached.0 joints.from_zero c))
    ] in
    AreConnected-trans (are_neighbours p) 0 reached.0 v to_first (neighbours-from_tables p reached.0 v reached.2)

-- with the same scopes the same variables share a table
pub share_table-scopes : (ts us : List CostTable) → map (λ (t : CostTable). t.scope) ts ≡ map (λ (t : CostTable). t.scope) us → (u v : ℕ) → share_table ts u v ≡ share_table us u v
share_table-scopes ts us e u v =
    by_scopes ts ∙ ap (λ (xs : List (List ℕ)). list_any (λ (scope : List ℕ). has scope u && has scope v) xs) e ∙ sym (by_scopes us)
  where
    by_scopes : (ws : List CostTable) → share_table ws u v ≡ list_any (λ (scope : List ℕ). has scope u && has scope v) (map (λ (t : CostTable). t.scope) ws)
    by_scopes [] = refl
    by_scopes (w ∷ ws) = ap (λ (b : Bool). (has w.scope u && has w.scope v) || b) (by_scopes ws)

pub AreConnected-scopes : (ts us : List CostTable) → map (λ (t : CostTable). t.scope) ts ≡ map (λ (t : CostTable). t.scope) us → (u v : ℕ) → AreConnected (share_table ts) u v → AreConnected (share_table us) u v
AreConnected-scopes ts us e = AreConnected-more (share_table ts) (share_table us) (λ u v h. sym (share_table-scopes ts us e u v) ∙ h)

-- only the scopes of the tables decide the joints
pub AreJoints-scopes : (count : ℕ) (ts us : List CostTable) (joints : List (ℕ × ℕ)) → map (λ (t : CostTable). t.scope) ts ≡ map (λ (t : CostTable). t.scope) us → AreJoints count ts joints → AreJoints count us joints
AreJoints-scopes count ts us joints e h = record {
  from_zero = h.from_zero;
  ascending = h.ascending;
  within = h.within;
  first = λ k d lt u below c. h.first k d lt u below (AreConnected-scopes us ts (sym e) u (get_or joints k d).1 c);
  every = λ v lt. (let r : (f : ℕ) × (Contains (0 ∷ map (λ (j : ℕ × ℕ). j.1) joints) f) × (AreConnected (share_table ts) f v) = h.every v lt in
      (r.0, r.1, AreConnected-scopes ts us e r.0 v r.2));
}
