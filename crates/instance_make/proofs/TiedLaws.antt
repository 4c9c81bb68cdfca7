-- Each variable but the first shares a table with an earlier one, so the tables connect the problem.
use Rattle.std.proofs.Common.{◌≡◌, ℕ, zero, suc, ◌+◌, ◌-◌, ◌%◌, ◌<◌, ◌≤◌, ◌==◌, Bool, true, ◌&&◌, ◌||◌, List, [], ◌∷◌, ◌++◌, length, min, replicate, refl, sym, ap, subst, ◌∙◌, inl, inr, ◌⊎◌, arith}
use Rattle.std.proofs.Math.Nat.{mod-lt}
use Rattle.std.specs.List.{list_any, flat_map, range_with_len}
use Rattle.std.proofs.lemmas.Bool.{or_left, or_right}
use Rattle.std.proofs.lemmas.List.Elements.{All-nil}
use Rattle.std.proofs.lemmas.List.Folds.{list_any-append}
use Rattle.dcop_base.specs.Table.{CostTable, has}
use Rattle.dcop_base.specs.Graph.{share_table, AreConnected, AreJoints, IsFirst}
use Rattle.dcop_base.proofs.FirstLaws.{Contains-head}
use Rattle.dcop_base.proofs.LabelLaws.{has-cases, has-head, has-tail}
use Rattle.dcop_base.proofs.PathLaws.{AreConnected-refl, AreConnected-edge, AreConnected-trans}
use Rattle.instance_make.specs.Stream.{state_after, word_at}
use Rattle.instance_make.specs.Generator.{drawn_table, drawn_tables, draws_of, draws_behind, table_words}

-- a variable draws if it is a later one
draws-one : (degree var : ℕ) → 1 ≤ degree → 1 ≤ var → has (draws_of degree var) var ≡ true
draws-one degree var tied later = one (min var degree) var (omega arith)
  where
    one : (n v : ℕ) → 1 ≤ n → has (replicate n v) v ≡ true
    one zero v h = absurd (omega (arith, h))
    one (suc n) v h = has-head v (replicate n v)

has-append-left : (xs ys : List ℕ) (v : ℕ) → has xs v ≡ true → has (xs ++ ys) v ≡ true
has-append-left xs ys v h = list_any-append (λ (y : ℕ). y == v) xs ys ∙ or_left (has xs v) (has ys v) h

has-append-right : (xs ys : List ℕ) (v : ℕ) → has ys v ≡ true → has (xs ++ ys) v ≡ true
has-append-right xs ys v h = list_any-append (λ (y : ℕ). y == v) xs ys ∙ or_right (has xs v) (has ys v) h

draws-from : (degree first k count : ℕ) → 1 ≤ degree → 1 ≤ first → k < count → has (flat_map (draws_of degree) (range_with_len first count)) (first + k) ≡ true
draws-from degree first k zero tied later below = absurd (omega (arith, below))
draws-from degree first zero (suc count) tied later below =
    let e : first ≡ first + 0 = omega arith in
    subst (λ (v : ℕ). has (draws_of degree first ++ flat_map (draws_of degree) (range_with_len (first + 1) count)) v ≡ true) e
    (has-append-left (draws_of degree first) (flat_map (draws_of degree) (range_with_len (first + 1) count)) first (draws-one degree first tied later))
draws-from degree first (suc k) (suc count) tied later below =
    let e : (first + 1) + k ≡ first + suc k = omega arith in
    subst (λ (v : ℕ). has (draws_of degree first ++ flat_map (draws_of degree) (range_with_len (first + 1) count)) v ≡ true) e
    (has-append-right (draws_of degree first) (flat_map (draws_of degree) (range_with_len (first + 1) count)) ((first + 1) + k)
    (draws-from degree (first + 1) k count tied (omega (arith, later)) (omega (arith, below))))

draws-each : (degree vars v : ℕ) → 1 ≤ degree → 1 ≤ v → v < vars → has (draws_behind degree (vars - 1)) v ≡ true
draws-each degree vars v tied later within =
    let e : 1 + (v - 1) ≡ v = omega (arith, later) in
    subst (λ (w : ℕ). has (draws_behind degree (vars - 1)) w ≡ true) e (draws-from degree 1 (v - 1) (vars - 1) tied (omega arith) (omega (arith, later, within)))

-- a variable shares the table that it draws with an earlier one
abbrev SharesEarlier : List CostTable → ℕ → Type 0
SharesEarlier tables v = (u : ℕ) × (u < v) × (share_table tables u v ≡ true)

and-true : (a b : Bool) → a ≡ true → b ≡ true → (a && b) ≡ true
and-true a b x y = rw (x, y) refl

shares-first : (size top state v : ℕ) (rest : List CostTable) → 1 ≤ v → SharesEarlier (drawn_table size top state v ∷ rest) v
shares-first size top state v rest later =
    let u : ℕ = word_at state 0 % v in (
      u,
      mod-lt (word_at state 0) (omega (arith, later)),
      or_left (has (u ∷ v ∷ []) u && has (u ∷ v ∷ []) v) (share_table rest u v)
          (and-true (has (u ∷ v ∷ []) u) (has (u ∷ v ∷ []) v) (has-head u (v ∷ [])) (has-tail u (v ∷ []) v (has-head v []))),
    )

shares-next : (size top state d : ℕ) (ds : List ℕ) (v : ℕ) → 1 ≤ v → (has ds v ≡ true → SharesEarlier (drawn_tables size top (state_after state (table_words size)) ds) v)
    → (d ≡ v) ⊎ (has ds v ≡ true) → SharesEarlier (drawn_tables size top state (d ∷ ds)) v
shares-next size top state d ds v later on (inl e) =
    subst (λ (w : ℕ). SharesEarlier (drawn_table size top state w ∷ drawn_tables size top (state_after state (table_words size)) ds) v) (sym e)
    (shares-first size top state v (drawn_tables size top (state_after state (table_words size)) ds) later)
shares-next size top state d ds v later on (inr t) =
    let rest = on t in (
      rest.0,
      rest.1,
      or_right (has (drawn_table size top state d).scope rest.0 && has (drawn_table size top state d).scope v) (share_table (drawn_tables size top (state_after state (table_words size)) ds) rest.0 v) rest.2,
    )

shares : (size top state : ℕ) (draws : List ℕ) (v : ℕ) → 1 ≤ v → has draws v ≡ true → SharesEarlier (drawn_tables size top state draws) v
shares size top state [] v later h = cc
shares size top state (d ∷ ds) v later h =
    shares-next size top state d ds v later (λ t. shares size top (state_after state (table_words size)) ds v later t) (has-cases d ds v h)

connected-below : (tables : List CostTable) (vars : ℕ) → ((v : ℕ) → 1 ≤ v → v < vars → SharesEarlier tables v) → (bound v : ℕ) → v < bound → v < vars → AreConnected (share_table tables) 0 v
connected-below tables vars each zero v below within = absurd (omega (arith, below))
connected-below tables vars each (suc bound) zero below within = AreConnected-refl (share_table tables) 0
connected-below tables vars each (suc bound) (suc w) below within =
    let shared = each (suc w) (omega arith) within in
    AreConnected-trans (share_table tables) 0 shared.0 (suc w)
    (connected-below tables vars each bound shared.0 (omega (arith, shared.1, below)) (omega (arith, shared.1, within)))
    (AreConnected-edge (share_table tables) shared.0 (suc w) shared.2)

-- so no joints are needed
pub no-joints : (vars size degree top seed : ℕ) → 1 ≤ degree → AreJoints vars (drawn_tables size top seed (draws_behind degree (vars - 1))) []
no-joints vars size degree top seed tied =
    let tables : List CostTable = drawn_tables size top seed (draws_behind degree (vars - 1)) in
    record {
      from_zero = All-nil (λ (j : ℕ × ℕ). j.0 ≡ 0);
      ascending = λ k lt. absurd (omega (arith, lt));
      within = All-nil (λ (j : ℕ × ℕ). j.1 < vars);
      first = All-nil (λ (j : ℕ × ℕ). IsFirst tables j.1);
      every = λ v lt. (
        0,
        Contains-head 0 [],
        connected-below tables vars (λ w later within. shares size top seed (draws_behind degree (vars - 1)) w later (draws-each degree vars w tied later within)) (suc v) v (omega arith) lt,
      );
    }
