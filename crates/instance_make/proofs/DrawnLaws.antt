-- Tables drawn one after the other.
use Rattle.std.proofs.Common.{◌≡◌, ℕ, zero, suc, ◌+◌, ◌*◌, ◌-◌, ◌≤◌, List, [], ◌∷◌, ◌++◌, map, length, min, replicate, refl, sym, ap, subst, ◌∙◌, arith}
use Rattle.std.specs.List.{flat_map, range_with_len}
use Rattle.std.proofs.lemmas.List.{append-nil, append_assoc, length-append, replicate_more}
use Rattle.std.proofs.lemmas.List.FromFn.{map-range_with_len_more}
use Rattle.std.proofs.lemmas.Grind.{flat_map-append}
use Rattle.dcop_base.specs.Table.{CostTable}
use Rattle.instance_make.specs.Stream.{state_after, word_at}
use Rattle.instance_make.specs.Generator.{cell_of, drawn_cells, drawn_table, drawn_tables, draws_of, draws_behind, table_words}
use Rattle.instance_make.proofs.StreamLaws.{state-more, state-none}

-- one cell more
pub cells-more : (top start count : ℕ) (cells : List ℕ) (word : ℕ) → cells ≡ drawn_cells top start count → word ≡ word_at start count → cells ++ (cell_of top word ∷ []) ≡ drawn_cells top start (count + 1)
cells-more top start count cells word is drawn =
    rw (is, drawn) (sym (map-range_with_len_more (λ place. cell_of top (word_at start place)) 0 count count (omega arith)))

-- what was drawn for these variables from a state on: their tables, and the state behind them
pub record IsDrawn (size top start : ℕ) (vars : List ℕ) (tables : List CostTable) (state : ℕ) : Type 0 where
  pub tables_are : tables ≡ drawn_tables size top start vars
  pub state_is : state ≡ state_after start (length vars * table_words size)

no-words : (w : ℕ) → 0 * w ≡ 0
no-words w = omega arith

more-words : (n w : ℕ) → w + n * w ≡ suc n * w
more-words n w = omega arith

-- no tables leave the state
same-state : (size start : ℕ) → start ≡ state_after start (0 * table_words size)
same-state size start = sym (state-none start) ∙ ap (state_after start) (sym (no-words (table_words size)))

-- nothing was drawn at first
pub drawn-none : (size top start : ℕ) → IsDrawn size top start [] [] start
drawn-none size top start = record { tables_are = refl; state_is = same-state size start }

tables-push : (size top start : ℕ) (vars : List ℕ) (var : ℕ)
    → drawn_tables size top start (vars ++ (var ∷ [])) ≡ drawn_tables size top start vars ++ (drawn_table size top (state_after start (length vars * table_words size)) var ∷ [])
tables-push size top start [] var = ap (λ (state : ℕ). drawn_table size top state var ∷ []) (same-state size start)
tables-push size top start (v ∷ vs) var =
    let e : table_words size + length vs * table_words size ≡ length (v ∷ vs) * table_words size = more-words (length vs) (table_words size) in
    let on : state_after (state_after start (table_words size)) (length vs * table_words size) ≡ state_after start (length (v ∷ vs) * table_words size) =
    state-more start (table_words size) (length vs * table_words size) ∙ ap (state_after start) e in
    ap (λ (rest : List CostTable). drawn_table size top start v ∷ rest)
    (tables-push size top (state_after start (table_words size)) vs var
    ∙ ap (λ (state : ℕ). drawn_tables size top (state_after start (table_words size)) vs ++ (drawn_table size top state var ∷ [])) on)

-- one table more
pub drawn-more : (size top start : ℕ) (vars : List ℕ) (tables : List CostTable) (state : ℕ) (var : ℕ) (table : CostTable) (next : ℕ)
    → IsDrawn size top start vars tables state → table ≡ drawn_table size top state var → next ≡ state_after state (table_words size)
    → IsDrawn size top start (vars ++ (var ∷ [])) (tables ++ (table ∷ [])) next
drawn-more size top start vars tables state var table next so table_is next_is = record {
  tables_are =
      rw (so.tables_are, table_is, so.state_is) (sym (tables-push size top start vars var));
  state_is =
      let e : length vars * table_words size + table_words size ≡ length (vars ++ (var ∷ [])) * table_words size =
      let long : length (vars ++ (var ∷ [])) ≡ length vars + 1 = length-append vars (var ∷ []) in rw long (omega arith) in
      next_is ∙ ap (λ (s : ℕ). state_after s (table_words size)) so.state_is ∙ state-more start (length vars * table_words size) (table_words size) ∙ ap (state_after start) e;
}

range-push : (first count last : ℕ) → first + count ≡ last → range_with_len first (suc count) ≡ range_with_len first count ++ (last ∷ [])
range-push first zero last e = let same : first ≡ last = omega (arith, e) in ap (λ (n : ℕ). n ∷ []) same
range-push first (suc count) last e = ap (λ (rest : List ℕ). first ∷ rest) (range-push (first + 1) count last (omega (arith, e)))

-- the draws of a further variable
pub draws-more : (degree count var : ℕ) → var ≡ 1 + count → draws_behind degree count ++ draws_of degree var ≡ draws_behind degree (count + 1)
draws-more degree count var e =
    let next : suc count ≡ count + 1 = omega arith in
    let one : flat_map (draws_of degree) (var ∷ []) ≡ draws_of degree var = append-nil (draws_of degree var) in
    sym (ap (draws_behind degree) (sym next)
    ∙ ap (flat_map (draws_of degree)) (range-push 1 count var (sym e))
    ∙ flat_map-append (draws_of degree) (range_with_len 1 count) (var ∷ [])
    ∙ ap (λ (rest : List ℕ). draws_behind degree count ++ rest) one)

-- before the first table of a variable
pub drawn-start : (size top start : ℕ) (vars : List ℕ) (tables : List CostTable) (state : ℕ) → IsDrawn size top start vars tables state → IsDrawn size top start (vars ++ []) tables state
drawn-start size top start vars tables state so = subst (λ (vs : List ℕ). IsDrawn size top start vs tables state) (sym (append-nil vars)) so

-- a further table of the same variable
pub drawn-again : (size top start : ℕ) (vars : List ℕ) (tables : List CostTable) (state : ℕ) (count var : ℕ) (table : CostTable) (next : ℕ)
    → IsDrawn size top start (vars ++ replicate count var) tables state → table ≡ drawn_table size top state var → next ≡ state_after state (table_words size)
    → IsDrawn size top start (vars ++ replicate (count + 1) var) (tables ++ (table ∷ [])) next
drawn-again size top start vars tables state count var table next so table_is next_is =
    let one : (vars ++ replicate count var) ++ (var ∷ []) ≡ vars ++ replicate (count + 1) var =
    append_assoc vars (replicate count var) (var ∷ []) ∙ ap (λ (rest : List ℕ). vars ++ rest) (replicate_more count var) in
    subst (λ (vs : List ℕ). IsDrawn size top start vs (tables ++ (table ∷ [])) next) one
    (drawn-more size top start (vars ++ replicate count var) tables state var table next so table_is next_is)

-- behind the last table of a variable
pub drawn-end : (size top start degree : ℕ) (tables : List CostTable) (state : ℕ) (count var times : ℕ) → var ≡ 1 + count → times ≡ min var degree
    → IsDrawn size top start (draws_behind degree count ++ replicate times var) tables state → IsDrawn size top start (draws_behind degree (count + 1)) tables state
drawn-end size top start degree tables state count var times is all so =
    let draws : draws_behind degree count ++ replicate times var ≡ draws_behind degree (count + 1) =
    ap (λ (n : ℕ). draws_behind degree count ++ replicate n var) all ∙ draws-more degree count var is in
    subst (λ (vs : List ℕ). IsDrawn size top start vs tables state) draws so
