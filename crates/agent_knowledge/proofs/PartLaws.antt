-- What agents know, one after another.
use Rattle.std.proofs.Common.{◌≡◌, ℕ, ◌+◌, ◌<◌, ◌≤◌, List, [], length, map, set, get_or, sym, ap, subst, ◌∙◌, inl, inr, arith}
use Rattle.std.specs.List.{filter, range_with_len}
use Rattle.std.specs.declared.vec.Vec.{Vec}
use Rattle.std.specs.declared.alloc.Global.{Global}
use Rattle.std.proofs.lemmas.Bool.{cases_order}
use Rattle.std.proofs.lemmas.List.{ext_get_or, length-set, get_or-map, get_or-set_same, get_or-set_other}
use Rattle.std.proofs.lemmas.List.FromFn.{length-map-range_with_len, get_or-map-range_with_len}
use Rattle.dcop_base.specs.Table.{CostTable, has}
use Rattle.dcop_base.specs.Problem.{Dcop}
use Rattle.dcop_base.specs.Graph.{neighbours}
use Rattle.dcop_base.specs.Knowledge.{private_of, acquaintance_of}
use Rattle.dcop_base.specs.declared.knowledge.Private.{Private}
use Rattle.agent_knowledge.specs.Rows.{rows_in}

-- a list that is taken out of rows
pub row_is : {T : Type 0} (all rows : List (Vec T Global)) (k : ℕ) (row : Vec T Global) → k < length all → ((d : Vec T Global) → row ≡ get_or rows k d) → ((d : Vec T Global) → get_or rows k d ≡ get_or all k d)
    → row.items ≡ get_or (rows_in all) k []
row_is {T} all rows k row lt out still = ap (λ (r : Vec T Global). r.items) (out row ∙ still row) ∙ sym (get_or-map (λ (r : Vec T Global). r.items) all k row [] lt)

-- a list of neighbours that is taken out of rows
pub neighbours_row : (p : Dcop) (all rows : List (List ℕ)) (k : ℕ) (row : List ℕ) → all ≡ map (neighbours p) (range_with_len 0 (length p.sizes)) → k < length p.sizes
    → ((d : List ℕ) → row ≡ get_or rows k d) → ((d : List ℕ) → get_or rows k d ≡ get_or all k d) → row ≡ neighbours p k
neighbours_row p all rows k row are lt out still =
    out [] ∙ still [] ∙ ap (λ (xs : List (List ℕ)). get_or xs k []) are ∙ get_or-map-range_with_len (neighbours p) 0 (length p.sizes) k k [] lt (omega arith)

-- what an agent knows, with these tables
abbrev pub with_tables : Private → List CostTable → Private
with_tables own tables = record {
  me = own.me;
  size = own.size;
  neighbours = own.neighbours;
  neighbour_sizes = own.neighbour_sizes;
  tables = tables;
}

-- all agents have their tables up to here, and those behind have none
pub record HaveTables (p : Dcop) (me : ℕ) (known : List Private) : Type 0 where
  pub size : length known ≡ length p.sizes
  pub done : (j : ℕ) (d : Private) → j < me → j < length p.sizes → get_or known j d ≡ private_of p j
  pub rest : (j : ℕ) (d : Private) → me ≤ j → j < length p.sizes → get_or known j d ≡ acquaintance_of p j

pub tables_start : (p : Dcop) (known : List Private) → known ≡ map (acquaintance_of p) (range_with_len 0 (length p.sizes)) → HaveTables p 0 known
tables_start p known e = record {
  size = ap (λ (xs : List Private). length xs) e ∙ length-map-range_with_len (acquaintance_of p) 0 (length p.sizes);
  done = λ j d lt all. absurd (omega (arith, lt));
  rest = λ j d le all. ap (λ (xs : List Private). get_or xs j d) e ∙ get_or-map-range_with_len (acquaintance_of p) 0 (length p.sizes) j j d all (omega arith);
}

pub tables_more : (p : Dcop) (me : ℕ) (known : List Private) (d : Private) (tables : List CostTable) → me < length p.sizes → HaveTables p me known → tables ≡ filter (λ t. has t.scope me) p.tables
    → HaveTables p (me + 1) (set known me (with_tables (get_or known me d) tables))
tables_more p me known d tables lt h are = record {
  size = length-set known me (with_tables (get_or known me d) tables) ∙ h.size;
  done = done;
  rest = λ j e le all. get_or-set_other known me j (with_tables (get_or known me d) tables) e (λ f. absurd (omega (arith, f, le))) ∙ h.rest j e (omega (arith, le)) all;
}
  where
    inside : me < length known
    inside = subst (λ (n : ℕ). me < n) (sym h.size) lt

    own : with_tables (get_or known me d) tables ≡ private_of p me
    own = ap (λ (o : Private). with_tables o tables) (h.rest me d (omega arith) lt) ∙ ap (λ (ts : List CostTable). with_tables (acquaintance_of p me) ts) are

    done : (j : ℕ) (e : Private) → j < me + 1 → j < length p.sizes → get_or (set known me (with_tables (get_or known me d) tables)) j e ≡ private_of p j
    done j e below all = elim (cases_order me j) [
      | inl same ↦ subst (λ (i : ℕ). get_or (set known me (with_tables (get_or known me d) tables)) i e ≡ private_of p i) same (get_or-set_same known me (with_tables (get_or known me d) tables) e inside ∙ own)
      | inr other ↦ elim other [
        | inl above ↦ absurd (omega (arith, above, below))
        | inr lower ↦ get_or-set_other known me j (with_tables (get_or known me d) tables) e (λ f. absurd (omega (arith, f, lower))) ∙ h.done j e lower all
      ]
    ]

pub tables_end : (p : Dcop) (me : ℕ) (known : List Private) → HaveTables p me known → length known ≤ me → known ≡ map (private_of p) (range_with_len 0 (length p.sizes))
tables_end p me known h all =
    ext_get_or (private_of p 0) known (map (private_of p) (range_with_len 0 (length p.sizes))) (h.size ∙ sym (length-map-range_with_len (private_of p) 0 (length p.sizes)))
    (λ i lt.
    let inside : i < length p.sizes = subst (λ (n : ℕ). i < n) h.size lt in
    h.done i (private_of p 0) (omega (arith, lt, all)) inside ∙ sym (get_or-map-range_with_len (private_of p) 0 (length p.sizes) i i (private_of p 0) inside (omega arith)))

pub rows_size : (p : Dcop) (rows : List (List ℕ)) → rows ≡ map (neighbours p) (range_with_len 0 (length p.sizes)) → length rows ≡ length p.sizes
rows_size p rows are = ap (λ (xs : List (List ℕ)). length xs) are ∙ length-map-range_with_len (neighbours p) 0 (length p.sizes)
