-- Laws of buckets that are made one after the other, the last one first.
use Rattle.std.proofs.Common.{◌≡◌, ℕ, ◌+◌, ◌-◌, ◌<◌, ◌≤◌, not, List, [], ◌∷◌, ◌++◌, length, take, drop, get_or, reverse, refl, sym, ap, ap₂, subst, ◌∙◌, arith}
use Rattle.std.specs.List.{All, filter}
use Rattle.std.proofs.lemmas.List.{drop_more, drop_all, take-append-drop, reverse-append, get_or_default}
use Rattle.std.proofs.lemmas.List.Filters.{sum_by-filter_both}
use Rattle.std.proofs.lemmas.List.Sums.{sum_by-cons, sum_by-append}
use Rattle.dcop_base.specs.Table.{CostTable, has}
use Rattle.dcop_base.specs.Faults.{cell_count}
use Rattle.dcop_base.specs.Values.{cell_with, cost_with}
use Rattle.shared_costs.specs.Tables.{AreDepths, depths_cost}
use Rattle.bucket_bounds.specs.Bounds.{bounds_from, tables_in, kept_cells}
use Rattle.bucket_bounds.specs.Joining.{AreUncapped}
use Rattle.bucket_bounds.specs.Made.{IsItem, IsBoundTable, AreMade}
use Rattle.bucket_bounds.specs.MiniBuckets.{IsMiniBucket, AreMiniBuckets}
use Rattle.bucket_bounds.specs.Parting.{AreReplacedDuly}
use Rattle.bucket_bounds.specs.declared.bucket.Bucket.{Bucket}
use Rattle.bucket_bounds.specs.declared.making.Made.{Made}
use Rattle.bucket_bounds.proofs.PartingLaws.{less_room}
use Rattle.bucket_bounds.proofs.MiniLaws.{come_items, mini_replaced, minis_made}
use Rattle.bucket_bounds.proofs.ChainLaws.{sent_of_made, bounds_before, low_from}

-- the buckets from a variable on, with the bounds that stand before them and the room that is left
pub record IsChain (sizes : List ℕ) (depths : List (List CostTable)) (limit cells p : ℕ) (buckets : List Bucket) (bounds : List CostTable) (room : ℕ) : Type 0 where
  pub within : p ≤ length sizes
  pub tables : tables_in buckets ≡ drop p depths
  pub minis : AreMiniBuckets sizes limit cells p buckets
  pub now : bounds ≡ bounds_from p buckets
  pub kept : kept_cells buckets + (p + room) ≡ cells
  pub replaced : AreReplacedDuly sizes room p buckets

-- no buckets yet
pub chain_none : (sizes : List ℕ) (depths : List (List CostTable)) (limit cells room : ℕ) → AreDepths sizes depths → room + length sizes ≡ cells → IsChain sizes depths limit cells (length sizes) [] [] room
chain_none sizes depths limit cells room are e = record {
  within = omega arith;
  tables = sym (drop_all (length sizes) depths (let many = are.many in omega (arith, many)));
  minis = tt;
  now = refl;
  kept = omega (arith, e);
  replaced = tt;
}

-- the bucket before these
module _ (sizes : List ℕ) (depths : List (List CostTable)) (limit cells room p : ℕ) (buckets : List Bucket) (bounds tables : List CostTable) (are : AreDepths sizes depths) (lt : p < length sizes) (here : tables ≡ get_or depths p tables) (chain : IsChain sizes depths limit cells (p + 1) buckets bounds room) where
  behind_made : AreMade sizes (p + 1) buckets
  behind_made = minis_made sizes limit cells (p + 1) buckets chain.minis

  here_is : tables ≡ get_or depths p []
  here_is = here ∙ get_or_default depths p tables [] (let many = are.many in omega (arith, lt, many))

  pub next_items : All (IsItem sizes p) tables
  next_items = subst (λ (ts : List CostTable). All (IsItem sizes p) ts) (sym here_is) (are.each p lt)

  pub next_bounds_are : All (IsBoundTable sizes (p + 1)) bounds
  next_bounds_are = subst (λ (ts : List CostTable). All (IsBoundTable sizes (p + 1)) ts) (sym chain.now) (bounds_before sizes (p + 1) buckets (sent_of_made sizes (p + 1) buckets behind_made))

  deep : drop p depths ≡ tables ∷ drop (p + 1) depths
  deep = drop_more depths p tables (let many = are.many in omega (arith, lt, many)) ∙ ap (λ (ts : List CostTable). ts ∷ drop (p + 1) depths) (sym here)

  pub next_uncapped : AreUncapped sizes (tables ++ filter (λ t. has t.scope p) bounds)
  next_uncapped value values =
      let cost : List CostTable → ℕ = λ ts. cost_with ts value in
      let come = filter (λ (t : CostTable). has t.scope p) bounds in
      let low = low_from sizes (p + 1) buckets value behind_made values in
      let now = ap cost chain.now in
      let parts = sum_by-filter_both (λ (t : CostTable). has t.scope p) (λ (t : CostTable). not (has t.scope p)) (λ t. refl) (λ (t : CostTable). cell_with t value) bounds in
      let behind = ap (λ (tss : List (List CostTable)). depths_cost tss value) chain.tables in
      let all = ap (λ (tss : List (List CostTable)). depths_cost tss value) deep ∙ sum_by-cons cost tables (drop (p + 1) depths) in
      let whole = sym (sum_by-append cost (take p depths) (drop p depths)) ∙ ap (λ (tss : List (List CostTable)). depths_cost tss value) (take-append-drop p depths) in
      omega (arith, low, now, parts, behind, all, whole, are.capped value values, sum_by-append (λ (t : CostTable). cell_with t value) tables come)

  pub chain_next : (made : Made) (next : List CostTable) → made.bucket.tables ≡ tables → made.bucket.came ≡ filter (λ t. has t.scope p) bounds → IsMiniBucket sizes limit p room made.bucket → cell_count made.bucket.sent + made.room ≡ room
      → next ≡ filter (λ t. not (has t.scope p)) bounds ++ made.bucket.sent → IsChain sizes depths limit cells p (made.bucket ∷ buckets) next made.room
  chain_next made next own come mini count e =
      let kept = chain.kept in
      let came : All (IsItem sizes p) made.bucket.came = subst (λ (ts : List CostTable). All (IsItem sizes p) ts) (sym come) (come_items sizes p bounds next_bounds_are) in
      record {
        within = omega (arith, lt);
        tables = ap₂ (λ (ts : List CostTable) (tss : List (List CostTable)). ts ∷ tss) own chain.tables ∙ sym deep;
        minis = (
          come ∙ ap (λ (ts : List CostTable). filter (λ (t : CostTable). has t.scope p) ts) chain.now,
          subst (λ (n : ℕ). IsMiniBucket sizes limit p n made.bucket) (omega (arith, kept)) mini,
          chain.minis,
        );
        now = e ∙ ap (λ (ts : List CostTable). filter (λ (t : CostTable). not (has t.scope p)) ts ++ made.bucket.sent) chain.now;
        kept =
            let more : kept_cells (made.bucket ∷ buckets) ≡ (1 + cell_count made.bucket.sent) + kept_cells buckets = sum_by-cons (λ (b : Bucket). 1 + cell_count b.sent) made.bucket buckets in
            omega (arith, more, count, kept);
        replaced = (mini_replaced sizes limit p room made.bucket mini came made.room count, less_room sizes room made.room (p + 1) buckets (omega (arith, count)) chain.replaced);
      }

-- one more at the end is one more at the front of the list turned round
pub turned_more : (bs news : List Bucket) (b : Bucket) → news ≡ bs ++ b ∷ [] → reverse news ≡ b ∷ reverse bs
turned_more bs news b e = ap (λ (xs : List Bucket). reverse xs) e ∙ reverse-append bs (b ∷ [])

-- a chain that stands before a variable, told by the number behind it
pub chain_at : (sizes : List ℕ) (depths : List (List CostTable)) (limit cells room p q : ℕ) (buckets : List Bucket) (bounds : List CostTable) → p ≡ q → IsChain sizes depths limit cells p buckets bounds room → IsChain sizes depths limit cells q buckets bounds room
chain_at sizes depths limit cells room p q buckets bounds e chain = subst (λ (n : ℕ). IsChain sizes depths limit cells n buckets bounds room) e chain

-- the buckets of all variables
pub chain_end : (sizes : List ℕ) (depths : List (List CostTable)) (limit cells room p : ℕ) (buckets : List Bucket) (bounds : List CostTable) → p ≤ 0 → IsChain sizes depths limit cells p buckets bounds room
    → (tables_in buckets ≡ depths) × AreMade sizes 0 buckets × AreReplacedDuly sizes (cells - kept_cells buckets) 0 buckets × AreMiniBuckets sizes limit cells 0 buckets
chain_end sizes depths limit cells room p buckets bounds none chain =
    let first = chain_at sizes depths limit cells room p 0 buckets bounds (omega (arith, none)) chain in
    let kept = first.kept in
    (first.tables, minis_made sizes limit cells 0 buckets first.minis, less_room sizes room (cells - kept_cells buckets) 0 buckets (omega (arith, kept)) first.replaced, first.minis)
