-- Laws of the parts of a bucket.
use Rattle.std.proofs.Common.{◌≡◌, ℕ, true, ◌<◌, ◌≤◌, List, [], ◌∷◌, ◌++◌, map, length, take, drop, slice_index, refl, sym, ap, subst, ◌∙◌, inl, inr, arith}
use Rattle.std.specs.List.{All, AllZip, flat_map}
use Rattle.std.specs.List.Sorted.{IsPermutation}
use Rattle.std.proofs.lemmas.List.{take_all, drop_all, append-nil}
use Rattle.std.proofs.lemmas.List.Elements.{All-nil, All-cons, All-head, All-tail, All-append}
use Rattle.std.proofs.lemmas.List.Sorted.{All-permutation, sum_by-IsPermutation, IsPermutation-append_left, IsPermutation-trans}
use Rattle.std.proofs.lemmas.List.Sums.{sum_by-append}
use Rattle.std.proofs.lemmas.Slice.Zip.{AllZip-long}
use Rattle.dcop_base.specs.Limits.{amount_limit}
use Rattle.dcop_base.specs.Table.{CostTable, product, has}
use Rattle.dcop_base.specs.Values.{cell_with, cost_with}
use Rattle.dcop_base.proofs.TableLaws.{parts-of}
use Rattle.shared_costs.specs.Tables.{AreTablesOver}
use Rattle.shared_costs.specs.Sharing.{IsShare}
use Rattle.shared_costs.proofs.ShareLaws.{share-none}
use Rattle.bucket_bounds.specs.Groups.{IsGroup, AreGroups, tables_of}
use Rattle.bucket_bounds.specs.Made.{IsItem}
use Rattle.bucket_bounds.specs.Parting.{AreTooWide, ArePartedDuly}
use Rattle.bucket_bounds.specs.Joining.{AreUncapped}
use Rattle.bucket_bounds.specs.Parts.{IsJoinOf, IsGroupNarrow, AreGroupsJoined}
use Rattle.bucket_bounds.specs.declared.group.Group.{Group}
use Rattle.bucket_bounds.proofs.GroupLaws.{all_had, scope_sizes}
use Rattle.bucket_bounds.proofs.MiniLaws.{joined_over, joined_cost, share_long}
use Rattle.bucket_bounds.proofs.PartingLaws.{parted_wide, product-among}

-- what a list holds after all of it was written in place
pub rewritten : (old new : List CostTable) (len : ℕ) → length old ≡ len → length new ≡ length old → take len (new ++ drop (length new) old) ≡ new
rewritten old new len long same =
    ap (λ (ts : List CostTable). take len (new ++ ts)) (drop_all (length new) old (omega (arith, same))) ∙ ap (λ (ts : List CostTable). take len ts) (append-nil new) ∙ take_all len new (omega (arith, same, long))

-- nothing was shared
pub share_none : (sizes : List ℕ) (p : ℕ) (ts : List CostTable) → p < length sizes → AreTablesOver sizes ts → IsShare sizes p ts ts
share_none sizes p ts lt over = share-none sizes p ts lt over

-- the tables of each group
abbrev lists_of : List Group → List (List CostTable)
lists_of groups = map (λ g. g.tables.items) groups

flat_lists : (groups : List Group) → flat_map (λ group. group) (lists_of groups) ≡ tables_of groups
flat_lists [] = refl
flat_lists (g ∷ gs) = ap (λ (ts : List CostTable). g.tables.items ++ ts) (flat_lists gs)

list_joins : (sizes : List ℕ) (groups : List Group) (ts : List CostTable) → AllZip (λ g t. IsJoinOf sizes g.tables.items t) groups ts → AllZip (IsJoinOf sizes) (lists_of groups) ts
list_joins sizes [] [] joins = tt
list_joins sizes [] (t ∷ ts) joins = absurd joins
list_joins sizes (g ∷ gs) [] joins = absurd joins
list_joins sizes (g ∷ gs) (t ∷ ts) joins = (joins.0, list_joins sizes gs ts joins.1)

-- the joined table of a group has no more cells than the group
narrow_one : (sizes : List ℕ) (limit : ℕ) (g : Group) (t : CostTable) → IsGroup sizes limit g → IsJoinOf sizes g.tables.items t → IsGroupNarrow limit g.tables.items t
narrow_one sizes limit g t group join = elim group.few [
  | inl one ↦ inl one
  | inr small ↦
      let parts = parts-of t.scope t.sizes t.cells join.table.whole in
      let among = all_had (λ v. has g.vars v ≡ true) t.scope (λ u h. group.vars.both u ∙ sym (join.scope.both u) ∙ h) in
      let low = product-among (λ v. slice_index sizes v) t.scope g.vars parts.apart among (scope_sizes sizes g.tables.items g.vars group.tables group.vars) in
      let count = parts.full ∙ ap product join.table.sized in
      let cells = group.cells in
      inr (omega (arith, low, count, cells, small))
]

narrow_all : (sizes : List ℕ) (limit : ℕ) (groups : List Group) (ts : List CostTable) → All (IsGroup sizes limit) groups → AllZip (λ g t. IsJoinOf sizes g.tables.items t) groups ts → AllZip (IsGroupNarrow limit) (lists_of groups) ts
narrow_all sizes limit [] [] each joins = tt
narrow_all sizes limit [] (t ∷ ts) each joins = absurd joins
narrow_all sizes limit (g ∷ gs) [] each joins = absurd joins
narrow_all sizes limit (g ∷ gs) (t ∷ ts) each joins =
    (narrow_one sizes limit g t (All-head (IsGroup sizes limit) g gs each) joins.0, narrow_all sizes limit gs ts (All-tail (IsGroup sizes limit) g gs each) joins.1)

-- the tables of one group cost at most what those of all groups cost
group_cost : (groups : List Group) (value : ℕ → ℕ) (most : ℕ) → cost_with (tables_of groups) value ≤ most → All (λ g. cost_with g.tables.items value ≤ most) groups
group_cost [] value most le = All-nil (λ g. cost_with g.tables.items value ≤ most)
group_cost (g ∷ gs) value most le =
    let sum = sum_by-append (λ (t : CostTable). cell_with t value) g.tables.items (tables_of gs) in
    All-cons (λ (g : Group). cost_with g.tables.items value ≤ most) g gs (omega (arith, sum, le)) (group_cost gs value most (omega (arith, sum, le)))

-- a bucket's tables and bounds, by falling number of cells
module _ (sizes : List ℕ) (p : ℕ) (tables came none first items : List CostTable) (empty : none ≡ []) (put : IsPermutation (none ++ tables) first) (more : IsPermutation (first ++ came) items) (own : All (IsItem sizes p) tables) (bounds : All (IsItem sizes p) came) (uncapped : AreUncapped sizes (tables ++ came)) where
  order : IsPermutation (tables ++ came) items
  order =
      let start : IsPermutation tables first = subst (λ (ts : List CostTable). IsPermutation (ts ++ tables) first) empty put in
      IsPermutation-trans (tables ++ came) (first ++ came) items (IsPermutation-append_left came tables first start) more

  pub items_are : All (IsItem sizes p) items
  items_are = All-permutation (IsItem sizes p) (tables ++ came) items order (All-append (IsItem sizes p) tables came own bounds)

  module _ (limit : ℕ) (groups : List Group) (parted : AreGroups sizes limit items groups) where
    whole : IsPermutation (tables ++ came) (tables_of groups)
    whole = IsPermutation-trans (tables ++ came) items (tables_of groups) order parted.parted

    cost : (value : ℕ → ℕ) → cost_with (tables_of groups) value ≡ cost_with (tables ++ came) value
    cost value = sum_by-IsPermutation (λ (t : CostTable). cell_with t value) (tables ++ came) (tables_of groups) whole

    pub groups_uncapped : All (λ g. AreUncapped sizes g.tables.items) groups
    groups_uncapped k d lt value are = group_cost groups value amount_limit (let same = cost value in let small = uncapped value are in omega (arith, same, small)) k d lt

    module _ (joined : List CostTable) (joins : AllZip (λ g t. IsJoinOf sizes g.tables.items t) groups joined) where
      pub joined_are : AreTablesOver sizes joined
      joined_are = record {
        each = joined_over sizes (lists_of groups) joined (list_joins sizes groups joined joins);
        capped = λ value are.
            let sum = joined_cost sizes (lists_of groups) joined value (list_joins sizes groups joined joins) are in
            let flat = ap (λ (ts : List CostTable). cost_with ts value) (flat_lists groups) in
            let same = cost value in
            let small = uncapped value are in
            omega (arith, sum, flat, same, small);
      }

      module _ (parts : List CostTable) (shared : IsShare sizes p joined parts) where
        pub parts_are : AreGroupsJoined sizes limit p (tables ++ came) parts
        parts_are = record {
          groups = lists_of groups;
          parted = subst (λ (ts : List CostTable). IsPermutation (tables ++ came) ts) (sym (flat_lists groups)) whole;
          joined = joined;
          joins = list_joins sizes groups joined joins;
          narrow = narrow_all sizes limit groups joined parted.each joins;
          shared = shared;
        }

        pub parted_is : ArePartedDuly sizes limit items groups → 2 ≤ length parts → AreTooWide sizes limit (tables ++ came)
        parted_is duly two =
            let all = All-append (IsItem sizes p) tables came own bounds in
            let long = share_long sizes p joined parts shared in
            let many = AllZip-long (λ (g : Group) (t : CostTable). IsJoinOf sizes g.tables.items t) groups joined joins in
            parted_wide sizes limit (tables ++ came) items groups order (λ k d lt. (all k d lt).0) duly (omega (arith, two, long, many))
