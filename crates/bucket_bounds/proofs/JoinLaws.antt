-- Laws of joined tables: zeros, tables that are added one by one, and what the joined table of a group is.
use Rattle.std.proofs.Common.{◌≡◌, ℕ, ◌+◌, ◌<◌, true, min, List, [], ◌∷◌, ◌++◌, map, length, take, get_or, replicate, slice_index, refl, sym, ap, ap₂, subst, ◌∙◌, arith}
use Rattle.std.specs.List.{All, AllZip}
use Rattle.std.proofs.lemmas.List.{take_more, get_or-replicate}
use Rattle.std.proofs.lemmas.List.Elements.{All-head, All-tail}
use Rattle.std.proofs.lemmas.List.Sums.{sum_by-cons}
use Rattle.std.proofs.lemmas.Slice.Zip.{all_zipped_more}
use Rattle.dcop_base.specs.Limits.{amount_limit}
use Rattle.dcop_base.specs.Table.{CostTable, IsTable, IsTableOfParts, AreWithin, product, cell_place, has}
use Rattle.dcop_base.specs.Values.{cell_with, cost_with}
use Rattle.dcop_base.proofs.TableLaws.{parts-of, cell_place-lt}
use Rattle.cost_table.specs.Cells.{cell_of, place_in}
use Rattle.util_kernel.specs.Lanes.{plus}
use Rattle.util_join.specs.Join.{IsSum, LiesIn}
use Rattle.shared_costs.specs.Tables.{IsTableOver}
use Rattle.bucket_bounds.specs.Groups.{IsGroup}
use Rattle.bucket_bounds.specs.Parting.{IsScopeOf, LiesAmong}
use Rattle.bucket_bounds.specs.Parts.{IsJoinOf}
use Rattle.bucket_bounds.specs.Joining.{AreUncapped, HasGainedCosts, IsBucketCostOf, IsZeroFor}
use Rattle.bucket_bounds.specs.declared.group.Group.{Group}
use Rattle.bucket_bounds.specs.Union.{IsTurned}
use Rattle.bucket_bounds.proofs.GroupLaws.{all_had, had_of, scope_within, scope_one}
use Rattle.bucket_bounds.proofs.KeptLaws.{cost_more}
use Rattle.bucket_bounds.proofs.ProjectLaws.{read_map, within_map}

-- a table of zeros costs nothing
pub zeros_cost : (over sizes : List ℕ) (t : CostTable) → IsTableOfParts over sizes (replicate (product sizes) 0) t → IsBucketCostOf over sizes (λ value. 0) t
zeros_cost over sizes t parts = record {
  same_scope = parts.0;
  same_sizes = parts.1;
  cells = λ value within.
      let place = cell_place sizes (map value over) in
      ap (λ (cs : List ℕ). get_or cs (cell_place t.sizes (map value t.scope)) 0) parts.2
      ∙ ap (λ (ss : List ℕ). get_or (replicate (product sizes) 0) (cell_place ss (map value t.scope)) 0) parts.1
      ∙ ap (λ (vs : List ℕ). get_or (replicate (product sizes) 0) (cell_place sizes (map value vs)) 0) parts.0
      ∙ get_or-replicate (product sizes) place 0 0 (cell_place-lt sizes (map value over) within);
}

-- the same costs
same_costs : (over sizes : List ℕ) (f g : (ℕ → ℕ) → ℕ) (t : CostTable) → IsBucketCostOf over sizes f t → ((value : ℕ → ℕ) → f value ≡ g value) → IsBucketCostOf over sizes g t
same_costs over sizes f g t is same = record {
  same_scope = is.same_scope;
  same_sizes = is.same_sizes;
  cells = λ value within. is.cells value within ∙ ap (λ (n : ℕ). min n amount_limit) (same value);
}

-- one more table
sum_more : (over sizes : List ℕ) (f : (ℕ → ℕ) → ℕ) (old t new : CostTable) → IsBucketCostOf over sizes f old → IsSum old t new → IsBucketCostOf over sizes (λ value. f value + cell_with t value) new
sum_more over sizes f old t new is sum = record {
  same_scope = sum.same_scope ∙ is.same_scope;
  same_sizes = sum.same_sizes ∙ is.same_sizes;
  cells = λ value within.
      let inside : AreWithin old.sizes (map value old.scope) =
      subst (λ (ss : List ℕ). AreWithin ss (map value old.scope)) (sym is.same_sizes) (subst (λ (vs : List ℕ). AreWithin sizes (map value vs)) (sym is.same_scope) within) in
      let at : cell_with new value ≡ plus (cell_with old value) (cell_with t value) = ap (λ (vs : List ℕ). cell_of new (map value vs)) sum.same_scope ∙ sum.cells value inside in
      let here = is.cells value within in
      omega (arith, at, here);
}

-- a table that gained nothing, or one table more
pub gained_none : (t : CostTable) → HasGainedCosts [] t t
gained_none t = record {
  same_scope = refl;
  same_sizes = refl;
  costs = λ f is. same_costs t.scope t.sizes f (λ value. f value + 0) t is (λ value. omega arith);
}

pub gained_more : (ts : List CostTable) (k : ℕ) (old now t new : CostTable) → k < length ts → t ≡ get_or ts k t → HasGainedCosts (take k ts) old now → IsSum now t new → HasGainedCosts (take (k + 1) ts) old new
gained_more ts k old now t new lt is gained sum =
    let next : take (k + 1) ts ≡ take k ts ++ t ∷ [] = take_more ts k t lt ∙ ap (λ (u : CostTable). take k ts ++ u ∷ []) (sym is) in
    subst (λ (us : List CostTable). HasGainedCosts us old new) (sym next) (record {
      same_scope = sum.same_scope ∙ gained.same_scope;
      same_sizes = sum.same_sizes ∙ gained.same_sizes;
      costs = λ f is.
          let more = sum_more old.scope old.sizes (λ value. f value + cost_with (take k ts) value) now t new (gained.costs f is) sum in
          same_costs old.scope old.sizes (λ value. (f value + cost_with (take k ts) value) + cell_with t value) (λ value. f value + cost_with (take k ts ++ t ∷ []) value) new more
          (λ value. let e = cost_more (take k ts) t value in omega (arith, e));
    })

at_itself : (over sizes : List ℕ) (f : (ℕ → ℕ) → ℕ) (t : CostTable) → IsBucketCostOf over sizes f t → IsBucketCostOf t.scope t.sizes f t
at_itself over sizes f t is =
    subst (λ (ss : List ℕ). IsBucketCostOf t.scope ss f t) (sym is.same_sizes) (subst (λ (vs : List ℕ). IsBucketCostOf vs sizes f t) (sym is.same_scope) is)

pub gains : (over sizes : List ℕ) (f : (ℕ → ℕ) → ℕ) (ts : List CostTable) (old new : CostTable) → IsBucketCostOf over sizes f old → HasGainedCosts ts old new → IsBucketCostOf over sizes (λ value. f value + cost_with ts value) new
gains over sizes f ts old new is gained =
    subst (λ (ss : List ℕ). IsBucketCostOf over ss (λ value. f value + cost_with ts value) new) is.same_sizes
    (subst (λ (vs : List ℕ). IsBucketCostOf vs old.sizes (λ value. f value + cost_with ts value) new) is.same_scope (gained.costs f (at_itself over sizes f old is)))

-- tables over the variables of a group lie in a table over all of them
read_each : (f : ℕ → ℕ) (over vs : List ℕ) → All (λ v. has over v ≡ true) vs → map f vs ≡ map (λ v. slice_index (map f over) (place_in over v)) vs
read_each f over [] all = refl
read_each f over (v ∷ vs) all =
    ap₂ (λ (x : ℕ) (xs : List ℕ). x ∷ xs) (sym (read_map f over v (All-head (λ v. has over v ≡ true) v vs all))) (read_each f over vs (All-tail (λ v. has over v ≡ true) v vs all))

pub held_lies : (sizes vars : List ℕ) (zero t : CostTable) → IsZeroFor sizes vars zero → IsTableOver sizes t → LiesAmong vars t → LiesIn zero.scope zero.sizes t
held_lies sizes vars zero t is table named =
    let f : ℕ → ℕ = λ v. slice_index sizes v in
    let over = is.over in
    let among : All (λ v. has over v ≡ true) t.scope = λ k d lt. is.turned.same (get_or t.scope k d) ∙ named k d lt in
    let lies : LiesIn over (map f over) t = record { among = among; sized = table.sized ∙ read_each f over t.scope among } in
    subst (λ (vs : List ℕ). LiesIn vs zero.sizes t) (sym is.zero.same_scope) (subst (λ (ss : List ℕ). LiesIn over ss t) (sym is.zero.same_sizes) lies)

-- what holds of variables holds of them in another order
pub turned_all : (P : ℕ → Type 0) (vars over : List ℕ) → IsTurned vars over → All P vars → All P over
turned_all P vars over turned all = all_had P over (λ u h. had_of P vars u all (sym (turned.same u) ∙ h))

-- what was made of zeros by adding the tables of a group is its joined table
pub join_is : (sizes : List ℕ) (limit : ℕ) (g : Group) (zero t : CostTable) → IsGroup sizes limit g → AreUncapped sizes g.tables.items → IsZeroFor sizes g.vars zero → HasGainedCosts g.tables.items zero t → IsTable t → IsJoinOf sizes g.tables.items t
join_is sizes limit g zero t group uncapped is gained whole =
    let f : ℕ → ℕ = λ v. slice_index sizes v in
    let over = is.over in
    let cost = gains over (map f over) (λ value. 0) g.tables.items zero t is.zero gained in
    let within = turned_all (λ v. v < length sizes) g.vars over is.turned (scope_within sizes g.tables.items g.vars group.tables group.vars) in
    record {
      some = group.some;
      table = record {
        whole = whole;
        within = subst (λ (vs : List ℕ). All (λ v. v < length sizes) vs) (sym cost.same_scope) within;
        sized = cost.same_sizes ∙ ap (λ (vs : List ℕ). map f vs) (sym cost.same_scope);
      };
      scope = subst (λ (vs : List ℕ). IsScopeOf g.tables.items vs) (sym cost.same_scope)
          (record { apart = is.turned.apart group.vars.apart; both = λ u. is.turned.same u ∙ group.vars.both u });
      cells = λ value are. let cell = cost.cells value (within_map sizes value over are within) in let small = uncapped value are in omega (arith, cell, small);
    }

-- the joined table of one table is the table
pub join_one : (sizes : List ℕ) (limit : ℕ) (g : Group) (t copy : CostTable) → IsGroup sizes limit g → g.tables.items ≡ t ∷ [] → copy ≡ t → IsJoinOf sizes g.tables.items copy
join_one sizes limit g t copy group one same =
    let over = All-head (IsTableOver sizes) t [] (subst (λ (ts : List CostTable). All (IsTableOver sizes) ts) one group.tables) in
    subst (λ (u : CostTable). IsJoinOf sizes g.tables.items u) (sym same) (subst (λ (ts : List CostTable). IsJoinOf sizes ts t) (sym one) (record {
      some = omega arith;
      table = over;
      scope = scope_one t t.scope (parts-of t.scope t.sizes t.cells over.whole).apart (λ u. refl);
      cells = λ value are. let only = sum_by-cons (λ (u : CostTable). cell_with u value) t [] in omega (arith, only);
    }))

-- the joined tables of groups, one more
pub joined_more : (sizes : List ℕ) (groups : List Group) (k : ℕ) (g : Group) (ts news : List CostTable) (t : CostTable) → k < length groups → g ≡ get_or groups k g → AllZip (λ g t. IsJoinOf sizes g.tables.items t) (take k groups) ts → IsJoinOf sizes g.tables.items t → news ≡ ts ++ t ∷ []
    → AllZip (λ g t. IsJoinOf sizes g.tables.items t) (take (k + 1) groups) news
joined_more sizes groups k g ts news t lt is before join e =
    let Joins : Group → CostTable → Type 0 = λ g t. IsJoinOf sizes g.tables.items t in
    let next : take (k + 1) groups ≡ take k groups ++ g ∷ [] = take_more groups k g lt ∙ ap (λ (u : Group). take k groups ++ u ∷ []) (sym is) in
    subst (λ (gs : List Group). AllZip Joins gs news) (sym next) (subst (λ (us : List CostTable). AllZip Joins (take k groups ++ g ∷ []) us) (sym e) (all_zipped_more Joins (take k groups) ts g t before join))
