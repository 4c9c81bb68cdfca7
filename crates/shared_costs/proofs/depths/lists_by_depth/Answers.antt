use Rattle.std.proofs.Common.{◌≡◌, ◌≤◌, ◌<◌, ℕ, true, List, [], ◌∷◌, ◌++◌, Vec, Global, length, get_or, map, sym, ap, ap₂, ◌∙◌, subst, arith}
use Rattle.std.specs.List.{All}
use Rattle.std.proofs.lemmas.List.{length-map, get_or-map, get_or_read, map-set}
use Rattle.std.proofs.lemmas.List.Elements.{All-map}
use Rattle.dcop_base.specs.Table.{CostTable, has}
use Rattle.shared_costs.specs.Tables.{IsTableOver, IsOfDepth}
use Rattle.shared_costs.specs.Depths.{AreByDepth}
use Rattle.shared_costs.proofs.DepthLaws.{depths-none, depths-push, last-holds, others-hold, var-below}
use Rattle.shared_costs.proofs.depths.lists_by_depth.Goals as goal

pub loop-table-init : goal.loop-table-init
loop-table-init c =
    let lists = c.loop.lists.items in
    record {
      each = c.requires.each;
      some = c.requires.some;
      depths = depths-none c.args.sizes.now c.args.tables.items (map (λ list. list.items) lists) (omega (arith, length-map lists (λ list. list.items), c.loop.lists.ok.0, c.loop.invariant.many, c.loop.auto.counter-end, c.loop-test.false))
          (All-map (λ (ts : List CostTable). ts ≡ []) (λ list. list.items) lists c.loop.invariant.none);
    }

pub last_of-depth-requires : goal.last_of-depth-requires
last_of-depth-requires c =
    let some = last-holds (λ (t : CostTable). 1 ≤ length t.scope) c.loop-table.tables.items _ c.in-Some.table c.in-Some.ensures.items c.loop-table.invariant.some in
    omega (arith, some, ap (λ (xs : List ℕ). length xs) c.scope.ensures)

pub index_mut-requires : goal.index_mut-requires
index_mut-requires c =
    let over = last-holds (IsTableOver c.args.sizes.now) c.loop-table.tables.items _ c.in-Some.table c.in-Some.ensures.items c.loop-table.invariant.each in
    let stands = subst (λ (xs : List ℕ). has xs c.last_of-depth.result ≡ true) c.scope.ensures c.last_of-depth.ensures.stands in
    let below = var-below (length c.args.sizes.now) c.in-Some.table.scope c.last_of-depth.result stands over.within in
    omega (arith, below, c.depth.view_is, length-map c.loop-table.lists.items (λ list. list.items), c.loop-table.lists.ok.0, c.loop-table.invariant.depths.many)

pub loop-table-preserved : goal.loop-table-preserved
loop-table-preserved c =
    let sizes = c.args.sizes.now in
    let t = c.in-Some.table in
    let p = c.depth.inside.0 in
    let now = c.loop-table.lists.items in
    let items = c.in-Some.ensures.items in
    let over = last-holds (IsTableOver sizes) c.loop-table.tables.items _ t items c.loop-table.invariant.each in
    let stands = subst (λ (xs : List ℕ). has xs c.last_of-depth.result ≡ true) c.scope.ensures c.last_of-depth.ensures.stands in
    let last = subst (λ (xs : List ℕ). All (λ v. v ≤ c.last_of-depth.result) xs) c.scope.ensures c.last_of-depth.ensures.last in
    let of : IsOfDepth p t = subst (λ (n : ℕ). IsOfDepth n t) (sym c.depth.view_is) (record { names = stands; last = last }) in
    let below : p < length sizes = omega (arith, var-below (length sizes) t.scope c.last_of-depth.result stands over.within, c.depth.view_is) in
    let inside : p < length now = omega (arith, below, length-map now (λ list. list.items), c.loop-table.invariant.depths.many) in
    let f : Vec CostTable Global → List CostTable = λ list. list.items in
    let at : c.index_mut.result.now.items ≡ get_or (map f now) p [] = ap f (get_or_read now p c.index_mut.result.now inside c.index_mut.ensures.value c.index_mut.result.now) ∙ sym (get_or-map f now p c.index_mut.result.now [] inside) in
    let list : c.push-in-Some.new.self.items ≡ get_or (map f now) p [] ++ (t ∷ []) = c.in_ok-push-2.ensures.items ∙ ap₂ (λ (xs : List CostTable) (t : CostTable). xs ++ (t ∷ [])) at c.in_ok-shared.ensures in
    record {
      each = others-hold (IsTableOver sizes) c.loop-table.tables.items _ t items c.loop-table.invariant.each;
      some = others-hold (λ (t : CostTable). 1 ≤ length t.scope) c.loop-table.tables.items _ t items c.loop-table.invariant.some;
      depths = subst (λ (depths : List (List CostTable)). AreByDepth sizes c.args.tables.items c.pop.new.self.items depths) (sym (map-set f now p c.push-in-Some.new.self))
          (depths-push sizes c.args.tables.items c.loop-table.tables.items c.pop.new.self.items (map f now) p t c.push-in-Some.new.self.items below over of items list c.loop-table.invariant.depths);
    }
