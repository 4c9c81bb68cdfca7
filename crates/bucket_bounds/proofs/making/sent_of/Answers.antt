use Rattle.std.proofs.Common.{◌≡◌, ◌+◌, ◌++◌, List, reverse, sym, subst}
use Rattle.std.specs.List.Sorted.{IsPermutation}
use Rattle.std.proofs.lemmas.List.Sorted.{IsPermutation-trans, IsPermutation-reverse}
use Rattle.std.proofs.lemmas.Result.{IfOk-weaker}
use Rattle.dcop_base.specs.Table.{CostTable}
use Rattle.dcop_base.specs.Faults.{cell_count}
use Rattle.bucket_bounds.specs.ByCells.{AreFalling, AreRising}
use Rattle.bucket_bounds.specs.Keeping.{IsKeptOf}
use Rattle.bucket_bounds.specs.MiniBuckets.{IsSentOf}
use Rattle.bucket_bounds.proofs.ByCellsLaws.{falling_none, rising_reverse, turned_round}
use Rattle.bucket_bounds.proofs.KeptLaws.{kept_order}
use Rattle.bucket_bounds.proofs.making.sent_of.Goals as goal

pub kept_of-requires : goal.kept_of-requires
kept_of-requires c =
    let none : List CostTable = c.new-smallest_first.result.items in
    let falling : List CostTable = c.put_by_cells.new.among.items in
    let turned : List CostTable = c.reverse.new.self in
    let now = turned_round falling turned c.as_mut_slice.result.now c.as_slice-2.result.now c.put_by_cells.new.among.len c.as_mut_slice.ensures.value c.reverse.ensures.after c.as_mut_slice.ensures.len c.as_slice-2.ensures.value in
    let are = c.in_ok-put_by_cells.ensures.falling (subst (λ (ts : List CostTable). AreFalling ts) (sym c.new-smallest_first.ensures.items) falling_none) in
    subst (λ (ts : List CostTable). AreRising ts) (sym now) (rising_reverse falling are)

pub returns-clause-sent : goal.returns-clause-sent
returns-clause-sent c =
    let projections : List CostTable = c.in_ok-projections.projections.items in
    let none : List CostTable = c.new-smallest_first.result.items in
    let falling : List CostTable = c.put_by_cells.new.among.items in
    let turned : List CostTable = c.reverse.new.self in
    let ordered : List CostTable = c.as_slice-2.result.now in
    let now : ordered ≡ reverse falling = turned_round falling turned c.as_mut_slice.result.now ordered c.put_by_cells.new.among.len c.as_mut_slice.ensures.value c.reverse.ensures.after c.as_mut_slice.ensures.len c.as_slice-2.ensures.value in
    let put : IsPermutation projections falling =
    subst (λ (ts : List CostTable). IsPermutation (ts ++ projections) falling) c.new-smallest_first.ensures.items
    (subst (λ (ts : List CostTable). IsPermutation (none ++ ts) falling) c.as_slice.ensures.value c.in_ok-put_by_cells.ensures.put) in
    let order : IsPermutation projections ordered = subst (λ (ts : List CostTable). IsPermutation projections ts) (sym now) (IsPermutation-trans projections falling (reverse falling) put (IsPermutation-reverse falling)) in
    IfOk-weaker c.kept_of.result (IsKeptOf c.args.room ordered) (λ kept. IsSentOf c.args.var c.args.room c.args.parts.now kept.sent.items kept.fixed kept.replaced)
    (λ kept is. record { projections = projections; each = c.in_ok-projections.ensures; kept = kept_order c.args.room projections ordered kept.sent.items kept.fixed kept.replaced order is.are }) c.kept_of.ensures

pub returns-clause-room : goal.returns-clause-room
returns-clause-room c =
    IfOk-weaker c.kept_of.result (IsKeptOf c.args.room c.as_slice-2.result.now) (λ kept. cell_count kept.sent.items + kept.room ≡ c.args.room) (λ kept is. is.left) c.kept_of.ensures
