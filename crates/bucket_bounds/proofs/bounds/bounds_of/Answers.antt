use Rattle.std.proofs.Common.{◌≡◌, ◌+◌, ◌++◌, ◌-◌, ℕ, min, not, List, reverse, sym, ap, ap₂, subst, ◌∙◌, arith}
use Rattle.std.specs.List.{All, filter}
use Rattle.std.proofs.lemmas.List.Elements.{All-cons}
use Rattle.dcop_base.specs.Limits.{joined_limit}
use Rattle.dcop_base.specs.Table.{CostTable, has}
use Rattle.bucket_bounds.specs.Bounds.{AreBucketBounds, kept_cells}
use Rattle.bucket_bounds.specs.Exact.{AreExactUnparted}
use Rattle.bucket_bounds.specs.Joining.{AreUncapped}
use Rattle.bucket_bounds.specs.Made.{IsItem, IsBoundTable, AreMade}
use Rattle.bucket_bounds.specs.MiniBuckets.{AreMiniBuckets}
use Rattle.bucket_bounds.specs.Parting.{IsPartedDuly, AreReplacedDuly}
use Rattle.bucket_bounds.specs.declared.bucket.Bucket.{Bucket}
use Rattle.bucket_bounds.proofs.ByCellsLaws.{turned_round}
use Rattle.bucket_bounds.proofs.RestLaws.{are_bounds, are_exact}
use Rattle.bucket_bounds.proofs.StepLaws.{IsChain, chain_at, next_items, next_bounds_are, next_uncapped, chain_next, chain_end, turned_more}
use Rattle.bucket_bounds.proofs.bounds.bounds_of.Goals as goal

pub next_bucket-requires-clause-tables : goal.next_bucket-requires-clause-tables
next_bucket-requires-clause-tables c =
    let sizes = c.args.sizes.now in
    let depths = c.args.depths.now in
    let p : ℕ = c.loop-place.place - 1 in
    let positive = c.loop-place-test.true in
    let bs : List Bucket = reverse c.loop-place.last_first.items in
    let chain = chain_at sizes depths c.min-widest.result c.args.cells c.loop-place.room c.loop-place.place (p + 1) bs c.loop-place.bounds.items (omega (arith, positive)) c.loop-place.invariant.0 in
    let within = chain.within in
    subst (λ (ts : List CostTable). All (IsItem sizes p) ts) (sym c.as_slice-tables.ensures)
    (next_items sizes depths c.min-widest.result c.args.cells c.loop-place.room p bs c.loop-place.bounds.items c.index-depths-place.result c.requires.depths (omega (arith, within)) c.index-depths-place.is chain)

pub next_bucket-requires-clause-bounds : goal.next_bucket-requires-clause-bounds
next_bucket-requires-clause-bounds c =
    let sizes = c.args.sizes.now in
    let depths = c.args.depths.now in
    let p : ℕ = c.loop-place.place - 1 in
    let positive = c.loop-place-test.true in
    let bs : List Bucket = reverse c.loop-place.last_first.items in
    let chain = chain_at sizes depths c.min-widest.result c.args.cells c.loop-place.room c.loop-place.place (p + 1) bs c.loop-place.bounds.items (omega (arith, positive)) c.loop-place.invariant.0 in
    let within = chain.within in
    subst (λ (ts : List CostTable). All (IsBoundTable sizes (p + 1)) ts) (sym c.as_slice.ensures.value)
    (next_bounds_are sizes depths c.min-widest.result c.args.cells c.loop-place.room p bs c.loop-place.bounds.items c.index-depths-place.result c.requires.depths (omega (arith, within)) c.index-depths-place.is chain)

pub next_bucket-requires-clause-capped : goal.next_bucket-requires-clause-capped
next_bucket-requires-clause-capped c =
    let sizes = c.args.sizes.now in
    let depths = c.args.depths.now in
    let p : ℕ = c.loop-place.place - 1 in
    let positive = c.loop-place-test.true in
    let bs : List Bucket = reverse c.loop-place.last_first.items in
    let chain = chain_at sizes depths c.min-widest.result c.args.cells c.loop-place.room c.loop-place.place (p + 1) bs c.loop-place.bounds.items (omega (arith, positive)) c.loop-place.invariant.0 in
    let within = chain.within in
    subst (λ (ts : List CostTable). AreUncapped sizes (ts ++ filter (λ t. has t.scope p) c.as_slice.result.now)) (sym c.as_slice-tables.ensures)
    (subst (λ (bounds : List CostTable). AreUncapped sizes (c.index-depths-place.result ++ filter (λ t. has t.scope p) bounds)) (sym c.as_slice.ensures.value)
    (next_uncapped sizes depths c.min-widest.result c.args.cells c.loop-place.room p bs c.loop-place.bounds.items c.index-depths-place.result c.requires.depths (omega (arith, within)) c.index-depths-place.is chain))

pub loop-place-preserved : goal.loop-place-preserved
loop-place-preserved c =
    let sizes = c.args.sizes.now in
    let depths = c.args.depths.now in
    let p : ℕ = c.loop-place.place - 1 in
    let positive = c.loop-place-test.true in
    let bs : List Bucket = reverse c.loop-place.last_first.items in
    let bounds : List CostTable = c.loop-place.bounds.items in
    let tables : List CostTable = c.index-depths-place.result in
    let made = c.in_ok-made.made in
    let next : List CostTable = c.in_ok-bounds.bounds.items in
    let chain = chain_at sizes depths c.min-widest.result c.args.cells c.loop-place.room c.loop-place.place (p + 1) bs bounds (omega (arith, positive)) c.loop-place.invariant.0 in
    let within = chain.within in
    let taken = c.in_ok-made.ensures.taken in
    let come = taken.1 ∙ ap (λ (ts : List CostTable). filter (λ (t : CostTable). has t.scope p) ts) c.as_slice.ensures.value in
    let now : next ≡ filter (λ t. not (has t.scope p)) bounds ++ made.bucket.sent =
    c.in_ok-bounds.ensures ∙ ap₂ (λ (ts us : List CostTable). filter (λ t. not (has t.scope p)) ts ++ us) c.as_slice-in-loop-place.ensures.value c.as_slice-in-loop-place-2.ensures in (
      subst (λ (bs : List Bucket). IsChain sizes depths c.min-widest.result c.args.cells p bs next made.room) (sym (turned_more c.loop-place.last_first.items c.push.new.self.items made.bucket c.in_ok-push.ensures.items))
          (chain_next sizes depths c.min-widest.result c.args.cells c.loop-place.room p bs bounds tables c.requires.depths (omega (arith, within)) c.index-depths-place.is chain made next (taken.0 ∙ c.as_slice-tables.ensures) come c.in_ok-made.ensures.mini c.in_ok-made.ensures.room now),
      c.loop-place.invariant.1,
      c.loop-place.invariant.2,
      subst (λ (bs : List Bucket). All (IsPartedDuly sizes c.min-widest.result) bs) (sym (turned_more c.loop-place.last_first.items c.push.new.self.items made.bucket c.in_ok-push.ensures.items))
          (All-cons (IsPartedDuly sizes c.min-widest.result) made.bucket bs c.in_ok-made.ensures.parted c.loop-place.invariant.3),
    )

pub returns-clause-bounds : goal.returns-clause-bounds
returns-clause-bounds c =
    let sizes = c.args.sizes.now in
    let depths = c.args.depths.now in
    let bs : List Bucket = reverse c.loop-place.last_first.items in
    let end = chain_end sizes depths c.min-widest.result c.args.cells c.loop-place.room c.loop-place.place bs c.loop-place.bounds.items c.loop-place-test.false c.loop-place.invariant.0 in
    let is = turned_round c.loop-place.last_first.items c.reverse.new.self c.as_mut_slice.result.now c.from_vec.result c.loop-place.last_first.len c.as_mut_slice.ensures.value c.reverse.ensures.after c.as_mut_slice.ensures.len c.from_vec.ensures in
    subst (λ (bs : List Bucket). AreBucketBounds sizes depths bs) (sym is) (are_bounds sizes depths bs end.0 c.requires.depths.many end.1)

pub returns-clause-exact : goal.returns-clause-exact
returns-clause-exact c =
    let sizes = c.args.sizes.now in
    let depths = c.args.depths.now in
    let bs : List Bucket = reverse c.loop-place.last_first.items in
    let end = chain_end sizes depths c.min-widest.result c.args.cells c.loop-place.room c.loop-place.place bs c.loop-place.bounds.items c.loop-place-test.false c.loop-place.invariant.0 in
    let is = turned_round c.loop-place.last_first.items c.reverse.new.self c.as_mut_slice.result.now c.from_vec.result c.loop-place.last_first.len c.as_mut_slice.ensures.value c.reverse.ensures.after c.as_mut_slice.ensures.len c.from_vec.ensures in
    subst (λ (bs : List Bucket). AreExactUnparted sizes depths bs) (sym is) (are_exact sizes depths bs end.0 end.1)

pub returns-clause-parted : goal.returns-clause-parted
returns-clause-parted c =
    let sizes = c.args.sizes.now in
    let is = turned_round c.loop-place.last_first.items c.reverse.new.self c.as_mut_slice.result.now c.from_vec.result c.loop-place.last_first.len c.as_mut_slice.ensures.value c.reverse.ensures.after c.as_mut_slice.ensures.len c.from_vec.ensures in
    subst (λ (bs : List Bucket). All (IsPartedDuly sizes (min c.args.limit joined_limit)) bs) (sym is)
    (subst (λ (limit : ℕ). All (IsPartedDuly sizes limit) (reverse c.loop-place.last_first.items)) c.loop-place.invariant.2 c.loop-place.invariant.3)

pub returns-clause-made : goal.returns-clause-made
returns-clause-made c =
    let sizes = c.args.sizes.now in
    let depths = c.args.depths.now in
    let bs : List Bucket = reverse c.loop-place.last_first.items in
    let end = chain_end sizes depths c.min-widest.result c.args.cells c.loop-place.room c.loop-place.place bs c.loop-place.bounds.items c.loop-place-test.false c.loop-place.invariant.0 in
    let is = turned_round c.loop-place.last_first.items c.reverse.new.self c.as_mut_slice.result.now c.from_vec.result c.loop-place.last_first.len c.as_mut_slice.ensures.value c.reverse.ensures.after c.as_mut_slice.ensures.len c.from_vec.ensures in
    subst (λ (bs : List Bucket). AreMade sizes 0 bs) (sym is) end.1

pub returns-clause-replaced : goal.returns-clause-replaced
returns-clause-replaced c =
    let sizes = c.args.sizes.now in
    let depths = c.args.depths.now in
    let bs : List Bucket = reverse c.loop-place.last_first.items in
    let end = chain_end sizes depths c.min-widest.result c.args.cells c.loop-place.room c.loop-place.place bs c.loop-place.bounds.items c.loop-place-test.false c.loop-place.invariant.0 in
    let is = turned_round c.loop-place.last_first.items c.reverse.new.self c.as_mut_slice.result.now c.from_vec.result c.loop-place.last_first.len c.as_mut_slice.ensures.value c.reverse.ensures.after c.as_mut_slice.ensures.len c.from_vec.ensures in
    subst (λ (bs : List Bucket). AreReplacedDuly sizes (c.args.cells - kept_cells bs) 0 bs) (sym is) end.2

pub returns-clause-buckets : goal.returns-clause-buckets
returns-clause-buckets c =
    let sizes = c.args.sizes.now in
    let depths = c.args.depths.now in
    let bs : List Bucket = reverse c.loop-place.last_first.items in
    let end = chain_end sizes depths c.min-widest.result c.args.cells c.loop-place.room c.loop-place.place bs c.loop-place.bounds.items c.loop-place-test.false c.loop-place.invariant.0 in
    let is = turned_round c.loop-place.last_first.items c.reverse.new.self c.as_mut_slice.result.now c.from_vec.result c.loop-place.last_first.len c.as_mut_slice.ensures.value c.reverse.ensures.after c.as_mut_slice.ensures.len c.from_vec.ensures in
    subst (λ (bs : List Bucket). AreMiniBuckets sizes (min c.args.limit joined_limit) c.args.cells 0 bs) (sym is)
    (subst (λ (limit : ℕ). AreMiniBuckets sizes limit c.args.cells 0 bs) c.loop-place.invariant.2 end.3)
