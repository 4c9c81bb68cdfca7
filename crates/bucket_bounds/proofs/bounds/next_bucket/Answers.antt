use Rattle.std.proofs.Common.{◌++◌, List, sym, ap₂, subst, ◌∙◌}
use Rattle.std.specs.List.{All}
use Rattle.dcop_base.specs.Table.{CostTable}
use Rattle.bucket_bounds.specs.Joining.{AreUncapped}
use Rattle.bucket_bounds.specs.Made.{IsItem}
use Rattle.bucket_bounds.proofs.MiniLaws.{come_items}
use Rattle.bucket_bounds.proofs.bounds.next_bucket.Goals as goal

pub bucket_with-requires-clause-came : goal.bucket_with-requires-clause-came
bucket_with-requires-clause-came c =
    subst (λ (ts : List CostTable). All (IsItem c.args.sizes.now c.args.var) ts) (sym (c.from_vec-came.ensures ∙ c.in_ok-naming.ensures))
    (come_items c.args.sizes.now c.args.var c.args.bounds.now c.requires.bounds)

pub bucket_with-requires-clause-capped : goal.bucket_with-requires-clause-capped
bucket_with-requires-clause-capped c =
    subst (λ (ts : List CostTable). AreUncapped c.args.sizes.now ts)
    (sym (ap₂ (λ (ts us : List CostTable). ts ++ us) (c.from_vec-tables.ensures ∙ c.in_ok-clones_of.ensures) (c.from_vec-came.ensures ∙ c.in_ok-naming.ensures))) c.requires.capped
