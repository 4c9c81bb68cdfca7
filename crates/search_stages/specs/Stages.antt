-- The stages of a search, on the problem that is solved.
use Rattle.std.specs.Prelude.{◌≡◌, ℕ, zero, suc, ◌+◌, ◌<◌, ◌≤◌, max, true, false, List, Option, IfSome}
use Rattle.std.specs.List.{All}
use Rattle.dcop_base.specs.Limits.{joined_limit}
use Rattle.dcop_base.specs.Problem.{Dcop}
use Rattle.shared_costs.specs.declared.shared.SharedCosts.{SharedCosts}
use Rattle.bucket_bounds.specs.Bounds.{AreBucketBounds, kept_cells}
use Rattle.bucket_bounds.specs.MiniBuckets.{AreMiniBuckets}
use Rattle.bucket_bounds.specs.Parting.{IsPartedDuly}
use Rattle.bucket_bounds.specs.declared.bucket.Bucket.{Bucket}
use Rattle.bound_search.specs.Searched.{HasSearchEnded, IsBoundSearch}
use Rattle.bound_search.specs.declared.searching.Ended.{Ended}
use Rattle.search_stages.specs.declared.asked.Asked.{Asked}
use Rattle.search_stages.specs.declared.stages.Outcome.{Outcome}

-- the best known cost is more than the error above the bound
abbrev pub IsApart : ℕ → Option ℕ → ℕ → Type 0
IsApart error best lower = IfSome best (λ sum. lower + error < sum)

-- before the first stage nothing is found, no node is visited, and a cost below `best` is sought, if there is a `best`
pub record IsNothingYet (best : Option ℕ) (o : Outcome) : Type 0 where
  pub none : o.known.found ≡ false
  pub sought : o.known.best ≡ best
  pub nodes : o.known.nodes ≡ 0
  pub lower : o.ended.lower ≡ 0
  pub spent : o.ended.spent ≡ true

-- a stage with this budget and with this limit of the cells of a joined table, after stages that
-- had not ended. It is a search from what is known so far, by mini-bucket bounds of the shared
-- costs; buckets are parted only if they are too wide for the limit, and the bounds have at most as
-- many cells as were asked for. The lower bound after it is the greatest of all stages. The stages
-- are spent only if this search is, and if the best known cost is then more than the error above
-- that bound
pub record IsStage (p : Dcop) (shared : SharedCosts) (asked : Asked) (budget limit : ℕ) (before after : Outcome) : Type 0 where
  pub needed : before.ended.spent ≡ true
  pub within : budget ≤ asked.budget
  pub buckets : List Bucket
  pub bounds : AreBucketBounds p.sizes shared.depths buckets
  pub joined : limit ≤ joined_limit
  pub mini : AreMiniBuckets p.sizes limit asked.cells 0 buckets
  pub parted : All (IsPartedDuly p.sizes limit) buckets
  pub kept : kept_cells buckets ≤ asked.cells
  pub own : Ended
  pub searched : IsBoundSearch p shared.scale buckets asked.error budget before.known after.known own
  pub lower : after.ended.lower ≡ max own.lower before.ended.lower
  pub spent : after.ended.spent ≡ true → (own.spent ≡ true) × IsApart asked.error after.known.best after.ended.lower
  pub ended : after.ended.spent ≡ false → HasSearchEnded asked.error after.known after.ended.lower

-- the outcome of `count` stages, one after the other, all of the same shared costs: the first starts from nothing, each next one from the outcome of those before it, with a greater limit than theirs; the last one has this limit
abbrev pub AreStages : Dcop → SharedCosts → Asked → Option ℕ → ℕ → ℕ → Outcome → Type 0
AreStages p shared asked best zero limit o = IsNothingYet best o
AreStages p shared asked best (suc count) limit o = (budget earlier : ℕ) × (before : Outcome) × (earlier < limit) × AreStages p shared asked best count earlier before × IsStage p shared asked budget limit before o
