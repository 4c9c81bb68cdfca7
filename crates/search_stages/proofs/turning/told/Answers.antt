use Rattle.std.proofs.Common.{refl}
use Rattle.search_stages.proofs.turning.told.Goals as goal

pub returns : goal.returns
returns c = record {
  outcome = c.args.outcome;
  came = c.requires;
  told = rw (c.ending_of.ensures, c.told_sum.ensures, c.found_of.ensures, c.top_sum-top.ensures.sum) refl;
}
