use Rattle.bucket_bounds.proofs.RestLaws.{at_most_rest}
use Rattle.bucket_bounds.proofs.law.bounds_are_at_most_the_rest.Goals as goal

pub returns : goal.returns
returns c = λ sizes buckets made p value least rest. at_most_rest sizes buckets made p value least rest
