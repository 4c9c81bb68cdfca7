use Rattle.bucket_bounds.proofs.RestLaws.{first_bound}
use Rattle.bucket_bounds.proofs.law.first_bound_is_at_most_the_optimum.Goals as goal

pub returns : goal.returns
returns c = λ p shared buckets costs bounds value best optimum. first_bound p shared buckets costs bounds value best optimum
