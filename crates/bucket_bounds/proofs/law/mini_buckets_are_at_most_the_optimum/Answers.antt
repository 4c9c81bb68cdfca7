use Rattle.bucket_bounds.proofs.MiniLaws.{minis_made}
use Rattle.bucket_bounds.proofs.RestLaws.{are_bounds, first_bound}
use Rattle.bucket_bounds.proofs.law.mini_buckets_are_at_most_the_optimum.Goals as goal

pub returns : goal.returns
returns c = λ p shared limit cells buckets costs tables minis value best optimum.
    first_bound p shared buckets costs (are_bounds p.sizes shared.depths buckets tables costs.depths.many (minis_made p.sizes limit cells 0 buckets minis)) value best optimum
