use Rattle.bucket_bounds.proofs.MiniLaws.{minis_made}
use Rattle.bucket_bounds.proofs.RestLaws.{at_most_rest}
use Rattle.bucket_bounds.proofs.law.mini_buckets_are_at_most_the_rest.Goals as goal

pub returns : goal.returns
returns c = λ sizes limit cells buckets minis p value least rest. at_most_rest sizes buckets (minis_made sizes limit cells 0 buckets minis) p value least rest
