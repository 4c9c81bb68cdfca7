use Rattle.std.proofs.Common.{refl}
use Rattle.bucket_bounds.specs.Bounds.{tables_in}
use Rattle.bucket_bounds.proofs.MiniLaws.{minis_made}
use Rattle.bucket_bounds.proofs.RestLaws.{are_exact}
use Rattle.bucket_bounds.proofs.law.unparted_mini_buckets_are_exact.Goals as goal

pub returns : goal.returns
returns c = λ sizes limit cells buckets minis. are_exact sizes (tables_in buckets) buckets refl (minis_made sizes limit cells 0 buckets minis)
