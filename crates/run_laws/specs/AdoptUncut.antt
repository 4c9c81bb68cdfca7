-- Bounds that are not cut off at the cap: each is the plain sum.
use Rattle.std.specs.Prelude.{◌≡◌, ℕ, ◌+◌, ◌<◌, slice_index}
use Rattle.std.specs.List.{filter}
use Rattle.dcop_base.specs.Problem.{Dcop}
use Rattle.dcop_base.specs.Values.{cost_with, with_own}
use Rattle.adopt_context.specs.Bounds.{row_at, plus_bound, capped, lower_sum, upper_sum}
use Rattle.protocol_steps.specs.Values.{valued}
use Rattle.protocol_steps.specs.Adopt.{AdoptView}
use Rattle.protocol_steps.specs.AdoptBounds.{counts, delta, whole_delta, lower_of, upper_of, best_lower, best_upper}

-- the cost of d by the tables that count, without the cap
abbrev pub counted_sum : AdoptView → ℕ → ℕ
counted_sum v d = cost_with (filter (counts v) v.own.tables) (with_own v.own.me d (valued v.known))

-- δ(d), LB(d), UB(d) and the sum of the children's upper bounds are plain sums: the cap changes
-- none of them
pub record IsUncutAt (v : AdoptView) (d : ℕ) : Type 0 where
  pub own : delta v d ≡ counted_sum v d
  pub lower : lower_of v d ≡ delta v d + lower_sum (row_at v.rows d)
  pub children : capped (upper_sum (row_at v.rows d)) ≡ upper_sum (row_at v.rows d)
  pub upper : upper_of v d ≡ plus_bound (whole_delta v d) (upper_sum (row_at v.rows d))

-- `IsUncutAt` holds for each own value of the agent of variable i, and likewise for the value whose
-- LB(d) is LB, the least, and for the value whose UB(d) is UB, the least
pub record AreUncut (p : Dcop) (i : ℕ) (v : AdoptView) : Type 0 where
  pub each : (d : ℕ) → d < slice_index p.sizes i → IsUncutAt v d
  pub lower : IsUncutAt v (best_lower v)
  pub upper : IsUncutAt v (best_upper v)
