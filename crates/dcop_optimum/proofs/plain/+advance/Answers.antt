use Rattle.std.proofs.Common.{arith}
use Rattle.dcop_optimum.proofs.PlaceLaws.{within_parts}
use Rattle.dcop_optimum.proofs.plain.+advance.Goals as goal

pub overflow_add-next : goal.overflow_add-next
overflow_add-next t c =
    let parts = within_parts _ _ _ _ _ _ c.requires c.in-Some.ensures.cases.0 c.in-Some-split_first_mut.ensures.cases.0 in
    let fits = rw c.in-Some.ensures.cases.0 at (c.type_inv.sizes 0) in
    let view = c.value.view_is in
    let below = parts.0 in
    omega arith
