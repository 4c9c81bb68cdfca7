use Rattle.std.proofs.Common.{◌≡◌, nat_eq, sym, subst}
use Rattle.std.specs.List.{count_by}
use Rattle.certificate_text.specs.declared.certificate.Turn.{Turn}
use Rattle.certificate_check.proofs.turns.least_cell.Goals as goal

pub util_of-requires : goal.util_of-requires
util_of-requires c =
    let one = c.requires c.loop-turn.turn-index c.turn-item.result c.loop-turn-test.true in
    rw c.as_slice.ensures (subst (λ (t : Turn). count_by (λ u. nat_eq u.var c.args.var) t.tables ≡ 1) (sym c.turn-item.is) one)
