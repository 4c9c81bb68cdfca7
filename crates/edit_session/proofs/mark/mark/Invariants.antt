use Rattle.std.proofs.Common.{◌≡◌, ℕ, ◌<◌, ◌||◌, length, take}
use Rattle.dcop_base.specs.Table.{has}
use Rattle.edit_session.specs.State.{is_touched}
use Rattle.edit_session.proofs.mark.mark.Given as goal

abbrev pub invariant-loop-var : goal.invariant-loop-var
invariant-loop-var l = (v : ℕ) → v < length l.touched → is_touched l.touched v ≡ (is_touched l.fn.touched v || has (take l.var-index l.vars) v)
