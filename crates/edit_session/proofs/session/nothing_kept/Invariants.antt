use Rattle.std.proofs.Common.{◌≡◌, None, replicate}
use Rattle.edit_session.proofs.session.nothing_kept.Given as goal

abbrev pub invariant-loop-agent : goal.invariant-loop-agent
invariant-loop-agent l = l.kept.items ≡ replicate l._agent None
