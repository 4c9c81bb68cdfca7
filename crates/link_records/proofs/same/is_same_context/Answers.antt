use Rattle.std.proofs.Common.{sym, ◌∙◌}
use Rattle.std.proofs.lemmas.Slice.Eq.{slice_eq-Decides}
use Rattle.link_records.proofs.SameLaws.{pairs_decide}
use Rattle.link_records.proofs.same.is_same_context.Goals as goal

pub returns : goal.returns
returns c =
    let one = c.pairs.ensures.pairs in
    let other = c.pairs-2.ensures.pairs in
    let same = slice_eq-Decides pairs_decide _ _ _ c.eq.ensures in
    (λ h. sym one ∙ same.0 h ∙ other, λ e. same.1 (one ∙ e ∙ sym other))
