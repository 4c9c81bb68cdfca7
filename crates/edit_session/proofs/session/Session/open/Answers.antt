use Rattle.std.proofs.Common.{ℕ, List, true, None, is_some, length, replicate, ap, subst, ◌∙◌}
use Rattle.dcop_base.specs.Problem.{Dcop}
use Rattle.pseudotree.specs.Width.{IsNarrow}
use Rattle.dcop_optimum.specs.Goal.{top_of}
use Rattle.problem_text.specs.File.{TextFile}
use Rattle.edit_session.proofs.StateLaws.{session_open}
use Rattle.edit_session.proofs.session.Session.open.Goals as goal

pub invariant_of-result : goal.invariant_of-result
invariant_of-result c =
    let sizes = c.as_slice-count.ensures ∙ ap (λ (q : Dcop). q.sizes) c.problem.view_is ∙ ap (λ (f : TextFile). f.problem.sizes) c.file.view_is in
    session_open c.args.file c.in_ok-turned.turned c.top_sum-top.result c.args.tree c.in_ok-touched.touched.items c.in_ok-kept.kept.items c.in_ok-turned.ensures
    (c.top_sum-top.ensures.sum ∙ ap (λ (f : TextFile). top_of f.problem) c.file.view_is) c.requires.tree c.requires.paths
    (subst (λ (q : Dcop). IsNarrow q c.args.tree.paths) c.solved_of.ensures ((c.widths.ensures.none).0 (ap is_some c.in_default.is)).0)
    (c.in_ok-touched.ensures.items_if_clones_equal (λ y h. h) ∙ ap (λ (ss : List ℕ). replicate (length ss) true) sizes)
    (c.in_ok-kept.ensures ∙ ap (λ (ss : List ℕ). replicate (length ss) None) sizes)
