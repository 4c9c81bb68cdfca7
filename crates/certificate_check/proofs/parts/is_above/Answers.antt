use Rattle.std.proofs.Common.{◌∙◌, sym}
use Rattle.pseudotree.proofs.TreeLaws.{above_read, above_past}
use Rattle.certificate_check.proofs.parts.is_above.Goals as goal

pub returns-in-Some : goal.returns-in-Some
returns-in-Some c =
    c.eq.ensures ∙ above_read c.args.tree.now.paths c.requires.tree c.args.ancestor c.args.var c.in-Some.found.now c.as_slice.result.now c.as_slice-depth.result.now
    (c.as_slice.ensures ∙ c.path-2.ensures) (c.as_slice-depth.ensures ∙ c.path.ensures)
    c.in-Some.ensures.lookup.3.0 (c.in-Some.ensures.lookup.3.1 0)

pub returns-in-None : goal.returns-in-None
returns-in-None c =
    sym (above_past c.args.tree.now.paths c.requires.tree c.args.ancestor c.args.var c.as_slice.result.now c.as_slice-depth.result.now
    (c.as_slice.ensures ∙ c.path-2.ensures) (c.as_slice-depth.ensures ∙ c.path.ensures)
    c.in-None.ensures.lookup.3)
