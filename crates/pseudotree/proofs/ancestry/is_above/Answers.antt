use Rattle.std.proofs.Common.{◌∙◌, sym}
use Rattle.pseudotree.proofs.TreeLaws.{path_read, above_read, above_past}
use Rattle.pseudotree.proofs.ancestry.is_above.Goals as goal

pub returns-in-Some : goal.returns-in-Some
returns-in-Some c =
    c.eq.ensures ∙ above_read c.args.paths.now c.requires.tree c.args.ancestor c.args.var c.in-Some.found.now c.as_slice.result.now c.as_slice-depth.result.now
    (c.as_slice.ensures ∙ path_read c.args.paths.now c.var.inside.0 c.args.var c.index-paths-var.result c.var.view_is c.requires.var_within c.index-paths-var.is)
    (c.as_slice-depth.ensures ∙ path_read c.args.paths.now c.ancestor.inside.0 c.args.ancestor c.index-paths-ancestor.result c.ancestor.view_is c.requires.ancestor_within c.index-paths-ancestor.is)
    c.in-Some.ensures.lookup.3.0 (c.in-Some.ensures.lookup.3.1 0)

pub returns-in-None : goal.returns-in-None
returns-in-None c =
    sym (above_past c.args.paths.now c.requires.tree c.args.ancestor c.args.var c.as_slice.result.now c.as_slice-depth.result.now
    (c.as_slice.ensures ∙ path_read c.args.paths.now c.var.inside.0 c.args.var c.index-paths-var.result c.var.view_is c.requires.var_within c.index-paths-var.is)
    (c.as_slice-depth.ensures ∙ path_read c.args.paths.now c.ancestor.inside.0 c.args.ancestor c.index-paths-ancestor.result c.ancestor.view_is c.requires.ancestor_within c.index-paths-ancestor.is)
    c.in-None.ensures.lookup.3)
