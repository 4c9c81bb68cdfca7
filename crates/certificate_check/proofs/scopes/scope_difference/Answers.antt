use Rattle.std.proofs.Common.{◌≡◌, List, ℕ, None, Some, sym, ap, ◌∙◌, arith}
use Rattle.std.specs.Str.{bytes_eq}
use Rattle.std.proofs.lemmas.Bool.{cond-true, cond-false}
use Rattle.pseudotree.specs.Pseudotree.{separator_of}
use Rattle.pseudotree.proofs.PlaceLaws.{separator_is}
use Rattle.certificate_text.specs.declared.certificate.Util.{Util}
use Rattle.certificate_text.specs.declared.verdict.Differs.TheVariants.{Scope}
use Rattle.minimised_problem.specs.Told.{told}
use Rattle.certificate_check.proofs.scopes.scope_difference.Goals as goal

pub util_of-requires : goal.util_of-requires
util_of-requires c = c.requires.fits.one c.args.var c.requires.within

pub returns-then-are_same : goal.returns-then-are_same
returns-then-are_same c =
    let count = c.requires.tree.pseudotree.sized in
    let scope : c.as_slice-scope.result.now ≡ (told c.args.utils.now c.args.var).scope = c.as_slice-scope.ensures ∙ ap (λ (u : Util). u.scope) c.util_of.ensures in
    let separator : c.as_slice.result.now ≡ separator_of c.args.problem.now c.args.tree.now.paths c.args.var =
    c.as_slice.ensures ∙ c.separator.ensures ∙ separator_is c.args.problem.now c.args.tree.now c.requires.tree c.args.var (omega arith) in
    let test = ap (λ (s : List ℕ). bytes_eq s (separator_of c.args.problem.now c.args.tree.now.paths c.args.var)) (sym scope) ∙ ap (bytes_eq c.as_slice-scope.result.now) (sym separator) ∙ sym c.are_same.ensures in
    sym (cond-true (bytes_eq (told c.args.utils.now c.args.var).scope (separator_of c.args.problem.now c.args.tree.now.paths c.args.var)) None (Some (Scope c.args.var)) (test ∙ c.if-are_same.true))

pub returns-else-are_same : goal.returns-else-are_same
returns-else-are_same c =
    let count = c.requires.tree.pseudotree.sized in
    let scope : c.as_slice-scope.result.now ≡ (told c.args.utils.now c.args.var).scope = c.as_slice-scope.ensures ∙ ap (λ (u : Util). u.scope) c.util_of.ensures in
    let separator : c.as_slice.result.now ≡ separator_of c.args.problem.now c.args.tree.now.paths c.args.var =
    c.as_slice.ensures ∙ c.separator.ensures ∙ separator_is c.args.problem.now c.args.tree.now c.requires.tree c.args.var (omega arith) in
    let test = ap (λ (s : List ℕ). bytes_eq s (separator_of c.args.problem.now c.args.tree.now.paths c.args.var)) (sym scope) ∙ ap (bytes_eq c.as_slice-scope.result.now) (sym separator) ∙ sym c.are_same.ensures in
    sym (cond-false (bytes_eq (told c.args.utils.now c.args.var).scope (separator_of c.args.problem.now c.args.tree.now.paths c.args.var)) None (Some (Scope c.args.var)) (test ∙ c.if-are_same.false))
