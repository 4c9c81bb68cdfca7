use Rattle.std.proofs.Common.{◌<◌, ℕ, List, length, ap, ap₂, ◌∙◌, subst, subst₂, sym}
use Rattle.std.specs.List.{All, AllZip}
use Rattle.dcop_base.specs.Problem.{Dcop}
use Rattle.dcop_base.specs.Whole.{IsProblem}
use Rattle.cost_table.specs.Slices.{ones_at, IsCutOf, FitInTurn}
use Rattle.cost_table.proofs.ProblemCutLaws.{cut-inside, fits-of, slice-whole, slice-is, slice-costs}
use Rattle.cost_table.proofs.cut.slice.Goals as goal

pub cut_sizes-requires : goal.cut_sizes-requires
cut_sizes-requires c =
    let p = c.args.problem.now in
    let sizes = c.as_slice.ensures ∙ ap (λ (p : Dcop). p.sizes) c.problem.view_is in
    let inside = cut-inside p.sizes c.args.cut.now c.args.values.now c.requires.within in
    subst₂ (λ (cut ss : List ℕ). All (λ v. v < length ss) cut) (sym c.as_slice-cut.ensures) (sym sizes) inside

pub cut_tables-requires : goal.cut_tables-requires
cut_tables-requires c =
    let p = c.args.problem.now in
    let fits = fits-of p.sizes c.args.cut.now c.args.values.now c.requires.apart c.requires.within in
    subst₂ (λ (cut vs : List ℕ). FitInTurn p.sizes cut vs) (sym c.as_slice-cut.ensures) (sym c.as_slice-2.ensures) fits

pub invariant_of-result : goal.invariant_of-result
invariant_of-result c =
    let p = c.args.problem.now in
    let sizes = c.as_slice.ensures ∙ ap (λ (p : Dcop). p.sizes) c.problem.view_is in
    let same_sizes = c.in_ok-sizes.ensures ∙ ap₂ ones_at c.as_slice-cut.ensures sizes in
    let joints = c.from_vec.ensures ∙ c.in_ok-joints.ensures.items ∙ c.as_slice-3.ensures ∙ ap (λ (p : Dcop). p.joints) c.problem.view_is in
    let tables = subst₂ (λ (cut vs : List ℕ). AllZip (IsCutOf p.sizes cut vs) p.tables c.in_ok-tables.tables) c.as_slice-cut.ensures c.as_slice-2.ensures c.in_ok-tables.ensures in
    rw (same_sizes, joints) (slice-whole p c.args.cut.now c.args.values.now c.in_ok-tables.tables (subst IsProblem c.problem.view_is c.problem.invariant) tables)

pub returns : goal.returns
returns c =
    let p = c.args.problem.now in
    let sizes = c.as_slice.ensures ∙ ap (λ (p : Dcop). p.sizes) c.problem.view_is in
    let same_sizes = c.in_ok-sizes.ensures ∙ ap₂ ones_at c.as_slice-cut.ensures sizes in
    let joints = c.from_vec.ensures ∙ c.in_ok-joints.ensures.items ∙ c.as_slice-3.ensures ∙ ap (λ (p : Dcop). p.joints) c.problem.view_is in
    let tables = subst₂ (λ (cut vs : List ℕ). AllZip (IsCutOf p.sizes cut vs) p.tables c.in_ok-tables.tables) c.as_slice-cut.ensures c.as_slice-2.ensures c.in_ok-tables.ensures in
    let fits = fits-of p.sizes c.args.cut.now c.args.values.now c.requires.apart c.requires.within in
    record {
      slice = rw (same_sizes, joints) (slice-is p c.args.cut.now c.args.values.now c.in_ok-tables.tables tables);
      costs = rw (same_sizes, joints) (slice-costs p c.args.cut.now c.args.values.now c.in_ok-tables.tables (subst IsProblem c.problem.view_is c.problem.invariant) fits tables);
    }
