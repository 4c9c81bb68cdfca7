-- What a certificate of a cut shows, and what makes one.
use Rattle.std.proofs.Common.{◌≡◌, ℕ, zero, suc, ◌+◌, ◌<◌, ◌≤◌, List, [], ◌∷◌, ◌++◌, length, get_or, map, Option, Some, None, refl, sym, ap, subst, ◌∙◌, arith}
use Rattle.std.specs.List.{filter}
use Rattle.std.proofs.lemmas.Option.{none-some}
use Rattle.std.proofs.lemmas.List.{ext_get_or, nil_from_length}
use Rattle.std.proofs.lemmas.List.FromFn.{get_or-map-range_with_len}
use Rattle.dcop_base.specs.Table.{cell_place}
use Rattle.dcop_base.specs.Values.{cell_with}
use Rattle.dcop_base.specs.Problem.{Dcop, IsAssignment, cost}
use Rattle.dcop_base.specs.Whole.{IsProblem}
use Rattle.pseudotree.specs.Tree.{path_of, parent_of, IsRoot, IsTree}
use Rattle.pseudotree.specs.Pseudotree.{IsPseudotree, touches, separator_of}
use Rattle.pseudotree.specs.Fault.{parents_of}
use Rattle.pseudotree.specs.Place.{sizes_of}
use Rattle.pseudotree.proofs.TreeLaws.{last_there, longer}
use Rattle.dcop_optimum.specs.Certificate.{util_of, AreLowerTables}
use Rattle.dcop_optimum.specs.Optimum.{IsOptimum}
use Rattle.dcop_optimum.proofs.OptimumLaws.{optimum_same}
use Rattle.dcop_optimum.proofs.DecompositionLaws.{root_cost}
use Rattle.dcop_optimum.proofs.CertificateLaws.{cell_below, certificates_show_optima}
use Rattle.run_laws.specs.Slice.{AreCutValues, slice_of}
use Rattle.run_laws.specs.Certificate.{IsRootCell, CutCertificatesShowOptima, TurnsMakeCertificates}
use Rattle.run_laws.proofs.SliceLaws.{slices_are_problems}
use Rattle.run_laws.proofs.SlicingLaws.{sliced, optima_are_least_of_slices}
use Rattle.run_laws.proofs.TreeLaws.{slices_keep_trees}

-- the root's cell is at most what any assignment costs
root-below : (p : Dcop) (paths scopes cells : List (List ℕ)) (root c : ℕ) → IsProblem p → IsPseudotree p paths → AreLowerTables p paths scopes cells → IsRoot paths root → IsRootCell cells root c
    → (xs : List ℕ) → IsAssignment p xs → c ≤ cost p xs
root-below p paths scopes cells root c problem pseudo tables is cell xs within =
    let below = cell_below p paths scopes cells problem pseudo tables root is.0 xs within in
    let whole = root_cost p paths problem pseudo root is xs in
    let scope_none : (util_of p scopes cells root).scope ≡ [] =
    ap (λ (lists : List (List ℕ)). get_or lists root []) tables.scopes_are ∙ get_or-map-range_with_len (separator_of p paths) 0 (length paths) root root [] is.0 (omega arith)
    ∙ ap (filter (touches p paths root)) is.1 in
    let same : cell_with (util_of p scopes cells root) (λ v. get_or xs v 0) ≡ c =
    ap (λ (scope : List ℕ). get_or (get_or cells root []) (cell_place (sizes_of p scope) (map (λ v. get_or xs v 0) scope)) 0) scope_none
    ∙ ap (λ (cs : List ℕ). get_or cs 0 0) cell in
    omega (arith, below, whole, same)

pub cut_certificates_show_optima : CutCertificatesShowOptima
cut_certificates_show_optima p parents cut scopes cells values problem is assignment certificate = record {
  attained = (values, assignment, refl);
  lowest = λ xs within.
      let paths = certificate.paths in
      let root = certificate.pseudotree.tree.some_root in
      let own = sliced p cut xs problem is within in
      let slice = slice_of p cut own.turn in
      let tree = (slices_keep_trees p cut own.turn).pseudotree paths in
      let at = (certificate.root_cost root.0 root.1).lowest own.turn own.within in
      let below = root-below slice paths (scopes own.turn) (cells own.turn) root.0 at.0 (slices_are_problems p cut own.turn problem) (tree.0 certificate.pseudotree)
      (certificate.tables own.turn own.within) root.1 at.1 own.others own.assignment in
      let costs = own.costs in
      omega (arith, at.2, below, costs);
}

-- a tree is that of its parents
parent-at : (paths : List (List ℕ)) (v : ℕ) → v < length paths → get_or (parents_of paths) v None ≡ parent_of paths v
parent-at paths v lt = get_or-map-range_with_len (parent_of paths) 0 (length paths) v v None lt (omega arith)

no-parent : (paths : List (List ℕ)) (v : ℕ) → parent_of paths v ≡ None → path_of paths v ≡ []
no-parent paths v e = go (length (path_of paths v)) refl
  where
    go : (n : ℕ) → length (path_of paths v) ≡ n → path_of paths v ≡ []
    go zero long = nil_from_length (path_of paths v) long
    go (suc n) long = absurd (none-some _ (sym e ∙ last_there (path_of paths v) (omega (arith, long))))

path-to : (n : ℕ) (paths other : List (List ℕ)) → IsTree paths → IsTree other → length paths ≡ length other → parents_of paths ≡ parents_of other
    → (v : ℕ) → v < length paths → length (path_of paths v) < n → path_of paths v ≡ path_of other v
path-to zero paths other tree tree' long same v lt short = absurd (omega (arith, short))
path-to (suc n) paths other tree tree' long same v lt short =
    by-parent (parent_of paths v) refl (λ u up.
    let here = tree.nested v u up in
    let less = longer paths tree v u up in
    path-to n paths other tree tree' long same u here.0 (omega (arith, short, less)))
  where
    parents : parent_of paths v ≡ parent_of other v
    parents = sym (parent-at paths v lt) ∙ ap (λ (ps : List (Option ℕ)). get_or ps v None) same ∙ parent-at other v (omega (arith, lt, long))

    by-parent : (o : Option ℕ) → parent_of paths v ≡ o → ((u : ℕ) → parent_of paths v ≡ Some u → path_of paths u ≡ path_of other u) → path_of paths v ≡ path_of other v
    by-parent None e above = no-parent paths v e ∙ sym (no-parent other v (sym parents ∙ e))
    by-parent (Some u) e above = (tree.nested v u e).1 ∙ ap (λ (us : List ℕ). us ++ (u ∷ [])) (above u e) ∙ sym (tree'.nested v u (sym parents ∙ e)).1

tree-same : (paths other : List (List ℕ)) → IsTree paths → IsTree other → length paths ≡ length other → parents_of paths ≡ parents_of other → paths ≡ other
tree-same paths other tree tree' long same =
    ext_get_or [] paths other long (λ v lt. path-to (length (path_of paths v) + 1) paths other tree tree' long same v lt (omega arith))

pub turns_make_certificates : TurnsMakeCertificates
turns_make_certificates p paths cut scopes cells values problem pseudo is turns optimum = record {
  paths = paths;
  pseudotree = pseudo;
  parents_are = refl;
  tables = λ turn within. (let at = (turns turn within).2 in
      subst (λ (ps : List (List ℕ)). AreLowerTables (slice_of p cut turn) ps (scopes turn) (cells turn)) (sym (same turn within)) at.tables);
  root_cost = λ root top. (let least = (optima_are_least_of_slices p cut problem is (cost p values)).0 optimum in record {
    attained = (
      least.attained.0,
      least.attained.1,
      cell root top least.attained.0 least.attained.1
          ∙ ap (λ (c : ℕ). c ∷ []) (optimum_same (slice_of p cut least.attained.0) _ _ (shown least.attained.0 least.attained.1) least.attained.2),
    );
    lowest = λ turn within. (
      cost (slice_of p cut turn) (turns turn within).0,
      cell root top turn within,
      least.lowest turn (cost (slice_of p cut turn) (turns turn within).0) within (shown turn within),
    );
  });
}
  where
    same : (turn : List ℕ) (within : AreCutValues p cut turn) → paths ≡ (turns turn within).2.paths
    same turn within =
        let at = (turns turn within).2 in
        let tree = (slices_keep_trees p cut turn).pseudotree paths in
        let here = tree.0 pseudo in
        tree-same paths at.paths here.tree at.pseudotree.tree (here.sized ∙ sym at.pseudotree.sized) at.parents_are

    cell : (root : ℕ) → IsRoot paths root → (turn : List ℕ) (within : AreCutValues p cut turn) → IsRootCell (cells turn) root (cost (slice_of p cut turn) (turns turn within).0)
    cell root top turn within =
        let at = (turns turn within).2 in
        at.root_cost root (subst (λ (ps : List (List ℕ)). IsRoot ps root) (same turn within) top)

    shown : (turn : List ℕ) (within : AreCutValues p cut turn) → IsOptimum (slice_of p cut turn) (cost (slice_of p cut turn) (turns turn within).0)
    shown turn within =
        let at = turns turn within in
        certificates_show_optima (slice_of p cut turn) (parents_of paths) (scopes turn) (cells turn) at.0 (slices_are_problems p cut turn problem) at.1 at.2
