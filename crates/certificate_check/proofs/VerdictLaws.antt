-- Verdicts from what was found.
use Rattle.std.proofs.Common.{◌≡◌, ℕ, ◌<◌, List, [], ◌∷◌, length, get_or, Option, None, Some, refl, sym, ap, subst, ◌∙◌, inl, inr, arith}
use Rattle.std.specs.Prelude.{IfSome}
use Rattle.std.specs.List.{AllZip}
use Rattle.std.proofs.lemmas.Bool.{cases_lt}
use Rattle.std.proofs.lemmas.Option.{none-some}
use Rattle.std.proofs.lemmas.List.{get_or_past}
use Rattle.std.proofs.lemmas.List.FromFn.{get_or-map-range_with_len, length-map-range_with_len}
use Rattle.dcop_base.specs.Table.{AreWithin}
use Rattle.dcop_base.specs.Problem.{Dcop}
use Rattle.pseudotree.specs.Fault.{AreParents}
use Rattle.problem_text.specs.File.{TextFile}
use Rattle.certificate_text.specs.declared.certificate.Turn.{Turn}
use Rattle.certificate_text.specs.declared.certificate.Util.{Util}
use Rattle.certificate_text.specs.Turns.{first_tables}
use Rattle.certificate_text.specs.declared.report.Report.{Report}
use Rattle.certificate_text.specs.declared.verdict.Verdict.{Verdict}
use Rattle.certificate_text.specs.declared.verdict.Verdict.TheVariants.{Yes, No}
use Rattle.certificate_text.specs.Fits.{FitsTables}
use Rattle.minimised_problem.specs.Goal.{problem_solved}
use Rattle.minimised_problem.specs.Told.{told, parents_told}
use Rattle.certificate_check.specs.Verdicts.{IsTreeVerdict, IsTablesVerdict, IsCutVerdict}
use Rattle.certificate_check.specs.Differences.{IsTreeDifference}
use Rattle.certificate_check.proofs.FitLaws.{told_fits}

-- the parents that tables tell, which fit as many sizes as the problem has, are variables of the problem
pub parents_fit_in : (p : Dcop) (sizes : List ℕ) (utils : List Util) → length sizes ≡ length p.sizes → FitsTables sizes utils → (parents : List (Option ℕ)) → parents ≡ parents_told p utils → AreParents p parents
parents_fit_in p sizes utils many fits parents is =
    let count : length parents ≡ length p.sizes = ap length is ∙ length-map-range_with_len (λ v. (told utils v).parent) 0 (length p.sizes) in record {
      sized = count;
      known = λ v u h. elim (cases_lt v (length p.sizes)) [
        | inl lt ↦
            let read : (told utils v).parent ≡ Some u =
            sym (get_or-map-range_with_len (λ w. (told utils w).parent) 0 (length p.sizes) v v None lt (omega arith)) ∙ ap (λ (ps : List (Option ℕ)). get_or ps v None) (sym is) ∙ h in
            subst (λ (n : ℕ). u < n) many (subst (λ (o : Option ℕ). IfSome o (λ q. q < length sizes)) read (told_fits sizes utils v fits (omega (arith, lt, many))).named.parent)
        | inr past ↦ absurd (none-some u (sym (get_or_past parents v None (omega arith)) ∙ h))
      ];
    }

pub parents_fit : (p : Dcop) (utils : List Util) → FitsTables p.sizes utils → (parents : List (Option ℕ)) → parents ≡ parents_told p utils → AreParents p parents
parents_fit p utils fits parents is = parents_fit_in p p.sizes utils refl fits parents is

-- a difference of the tree is the first one
pub tree_first : (f : TextFile) (r : Report) (utils : List Util) (p : Dcop) (parents : List (Option ℕ)) → p ≡ problem_solved f → parents ≡ parents_told (problem_solved f) utils
    → (verdict : Verdict) → IsTreeVerdict p parents verdict → IsTablesVerdict f r utils verdict
tree_first f r utils p parents solved is (Yes cost error) h = absurd h
tree_first f r utils p parents solved is (No differs) h =
    inl (subst (λ (q : Dcop). IsTreeDifference q (parents_told (problem_solved f) utils) differs) solved (subst (λ (ps : List (Option ℕ)). IsTreeDifference p ps differs) is h))

pub cut_tree_first : (f : TextFile) (r : Report) (cut : List ℕ) (turns : List Turn) (p : Dcop) (parents : List (Option ℕ)) → p ≡ problem_solved f → parents ≡ parents_told (problem_solved f) (first_tables turns)
    → (verdict : Verdict) → IsTreeVerdict p parents verdict → IsCutVerdict f r cut turns verdict
cut_tree_first f r cut turns p parents solved is (Yes cost error) h = absurd h
cut_tree_first f r cut turns p parents solved is (No differs) h =
    inl (subst (λ (q : Dcop). IsTreeDifference q (parents_told (problem_solved f) (first_tables turns)) differs) solved (subst (λ (ps : List (Option ℕ)). IsTreeDifference p ps differs) is h))

-- pairs the other way round
pub within_of : (values sizes : List ℕ) → AllZip (λ value size. value < size) values sizes → AreWithin sizes values
within_of [] [] h = h
within_of [] (s ∷ ss) h = absurd h
within_of (v ∷ vs) [] h = absurd h
within_of (v ∷ vs) (s ∷ ss) h = (h.0, within_of vs ss h.1)
