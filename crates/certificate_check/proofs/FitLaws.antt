-- What is told of the variables of a problem fits together.
use Rattle.std.proofs.Common.{◌≡◌, ℕ, ◌<◌, List, length, get_or, sym, ap, subst, ◌∙◌, arith}
use Rattle.std.proofs.lemmas.List.{get_or_default}
use Rattle.std.proofs.lemmas.List.Elements.{All-map, All-filter}
use Rattle.dcop_base.specs.Table.{CostTable, has}
use Rattle.dcop_base.specs.Problem.{Dcop}
use Rattle.dcop_base.specs.Whole.{IsProblem, IsTableOf}
use Rattle.pseudotree.specs.Tree.{children_of}
use Rattle.pseudotree.specs.Pseudotree.{IsPseudotree}
use Rattle.dcop_optimum.specs.Certificate.{is_on_path, tables_on_path}
use Rattle.certificate_text.specs.declared.certificate.Util.{Util}
use Rattle.certificate_text.specs.Fits.{FitsTables, FitsUtil}
use Rattle.minimised_problem.specs.Told.{told}
use Rattle.certificate_check.specs.Cells.{children_told}
use Rattle.certificate_check.specs.Odometer.{FitTogether, NamesNoneItself}
use Rattle.certificate_check.specs.Differences.{table_difference}
use Rattle.certificate_check.proofs.ToldLaws.{told_all, told_names}
use Rattle.certificate_check.proofs.PartLaws.{child_below}

pub told_fits : (sizes : List ℕ) (utils : List Util) (v : ℕ) → FitsTables sizes utils → v < length sizes → FitsUtil sizes (told utils v)
told_fits sizes utils v fits lt = let one = fits.one v lt in told_all (FitsUtil sizes) utils v fits.each (omega arith)

pub told_var : (sizes : List ℕ) (utils : List Util) (v : ℕ) → FitsTables sizes utils → v < length sizes → (told utils v).var ≡ v
told_var sizes utils v fits lt = let one = fits.one v lt in told_names utils v (omega arith)

pub fit_told : (p : Dcop) (paths : List (List ℕ)) (utils : List Util) (i : ℕ) → IsProblem p → IsPseudotree p paths → FitsTables p.sizes utils → NamesNoneItself p utils → i < length p.sizes
    → FitTogether p.sizes (tables_on_path p paths i) (children_told paths utils i) (told utils i)
fit_told p paths utils i problem pseudo fits apart lt = record {
  own_fit = All-filter (is_on_path paths i) (IsTableOf p.sizes) p.tables problem.tables;
  children_fit = All-map (FitsUtil p.sizes) (told utils) (children_of paths i) (λ k d l.
      let count = pseudo.sized in
      let below = child_below paths i k (get_or (children_of paths i) k d) l (get_or_default (children_of paths i) k d (get_or (children_of paths i) k d) l) in
      told_fits p.sizes utils (get_or (children_of paths i) k d) fits (omega arith));
  util_fits = told_fits p.sizes utils i fits lt;
  apart = ap (has (told utils i).scope) (told_var p.sizes utils i fits lt) ∙ apart i lt;
}

-- the same of lists that are the same
pub fit_by : (ss ts : List ℕ) (own tables : List CostTable) (children utils : List Util) (u v : Util) → ss ≡ ts → own ≡ tables → children ≡ utils → u ≡ v → FitTogether ts tables utils v → FitTogether ss own children u
fit_by ss ts own tables children utils u v a b c d fit =
    subst (λ (xs : List ℕ). FitTogether xs own children u) (sym a)
    (subst (λ (xs : List CostTable). FitTogether ts xs children u) (sym b)
    (subst (λ (xs : List Util). FitTogether ts tables xs u) (sym c)
    (subst (λ (x : Util). FitTogether ts tables utils x) (sym d) fit)))

pub differ_by : (ss ts : List ℕ) (own tables : List CostTable) (children utils : List Util) (u v : Util) → ss ≡ ts → own ≡ tables → children ≡ utils → u ≡ v → table_difference ss own children u ≡ table_difference ts tables utils v
differ_by ss ts own tables children utils u v a b c d =
    ap (λ (xs : List ℕ). table_difference xs own children u) a
    ∙ ap (λ (xs : List CostTable). table_difference ts xs children u) b
    ∙ ap (λ (xs : List Util). table_difference ts tables xs u) c
    ∙ ap (λ (x : Util). table_difference ts tables utils x) d
