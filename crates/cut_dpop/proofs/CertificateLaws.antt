-- The tables of all turns of a cut fit the problem, and make a certificate.
use Rattle.std.proofs.Common.{◌≡◌, ℕ, zero, suc, ◌+◌, ◌<◌, List, [], ◌∷◌, length, get_or, map, Option, refl, sym, ap, subst, ◌∙◌, arith}
use Rattle.std.specs.List.{All, AllZip, range_with_len}
use Rattle.std.proofs.lemmas.List.{length-map, get_or-map, ext_get_or}
use Rattle.std.proofs.lemmas.List.Elements.{All-nil, All-cons, All-head, All-tail}
use Rattle.dcop_base.specs.Table.{cell_place}
use Rattle.dcop_base.specs.Problem.{Dcop, cost}
use Rattle.dcop_base.specs.Whole.{IsProblem}
use Rattle.dcop_base.proofs.TableLaws.{cell_place-lt}
use Rattle.cost_table.proofs.ProblemCutLaws.{length-ones_at}
use Rattle.dcop_optimum.specs.Optimum.{IsOptimum}
use Rattle.dcop_optimum.proofs.OptimumLaws.{some_first}
use Rattle.pseudotree.specs.Tree.{parent_of}
use Rattle.pseudotree.specs.Preorder.{preorder_of}
use Rattle.pseudotree.specs.Pseudotree.{IsPseudotree}
use Rattle.pseudotree.specs.Fault.{parents_of}
use Rattle.pseudotree.specs.Place.{sizes_of}
use Rattle.protocol_steps.specs.Values.{choices}
use Rattle.protocol_steps.proofs.ValueLaws.{length-choices, choice_at}
use Rattle.run_laws.specs.Slice.{AreCut, AreCutValues, slice_of}
use Rattle.run_laws.specs.Turns.{turn_count}
use Rattle.run_laws.specs.CutSet.{CutSetsAreOne}
use Rattle.run_laws.specs.Kept.{CutAnswersAreOptimal}
use Rattle.run_laws.specs.Certificate.{IsCutCertificate, AreTurnCertificates}
use Rattle.run_laws.proofs.SliceLaws.{slices_are_problems}
use Rattle.run_laws.proofs.TreeLaws.{slices_keep_trees}
use Rattle.run_laws.proofs.CertificateLaws.{turns_make_certificates}
use Rattle.certificate_text.specs.declared.certificate.Turn.{Turn}
use Rattle.certificate_text.specs.declared.certificate.Util.{Util}
use Rattle.certificate_text.specs.Fits.{KeepParents, FitsCut}
use Rattle.certificate_text.specs.Turns.{first_tables}
use Rattle.minimised_problem.specs.Told.{told, parents_told}
use Rattle.minimised_problem.specs.Turns.{turn_at, turn_by, turn_scopes, turn_cells}
use Rattle.minimised_problem.specs.Utils.{IsUtilOf, AreUtilsOf}
use Rattle.minimised_problem.proofs.UtilLaws.{tables_fit, parents_are, tables_show_on}
use Rattle.cut_dpop.specs.Played.{turn_of}
use Rattle.cut_dpop.specs.Kept.{IsCutTurn, AreCutTurns}
use Rattle.cut_dpop.specs.Certificate.{KeptTablesCertify}
use Rattle.cut_dpop.proofs.BestLaws.{some-turn}

-- elements that go with their numbers
module _ {A : Type 0} (P : ℕ → A → Type 0) where
  zip-at : (a n : ℕ) (xs : List A) (k : ℕ) (x : A) → AllZip P (range_with_len a n) xs → k < n → P (a + k) (get_or xs k x)
  zip-at a zero xs k x all lt = absurd (omega (arith, lt))
  zip-at a (suc n) [] k x all lt = absurd all
  zip-at a (suc n) (y ∷ ys) zero x all lt = subst (λ (i : ℕ). P i y) (let e : a ≡ a + 0 = omega arith in e) all.0
  zip-at a (suc n) (y ∷ ys) (suc k) x all lt = subst (λ (i : ℕ). P i (get_or ys k x)) (let e : a + 1 + k ≡ a + suc k = omega arith in e) (zip-at (a + 1) n ys k x all.1 (omega (arith, lt)))

  zip-long : (a n : ℕ) (xs : List A) → AllZip P (range_with_len a n) xs → length xs ≡ n
  zip-long a zero [] all = refl
  zip-long a zero (x ∷ xs) all = absurd all
  zip-long a (suc n) [] all = absurd all
  zip-long a (suc n) (x ∷ xs) all = ap suc (zip-long (a + 1) n xs all.1)

-- a table names its variable's parent in the tree
abbrev NamesParent : List (List ℕ) → Util → Type 0
NamesParent paths u = u.parent ≡ parent_of paths u.var

parents-named : (p : Dcop) (paths : List (List ℕ)) (vs : List ℕ) (us : List Util) → AllZip (IsUtilOf p paths) vs us → All (NamesParent paths) us
parents-named p paths [] [] are = All-nil (NamesParent paths)
parents-named p paths [] (u ∷ us) are = absurd are
parents-named p paths (v ∷ vs) [] are = absurd are
parents-named p paths (v ∷ vs) (u ∷ us) are = All-cons (NamesParent paths) u us (are.0.parent ∙ ap (parent_of paths) (sym are.0.var)) (parents-named p paths vs us are.1)

-- so the parents of all turns are the same
parents-kept : (paths : List (List ℕ)) (turns : List Turn) → All (λ t. All (NamesParent paths) t.tables) turns → KeepParents turns
parents-kept paths [] all = tt
parents-kept paths (first ∷ later) all = λ k d lt j e within i o inside same.
    All-head (λ t. All (NamesParent paths) t.tables) first later all i o inside
    ∙ ap (parent_of paths) same
    ∙ sym (All-tail (λ t. All (NamesParent paths) t.tables) first later all k d lt j e within)

first-is : (turns : List Turn) → first_tables turns ≡ (turn_at turns 0).tables
first-is [] = refl
first-is (turn ∷ turns) = refl

module _ (p : Dcop) (paths : List (List ℕ)) (cut : List ℕ) (turns : List Turn) (problem : IsProblem p) (pseudo : IsPseudotree p paths) (may : AreCut p cut) (are : AreCutTurns p paths cut (turn_count p cut) turns) where
  pub count : length turns ≡ turn_count p cut
  count = zip-long (IsCutTurn p paths cut) 0 (turn_count p cut) turns are

  turn-is : (k : ℕ) (d : Turn) → k < turn_count p cut → IsCutTurn p paths cut k (get_or turns k d)
  turn-is k d lt = subst (λ (i : ℕ). IsCutTurn p paths cut i (get_or turns k d)) (let e : 0 + k ≡ k = omega arith in e) (zip-at (IsCutTurn p paths cut) 0 (turn_count p cut) turns k d are lt)

  on-slice : (values : List ℕ) → IsPseudotree (slice_of p cut values) paths
  on-slice values = ((slices_keep_trees p cut values).pseudotree paths).0 pseudo

  -- the tables of the turn with these values
  tables-by : (values : List ℕ) → AreCutValues p cut values → AreUtilsOf (slice_of p cut values) paths (turn_by p cut turns values).tables
  tables-by values within =
      let place : ℕ = cell_place (sizes_of p cut) values in
      let is : turn_of p cut place ≡ values = choice_at (sizes_of p cut) values within in
      subst (λ (vs : List ℕ). AreUtilsOf (slice_of p cut vs) paths (turn_at turns place).tables) is
      (turn-is place (record { values = []; tables = [] }) (cell_place-lt (sizes_of p cut) values within)).tables

  turn-certificates : AreTurnCertificates p paths cut (turn_scopes p cut turns) (turn_cells p cut turns)
  turn-certificates values within =
      let whole = slices_are_problems p cut values problem in
      let best = some_first (slice_of p cut values) whole in (
        best.0,
        best.1.assignment,
        tables_show_on (slice_of p cut values) paths whole (on-slice values) (turn_by p cut turns values).tables (tables-by values within) best.0 best.1.optimal,
      )

  -- the parents of the first turn are those of the tree
  first-parents : parents_told p (first_tables turns) ≡ parents_of paths
  first-parents =
      let first : Turn = turn_at turns 0 in
      let slice : Dcop = slice_of p cut (turn_of p cut 0) in
      ap (parents_told p) (first-is turns)
      ∙ ap (λ (n : ℕ). map (λ v. (told first.tables v).parent) (range_with_len 0 n)) (sym (length-ones_at cut p.sizes))
      ∙ parents_are slice paths (slices_are_problems p cut (turn_of p cut 0) problem) (on-slice (turn_of p cut 0)) first.tables
      (turn-is 0 (record { values = []; tables = [] }) (some-turn p cut problem may)).tables

  pub cut-certificate : (values : List ℕ) → IsOptimum p (cost p values) → IsCutCertificate p (parents_told p (first_tables turns)) cut (turn_scopes p cut turns) (turn_cells p cut turns) values
  cut-certificate values optimal =
      subst (λ (ps : List (Option ℕ)). IsCutCertificate p ps cut (turn_scopes p cut turns) (turn_cells p cut turns) values) (sym first-parents)
      (turns_make_certificates p paths cut (turn_scopes p cut turns) (turn_cells p cut turns) values problem pseudo may turn-certificates optimal)

  values-are : map (λ t. t.values) turns ≡ choices (sizes_of p cut)
  values-are =
      let none : Turn = record { values = []; tables = [] } in
      let long : length (map (λ t. t.values) turns) ≡ length turns = length-map turns (λ t. t.values) in
      ext_get_or [] (map (λ t. t.values) turns) (choices (sizes_of p cut)) (long ∙ count ∙ sym (length-choices (sizes_of p cut))) (λ k lt.
      get_or-map (λ t. t.values) turns k none [] (omega (arith, lt, long)) ∙ (turn-is k none (omega (arith, lt, long, count))).values)

  pub turns-fit : FitsCut p.sizes cut turns
  turns-fit = record {
    distinct = may.apart;
    within = may.within;
    values = values-are;
    tables = λ k d lt. (let is = turn-is k d (omega (arith, lt, count)) in
        tables_fit (slice_of p cut (turn_of p cut k)) paths (slices_are_problems p cut (turn_of p cut k) problem) (on-slice (turn_of p cut k)) (get_or turns k d).tables is.tables);
    parents = parents-kept paths turns (λ k d lt. (let is = turn-is k d (omega (arith, lt, count)) in
        parents-named (slice_of p cut (turn_of p cut k)) paths (preorder_of paths) (get_or turns k d).tables is.tables));
  }

pub end-certified : CutSetsAreOne → CutAnswersAreOptimal → KeptTablesCertify
end-certified sets optimal p paths limit end problem pseudo small is =
    let may : AreCut p end.cut = (sets p paths limit problem pseudo small).are_cut end.cut is.cut in
    let best = optimal p paths end.cut end.cost end.values problem may is.answer in record {
      count = count p paths end.cut end.tables problem pseudo may is.tables;
      fits = turns-fit p paths end.cut end.tables problem pseudo may is.tables;
      certificate = cut-certificate p paths end.cut end.tables problem pseudo may is.tables end.values (subst (IsOptimum p) (sym best.costs) best.optimum);
    }
