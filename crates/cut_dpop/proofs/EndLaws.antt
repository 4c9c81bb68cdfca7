-- How a cut ends.
use Rattle.std.proofs.Common.{◌≡◌, ℕ, ◌*◌, ◌≤◌, Bool, cond, ltb, List, Some, None, sym, ap, subst, ◌∙◌, inl, inr, arith}
use Rattle.std.specs.Prelude.{Result, Ok, Err, IfErr}
use Rattle.std.specs.Result.{IsErrAnd}
use Rattle.std.specs.List.{All}
use Rattle.std.proofs.lemmas.Bool.{cases_lt, lt-ltb}
use Rattle.std.proofs.lemmas.Nat.{mul-le}
use Rattle.std.proofs.lemmas.Option.{none-some}
use Rattle.dcop_base.specs.Limits.{sent_limit, joined_limit, turn_limit}
use Rattle.dcop_base.specs.Problem.{Dcop}
use Rattle.dcop_base.specs.Whole.{IsProblem}
use Rattle.pseudotree.specs.Pseudotree.{RootedTree, IsPseudotreeOf, IsLinked}
use Rattle.pseudotree.specs.Width.{told}
use Rattle.delivery_core.specs.Agents.{IsTreeFor}
use Rattle.run_laws.specs.Slice.{AreCut}
use Rattle.run_laws.specs.Turns.{turn_count}
use Rattle.run_laws.specs.CutSet.{IsCutSet, CutSetsAreOne, CutSetsMakeNarrow}
use Rattle.cut_dpop.specs.declared.fault.CutFault.{CutFault}
use Rattle.cut_dpop.specs.declared.fault.CutFault.TheVariants.{TooMany, Total, NoMemory}
use Rattle.cut_dpop.specs.declared.turn.Played.{Played}
use Rattle.cut_dpop.specs.Start.{IsNarrowForSlices, turn_deliveries}
use Rattle.certificate_text.specs.declared.certificate.Turn.{Turn}
use Rattle.cut_dpop.specs.Kept.{AreTurnsKept}
use Rattle.cut_dpop.specs.Played.{IsBestOf}
use Rattle.cut_dpop.specs.Refusal.{cells_sent, refusal, IsCutRefusal, AreAllowed}
use Rattle.cut_dpop.specs.End.{IsCutEnd, IsCutRefused}
use Rattle.cut_dpop.proofs.BestLaws.{best-answer}

-- a cut that is not refused has few turns
pub few-turns : (p : Dcop) (paths : List (List ℕ)) (cut : List ℕ) (keep : Bool) → refusal p paths cut keep ≡ None → turn_count p cut ≤ turn_limit
few-turns p paths cut keep e = elim (cases_lt turn_limit (turn_count p cut)) [
  | inr few ↦ few
  | inl many ↦ absurd (none-some (TooMany (told (turn_count p cut))) (sym e
      ∙ ap (λ (b : Bool). cond b (Some (TooMany (told (turn_count p cut)))) (cond (ltb sent_limit (cells_sent p paths cut keep)) (Some (Total (told (cells_sent p paths cut keep)))) None))
      (lt-ltb turn_limit (turn_count p cut) many)))
]

-- the variables of a cut set may be cut
pub may-cut : (p : Dcop) (paths : List (List ℕ)) (limit : ℕ) (cut : List ℕ) (tree : RootedTree) → CutSetsAreOne → IsProblem p → IsPseudotreeOf p tree → tree.paths ≡ paths → All (λ s. s ≤ limit) p.sizes → IsCutSet p paths limit cut → AreCut p cut
may-cut p paths limit cut tree law problem is same few h =
    (law p tree.paths limit problem is.pseudotree few).are_cut cut (subst (λ (ps : List (List ℕ)). IsCutSet p ps limit cut) (sym same) h)

-- a copy of a tree serves as the tree
pub copy-serves : (p : Dcop) (tree copy : RootedTree) → IsTreeFor p tree → IsPseudotreeOf p copy → copy.paths ≡ tree.paths → IsTreeFor p copy
copy-serves p tree copy fits is same = record { pseudotree = is; linked = subst (IsLinked p) (sym same) fits.linked }

pub copy-narrow : (p : Dcop) (tree copy : RootedTree) (limit : ℕ) (cut : List ℕ) → CutSetsMakeNarrow → IsCutSet p tree.paths limit cut → limit ≤ joined_limit → copy.paths ≡ tree.paths → IsNarrowForSlices p copy.paths cut
copy-narrow p tree copy limit cut law h most same = subst (λ (ps : List (List ℕ)). IsNarrowForSlices p ps cut) (sym same) (λ values. (law p tree.paths limit cut h).narrow values most)

-- so many messages are a number of 64 bits
pub few-messages : (p : Dcop) (turns deliveries : ℕ) → IsProblem p → turns ≤ turn_limit → deliveries ≡ turn_deliveries p → turns * deliveries ≤ 18446744073709551615
few-messages p turns deliveries problem few e =
    let sized = problem.few in
    let low : deliveries ≤ 2000 = omega (arith, e, sized) in
    let all : turns * deliveries ≤ turn_limit * 2000 = mul-le turns deliveries turn_limit 2000 few low in
    omega (arith, all)

-- the best of all turns is the end
pub cut-end : (p : Dcop) (paths other : List (List ℕ)) (limit : ℕ) (keep : Bool) (cut : List ℕ) (turns : ℕ) (best : Played) (tables : List Turn) → IsCutSet p paths limit cut → AreAllowed p paths cut keep turns → other ≡ paths
    → IsBestOf p other cut turns best → AreTurnsKept keep p other cut turns tables
    → IsCutEnd p paths limit keep (record { cost = best.cost; values = best.values; cut = cut; turns = turns; deliveries = turns * best.deliveries; tables = tables })
cut-end p paths other limit keep cut turns best tables h allowed same is kept =
    let at : IsBestOf p paths cut (turn_count p cut) best = subst (λ (n : ℕ). IsBestOf p paths cut n best) allowed.1 (subst (λ (ps : List (List ℕ)). IsBestOf p ps cut turns best) same is) in record {
      cut = h;
      allowed = allowed.0;
      turns = allowed.1;
      deliveries = ap (λ (n : ℕ). turns * n) at.played.deliveries ∙ ap (λ (n : ℕ). n * turn_deliveries p) allowed.1;
      answer = best-answer p paths cut best at;
      tables = subst (λ (n : ℕ). AreTurnsKept keep p paths cut n tables) allowed.1 (subst (λ (ps : List (List ℕ)). AreTurnsKept keep p ps cut turns tables) same kept);
    }

-- what refuses the cut set refuses each
pub cut-refused : (p : Dcop) (tree : RootedTree) (limit : ℕ) (keep : Bool) (cut : List ℕ) (fault : CutFault) → CutSetsAreOne → IsProblem p → IsPseudotreeOf p tree → All (λ s. s ≤ limit) p.sizes → IsCutSet p tree.paths limit cut
    → IsCutRefusal p tree.paths cut keep fault → IsCutRefused p tree.paths limit keep fault
cut-refused p tree limit keep cut fault law problem is few h refused = record {
  refused = λ other g. subst (λ (c : List ℕ). IsCutRefusal p tree.paths c keep fault) ((law p tree.paths limit problem is.pseudotree few).one cut other h g) refused;
}

-- running out of memory refuses any
pub memory-refuses : (p : Dcop) (paths : List (List ℕ)) (limit : ℕ) (keep : Bool) → IsCutRefused p paths limit keep NoMemory
memory-refuses p paths limit keep = record { refused = λ cut h. tt }

-- what is said of a fault is said of the result that passes it on
pub passed-on : {A : Type 0} (r : Result A CutFault) (fault : CutFault) (Q : CutFault → Type 0) → IsErrAnd r (λ e. e ≡ fault) → Q fault → IfErr r Q
passed-on (Ok x) fault Q same q = tt
passed-on (Err e) fault Q same q = subst Q (sym same) q
