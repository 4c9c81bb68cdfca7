-- The tables of one turn more.
use Rattle.std.proofs.Common.{◌≡◌, ℕ, zero, suc, ◌+◌, Bool, true, false, List, [], ◌∷◌, ◌++◌, Option, sym, subst, ◌∙◌, arith}
use Rattle.std.specs.List.{AllZip, range_with_len}
use Rattle.dcop_base.specs.Table.{CostTable}
use Rattle.dcop_base.specs.Problem.{Dcop}
use Rattle.pseudotree.specs.Pseudotree.{RootedTree, IsPseudotreeOf}
use Rattle.certificate_text.specs.declared.certificate.Turn.{Turn}
use Rattle.run_laws.specs.Slice.{slice_of}
use Rattle.minimised_problem.specs.Utils.{AreUtilsOf, HaveMade}
use Rattle.cut_dpop.specs.Kept.{IsCutTurn, AreCutTurns, AreTurnsKept, KeepsTurn, IsKeptNext}
use Rattle.cut_dpop.specs.Played.{turn_of}

-- one more behind
zip-behind : {A : Type 0} (P : ℕ → A → Type 0) (a n : ℕ) (xs : List A) (x : A) → AllZip P (range_with_len a n) xs → P (a + n) x → AllZip P (range_with_len a (suc n)) (xs ++ x ∷ [])
zip-behind P a zero [] x all here = (subst (λ (k : ℕ). P k x) (let e : a + 0 ≡ a = omega arith in e) here, tt)
zip-behind P a zero (y ∷ ys) x all here = absurd all
zip-behind P a (suc n) [] x all here = absurd all
zip-behind P a (suc n) (y ∷ ys) x all here = (all.0, zip-behind P (a + 1) n ys x all.1 (subst (λ (k : ℕ). P k x) (let e : a + suc n ≡ a + 1 + n = omega arith in e) here))

-- before the first turn there are none
pub kept-none : (keep : Bool) (p : Dcop) (paths : List (List ℕ)) (cut : List ℕ) (turns : List Turn) → turns ≡ [] → AreTurnsKept keep p paths cut 0 turns
kept-none true p paths cut turns none = subst (AreCutTurns p paths cut 0) (sym none) tt
kept-none false p paths cut turns none = none

pub kept-next : (keep : Bool) (p : Dcop) (paths : List (List ℕ)) (cut : List ℕ) (n : ℕ) (old new : List Turn) → AreTurnsKept keep p paths cut n old → IsKeptNext keep p paths cut n old new → AreTurnsKept keep p paths cut (n + 1) new
kept-next true p paths cut n old new are next =
    let turn : IsCutTurn p paths cut n next.0 = record { values = next.2; tables = next.3 } in
    let at : IsCutTurn p paths cut (0 + n) next.0 = subst (λ (k : ℕ). IsCutTurn p paths cut k next.0) (let e : n ≡ 0 + n = omega arith in e) turn in
    subst (λ (k : ℕ). AreCutTurns p paths cut k new) (let e : suc n ≡ n + 1 = omega arith in e) (subst (AreCutTurns p paths cut (suc n)) (sym next.1) (zip-behind (IsCutTurn p paths cut) 0 n old next.0 are at))
kept-next false p paths cut n old new are next = next ∙ are

-- the tables that the agents of a slice made are those of its turn
pub kept-in-turn : (keep : Bool) (p : Dcop) (paths : List (List ℕ)) (cut : List ℕ) (number : ℕ) (left : Dcop) (values : List ℕ) (old new : List Turn) → left ≡ slice_of p cut values → values ≡ turn_of p cut number
    → KeepsTurn keep left paths values old new → IsKeptNext keep p paths cut number old new
kept-in-turn keep p paths cut number left values old new left_is is keeps =
    subst (λ (vs : List ℕ). KeepsTurn keep (slice_of p cut vs) paths vs old new) is (subst (λ (q : Dcop). KeepsTurn keep q paths values old new) left_is keeps)

-- a turn whose tables agents made on the tree is kept behind others
pub turn-keeps : (keep : Bool) (left : Dcop) (tree : RootedTree) (paths : List (List ℕ)) (values : List ℕ) (tables : List (Option CostTable)) (turn : Turn) (old new : List Turn) → keep ≡ true → tree.paths ≡ paths → IsPseudotreeOf left tree
    → HaveMade left paths tables → turn.values ≡ values → (IsPseudotreeOf left tree → HaveMade left tree.paths tables → AreUtilsOf left tree.paths turn.tables) → new ≡ old ++ turn ∷ [] → KeepsTurn keep left paths values old new
turn-keeps keep left tree paths values tables turn old new on same is made valued gives pushed =
    let here : HaveMade left tree.paths tables = subst (λ (ps : List (List ℕ)). HaveMade left ps tables) (sym same) made in
    let utils : AreUtilsOf left paths turn.tables = subst (λ (ps : List (List ℕ)). AreUtilsOf left ps turn.tables) same (gives is here) in
    subst (λ (k : Bool). KeepsTurn k left paths values old new) (sym on) (turn, pushed, valued, utils)
