-- What holds of a session, where it is opened, edited and answered.
use Rattle.std.proofs.Common.{◌≡◌, ℕ, ◌<◌, Bool, true, false, ◌||◌, List, length, replicate, Option, Some, None, Result, Ok, Err, OnOk, OnErr, option_map, refl, sym, ap, subst, ◌∙◌, inl, inr, arith}
use Rattle.std.specs.List.{range_with_len}
use Rattle.std.proofs.lemmas.Bool.{cases_Bool, both_ways, or_parts, true≢false}
use Rattle.std.proofs.lemmas.List.{ext_get_or, length-map, get_or-replicate, length-replicate}
use Rattle.std.proofs.lemmas.List.FromFn.{length-range_with_len, get_or-map-range_with_len}
use Rattle.dcop_base.specs.Problem.{Dcop}
use Rattle.dcop_base.specs.Whole.{IsProblem}
use Rattle.pseudotree.specs.DepthFirst.{dfs}
use Rattle.pseudotree.specs.Owner.{owner_of}
use Rattle.pseudotree.specs.Pseudotree.{IsPseudotree, IsPseudotreeOf, IsLinked, RootedTree, is_within}
use Rattle.pseudotree.specs.Width.{IsNarrow}
use Rattle.dcop_optimum.specs.Subtree.{is_owner_within}
use Rattle.dcop_optimum.specs.Goal.{top_of}
use Rattle.dcop_optimum.proofs.LineLaws.{within_within, within_cases, below_in_tree}
use Rattle.problem_text.specs.File.{TextFile}
use Rattle.minimised_problem.specs.Goal.{problem_solved}
use Rattle.dpop_agent.specs.declared.made.Made.{Made}
use Rattle.edit_session.specs.Held.{AreHeldFrom, AreAllHeld}
use Rattle.edit_session.specs.Edits.{table_at, with_cells, is_on_way, EditsLeaveOthers}
use Rattle.edit_session.specs.State.{is_touched, touched_by, edited_file}
use Rattle.edit_session.specs.Session.{IsSession, turned_for, turned_cells}
use Rattle.edit_session.specs.Loops.{IsEditGround, HasReplaced, StayHeld}
use Rattle.edit_session.proofs.CellLaws.{cells_by, solved_edit, solved_scope, solved_inside, solved_whole, turned_for_edit}

-- marks that say of each agent whether it is touched
pub marks_are : (paths : List (List ℕ)) (scope : List ℕ) (old new : List Bool) → length new ≡ length old
    → ((v : ℕ) → v < length old → is_touched new v ≡ (is_touched old v || is_on_way paths scope v)) → new ≡ touched_by paths scope old
marks_are paths scope old new long each =
    let f : ℕ → Bool = λ i. is_touched old i || is_on_way paths scope i in
    let count : length (touched_by paths scope old) ≡ length old = length-map (range_with_len 0 (length old)) f ∙ length-range_with_len 0 (length old) in
    ext_get_or false new (touched_by paths scope old) (long ∙ sym count) (λ k lt.
    let inside : k < length old = omega (arith, lt, long) in
    each k inside ∙ sym (get_or-map-range_with_len f 0 (length old) k k false inside (omega arith)))

-- what a session has of the problem solved
pub record IsReady (q : Dcop) (tree : RootedTree) (touched : List Bool) (kept : List (Option Made)) : Type 0 where
  pub tree_is : IsPseudotreeOf q tree
  pub paths : tree.paths ≡ dfs q
  pub narrow : IsNarrow q (dfs q)
  pub held : (i : ℕ) → i < length touched → is_touched touched i ≡ false → AreHeldFrom q (dfs q) kept i

touched_count : (paths : List (List ℕ)) (scope : List ℕ) (touched : List Bool) → length (touched_by paths scope touched) ≡ length touched
touched_count paths scope touched = length-map (range_with_len 0 (length touched)) (λ i. is_touched touched i || is_on_way paths scope i) ∙ length-range_with_len 0 (length touched)

-- who is above an agent on the way lies on it too
above_on_way : (paths : List (List ℕ)) (q : Dcop) → IsPseudotree q paths → (o : Option ℕ) (i j : ℕ) → is_within paths i j ≡ true → is_owner_within paths j o ≡ true → is_owner_within paths i o ≡ true
above_on_way paths q pseudo None i j within on = absurd (true≢false (sym on))
above_on_way paths q pseudo (Some v) i j within on = within_within paths pseudo.tree i j v within on

pub ready_edit : EditsLeaveOthers → (q : Dcop) (k : ℕ) (c : List ℕ) (tree : RootedTree) (touched : List Bool) (kept : List (Option Made)) → IsProblem q → k < length q.tables
    → IsReady q tree touched kept → IsReady (with_cells q k c) tree (touched_by (dfs q) (table_at q k).scope touched) kept
ready_edit edits q k c tree touched kept problem inside is =
    let leaves = edits q k c problem inside in
    let same = leaves.trees.trees in
    let q' : Dcop = with_cells q k c in
    let scope : List ℕ = (table_at q k).scope in
    let pseudo : IsPseudotree q (dfs q) = subst (IsPseudotree q) is.paths is.tree_is.pseudotree in
    record {
      tree_is = leaves.trees.pseudotree tree is.tree_is;
      paths = is.paths ∙ sym same;
      narrow = subst (IsNarrow q') (sym same) (λ i lt. let cells = leaves.trees.cells (dfs q) i in let limit = is.narrow i lt in omega (arith, cells, limit));
      held = λ i lt out.
          let count = touched_count (dfs q) scope touched in
          let old : i < length touched = omega (arith, lt, count) in
          let parts = or_parts (is_touched touched i) (is_on_way (dfs q) scope i) (sym (get_or-map-range_with_len (λ j. is_touched touched j || is_on_way (dfs q) scope j) 0 (length touched) i i false old (omega arith)) ∙ out) in
          subst (λ (paths : List (List ℕ)). AreHeldFrom q' paths kept i) (sym same) (λ j within.
          elim (cases_Bool (is_on_way (dfs q) scope j)) [
            | inl on ↦ absurd (both_ways (is_on_way (dfs q) scope i) parts.1 (above_on_way (dfs q) q pseudo (owner_of (dfs q) scope) i j within on))
            | inr off ↦ leaves.held (dfs q) kept j pseudo off (is.held i old parts.0 j within)
          ]);
    }

pub ready_of : (file : TextFile) (turned : Option Dcop) (top : ℕ) (tree : RootedTree) (touched : List Bool) (kept : List (Option Made)) → IsSession file turned top tree touched kept → IsReady (problem_solved file) tree touched kept
ready_of file turned top tree touched kept is = record { tree_is = is.tree_is; paths = is.paths; narrow = is.narrow; held = is.held }

-- an edit leaves a session one
pub session_edit : EditsLeaveOthers → (file : TextFile) (turned turned' : Option Dcop) (top top' : ℕ) (tree : RootedTree) (touched touched' : List Bool) (kept : List (Option Made)) (k : ℕ) (cells : List ℕ)
    → IsProblem (problem_solved file) → k < length file.problem.tables → IsSession file turned top tree touched kept
    → turned' ≡ turned_for file.goal (with_cells file.problem k cells) → top' ≡ top_of (with_cells file.problem k cells) → touched' ≡ touched_by (dfs (problem_solved file)) (table_at file.problem k).scope touched
    → IsSession (edited_file file k cells) turned' top' tree touched' kept
session_edit edits file turned turned' top top' tree touched touched' kept k cells problem inside is of_turned of_top of_touched =
    let q : Dcop = problem_solved file in
    let c : List ℕ = cells_by file.goal cells in
    let here = ready_edit edits q k c tree touched kept problem (solved_inside file.goal file.problem k inside) (ready_of file turned top tree touched kept is) in
    let marked : IsReady (with_cells q k c) tree touched' kept =
    subst (λ (ts : List Bool). IsReady (with_cells q k c) tree ts kept) (ap (λ (scope : List ℕ). touched_by (dfs q) scope touched) (solved_scope file.goal file.problem k) ∙ sym of_touched) here in
    let there : IsReady (problem_solved (edited_file file k cells)) tree touched' kept = subst (λ (r : Dcop). IsReady r tree touched' kept) (sym (solved_edit file.goal file.problem k cells)) marked in
    record {
      solved = of_turned;
      summed = of_top;
      tree_is = there.tree_is;
      paths = there.paths;
      narrow = there.narrow;
      marked = ap length of_touched ∙ touched_count (dfs q) (table_at file.problem k).scope touched ∙ is.marked;
      counted = is.counted;
      held = there.held;
    }

-- a session as it is opened
pub session_open : (file : TextFile) (turned : Option Dcop) (top : ℕ) (tree : RootedTree) (touched : List Bool) (kept : List (Option Made)) → turned ≡ turned_for file.goal file.problem → top ≡ top_of file.problem
    → IsPseudotreeOf (problem_solved file) tree → tree.paths ≡ dfs (problem_solved file) → IsNarrow (problem_solved file) tree.paths
    → touched ≡ replicate (length file.problem.sizes) true → kept ≡ replicate (length file.problem.sizes) None → IsSession file turned top tree touched kept
session_open file turned top tree touched kept of_turned of_top tree_is paths narrow marks none = record {
  solved = of_turned;
  summed = of_top;
  tree_is = tree_is;
  paths = paths;
  narrow = subst (IsNarrow (problem_solved file)) paths narrow;
  marked = ap length marks ∙ length-replicate (length file.problem.sizes) true;
  counted = ap length none ∙ length-replicate (length file.problem.sizes) None;
  held = λ i lt out.
      let count = ap length marks ∙ length-replicate (length file.problem.sizes) true in
      let at : is_touched touched i ≡ true = ap (λ (ts : List Bool). is_touched ts i) marks ∙ get_or-replicate (length file.problem.sizes) i true false (omega (arith, lt, count)) in
      absurd (true≢false (sym at ∙ out));
}

-- a session with tables kept anew
pub session_kept : (file : TextFile) (turned : Option Dcop) (top : ℕ) (tree : RootedTree) (touched touched' : List Bool) (kept kept' : List (Option Made)) → IsSession file turned top tree touched kept
    → length touched' ≡ length touched → length kept' ≡ length kept
    → ((i : ℕ) → i < length touched' → is_touched touched' i ≡ false → AreHeldFrom (problem_solved file) (dfs (problem_solved file)) kept' i) → IsSession file turned top tree touched' kept'
session_kept file turned top tree touched touched' kept kept' is marks long held = record {
  solved = is.solved;
  summed = is.summed;
  tree_is = is.tree_is;
  paths = is.paths;
  narrow = is.narrow;
  marked = marks ∙ is.marked;
  counted = long ∙ is.counted;
  held = held;
}

-- the agents of a session stand on a narrow and linked pseudotree
pub ground_of : (file : TextFile) (turned : Option Dcop) (top : ℕ) (tree : RootedTree) (touched : List Bool) (kept : List (Option Made)) → IsSession file turned top tree touched kept
    → IsLinked (problem_solved file) (dfs (problem_solved file)) → length (problem_solved file).sizes ≡ length file.problem.sizes → (q : Dcop) → q ≡ problem_solved file → IsEditGround q tree kept
ground_of file turned top tree touched kept is linked sizes q same =
    subst (λ (r : Dcop). IsEditGround r tree kept) (sym same) (record {
      tree_is = is.tree_is;
      linked = subst (IsLinked (problem_solved file)) (sym is.paths) linked;
      narrow = subst (IsNarrow (problem_solved file)) (sym is.paths) is.narrow;
      counted = is.counted ∙ sym sizes;
    })

-- a session where cells were replaced, from what was done
pub session_replaced : EditsLeaveOthers → (file file' : TextFile) (turned turned' : Option Dcop) (top top' : ℕ) (tree : RootedTree) (touched touched' : List Bool) (kept : List (Option Made)) (k : ℕ) (cells : List ℕ)
    → IsProblem file.problem → k < length file.problem.tables → IsSession file turned top tree touched kept → HasReplaced tree.paths k cells file file' turned turned' touched touched' top'
    → IsSession file' turned' top' tree touched' kept
session_replaced edits file file' turned turned' top top' tree touched touched' kept k cells problem inside is done =
    subst (λ (f : TextFile). IsSession f turned' top' tree touched' kept) (sym done.file_is)
    (session_edit edits file turned turned' top top' tree touched touched' kept k cells (solved_whole file.goal file.problem problem) inside is
    (done.turned_is ∙ ap (λ (o : Option Dcop). option_map (λ q. with_cells q k (turned_cells cells)) o) is.solved ∙ turned_for_edit file.goal file.problem k cells)
    done.top_is
    (done.touched_is ∙ ap (λ (paths : List (List ℕ)). touched_by paths (table_at file.problem k).scope touched) is.paths))

-- a session that is unchanged
pub session_same : (file file' : TextFile) (turned turned' : Option Dcop) (top : ℕ) (tree : RootedTree) (touched touched' : List Bool) (kept : List (Option Made)) → IsSession file turned top tree touched kept
    → file' ≡ file → turned' ≡ turned → touched' ≡ touched → IsSession file' turned' top tree touched' kept
session_same file file' turned turned' top tree touched touched' kept is same_file same_turned same_touched =
    subst (λ (f : TextFile). IsSession f turned' top tree touched' kept) (sym same_file)
    (subst (λ (o : Option Dcop). IsSession file o top tree touched' kept) (sym same_turned) (subst (λ (ts : List Bool). IsSession file turned top tree ts kept) (sym same_touched) is))

-- a session after an answer: no agent is touched, and all tables are held
pub session_answered : (file : TextFile) (turned : Option Dcop) (top : ℕ) (tree : RootedTree) (touched touched' : List Bool) (kept kept' : List (Option Made)) → IsSession file turned top tree touched kept
    → touched' ≡ replicate (length touched) false → length kept' ≡ length kept → length (problem_solved file).sizes ≡ length file.problem.sizes → AreAllHeld (problem_solved file) (dfs (problem_solved file)) kept' → IsSession file turned top tree touched' kept'
session_answered file turned top tree touched touched' kept kept' is cleared long sizes all =
    let pseudo : IsPseudotree (problem_solved file) (dfs (problem_solved file)) = subst (IsPseudotree (problem_solved file)) is.paths is.tree_is.pseudotree in
    let count = pseudo.sized in
    let marks : length touched' ≡ length touched = ap length cleared ∙ length-replicate (length touched) false in
    session_kept file turned top tree touched touched' kept kept' is marks long (λ i lt out j within.
    let marked = is.marked in
    all j (within_known (problem_solved file) (dfs (problem_solved file)) pseudo i j (omega (arith, lt, marks, marked, sizes)) within))
  where
    within_known : (q : Dcop) (paths : List (List ℕ)) → IsPseudotree q paths → (i j : ℕ) → i < length q.sizes → is_within paths i j ≡ true → j < length q.sizes
    within_known q paths pseudo i j lt within =
        let count = pseudo.sized in
        elim (within_cases paths i j within) [
          | inl same ↦ omega (arith, same, lt)
          | inr above ↦ let inside = below_in_tree paths pseudo.tree i j above in omega (arith, inside, count)
        ]

-- a session after an answer that failed: what was held is
pub session_failed : (file : TextFile) (turned : Option Dcop) (top : ℕ) (tree : RootedTree) (touched touched' : List Bool) (kept kept' : List (Option Made)) → IsSession file turned top tree touched kept
    → touched' ≡ touched → StayHeld (problem_solved file) (dfs (problem_solved file)) kept kept' → IsSession file turned top tree touched' kept'
session_failed file turned top tree touched touched' kept kept' is same stay =
    subst (λ (ts : List Bool). IsSession file turned top tree ts kept') (sym same)
    (session_kept file turned top tree touched touched kept kept' is refl stay.counted (λ i lt out. stay.held i (is.held i lt out)))

-- a session after an answer, whatever came of it
pub session_after : {A E : Type 0} (r : Result A E) (file : TextFile) (turned : Option Dcop) (top : ℕ) (tree : RootedTree) (touched touched' : List Bool) (kept kept' : List (Option Made)) (q : Dcop) → IsSession file turned top tree touched kept
    → q ≡ problem_solved file → length (problem_solved file).sizes ≡ length file.problem.sizes → OnOk r (touched' ≡ replicate (length touched) false) → OnOk r (AreAllHeld q tree.paths kept') → OnErr r (touched' ≡ touched)
    → StayHeld q tree.paths kept kept' → IsSession file turned top tree touched' kept'
session_after (Ok x) file turned top tree touched touched' kept kept' q is same sizes cleared all unmarked stay =
    session_answered file turned top tree touched touched' kept kept' is cleared stay.counted sizes
    (subst (λ (r : Dcop). AreAllHeld r (dfs (problem_solved file)) kept') same (subst (λ (paths : List (List ℕ)). AreAllHeld q paths kept') is.paths all))
session_after (Err e) file turned top tree touched touched' kept kept' q is same sizes cleared all unmarked stay =
    session_failed file turned top tree touched touched' kept kept' is unmarked
    (subst (λ (r : Dcop). StayHeld r (dfs (problem_solved file)) kept kept') same (subst (λ (paths : List (List ℕ)). StayHeld q paths kept kept') is.paths stay))
