-- What an agent picks of the tables that are held.
use Rattle.std.proofs.Common.{◌≡◌, ℕ, ◌<◌, true, List, map, length, get_or, Option, Some, None, refl, sym, ap, subst, ◌∙◌, arith, All}
use Rattle.std.specs.List.{remove}
use Rattle.std.proofs.lemmas.Option.{get_or_from_slice_get, same_Some}
use Rattle.dcop_base.specs.Table.{CostTable, AreWithin, has}
use Rattle.dcop_base.specs.Problem.{Dcop, IsAssignment}
use Rattle.dcop_base.specs.Whole.{IsProblem}
use Rattle.dcop_base.specs.Knowledge.{private_of}
use Rattle.pseudotree.specs.Pseudotree.{separator_of, separator_at, RootedTree}
use Rattle.pseudotree.specs.Place.{sizes_of}
use Rattle.pseudotree.specs.Preorder.{preorder_of}
use Rattle.pseudotree.proofs.PlaceLaws.{separator_is, separator_below}
use Rattle.cost_table.specs.Cells.{place_in}
use Rattle.util_project.specs.Projection.{IsLowestLeast, cell_at_value, size_in}
use Rattle.protocol_steps.specs.Dpop.{best_value, separator, size_of}
use Rattle.protocol_steps.specs.TreeAgents.{place_at}
use Rattle.dpop_agent.specs.declared.made.Made.{Made}
use Rattle.dpop_agent.specs.Joint.{IsJoint}
use Rattle.dpop_agent.specs.Remade.{sent_of}
use Rattle.dpop_agent.specs.Sound.{IsKeeper}
use Rattle.dpop_agent.proofs.RemakeLaws.{sent_keeper}
use Rattle.dpop_agent.proofs.CellLaws.{joint_names, joint_sizes, joint_size, picked_best}
use Rattle.edit_session.specs.Held.{agent_with, AreAllHeld}
use Rattle.edit_session.specs.MadeLaws.{AreChildrenHeld, ChildrenMayBeJoined, PicksReadSeparators}
use Rattle.edit_session.specs.Loops.{IsEditGround}
use Rattle.edit_session.proofs.LoopLaws.{children_all, values_within}

-- what is picked: what the search for it asks, and that it is the best value
pub record IsPick (p : Dcop) (paths : List (List ℕ)) (kept : List (Option Made)) (i : ℕ) (t : CostTable) (values others : List ℕ) : Type 0 where
  pub names : has t.scope i ≡ true
  pub within : AreWithin (remove t.sizes (place_in t.scope i)) others
  pub best : (d : ℕ) → IsLowestLeast (cell_at_value t i others) (size_in t i) d → d ≡ best_value (agent_with p paths kept i) (λ u. get_or values u 0)
  pub below : (d : ℕ) → IsLowestLeast (cell_at_value t i others) (size_in t i) d → d < get_or p.sizes i 0

-- the table that is kept for an agent is the one that is held
pub kept_is_held : (p : Dcop) (paths : List (List ℕ)) (kept : List (Option Made)) (i : ℕ) (made : Made) → AreAllHeld p paths kept → i < length p.sizes → length kept ≡ length p.sizes → get_or kept i None ≡ Some made → IsJoint (agent_with p paths kept i) made.joined
kept_is_held p paths kept i made all lt long at =
    let held = all i lt in
    let same : held.made ≡ made = same_Some held.made made (sym (get_or_from_slice_get kept i (Some held.made) None held.there) ∙ at) in
    subst (λ (m : Made). IsJoint (agent_with p paths kept i) m.joined) same held.tables.joined

-- something is kept for each agent
pub none_kept : (p : Dcop) (paths : List (List ℕ)) (kept : List (Option Made)) (i : ℕ) → AreAllHeld p paths kept → i < length p.sizes → get_or kept i None ≡ None → ⊥
none_kept p paths kept i all lt at =
    let held = all i lt in
    some_none held.made (sym (get_or_from_slice_get kept i (Some held.made) None held.there) ∙ at)
  where
    some_none : (m : Made) → Some m ≡ None → ⊥
    some_none m e = cc

pub is_pick : (p : Dcop) (tree : RootedTree) (kept : List (Option Made)) (i : ℕ) (t : CostTable) (values others : List ℕ) → IsProblem p → IsEditGround p tree kept → ChildrenMayBeJoined → PicksReadSeparators
    → AreAllHeld p tree.paths kept → i < length p.sizes → IsAssignment p values → IsJoint (agent_with p tree.paths kept i) t → others ≡ map (λ (v : ℕ). get_or values v 0) (separator_at tree i) → IsPick p tree.paths kept i t values others
is_pick p tree kept i t values others problem ground may reads all lt assignment joint is =
    let paths : List (List ℕ) = tree.paths in
    let pseudo = ground.tree_is.pseudotree in
    let count = pseudo.sized in
    let children : AreChildrenHeld p paths kept i = children_all p paths problem pseudo kept all reads (preorder_of paths) refl i in
    let joined = may p paths kept i problem pseudo ground.linked ground.narrow ground.counted lt children in
    let keeper : IsKeeper (private_of p i) (place_at p paths i) (sent_of kept (place_at p paths i).children) = sent_keeper (private_of p i) (place_at p paths i) kept joined.may in
    let reading = reads p paths kept i problem pseudo children in
    let value : ℕ → ℕ = λ u. get_or values u 0 in
    let inside : i < length paths = omega (arith, lt, count) in
    let above : separator_at tree i ≡ separator (agent_with p paths kept i) = separator_is p tree ground.tree_is i inside ∙ sym reading.separator_is in
    let known : All (λ v. v < length p.sizes) (separator_of p paths i) =
    subst (λ (vs : List ℕ). All (λ v. v < length p.sizes) vs) (separator_is p tree ground.tree_is i inside)
    (subst (λ (n : ℕ). All (λ v. v < n) (separator_at tree i)) count (separator_below p tree ground.tree_is i inside)) in
    let within' : AreWithin (sizes_of p (separator_of p paths i)) (map value (separator_of p paths i)) = values_within p values assignment (separator_of p paths i) known in
    let within : AreWithin (map (size_of (agent_with p paths kept i)) (separator (agent_with p paths kept i))) (map value (separator (agent_with p paths kept i))) =
    subst (λ (vs : List ℕ). AreWithin (map (size_of (agent_with p paths kept i)) vs) (map value vs)) (sym reading.separator_is)
    (subst (λ (ss : List ℕ). AreWithin ss (map value (separator_of p paths i))) (sym reading.sizes_are) within') in
    let sent : List (Option CostTable) = sent_of kept (place_at p paths i).children in
    let others_are : others ≡ map value (separator (agent_with p paths kept i)) = is ∙ ap (map value) above in
    record {
      names = joint_names (private_of p i) (place_at p paths i) sent keeper t joint;
      within =
          subst (λ (xs : List ℕ). AreWithin (remove t.sizes (place_in t.scope i)) xs) (sym others_are)
          (subst (λ (ss : List ℕ). AreWithin ss (map value (separator (agent_with p paths kept i)))) (sym (joint_sizes (private_of p i) (place_at p paths i) sent keeper t joint)) within);
      best = λ d least.
          picked_best (private_of p i) (place_at p paths i) sent keeper t joint value within d
          (subst (λ (xs : List ℕ). IsLowestLeast (cell_at_value t i xs) (size_in t i) d) others_are least);
      below = λ d least.
          let size = joint_size (private_of p i) (place_at p paths i) sent keeper t joint in
          let low = least.below in
          omega (arith, size, low);
    }
