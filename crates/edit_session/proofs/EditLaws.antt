-- Other cells in a table of a problem: what stays.
use Rattle.std.proofs.Common.{◌≡◌, ℕ, zero, suc, ◌<◌, Bool, true, false, cond, List, [], ◌∷◌, map, length, get_or, set, Option, refl, sym, ap, ap₂, subst, ◌∙◌, inl, inr}
use Rattle.std.specs.List.{filter}
use Rattle.std.proofs.Math.Seq.{map-set_same}
use Rattle.std.proofs.lemmas.Bool.{cases_Bool, cond-false, both_ways}
use Rattle.dcop_base.specs.Table.{CostTable, has}
use Rattle.dcop_base.specs.Problem.{Dcop}
use Rattle.dcop_base.specs.Whole.{IsProblem}
use Rattle.dcop_base.specs.Knowledge.{private_of}
use Rattle.dcop_base.specs.declared.knowledge.Private.{Private}
use Rattle.pseudotree.specs.Tree.{path_of, children_of}
use Rattle.pseudotree.specs.Pseudotree.{IsPseudotree}
use Rattle.pseudotree.specs.Place.{sizes_of}
use Rattle.pseudotree.specs.declared.agent.Place.{Place}
use Rattle.protocol_steps.specs.Dpop.{DpopView}
use Rattle.protocol_steps.specs.TreeAgents.{place_at}
use Rattle.dcop_optimum.specs.Subtree.{is_owner_within}
use Rattle.dcop_optimum.proofs.OwnerLaws.{all_owned}
use Rattle.dpop_agent.specs.declared.made.Made.{Made}
use Rattle.dpop_agent.specs.Remade.{with_sent, IsRemade}
use Rattle.edit_session.specs.Held.{IsHeld}
use Rattle.edit_session.specs.Edits.{no_table, table_at, recelled, with_cells, is_on_way, HaveSameTrees, EditsLeaveOthers}
use Rattle.edit_session.proofs.GraphLaws.{neighbours_same, lower_same, same_trees}

-- an element that does not pass is replaced by one that does not
filter_set : (test : CostTable → Bool) (ts : List CostTable) (k : ℕ) (t d : CostTable) → test (get_or ts k d) ≡ false → test t ≡ false → filter test (set ts k t) ≡ filter test ts
filter_set test [] k t d old new = refl
filter_set test (x ∷ xs) zero t d old new =
    cond-false (test t) (t ∷ filter test xs) (filter test xs) new ∙ sym (cond-false (test x) (x ∷ filter test xs) (filter test xs) old)
filter_set test (x ∷ xs) (suc k) t d old new = ap (λ (ys : List CostTable). cond (test x) (x ∷ ys) ys) (filter_set test xs k t d old new)

module _ (p : Dcop) (k : ℕ) (cells : List ℕ) where
  pub scopes_stay : map (λ (t : CostTable). t.scope) (with_cells p k cells).tables ≡ map (λ (t : CostTable). t.scope) p.tables
  scopes_stay = map-set_same (λ (t : CostTable). t.scope) p.tables k (recelled (table_at p k) cells) no_table refl

  pub trees_stay : HaveSameTrees p (with_cells p k cells)
  trees_stay = same_trees p (with_cells p k cells).tables scopes_stay

  pub place_stays : (paths : List (List ℕ)) (i : ℕ) → place_at (with_cells p k cells) paths i ≡ place_at p paths i
  place_stays paths i =
      ap (λ (f : ℕ → List ℕ). let o : Place = record { me = i; path = path_of paths i; path_sizes = sizes_of p (path_of paths i); children = children_of paths i; lower = f i } in o)
      (lower_same p (with_cells p k cells).tables scopes_stay paths)

  -- an agent that the table does not name knows what it knew
  pub knowledge_stays : (i : ℕ) → has (table_at p k).scope i ≡ false → private_of (with_cells p k cells) i ≡ private_of p i
  knowledge_stays i out =
      ap₂ (λ (near : List ℕ) (ts : List CostTable). let o : Private = record { me = i; size = get_or p.sizes i 0; neighbours = near; neighbour_sizes = map (λ v. get_or p.sizes v 0) near; tables = ts } in o)
      (neighbours_same p (with_cells p k cells).tables scopes_stay i)
      (filter_set (λ (t : CostTable). has t.scope i) p.tables k (recelled (table_at p k) cells) no_table out out)

  module _ (problem : IsProblem p) (inside : k < length p.tables) where
    -- the table names no variable off its way
    off_way : (paths : List (List ℕ)) (i : ℕ) → IsPseudotree p paths → is_on_way paths (table_at p k).scope i ≡ false → has (table_at p k).scope i ≡ false
    off_way paths i pseudo off =
        let owned = all_owned p paths problem pseudo k no_table inside in
        elim (cases_Bool (has (table_at p k).scope i)) [
          | inl named ↦
              let on : is_on_way paths (table_at p k).scope i ≡ true = ap (is_owner_within paths i) owned.owns ∙ owned.others i named in
              absurd (both_ways (is_on_way paths (table_at p k).scope i) off on)
          | inr out ↦ out
        ]

    held_stays : (paths : List (List ℕ)) (kept : List (Option Made)) (i : ℕ) → IsPseudotree p paths → is_on_way paths (table_at p k).scope i ≡ false
        → IsHeld p paths kept i → IsHeld (with_cells p k cells) paths kept i
    held_stays paths kept i pseudo off held = record {
      made = held.made;
      there = held.there;
      tables =
          subst (λ (v : DpopView). IsRemade v held.made)
          (sym (ap₂ (λ (own : Private) (place : Place). with_sent own place kept) (knowledge_stays i (off_way paths i pseudo off)) (place_stays paths i))) held.tables;
    }

pub edits_leave_others : EditsLeaveOthers
edits_leave_others p k cells problem inside = record { trees = trees_stay p k cells; held = held_stays p k cells problem inside }
