-- One more agent's tables are kept: those that were held stay held.
use Rattle.std.proofs.Common.{◌≡◌, ℕ, ◌<◌, true, List, [], length, get_or, set, Option, Some, None, sym, ap, subst, ◌∙◌, inl, inr, arith}
use Rattle.std.proofs.lemmas.Bool.{cases_eq}
use Rattle.std.proofs.lemmas.List.{length-set, get_or-set_same, get_or-set_other}
use Rattle.std.proofs.lemmas.Option.{slice_get-get_or, slice_get_within, get_or_from_slice_get}
use Rattle.dcop_base.specs.Table.{CostTable}
use Rattle.dcop_base.specs.Problem.{Dcop}
use Rattle.pseudotree.specs.Tree.{parent_of, children_of}
use Rattle.pseudotree.specs.Pseudotree.{IsPseudotree, is_within}
use Rattle.pseudotree.proofs.TreeLaws.{longer}
use Rattle.pseudotree.proofs.SpreadLaws.{above_child}
use Rattle.protocol_steps.specs.Dpop.{DpopView}
use Rattle.dcop_base.specs.Knowledge.{private_of}
use Rattle.protocol_steps.specs.TreeAgents.{place_at}
use Rattle.dcop_optimum.proofs.LineLaws.{within_cases, within_above, branch, branch_child}
use Rattle.run_laws.proofs.ListLaws.{map_alike}
use Rattle.run_laws.proofs.FullLaws.{child_is}
use Rattle.dpop_agent.specs.declared.made.Made.{Made}
use Rattle.dpop_agent.specs.Keeping.{keeping}
use Rattle.dpop_agent.specs.Remade.{sent_by, sent_at, IsRemade}
use Rattle.edit_session.specs.Held.{agent_with, IsHeld, AreHeldFrom}
use Rattle.edit_session.specs.MadeLaws.{AreChildrenHeld, OneMoreIsHeld}
use Rattle.edit_session.proofs.HeldLaws.{sent_is_made}

module _ (p : Dcop) (paths : List (List ℕ)) (pseudo : IsPseudotree p paths) (kept : List (Option Made)) (i : ℕ) (made : Made) (long : length kept ≡ length p.sizes) (lt : i < length p.sizes) (children : AreChildrenHeld p paths kept i) (is : IsRemade (agent_with p paths kept i) made) where
  abbrev more : List (Option Made)
  more = set kept i (Some made)

  sent_here : sent_at more i ≡ Some made.sent
  sent_here = ap sent_by (get_or-set_same kept i (Some made) None (omega (arith, lt, long)))

  sent_else : (j : ℕ) → (j ≡ i → ⊥) → sent_at more j ≡ sent_at kept j
  sent_else j ne = ap sent_by (get_or-set_other kept i j (Some made) None ne)

  -- agents whose children sent the same have the same view
  view_same : (j : ℕ) → ((c : ℕ) → parent_of paths c ≡ Some j → sent_at more c ≡ sent_at kept c) → agent_with p paths more j ≡ agent_with p paths kept j
  view_same j same =
      ap (λ (ks : List (Option CostTable)). keeping (private_of p j) (place_at p paths j) ks)
      (map_alike (sent_at more) (sent_at kept) (children_of paths j) (λ c h. same c (child_is paths j c h)))

  here : IsHeld p paths more i
  here = record {
    made = made;
    there = slice_get-get_or more i None (let size = length-set kept i (Some made) in omega (arith, lt, long, size)) ∙ ap (λ (o : Option Made). Some o) (get_or-set_same kept i (Some made) None (omega (arith, lt, long)));
    tables =
        subst (λ (v : DpopView). IsRemade v made)
        (sym (view_same i (λ c parent. sent_else c (λ (e : c ≡ i). let deep = longer paths pseudo.tree c i parent in let same : length (get_or paths c []) ≡ length (get_or paths i []) = ap (λ (x : ℕ). length (get_or paths x [])) e in absurd (omega (arith, deep, same)))))) is;
  }

  -- where variable i sent already what was made, all that is held stays so
  stays : (j : ℕ) → (j ≡ i → ⊥) → IsHeld p paths kept j → (parent_of paths i ≡ Some j → IsHeld p paths kept i) → IsHeld p paths more j
  stays j ne held above = record {
    made = held.made;
    there =
        let inside = slice_get_within kept j (Some held.made) held.there in
        slice_get-get_or more j None (let size = length-set kept i (Some made) in omega (arith, inside, size))
        ∙ ap (λ (o : Option Made). Some o) (get_or-set_other kept i j (Some made) None ne ∙ get_or_from_slice_get kept j (Some held.made) None held.there);
    tables =
        subst (λ (v : DpopView). IsRemade v held.made)
        (sym (view_same j (λ c parent.
        elim (cases_eq c i) [
          | inl same ↦
              let old = above (subst (λ (x : ℕ). parent_of paths x ≡ Some j) same parent) in
              let sent : made.sent ≡ old.made.sent = is.sent ∙ sym old.tables.sent in
              ap (sent_at more) same ∙ sent_here ∙ ap (λ (t : CostTable). Some t) sent ∙ sym (sent_is_made p paths kept i old) ∙ ap (sent_at kept) (sym same)
          | inr differs ↦ sent_else c differs
        ]))) held.tables;
  }

  others : (j : ℕ) → AreHeldFrom p paths kept j → AreHeldFrom p paths more j
  others j from k within = elim (cases_eq k i) [
    | inl same ↦ subst (IsHeld p paths more) (sym same) here
    | inr differs ↦ stays k differs (from k within) (λ parent. from i (below j k within parent))
  ]
    where
      below : (j k : ℕ) → is_within paths j k ≡ true → parent_of paths i ≡ Some k → is_within paths j i ≡ true
      below j k within parent = within_above paths j i (above_child paths pseudo.tree i k j parent within)

  from_here : AreHeldFrom p paths more i
  from_here k within = elim (within_cases paths i k within) [
    | inl same ↦ subst (IsHeld p paths more) (sym same) here
    | inr above ↦
        let child = branch_child paths pseudo.tree i k above in
        let c : ℕ = branch paths i k in
        others c (children c child.0) k child.1
  ]

pub one_more_is_held : OneMoreIsHeld
one_more_is_held p paths kept i made pseudo long lt children is = record {
  here = from_here p paths pseudo kept i made long lt children is;
  others = others p paths pseudo kept i made long lt children is;
}
