-- The table that an agent sends up is within the ranges of a message.
use Rattle.std.proofs.Common.{◌≡◌, ℕ, suc, ◌≤◌, ◌<◌, Bool, true, ◌||◌, List, [], ◌∷◌, map, length, Option, is_some, nat_le, sym, ap, subst, ◌∙◌, arith}
use Rattle.std.specs.List.{filter, list_all, list_any}
use Rattle.std.proofs.Math.Nat.{mul-le-mul_right}
use Rattle.std.proofs.lemmas.Bool.{and_parts, cond_both, leb-true}
use Rattle.std.proofs.lemmas.List.Elements.{All-filter}
use Rattle.dcop_base.specs.Table.{CostTable, IsTable, has, product}
use Rattle.dcop_base.specs.declared.knowledge.Private.{Private}
use Rattle.dcop_base.specs.Limits.{variable_limit, joined_limit}
use Rattle.dcop_base.proofs.TableLaws.{parts-of}
use Rattle.pseudotree.specs.declared.agent.Place.{Place}
use Rattle.protocol_steps.specs.Ranges.{AreVariables, AreCells}
use Rattle.protocol_steps.specs.Dpop.{DpopView, kept_scopes, joined_cells_with, separator, size_of, util_table}
use Rattle.protocol_steps.specs.DpopJoin.{can_join}
use Rattle.dpop_agent.specs.Keeping.{keeping}
use Rattle.dpop_agent.specs.Sound.{IsKeeper}

filter_short : (p : ℕ → Bool) (xs : List ℕ) → length (filter p xs) ≤ length xs
filter_short p [] = omega arith
filter_short p (x ∷ xs) =
    let rest = filter_short p xs in
    cond_both (p x) (x ∷ filter p xs) (filter p xs) (λ (ys : List ℕ). length ys ≤ suc (length xs)) (λ _. omega (arith, rest)) (λ _. omega (arith, rest))

module _ (own : Private) (place : Place) (kept : List (Option CostTable)) (keeper : IsKeeper own place kept) (t : CostTable) (is : t ≡ util_table (keeping own place kept)) where
  abbrev near : ℕ → Bool
  near u = has own.neighbours u || list_any (λ scope. has scope u) (kept_scopes (keeping own place kept))

  pub util_scope : AreVariables t.scope
  util_scope =
      let path = keeper.placed.path in
      let few = path.few in
      let count = filter_short near place.path in
      subst AreVariables (sym (ap (λ (u : CostTable). u.scope) is)) (record {
        few = omega (arith, few, count);
        below = All-filter near (λ u. u < variable_limit) place.path path.below;
      })

  pub util_cells : IsTable t → can_join (keeping own place kept) ≡ true → AreCells t.cells
  util_cells whole can =
      let v : DpopView = keeping own place kept in
      let parts = parts-of t.scope t.sizes t.cells whole in
      let full = parts.full ∙ ap (λ (u : CostTable). product u.sizes) is in
      let both = and_parts (list_all is_some kept) (nat_le (joined_cells_with v (kept_scopes v)) joined_limit) can in
      let narrow = leb-true (joined_cells_with v (kept_scopes v)) joined_limit both.1 in
      let one = keeper.known.size.0 in
      let less = mul-le-mul_right (product (map (size_of v) (separator v))) one in
      record { few = omega (arith, full, narrow, less); below = parts.small }
