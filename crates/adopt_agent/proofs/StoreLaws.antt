-- What is stored of the bounds that a child sends.
use Rattle.std.proofs.Common.{◌≡◌, ℕ, ◌&&◌, Bool, true, false, [], ◌∷◌, set, Option, Some, None, refl, sym, ap, ap₂, subst, ◌∙◌}
use Rattle.std.proofs.lemmas.Bool.{cond-true, cond-false, and_parts, and_from, eq-eqb}
use Rattle.std.proofs.lemmas.Option.{same_Some}
use Rattle.std.proofs.lemmas.List.{length-set}
use Rattle.dcop_base.specs.declared.knowledge.Private.{Private}
use Rattle.pseudotree.specs.declared.agent.Place.{Place}
use Rattle.adopt_context.specs.Context.{Context, value_in, may_be, is_value, compatible, part_of}
use Rattle.adopt_context.specs.Bounds.{Entry, row_at, entry_at}
use Rattle.adopt_context.specs.Merge.{may_merge, merged}
use Rattle.adopt_context.proofs.KnownLaws.{value_is, part_gives, union_part}
use Rattle.adopt_context.proofs.RowLaws.{entry_each}
use Rattle.adopt_bounds.specs.Rows.{BoundsView, merged_at}
use Rattle.protocol_steps.specs.Adopt.{AdoptView}
use Rattle.protocol_steps.specs.AdoptBounds.{restore}
use Rattle.protocol_steps.specs.AdoptCost.{with_entry, may_store, stored}
use Rattle.adopt_agent.specs.declared.stage.Stage.{Stage}
use Rattle.adopt_agent.specs.Stage.{view_at}
use Rattle.adopt_agent.specs.Sound.{AreBacked}

-- parts of one context are compatible
pub parts_agree : (c r x : Context) → part_of c x ≡ true → part_of r x ≡ true → compatible c r ≡ true
parts_agree [] r x one other = refl
parts_agree (p ∷ ps) r x one other =
    let both = and_parts (is_value (value_in x p.0) p.1) (part_of ps x) one in
    and_from (may_be (value_in r p.0) p.1) (compatible ps r) (may (value_in r p.0) refl (value_is (value_in x p.0) p.1 both.0)) (parts_agree ps r x both.1 other)
  where
    may : (o : Option ℕ) → value_in r p.0 ≡ o → value_in x p.0 ≡ Some p.1 → may_be o p.1 ≡ true
    may None e there = refl
    may (Some b) e there = eq-eqb b p.1 (same_Some b p.1 (sym (part_gives r x other p.0 b e) ∙ there))

-- bounds with what a child sends merged in
pub backed_merged : (own : Private) (place : Place) (known : Context) (bounds after : BoundsView) (d k : ℕ) (r : Context) (l : ℕ) (u : Option ℕ) → AreBacked own place known bounds → part_of r known ≡ true → after ≡ merged_at bounds d k r l u → AreBacked own place known after
backed_merged own place known bounds after d k r l u backed part is =
    let e : Entry = entry_at bounds.rows d k in
    subst (λ (b : BoundsView). AreBacked own place known b) (sym is) (record {
      children = backed.children;
      counted = length-set bounds.rows d (set (row_at bounds.rows d) k (merged e r l u)) ∙ backed.counted;
      rest = entry_each (λ i m x. part_of x.context known ≡ true) bounds.rows d k (merged e r l u) (union_part e.context r known (backed.rest d k) part) backed.rest;
    })

-- what storing gives
pub stored_shown : (own : Private) (place : Place) (error : ℕ) (stage : Stage) (known : Context) (value threshold last : ℕ) (told : Bool) (bounds after : BoundsView) (v : AdoptView) (d k : ℕ) (r : Context) (l : ℕ) (u : Option ℕ)
    → view_at own place error stage known value threshold last told bounds.rows ≡ v → part_of r known ≡ true → may_merge (entry_at bounds.rows d k) l u ≡ true
    → after ≡ merged_at bounds d k r l u
    → restore (view_at own place error stage known value threshold last told after.rows) ≡ stored v d k r l u
stored_shown own place error stage known value threshold last told bounds after v d k r l u view part may is =
    let w : AdoptView = view_at own place error stage known value threshold last told bounds.rows in
    let e : Entry = entry_at bounds.rows d k in
    ap (λ (b : BoundsView). restore (view_at own place error stage known value threshold last told b.rows)) is
    ∙ sym (cond-true (may_store w d k r l u) (restore (with_entry w d k (merged e r l u))) w (and_from (part_of r known) (may_merge e l u) part may))
    ∙ ap (λ (x : AdoptView). stored x d k r l u) view

-- bounds that cross are not stored
pub not_stored : (own : Private) (place : Place) (error : ℕ) (stage : Stage) (known : Context) (value threshold last : ℕ) (told : Bool) (bounds after : BoundsView) (v : AdoptView) (d k : ℕ) (r : Context) (l : ℕ) (u : Option ℕ)
    → view_at own place error stage known value threshold last told bounds.rows ≡ v → part_of r known ≡ true → may_merge (entry_at bounds.rows d k) l u ≡ false
    → after ≡ bounds → view_at own place error stage known value threshold last told after.rows ≡ stored v d k r l u
not_stored own place error stage known value threshold last told bounds after v d k r l u view part may is =
    let w : AdoptView = view_at own place error stage known value threshold last told bounds.rows in
    let e : Entry = entry_at bounds.rows d k in
    ap (λ (b : BoundsView). view_at own place error stage known value threshold last told b.rows) is
    ∙ sym (cond-false (may_store w d k r l u) (restore (with_entry w d k (merged e r l u))) w (ap₂ (λ (a : Bool) (b : Bool). a && b) part may))
    ∙ ap (λ (x : AdoptView). stored x d k r l u) view
