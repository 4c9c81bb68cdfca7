-- Where all ADOPT agents of a run have ended: what a child has from its parent, and what each agent knows.
use Rattle.std.proofs.Common.{◌≡◌, ℕ, zero, suc, ◌-◌, ◌≤◌, Bool, true, false, cond, eqb, ◌||◌, map, List, [], ◌∷◌, ◌++◌, length, get_or, Option, Some, None, refl, sym, ap, subst, ◌∙◌, inl, inr, arith}
use Rattle.std.specs.List.{list_all, slice_get, zip}
use Rattle.std.proofs.lemmas.Bool.{cases_Bool, eqb-true, true≢false, false≢true}
use Rattle.std.proofs.lemmas.Option.{none-some, slice_get-get_or, slice_get_within, get_or_from_slice_get}
use Rattle.std.proofs.lemmas.List.{get_or-map}
use Rattle.std.proofs.lemmas.List.Folds.{list_any-append, list_all_at}
use Rattle.dcop_base.specs.Table.{has}
use Rattle.dcop_base.specs.Problem.{Dcop}
use Rattle.dcop_base.specs.Whole.{IsProblem}
use Rattle.pseudotree.specs.Tree.{path_of, parent_of, is_above}
use Rattle.pseudotree.specs.Pseudotree.{IsPseudotree, IsLinked}
use Rattle.pseudotree.proofs.TreeLaws.{longer}
use Rattle.adopt_context.specs.Context.{Context, value_in, put}
use Rattle.protocol_steps.specs.Adopt.{AdoptView}
use Rattle.protocol_steps.specs.AdoptRange.{is_within}
use Rattle.protocol_steps.specs.AdoptStep.{share_of}
use Rattle.protocol_steps.specs.Effect.{has_ended}
use Rattle.protocol_steps.specs.Links.{taken_at}
use Rattle.protocol_steps.specs.Network.{Network, link}
use Rattle.protocol_steps.specs.View.{AdoptKind, ended_of, value_of}
use Rattle.protocol_steps.specs.TreeAgents.{place_at}
use Rattle.adopt_context.proofs.KnownLaws.{value_put}
use Rattle.run_laws.proofs.FitLaws.{fits_child, fits_put}
use Rattle.run_laws.proofs.PairLaws.{told_by}
use Rattle.run_laws.proofs.PairRuns.{IsRun, IsPlaced, placed_at, parent_in, child_told}
use Rattle.run_laws.specs.AdoptEnd.{values_of, KnowsAncestors}

-- a context of which no pair passes a test that nothing passes
none_known : (c : Context) (u : ℕ) → list_all (λ (p : ℕ × ℕ). false) c ≡ true → value_in c u ≡ None
none_known [] u h = refl
none_known (p ∷ ps) u h = absurd (false≢true h)

no_parent : (xs : List ℕ) → slice_get xs (length xs - 1) ≡ None → xs ≡ []
no_parent [] q = refl
no_parent (x ∷ xs) q = absurd (none-some (get_or (x ∷ xs) (length (x ∷ xs) - 1) 0) (sym q ∙ slice_get-get_or (x ∷ xs) (length (x ∷ xs) - 1) 0 (omega arith)))

-- a value put before others that are there where a test passes
put_before : (e b : Bool) (s t : Option ℕ) → (e ≡ true → s ≡ t) → cond e s (cond b t None) ≡ cond (b || (e || false)) t None
put_before true true s t h = h refl
put_before true false s t h = h refl
put_before false true s t h = refl
put_before false false s t h = refl

module _ (p : Dcop) (paths : List (List ℕ)) (problem : IsProblem p) (pseudo : IsPseudotree p paths) (linked : IsLinked p paths) (error : ℕ) where
  -- the root knows nothing
  root_known : (i : ℕ) (v : AdoptView) → IsPlaced p paths problem pseudo linked error i v → path_of paths i ≡ [] → (u : ℕ) → value_in v.known u ≡ None
  root_known i v a none u =
      none_known v.known u
      (subst (λ (xs : List ℕ). list_all (λ (x : ℕ × ℕ). is_within (value_in (zip xs (map (λ w. get_or p.sizes w 0) xs)) x.0) x.1) v.known ≡ true) none a.fits_known)

  module _ (net : Network) (is : IsRun p paths problem pseudo linked error net) (over : has_ended net ≡ true) where
    pub ended_at : (i : ℕ) (v : AdoptView) → slice_get net.views i ≡ Some (AdoptKind v) → v.phase.ended ≡ true
    ended_at i v at =
        elim (cases_Bool v.phase.ended) [
          | inl ended ↦ ended
          | inr going ↦
              let here : ended_of (get_or net.views i (AdoptKind v)) ≡ false = ap ended_of (get_or_from_slice_get net.views i (AdoptKind v) (AdoptKind v) at) ∙ going in
              absurd (true≢false (sym over ∙ list_all_at ended_of net.views i (AdoptKind v) (slice_get_within net.views i (AdoptKind v) at) here))
        ]

    pub value_at : (i : ℕ) (v : AdoptView) → slice_get net.views i ≡ Some (AdoptKind v) → get_or (values_of net) i 0 ≡ v.value
    value_at i v at =
        get_or-map value_of net.views i (AdoptKind v) 0 (slice_get_within net.views i (AdoptKind v) at)
        ∙ ap value_of (get_or_from_slice_get net.views i (AdoptKind v) (AdoptKind v) at)

    -- a child's last threshold is its parent's last share, and what it knows its parent's context with the parent's value
    pub from_parent : (i c : ℕ) (x y : AdoptView) → parent_of paths c ≡ Some i → slice_get net.views i ≡ Some (AdoptKind x) → slice_get net.views c ≡ Some (AdoptKind y)
        → (y.told ≡ true) × (y.last ≡ share_of x c) × (y.known ≡ put x.known i x.value)
    from_parent i c x y parent ax ay =
        let pair = is.pairs i c x y parent ax ay in
        let a : IsPlaced p paths problem pseudo linked error i x = placed_at p paths problem pseudo linked error net is.good i x ax in
        let told : y.told ≡ true =
        child_told p paths problem pseudo linked error i c y (placed_at p paths problem pseudo linked error net is.good c y ay) parent (is.enders c y ay).ended_is (ended_at c y ay) in
        let both =
        told_by (place_at p paths c) y (taken_at net.desks c i) (link net.desks i c) x.value (share_of x c) x.known (put x.known i x.value) pair.within (pair.last (ended_at i x ax))
        (fits_child p paths pseudo.tree i c parent x.known a.fits_known) (fits_put p paths pseudo.tree i c parent x.known x.value a.fits_known a.small) pair.digested told in
        (told, both.0, both.1)

    abbrev Knows : ℕ → AdoptView → Type 0
    Knows i v = KnowsAncestors paths (values_of net) i v

    -- what an agent knows, where its parent knows its ancestors' values
    knows_step : (i : ℕ) (v : AdoptView) → slice_get net.views i ≡ Some (AdoptKind v) → (o : Option ℕ) → parent_of paths i ≡ o
        → ((q : ℕ) (x : AdoptView) → parent_of paths i ≡ Some q → slice_get net.views q ≡ Some (AdoptKind x) → Knows q x) → Knows i v
    knows_step i v at None none up u =
        let path : path_of paths i ≡ [] = no_parent (path_of paths i) none in
        root_known i v (placed_at p paths problem pseudo linked error net is.good i v at) path u
        ∙ sym (ap (λ (xs : List ℕ). cond (has xs u) (Some (get_or (values_of net) u 0)) None) path)
    knows_step i v at (Some q) parent up u =
        let other = is.good.agents q (parent_in p paths problem pseudo linked error q i parent) in
        let x : AdoptView = other.view in
        let value : Option ℕ = Some (get_or (values_of net) u 0) in
        let path : path_of paths i ≡ path_of paths q ++ (q ∷ []) = (pseudo.tree.nested i q parent).1 in
        let within : is_above paths u i ≡ (is_above paths u q || (eqb q u || false)) = ap (λ (xs : List ℕ). has xs u) path ∙ list_any-append (λ y. eqb y u) (path_of paths q) (q ∷ []) in
        ap (λ (c : Context). value_in c u) (from_parent q i x v parent other.at at).2
        ∙ value_put x.known q x.value u
        ∙ ap (λ (o : Option ℕ). cond (eqb q u) (Some x.value) o) (up q x parent other.at u)
        ∙ put_before (eqb q u) (is_above paths u q) (Some x.value) value (λ same. ap (λ (n : ℕ). Some n) (sym (value_at q x other.at) ∙ ap (λ (k : ℕ). get_or (values_of net) k 0) (eqb-true q u same)))
        ∙ sym (ap (λ (b : Bool). cond b value None) within)

    knows_to : (n i : ℕ) (v : AdoptView) → length (path_of paths i) ≤ n → slice_get net.views i ≡ Some (AdoptKind v) → Knows i v
    knows_to zero i v le at = knows_step i v at (parent_of paths i) refl (λ q x parent ax. absurd (let long = longer paths pseudo.tree i q parent in omega (arith, le, long)))
    knows_to (suc n) i v le at = knows_step i v at (parent_of paths i) refl (λ q x parent ax. knows_to n q x (let long = longer paths pseudo.tree i q parent in omega (arith, le, long)) ax)

    -- each agent knows its proper ancestors' values
    pub knows_ancestors : (i : ℕ) (v : AdoptView) → slice_get net.views i ≡ Some (AdoptKind v) → KnowsAncestors paths (values_of net) i v
    knows_ancestors i v at = knows_to (length (path_of paths i)) i v (omega arith) at
