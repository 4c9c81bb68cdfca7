-- The law: a message is pending until all ADOPT agents have ended.
use Rattle.std.proofs.Common.{◌≡◌, ℕ, suc, ◌-◌, ◌<◌, Bool, true, false, ◌==◌, ◌&&◌, ◌||◌, take, List, [], ◌∷◌, length, get_or, Option, Some, None, refl, sym, ap, ◌∙◌, inl, inr, arith}
use Rattle.std.specs.List.{list_all, slice_get, fold}
use Rattle.std.proofs.lemmas.Bool.{cases_lt, cases_Bool, and_from, or_left, or_right, true≢false, false≢true}
use Rattle.std.proofs.lemmas.Option.{none-some, same_Some, slice_get-get_or, slice_get_within}
use Rattle.std.proofs.lemmas.List.{length-drop, take_all}
use Rattle.dcop_base.specs.Problem.{Dcop}
use Rattle.dcop_base.specs.Whole.{IsProblem}
use Rattle.pseudotree.specs.declared.agent.Place.{Place}
use Rattle.pseudotree.specs.Tree.{path_of, parent_of, children_of}
use Rattle.pseudotree.specs.Pseudotree.{IsPseudotree, IsLinked}
use Rattle.adopt_context.specs.Context.{Context, put, is_value, names_all}
use Rattle.protocol_steps.specs.declared.message.Message.{Message}
use Rattle.protocol_steps.specs.Adopt.{AdoptView, is_root}
use Rattle.protocol_steps.specs.AdoptBounds.{upper_bound}
use Rattle.protocol_steps.specs.AdoptStep.{share_of}
use Rattle.protocol_steps.specs.View.{View, AdoptKind, ended_of}
use Rattle.protocol_steps.specs.Network.{Network, start_state, link, waiting}
use Rattle.protocol_steps.specs.Effect.{SomePending, has_ended}
use Rattle.protocol_steps.specs.Links.{taken_at}
use Rattle.dcop_optimum.proofs.JoinLaws.{children_parent}
use Rattle.protocol_steps.specs.TreeAgents.{place_at, adopt_agents}
use Rattle.run_laws.specs.AdoptPendingLaw.{AdoptPending}
use Rattle.run_laws.proofs.DigestLaws.{Digest, Open, Ending, digest_by, digest, digest_step}
use Rattle.run_laws.proofs.PairLaws.{whole_digest}
use Rattle.run_laws.proofs.FitLaws.{fits_child, fits_put}
use Rattle.run_laws.proofs.PairRuns.{IsRun, IsPlaced, placed_at, parent_in}
use Rattle.run_laws.proofs.PairSteps.{run_goes}
use Rattle.run_laws.proofs.AdoptPendingLaws.{run_starts, leaf_settled, pend, between}

-- some agent that has not ended
record IsAwake (vs : List View) : Type 0 where
  pub at : ℕ
  pub view : View
  pub is : slice_get vs at ≡ Some view
  pub going : ended_of view ≡ false

some_awake : (vs : List View) → list_all ended_of vs ≡ false → IsAwake vs
some_awake [] h = absurd (true≢false h)
some_awake (v ∷ vs) h =
    elim (cases_Bool (ended_of v)) [
      | inr going ↦ record { at = 0; view = v; is = refl; going = going }
      | inl ended ↦
          let rest = some_awake vs (sym (ap (λ (b : Bool). b && list_all ended_of vs) ended) ∙ h) in
          record { at = suc rest.at; view = rest.view; is = rest.is; going = rest.going }
    ]

told_from : (b : Bool) (last t : ℕ) (x c : Context) → digest_by b last x ≡ Ending t c → b ≡ true
told_from true last t x c h = refl
told_from false last t x c h = absurd (true≢false (ap is_open h))
  where
    is_open : Digest → Bool
    is_open (Open t) = true
    is_open (Ending t c) = false

no_parent : (xs : List ℕ) → slice_get xs (length xs - 1) ≡ None → xs ≡ []
no_parent [] q = refl
no_parent (x ∷ xs) q = absurd (none-some (get_or (x ∷ xs) (length (x ∷ xs) - 1) 0) (sym q ∙ slice_get-get_or (x ∷ xs) (length (x ∷ xs) - 1) 0 (omega arith)))

module _ (p : Dcop) (paths : List (List ℕ)) (problem : IsProblem p) (pseudo : IsPseudotree p paths) (linked : IsLinked p paths) (error : ℕ) where
  module _ (net : Network) (is : IsRun p paths problem pseudo linked error net) (i : ℕ) (lt : i < length p.sizes) where
    abbrev v : AdoptView
    v = (is.good.agents i lt).view

    v_at : slice_get net.views i ≡ Some (AdoptKind v)
    v_at = (is.good.agents i lt).at

    v_placed : IsPlaced p paths problem pseudo linked error i v
    v_placed = placed_at p paths problem pseudo linked error net is.good i v v_at

    -- a leaf that knows its path and may end has ended
    leaf_ended : length (children_of paths i) ≡ 0 → names_all v.known (path_of paths i) ≡ true → (is_root v || v.told) ≡ true → v.phase.ended ≡ true
    leaf_ended leaf names may =
        (is.enders i v v_at).ended_is
        ∙ and_from (is_value (upper_bound v) v.threshold) (is_root v || v.told) (leaf_settled p paths problem pseudo linked error i lt v (is.good.agents i lt).settled leaf names) may

    of_leaf : v.phase.ended ≡ false → length (children_of paths i) ≡ 0 → (o : Option ℕ) → parent_of paths i ≡ o → SomePending net
    of_leaf going leaf None none =
        let path : path_of paths i ≡ [] = no_parent (path_of paths i) none in
        let root : is_root v ≡ true = ap (λ (q : Place). length q.path == 0) v_placed.place_is ∙ ap (λ (xs : List ℕ). length xs == 0) path in
        absurd (false≢true (sym going ∙ leaf_ended leaf (ap (λ (xs : List ℕ). names_all v.known xs) path) (or_left (is_root v) v.told root)))
    of_leaf going leaf (Some q) parent =
        let lq = parent_in p paths problem pseudo linked error q i parent in
        let other = is.good.agents q lq in
        let x : AdoptView = other.view in
        elim (cases_Bool x.phase.ended) [
          | inr awake ↦ between p paths problem pseudo linked error net is q i x parent other.at awake
          | inl ended ↦
              let pair = is.pairs q i x v parent other.at v_at in
              let down : List Message = link net.desks q i in
              let td : ℕ = taken_at net.desks i q in
              elim (cases_lt td (length down)) [
                | inl less ↦
                    pend p paths problem pseudo linked error net is i q v lt lq v_at going
                    (λ none. let long : length (waiting net.desks i q) ≡ length down - td = length-drop td down in let zero_long : length (waiting net.desks i q) ≡ 0 = ap length none in omega (arith, less, long, zero_long))
                | inr all ↦
                    let a = placed_at p paths problem pseudo linked error net is.good q x other.at in
                    let whole : take td down ≡ down = take_all td down all in
                    let end : digest v ≡ Ending (share_of x i) (put x.known q x.value) =
                    pair.digested ∙ ap (λ (ms : List Message). fold (digest_step (place_at p paths i)) (Open 0) ms) whole
                    ∙ whole_digest (place_at p paths i) down x.value (share_of x i) x.known (put x.known q x.value) (pair.last ended)
                    (fits_child p paths pseudo.tree q i parent x.known a.fits_known) (fits_put p paths pseudo.tree q i parent x.known x.value a.fits_known a.small) in
                    let told : v.told ≡ true = told_from v.told v.last (share_of x i) v.known (put x.known q x.value) end in
                    absurd (false≢true (sym going ∙ leaf_ended leaf ((is.enders i v v_at).names told) (or_right (is_root v) v.told told)))
              ]
        ]

    pub awake_pending : v.phase.ended ≡ false → SomePending net
    awake_pending going =
        elim (cases_lt 0 (length (children_of paths i))) [
          | inl some ↦ between p paths problem pseudo linked error net is i (get_or (children_of paths i) 0 0) v (children_parent paths i 0 0 some) v_at going
          | inr none ↦ of_leaf going (omega (arith, none)) (parent_of paths i) refl
        ]

  pub pending_still : (net : Network) → IsRun p paths problem pseudo linked error net → has_ended net ≡ false → SomePending net
  pending_still net is h =
      let some = some_awake net.views h in
      let within = slice_get_within net.views some.at some.view some.is in
      let count = is.good.count in
      let lt : some.at < length p.sizes = omega (arith, within, count) in
      let there = is.good.agents some.at lt in
      awake_pending net is some.at lt (sym (ap ended_of (same_Some some.view (AdoptKind there.view) (sym some.is ∙ there.at))) ∙ some.going)

pub adopt_pending : AdoptPending
adopt_pending p paths error problem pseudo linked es end r h =
    pending_still p paths problem pseudo linked error end
    (run_goes p paths problem pseudo linked error (start_state (adopt_agents p paths error)) end es (run_starts p paths problem pseudo linked error) r) h
