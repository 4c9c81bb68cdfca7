-- No COST of a run is passed over for crossed bounds.
use Rattle.std.proofs.Common.{◌≡◌, ℕ, ◌<◌, true, ◌==◌, max, List, ◌∷◌, ◌++◌, length, get_or, Option, Some, None, refl, sym, ap, subst, ◌∙◌, arith}
use Rattle.std.specs.List.{fold, position}
use Rattle.std.proofs.lemmas.Bool.{and_from, le-leb}
use Rattle.std.proofs.lemmas.Option.{same_Some, slice_get_within}
use Rattle.std.proofs.lemmas.List.Quantifiers.{position-Some}
use Rattle.dcop_base.specs.Problem.{Dcop}
use Rattle.dcop_base.specs.Knowledge.{private_of}
use Rattle.dcop_base.specs.Whole.{IsProblem}
use Rattle.dcop_base.specs.declared.knowledge.Private.{Private}
use Rattle.pseudotree.specs.declared.agent.Place.{Place}
use Rattle.pseudotree.specs.Tree.{parent_of, children_of}
use Rattle.pseudotree.specs.Pseudotree.{IsPseudotree}
use Rattle.pseudotree.proofs.SpreadLaws.{above_child}
use Rattle.adopt_context.specs.Context.{Context, value_in, part_of, union}
use Rattle.adopt_context.specs.Bounds.{Entry, entry_at}
use Rattle.protocol_steps.specs.declared.message.Message.{Message}
use Rattle.protocol_steps.specs.declared.message.Message.TheVariants.{Cost}
use Rattle.protocol_steps.specs.Adopt.{AdoptView}
use Rattle.protocol_steps.specs.AdoptCost.{without, learn, may_store}
use Rattle.adopt_context.specs.Merge.{lesser, is_at_most}
use Rattle.protocol_steps.specs.AdoptMessage.{adopt_message}
use Rattle.protocol_steps.specs.Network.{start_state}
use Rattle.protocol_steps.specs.View.{View, AdoptKind}
use Rattle.dcop_optimum.specs.Enclosing.{IsAtMost}
use Rattle.dcop_optimum.proofs.LineLaws.{within_self, within_above}
use Rattle.dcop_optimum.proofs.JoinLaws.{children_parent}
use Rattle.protocol_steps.specs.TreeAgents.{place_at, adopt_agents}
use Rattle.run_laws.specs.AdoptRunLaws.{DoesNotCross, NoBoundsCross}
use Rattle.adopt_context.proofs.KnownLaws.{part_gives, union_part}
use Rattle.run_laws.proofs.Every.{Every, every_split, every_then}
use Rattle.run_laws.proofs.AdoptAgentLaws.{Brings, learn_mid, batch_mid}
use Rattle.run_laws.proofs.EncloseLaws.{not_crossed}
use Rattle.run_laws.proofs.PlacedLaws.{Under, child, IsFair, IsBrought, keeps_fair, Mid, merged_bounded, with_value, with_is, with_here, with_above, known_values, known_is, known_given}
use Rattle.run_laws.proofs.SayLaws.{Says, says_brings}
use Rattle.run_laws.proofs.AdoptRunSteps.{IsGood, batch_said, runs_on, starts}

test_from : (l : ℕ) (u : Option ℕ) → IsAtMost l u → is_at_most l u ≡ true
test_from l None h = refl
test_from l (Some u) h = le-leb l u h

module _ (p : Dcop) (paths : List (List ℕ)) (problem : IsProblem p) (pseudo : IsPseudotree p paths) (error i : ℕ) (in_tree : i < length p.sizes) where
  -- bounds that rest on what is known do not cross those of the entry
  fits_in : (v : AdoptView) (mid : Mid p paths problem pseudo error i in_tree v) (d k : ℕ) (r : Context) (l : ℕ) (u : Option ℕ) → k < length (children_of paths i) → d < get_or p.sizes i 0
      → part_of r v.known ≡ true → IsBrought p paths problem pseudo error i in_tree d k r l u → may_store v d k r l u ≡ true
  fits_in v mid d k r l u inside lt part brings =
      let e : Entry = entry_at v.rows d k in
      let fair : IsFair p paths problem pseudo error i in_tree v.known d k e = mid.entries d k in
      let c : ℕ = child p paths problem pseudo error i in_tree k in
      let parent : parent_of paths c ≡ Some i = children_parent paths i k 0 inside in
      let all : List ℕ = known_values p paths problem pseudo error i in_tree v mid in
      let all_is = known_is p paths problem pseudo error i in_tree v mid in
      let given = known_given p paths problem pseudo error i in_tree v mid in
      and_from (part_of r v.known) (is_at_most (max e.lower l) (lesser e.upper u)) part
      (test_from (max e.lower l) (lesser e.upper u)
      (not_crossed p paths c (Under p paths problem pseudo error i in_tree d (union e.context r)) (max e.lower l) (lesser e.upper u)
      (merged_bounded p paths problem pseudo error i in_tree v.known d k e r l u fair part brings)
      (λ values other agrees h. (
        agrees i (above_child paths pseudo.tree c i i parent (within_self paths i)) ∙ h.0,
        λ w b above at. agrees w (above_child paths pseudo.tree c i w parent (within_above paths w i above)) ∙ h.1 w b above at,
      ))
      (with_value p paths problem pseudo error i in_tree all d)
      (with_is p paths problem pseudo error i in_tree all all_is d lt) (
        with_here p paths problem pseudo error i in_tree all all_is d lt,
        λ w b above at.
            with_above p paths problem pseudo error i in_tree all all_is d lt w above
            ∙ given w b above (part_gives (union e.context r) v.known (union_part e.context r v.known fair.holds.part part) w b at),
      )))

  does_not_cross : (v : AdoptView) → Mid p paths problem pseudo error i in_tree v → (j : ℕ) (c : Context) (l : ℕ) (u : Option ℕ) → Says p paths j (Cost c l u) → DoesNotCross v j c l u
  does_not_cross v mid j c l u says k d at given lt fit part =
      let own_at : v.own ≡ private_of p i = mid.own_is in
      let place_is : v.place ≡ place_at p paths i = mid.place_is in
      let there : position (λ x. x == j) (children_of paths i) ≡ Some k = sym (ap (λ (q : Place). position (λ x. x == j) q.children) place_is) ∙ at in
      let mine : value_in c i ≡ Some d = sym (ap (λ (o : Private). value_in c o.me) own_at) ∙ given in
      let small : d < get_or p.sizes i 0 = subst (λ (o : Private). d < o.size) own_at lt in
      let me : v.own.me ≡ i = ap (λ (o : Private). o.me) own_at in
      let brings : IsBrought p paths problem pseudo error i in_tree d k (without v.own.me c) l u =
      subst (λ (n : ℕ). IsBrought p paths problem pseudo error i in_tree d k (without n c) l u) (sym me) (says_brings p paths problem pseudo error i in_tree j (Cost c l u) says k d there mine small) in
      fits_in (learn v (without v.own.me c))
      (learn_mid (private_of p i) (place_at p paths i) error (IsFair p paths problem pseudo error i in_tree) (IsBrought p paths problem pseudo error i in_tree) (keeps_fair p paths problem pseudo error i in_tree) v (without v.own.me c) mid fit)
      d k (without v.own.me c) l u (position-Some (λ x. x == j) (children_of paths i) k 0 there).0 small part brings

pub no_bounds_cross : NoBoundsCross
no_bounds_cross p paths error problem pseudo es net after e r happens v at done rest j c l u split =
    let good : IsGood p paths problem pseudo error net = runs_on p paths problem pseudo error (start_state (adopt_agents p paths error)) net es (starts p paths problem pseudo error) r in
    let within = slice_get_within net.views e.agent (AdoptKind v) at in
    let count = good.count in
    let lt : e.agent < length p.sizes = omega (arith, within, count) in
    let there = good.agents e.agent lt in
    let same : there.view ≡ v = kind_same there.view v (same_Some (AdoptKind there.view) (AdoptKind v) (sym there.at ∙ at)) in
    let mid : Mid p paths problem pseudo error e.agent lt v = subst (λ (w : AdoptView). Mid p paths problem pseudo error e.agent lt w) same there.settled.mid in
    let all : Every (λ m. Says p paths m.0 m.1) (done ++ ((j, Cost c l u) ∷ rest)) =
    subst (λ (ms : List (ℕ × Message)). Every (λ (m : ℕ × Message). Says p paths m.0 m.1) ms) split (batch_said p paths problem pseudo error net.desks e.agent e.takes (λ k. good.said e.agent k)) in
    let parts = every_split (λ (m : ℕ × Message). Says p paths m.0 m.1) done ((j, Cost c l u) ∷ rest) all in
    does_not_cross p paths problem pseudo error e.agent lt (fold (λ w m. adopt_message w m.0 m.1) v done)
    (batch_mid (private_of p e.agent) (place_at p paths e.agent) error (IsFair p paths problem pseudo error e.agent lt) (IsBrought p paths problem pseudo error e.agent lt) (keeps_fair p paths problem pseudo error e.agent lt) done v mid
    (every_then (λ (m : ℕ × Message). Says p paths m.0 m.1) (λ m. Brings (IsBrought p paths problem pseudo error e.agent lt) (private_of p e.agent) (place_at p paths e.agent) m.0 m.1) done
    (λ m. says_brings p paths problem pseudo error e.agent lt m.0 m.1) parts.0))
    j c l u parts.1.0
  where
    view_in : AdoptView → View → AdoptView
    view_in w (AdoptKind v) = v
    view_in w other = w

    kind_same : (v w : AdoptView) → AdoptKind v ≡ AdoptKind w → v ≡ w
    kind_same v w e = ap (view_in v) e
