-- Each event of a run of ADOPT keeps what holds of every parent and child.
use Rattle.std.proofs.Common.{◌≡◌, ℕ, ◌+◌, ◌≤◌, ◌<◌, Bool, true, false, cond, eqb, not, ◌||◌, ◌==◌, nat_lt, nat_le, if◌then◌else◌, List, [], ◌∷◌, length, get_or, Option, Some, None, refl, sym, ap, ap₂, subst, ◌∙◌, inl, inr, arith}
use Rattle.std.specs.List.{list_any, range_with_len, slice_get}
use Rattle.std.proofs.lemmas.Bool.{cases_eq, cases_Bool, or_cases, and_parts, eqb-true, eq-eqb, ne_eqb, ltb-false, leb-true, not-false, false≢true, false_from_ne_true}
use Rattle.std.proofs.lemmas.Option.{none-some, same_Some, slice_get_within}
use Rattle.std.proofs.lemmas.List.Sums.{sum_by-cons}
use Rattle.dcop_base.specs.Table.{has, has_repeat}
use Rattle.dcop_base.specs.Problem.{Dcop}
use Rattle.dcop_base.specs.Graph.{are_neighbours, neighbours}
use Rattle.dcop_base.specs.Knowledge.{private_of}
use Rattle.dcop_base.specs.Whole.{IsProblem}
use Rattle.dcop_base.specs.declared.knowledge.Private.{Private}
use Rattle.dcop_base.proofs.JointLaws.{are_neighbours-sym}
use Rattle.pseudotree.specs.declared.agent.Place.{Place}
use Rattle.pseudotree.specs.Tree.{path_of, parent_of, is_above}
use Rattle.pseudotree.specs.Pseudotree.{IsPseudotree, IsLinked}
use Rattle.pseudotree.proofs.CheckLaws.{within_tree}
use Rattle.pseudotree.proofs.SpreadLaws.{any_in_range, above_child}
use Rattle.pseudotree.proofs.NestLaws.{filter_has}
use Rattle.pseudotree.proofs.TreeLaws.{longer}
use Rattle.adopt_context.specs.Context.{Context, put, is_value, names_all}
use Rattle.protocol_steps.specs.declared.message.Message.{Message}
use Rattle.protocol_steps.specs.declared.event.Take.{Take}
use Rattle.protocol_steps.specs.declared.event.EventFault.{EventFault}
use Rattle.protocol_steps.specs.declared.event.EventFault.TheVariants.{TooMany, Nobody, Ended, Nothing, Order}
use Rattle.protocol_steps.specs.Agent.{last_of}
use Rattle.protocol_steps.specs.Adopt.{AdoptView, is_root}
use Rattle.protocol_steps.specs.AdoptStep.{may_end, messages_for, adopt_sends, share_of}
use Rattle.protocol_steps.specs.View.{View, AdoptKind}
use Rattle.protocol_steps.specs.Network.{Desk, Network, messages_to, link, waiting, taken_from}
use Rattle.protocol_steps.specs.Run.{or_else, form_fault, has_nothing, ascends_from, too_many}
use Rattle.protocol_steps.specs.Links.{taken_at}
use Rattle.protocol_steps.proofs.EventLaws.{not_then}
use Rattle.dcop_optimum.proofs.LineLaws.{within_self}
use Rattle.dcop_optimum.proofs.JoinLaws.{child_named}
use Rattle.protocol_steps.specs.TreeAgents.{place_at}
use Rattle.adopt_context.proofs.KnownLaws.{value_is}
use Rattle.run_laws.proofs.EncloseLaws.{filter_distinct}
use Rattle.run_laws.proofs.PlacedLaws.{value_small}
use Rattle.run_laws.proofs.DigestLaws.{fits_place}
use Rattle.run_laws.proofs.SendLaws.{is_cost, last_words, more_words, sends_to, to_child, to_parent}
use Rattle.run_laws.proofs.PairLaws.{told_took, told_by, IsPair}
use Rattle.run_laws.proofs.FitLaws.{fits_child, fits_put, names_put}
use Rattle.run_laws.proofs.AdoptRunSteps.{Settled, IsGood}

pub both_none : (a b : Option EventFault) → or_else a b ≡ None → (a ≡ None) × (b ≡ None)
both_none None b h = (refl, h)
both_none (Some f) b h = absurd (none-some f (sym h))

-- takes of a lawful form are by an agent that has not ended, and in ascending order
pub form_parts : (n : ℕ) (ended : Bool) (ts : List Take) → form_fault n ended ts ≡ None → (ended ≡ false) × (ascends_from 0 ts ≡ true)
form_parts n ended ts h =
    let a = not_then (list_any (λ t. nat_le n t.from) ts) Nobody (if ended then Some Ended else (if has_nothing ts then Some Nothing else (if not (ascends_from 0 ts) then Some Order else None))) h in
    let b = not_then ended Ended (if has_nothing ts then Some Nothing else (if not (ascends_from 0 ts) then Some Order else None)) a.1 in
    let c = not_then (has_nothing ts) Nothing (if not (ascends_from 0 ts) then Some Order else None) b.1 in
    let d = not_then (not (ascends_from 0 ts)) Order None c.1 in
    (b.0, not-false (ascends_from 0 ts) d.0)

then_true : (b x : Bool) → cond b x false ≡ true → (b ≡ true) × (x ≡ true)
then_true true x h = (refl, h)
then_true false x h = absurd (false≢true h)

none_taken : (b q : ℕ) (ts : List Take) → ascends_from b ts ≡ true → q < b → taken_from q ts ≡ 0
none_taken b q [] up low = refl
none_taken b q (t ∷ ts) up low =
    let parts = then_true (nat_le b t.from) (ascends_from (t.from + 1) ts) up in
    let le = leb-true b t.from parts.0 in
    let rest = none_taken (t.from + 1) q ts parts.1 (omega (arith, le, low)) in
    sum_by-cons (λ (x : Take). if x.from == q then x.count else 0) t ts ∙ ap₂ (λ (d : Bool) (n : ℕ). cond d t.count 0 + n) (ne_eqb t.from q (λ (e : t.from ≡ q). omega (arith, le, low, e))) rest

-- no more is taken of a link than waits there
pub taken_waits : (ds : List Desk) (i b q : ℕ) (ts : List Take) → ascends_from b ts ≡ true → too_many ds i ts ≡ None → taken_from q ts ≤ length (waiting ds i q)
taken_waits ds i b q [] up fine = omega arith
taken_waits ds i b q (t ∷ ts) up fine =
    let parts = then_true (nat_le b t.from) (ascends_from (t.from + 1) ts) up in
    let enough = not_then (nat_lt (length (waiting ds i t.from)) t.count) (TooMany t.from t.count (length (waiting ds i t.from))) (too_many ds i ts) fine in
    let sum = sum_by-cons (λ (x : Take). if x.from == q then x.count else 0) t ts in
    elim (cases_eq t.from q) [
      | inl same ↦
          let none = none_taken (t.from + 1) q ts parts.1 (omega (arith, same)) in
          let one : cond (t.from == q) t.count 0 ≡ t.count = ap (λ (d : Bool). cond d t.count 0) (eq-eqb t.from q same) in
          let le : t.count ≤ length (waiting ds i q) = subst (λ (k : ℕ). t.count ≤ length (waiting ds i k)) same (ltb-false (length (waiting ds i t.from)) t.count enough.0) in
          omega (arith, sum, none, one, le)
      | inr other ↦
          let rest = taken_waits ds i (t.from + 1) q ts parts.1 enough.1 in
          let one : cond (t.from == q) t.count 0 ≡ 0 = ap (λ (d : Bool). cond d t.count 0) (ne_eqb t.from q other) in
          omega (arith, sum, rest, one)
    ]

abbrev view_in : AdoptView → View → AdoptView
view_in w (AdoptKind v) = v
view_in w other = w

pub same_view : (o : Option View) (v w : AdoptView) → o ≡ Some (AdoptKind v) → o ≡ Some (AdoptKind w) → v ≡ w
same_view o v w a b = ap (view_in v) (same_Some (AdoptKind v) (AdoptKind w) (sym a ∙ b))

module _ (p : Dcop) (paths : List (List ℕ)) (problem : IsProblem p) (pseudo : IsPseudotree p paths) (linked : IsLinked p paths) (error : ℕ) where
  -- an agent ends where it may, and knows its whole path once it has taken TERMINATE
  pub record IsEnder (i : ℕ) (v : AdoptView) : Type 0 where
    pub ended_is : v.phase.ended ≡ may_end v
    pub names : v.told ≡ true → names_all v.known (path_of paths i) ≡ true

  abbrev pub PairOf : Network → ℕ → ℕ → AdoptView → AdoptView → Type 0
  PairOf net i c x y = IsPair p paths i c x y (link net.desks i c) (link net.desks c i) (taken_at net.desks c i) (taken_at net.desks i c)

  -- a network of a run
  pub record IsRun (net : Network) : Type 0 where
    pub good : IsGood p paths problem pseudo error net
    pub enders : (i : ℕ) (v : AdoptView) → slice_get net.views i ≡ Some (AdoptKind v) → IsEnder i v
    pub pairs : (i c : ℕ) (x y : AdoptView) → parent_of paths c ≡ Some i → slice_get net.views i ≡ Some (AdoptKind x) → slice_get net.views c ≡ Some (AdoptKind y) → PairOf net i c x y

  -- what an agent was made from
  pub record IsPlaced (i : ℕ) (v : AdoptView) : Type 0 where
    pub own_is : v.own ≡ private_of p i
    pub place_is : v.place ≡ place_at p paths i
    pub fits_known : fits_place (place_at p paths i) v.known ≡ true
    pub small : v.value < get_or p.sizes i 0

  pub placed : (i : ℕ) (lt : i < length p.sizes) (v : AdoptView) → Settled p paths problem pseudo error i lt v → IsPlaced i v
  placed i lt v a = record {
    own_is = a.mid.own_is;
    place_is = a.mid.place_is;
    fits_known = subst (λ (q : Place). fits_place q v.known ≡ true) a.mid.place_is a.mid.fits_known;
    small = value_small p paths problem pseudo error i lt v a.mid;
  }

  pub placed_at : (net : Network) → IsGood p paths problem pseudo error net → (i : ℕ) (v : AdoptView) → slice_get net.views i ≡ Some (AdoptKind v) → IsPlaced i v
  placed_at net good i v at =
      let within = slice_get_within net.views i (AdoptKind v) at in
      let count = good.count in
      let lt : i < length p.sizes = omega (arith, within, count) in
      let there = good.agents i lt in
      subst (λ (w : AdoptView). IsPlaced i w) (same_view (slice_get net.views i) there.view v there.at at) (placed i lt there.view there.settled)

  pub child_in : (i c : ℕ) → parent_of paths c ≡ Some i → c < length p.sizes
  child_in i c parent = let lt = within_tree paths c i parent in let count = pseudo.sized in omega (arith, lt, count)

  pub parent_in : (i c : ℕ) → parent_of paths c ≡ Some i → i < length p.sizes
  parent_in i c parent = let lt = (pseudo.tree.nested c i parent).0 in let count = pseudo.sized in omega (arith, lt, count)

  near : (u v : ℕ) → v < length p.sizes → are_neighbours p u v ≡ true → has (neighbours p u) v ≡ true
  near u v lt h = filter_has (are_neighbours p u) (range_with_len 0 (length p.sizes)) v (any_in_range (λ y. eqb y v) (length p.sizes) v lt (eq-eqb v v refl)) h

  pub apart : (i c : ℕ) → parent_of paths c ≡ Some i → (c ≡ i → ⊥)
  apart i c parent same = let long = longer paths pseudo.tree c i parent in let one : length (path_of paths c) ≡ length (path_of paths i) = ap (λ (k : ℕ). length (path_of paths k)) same in omega (arith, long, one)

  sends_for : (i c : ℕ) (v : AdoptView) → IsPlaced i v → has (neighbours p i) c ≡ true → messages_to c (adopt_sends v) ≡ messages_for v c
  sends_for i c v a h =
      sends_to c (messages_for v) v.own.neighbours
      (ap (λ (o : Private). has_repeat o.neighbours) a.own_is ∙ filter_distinct (are_neighbours p i) (length p.sizes) 0)
      (ap (λ (o : Private). has o.neighbours c) a.own_is ∙ h)

  pub parent_words : (i c : ℕ) (v : AdoptView) → IsPlaced i v → parent_of paths c ≡ Some i
      → ((v.phase.ended ≡ true → messages_to c (adopt_sends v) ≡ last_words v c) × (v.phase.ended ≡ false → messages_to c (adopt_sends v) ≡ more_words v c))
  parent_words i c v a parent =
      let beside : has (neighbours p i) c ≡ true = near i c (child_in i c parent) (are_neighbours-sym p c i (linked c i parent)) in
      let above : is_above paths i c ≡ true = above_child paths pseudo.tree c i i parent (within_self paths i) in
      let both =
      to_child v c (ap (λ (q : Place). has q.lower c) a.place_is ∙ filter_has (is_above paths i) (neighbours p i) c beside above) (ap (λ (q : Place). has q.children c) a.place_is ∙ child_named paths i c parent)
      (ap (λ (q : Place). is_value (last_of q.path) c) a.place_is ∙ not_up) in
      let sends = sends_for i c v a beside in
      (λ e. sends ∙ both.0 e, λ e. sends ∙ both.1 e)
    where
      not_up : is_value (parent_of paths i) c ≡ false
      not_up =
          false_from_ne_true (is_value (parent_of paths i) c)
          (λ h. let long = longer paths pseudo.tree c i parent in let other = longer paths pseudo.tree i c (value_is (parent_of paths i) c h) in omega (arith, long, other))

  pub child_words : (i c : ℕ) (v : AdoptView) → IsPlaced c v → parent_of paths c ≡ Some i → v.phase.ended ≡ false → list_any is_cost (messages_to i (adopt_sends v)) ≡ true
  child_words i c v a parent going =
      ap (list_any is_cost) (sends_for c i v a (near c i (parent_in i c parent) (linked c i parent)))
      ∙ to_parent v i (ap (λ (q : Place). is_value (last_of q.path) i) a.place_is ∙ ap (λ (o : Option ℕ). is_value o i) parent ∙ eq-eqb i i refl) going

  -- a child that ends has taken TERMINATE
  pub child_told : (i c : ℕ) (v : AdoptView) → IsPlaced c v → parent_of paths c ≡ Some i → v.phase.ended ≡ may_end v → v.phase.ended ≡ true → v.told ≡ true
  child_told i c v a parent is ended =
      let may = and_parts _ (is_root v || v.told) (sym is ∙ ended) in
      elim (or_cases (is_root v) v.told may.1) [
        | inr told ↦ told
        | inl root ↦
            let none : length (path_of paths c) ≡ 0 = sym (ap (λ (q : Place). length q.path) a.place_is) ∙ eqb-true (length v.place.path) 0 root in
            let long = longer paths pseudo.tree c i parent in
            absurd (omega (arith, none, long))
      ]

  -- what an agent that has ended knows
  pub ended_names : (i : ℕ) (v : AdoptView) → IsPlaced i v → IsEnder i v → v.phase.ended ≡ true → names_all v.known (path_of paths i) ≡ true
  ended_names i v a e ended =
      let may = and_parts _ (is_root v || v.told) (sym e.ended_is ∙ ended) in
      elim (or_cases (is_root v) v.told may.1) [
        | inr told ↦ e.names told
        | inl root ↦ by_path (path_of paths i) (sym (ap (λ (q : Place). length q.path) a.place_is) ∙ eqb-true (length v.place.path) 0 root)
      ]
    where
      by_path : (xs : List ℕ) → length xs ≡ 0 → names_all v.known xs ≡ true
      by_path [] h = refl
      by_path (x ∷ xs) h = absurd (omega (arith, h))

  -- pairs stay where all that they speak of is the same
  pub pair_same : (i c : ℕ) (x y : AdoptView) (down down' up up' : List Message) (td td' tu tu' : ℕ) → down' ≡ down → up' ≡ up → td' ≡ td → tu' ≡ tu
      → IsPair p paths i c x y down up td tu → IsPair p paths i c x y down' up' td' tu'
  pair_same i c x y down down' up up' td td' tu tu' a b d e h =
      subst (λ (z : List Message). IsPair p paths i c x y z up' td' tu') (sym a)
      (subst (λ (z : List Message). IsPair p paths i c x y down z td' tu') (sym b)
      (subst (λ (z : ℕ). IsPair p paths i c x y down up z tu') (sym d)
      (subst (λ (z : ℕ). IsPair p paths i c x y down up td z) (sym e) h)))

  -- an agent that has taken TERMINATE knows its path
  pub told_names : (q k : ℕ) (x y : AdoptView) (down up : List Message) (td tu : ℕ) → parent_of paths k ≡ Some q → IsPlaced q x → IsEnder q x → IsPair p paths q k x y down up td tu → y.told ≡ true
      → names_all y.known (path_of paths k) ≡ true
  told_names q k x y down up td tu parent a ender pair told =
      elim (cases_Bool x.phase.ended) [
        | inr going ↦ absurd (told_took (place_at p paths k) y td down pair.digested told (pair.no_end going))
        | inl ended ↦
            let end = told_by (place_at p paths k) y td down x.value (share_of x k) x.known (put x.known q x.value) pair.within (pair.last ended)
            (fits_child p paths pseudo.tree q k parent x.known a.fits_known) (fits_put p paths pseudo.tree q k parent x.known x.value a.fits_known a.small) pair.digested told in
            subst (λ (z : Context). names_all z (path_of paths k) ≡ true) (sym end.1) (names_put p paths pseudo.tree q k parent x.known x.value (ended_names q x a ender ended))
      ]
