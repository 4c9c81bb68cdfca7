-- In a run of ADOPT a message is pending until all agents have ended.
use Rattle.std.proofs.Common.{◌≡◌, ℕ, ◌+◌, ◌-◌, ◌≤◌, ◌<◌, Bool, true, false, cond, nat_lt, List, [], ◌∷◌, length, get_or, Option, Some, None, refl, sym, ap, subst, ◌∙◌, inl, inr, arith}
use Rattle.std.specs.List.{list_any, filter, slice_get}
use Rattle.std.specs.Prelude.{is_some}
use Rattle.std.proofs.lemmas.Bool.{cases_Bool, or_cases, eq-eqb, false≢true}
use Rattle.std.proofs.lemmas.Option.{slice_get_within}
use Rattle.dcop_base.specs.Table.{has}
use Rattle.dcop_base.specs.Problem.{Dcop}
use Rattle.dcop_base.specs.Whole.{IsProblem}
use Rattle.dcop_base.specs.declared.knowledge.Private.{Private}
use Rattle.pseudotree.specs.declared.agent.Place.{Place}
use Rattle.pseudotree.specs.Tree.{path_of, parent_of, children_of}
use Rattle.pseudotree.specs.Pseudotree.{IsPseudotree, IsLinked}
use Rattle.pseudotree.proofs.NestLaws.{has_filter}
use Rattle.adopt_context.specs.Context.{value_in, is_value, names_all}
use Rattle.adopt_context.specs.Bounds.{Entry, row_at, is_below, cap, capped, plus_bound, lower_sum, upper_sum}
use Rattle.protocol_steps.specs.declared.message.Message.{Message}
use Rattle.protocol_steps.specs.Agent.{Stepped}
use Rattle.protocol_steps.specs.Adopt.{AdoptView, higher}
use Rattle.protocol_steps.specs.AdoptBounds.{delta, lower_of, upper_of, best_lower, best_upper, lower_bound, upper_bound}
use Rattle.protocol_steps.specs.AdoptStep.{may_end, adopt_sends, adopt_start}
use Rattle.protocol_steps.specs.View.{View, AdoptKind}
use Rattle.protocol_steps.specs.Network.{Network, start_state, messages_to, link, waiting}
use Rattle.protocol_steps.specs.Effect.{pending_at, SomePending}
use Rattle.protocol_steps.specs.Links.{taken_at}
use Rattle.dcop_optimum.specs.Enclosing.{IsAtMost}
use Rattle.protocol_steps.specs.TreeAgents.{place_at, adopt_agents}
use Rattle.run_laws.proofs.BoundLaws.{lowest_within, lowest_over}
use Rattle.run_laws.proofs.OwnLaws.{list_all_at, list_all_from}
use Rattle.run_laws.proofs.DigestLaws.{Open, digest, closed_digest}
use Rattle.run_laws.proofs.SendLaws.{is_value_message, is_cost, closed_ended}
use Rattle.run_laws.proofs.PairLaws.{told_took, both_start}
use Rattle.run_laws.proofs.AdoptRunSteps.{Settled, starts, new_one, made_at, started, begun, one_start, first_at}
use Rattle.run_laws.proofs.PairRuns.{same_view, IsEnder, PairOf, IsRun, IsPlaced, placed, placed_at, parent_in, child_in, parent_words, child_told, pair_same}

none_in : (q : Message → Bool) (ms : List Message) → list_any q ms ≡ true → ms ≡ [] → ⊥
none_in q ms h e = false≢true (sym (ap (list_any q) e) ∙ h)

module _ (p : Dcop) (paths : List (List ℕ)) (problem : IsProblem p) (pseudo : IsPseudotree p paths) (linked : IsLinked p paths) (error : ℕ) where
  abbrev start : Network
  start = start_state (adopt_agents p paths error)

  abbrev first : ℕ → AdoptView
  first i = (adopt_start (new_one p paths problem pseudo error i)).view

  first_digest : (i : ℕ) → digest (first i) ≡ Open 0
  first_digest i =
      let made : AdoptView = new_one p paths problem pseudo error i in
      closed_digest (record made { value = best_lower made; phase = record made.phase { started = true } })

  first_ended : (i : ℕ) → (first i).phase.ended ≡ may_end (first i)
  first_ended i =
      let made : AdoptView = new_one p paths problem pseudo error i in
      closed_ended (record made { value = best_lower made; phase = record made.phase { started = true } }) refl

  pair_start : (i c : ℕ) → parent_of paths c ≡ Some i → PairOf p paths problem pseudo linked error start i c (first i) (first c)
  pair_start i c parent =
      let lt = parent_in p paths problem pseudo linked error i c parent in
      let made : IsPlaced p paths problem pseudo linked error i (first i) = placed p paths problem pseudo linked error i lt (first i) (started p paths problem pseudo error i lt) in
      let words = parent_words p paths problem pseudo linked error i c (first i) made parent in
      let down : link start.desks i c ≡ messages_to c (adopt_sends (first i)) =
      (begun p paths problem pseudo error).sent c i (AdoptKind (new_one p paths problem pseudo error i)) (made_at p paths problem pseudo error i lt)
      ∙ ap (λ (s : Stepped View). messages_to c s.sends) (one_start (new_one p paths problem pseudo error i)) in
      pair_same p paths problem pseudo linked error i c (first i) (first c) (messages_to c (adopt_sends (first i))) (link start.desks i c) (link start.desks c i) (link start.desks c i)
      0 (taken_at start.desks c i) 0 (taken_at start.desks i c) down refl ((begun p paths problem pseudo error).taken c i) ((begun p paths problem pseudo error).taken i c)
      (both_start p paths i c (first i) (first c) (messages_to c (adopt_sends (first i))) (link start.desks c i) (first_digest c) (ap (λ (o : Private). o.me) made.own_is) words.0 words.1)

  first_is : (i : ℕ) (v : AdoptView) → slice_get start.views i ≡ Some (AdoptKind v) → (i < length p.sizes) × (first i ≡ v)
  first_is i v at =
      let within = slice_get_within start.views i (AdoptKind v) at in
      let count = (starts p paths problem pseudo error).count in
      let lt : i < length p.sizes = omega (arith, within, count) in
      (lt, same_view (slice_get start.views i) (first i) v (first_at p paths problem pseudo error i lt) at)

  pub run_starts : IsRun p paths problem pseudo linked error start
  run_starts = record {
    good = starts p paths problem pseudo error;
    enders = λ i v at.
        subst (λ (z : AdoptView). IsEnder p paths problem pseudo linked error i z) (first_is i v at).1
        (record { ended_is = first_ended i; names = λ told. absurd (told_took (place_at p paths i) (first i) 0 [] (first_digest i) told refl) });
    pairs = λ i c x y parent ax ay.
        subst (λ (z : AdoptView). PairOf p paths problem pseudo linked error start i c x z) (first_is c y ay).1
        (subst (λ (z : AdoptView). PairOf p paths problem pseudo linked error start i c z (first c)) (first_is i x ax).1 (pair_start i c parent));
  }

  -- a leaf that knows its path has one bound only
  pub leaf_settled : (i : ℕ) (lt : i < length p.sizes) (v : AdoptView) → Settled p paths problem pseudo error i lt v → length (children_of paths i) ≡ 0 → names_all v.known (path_of paths i) ≡ true
      → is_value (upper_bound v) v.threshold ≡ true
  leaf_settled i lt v a leaf names =
      let n : ℕ = v.own.size - 1 in
      let own : IsPlaced p paths problem pseudo linked error i v = placed p paths problem pseudo linked error i lt v a in
      let known : names_all v.known (higher v) ≡ true =
      ap (λ (q : Place). names_all v.known (filter (has q.path) v.own.neighbours)) own.place_is
      ∙ list_all_from (λ u. is_some (value_in v.known u)) (filter (has (path_of paths i)) v.own.neighbours)
      (λ u there. list_all_at (λ u. is_some (value_in v.known u)) (path_of paths i) u names (has_filter (has (path_of paths i)) v.own.neighbours u there).1) in
      let at : (d : ℕ) → d ≤ n → upper_of v d ≡ Some (lower_of v d) = λ d le.
      by_row (delta v d) (row_at v.rows d) (names_all v.known (higher v)) known (a.mid.wide d (small d le own) ∙ ap (λ (q : Place). length q.children) own.place_is ∙ leaf) in
      let up : upper_bound v ≡ Some (lower_of v (best_upper v)) = at (best_upper v) (lowest_within is_below (upper_of v) n) in
      let u : ℕ = lower_of v (best_upper v) in
      let least : IsAtMost u (upper_of v (best_lower v)) = lowest_over u (upper_of v) n (best_lower v) (lowest_within nat_lt (lower_of v) n) (subst (λ (o : Option ℕ). IsAtMost u o) (sym up) (self u)) in
      let low : u ≤ lower_bound v = subst (λ (o : Option ℕ). IsAtMost u o) (at (best_lower v) (lowest_within nat_lt (lower_of v) n)) least in
      let high : v.threshold ≤ u = subst (λ (o : Option ℕ). IsAtMost v.threshold o) up a.closed.held.high in
      let held = a.closed.held.low in
      ap (λ (o : Option ℕ). is_value o v.threshold) up ∙ eq-eqb u v.threshold (both u v.threshold (lower_bound v) low high held)
    where
      self : (x : ℕ) → x ≤ x
      self x = omega arith

      both : (u t l : ℕ) → u ≤ l → t ≤ u → l ≤ t → u ≡ t
      both u t l a b c = omega (arith, a, b, c)

      small : (d : ℕ) → d ≤ v.own.size - 1 → IsPlaced p paths problem pseudo linked error i v → d < v.own.size
      small d le own =
          let room : v.own.size ≡ get_or p.sizes i 0 = ap (λ (o : Private). o.size) own.own_is in
          let value = own.small in
          omega (arith, le, room, value)

      by_row : (x : ℕ) (row : List Entry) (b : Bool) → b ≡ true → length row ≡ 0 → capped (plus_bound (cond b (Some x) None) (upper_sum row)) ≡ Some (cap (x + lower_sum row))
      by_row x [] true h none = refl
      by_row x [] false h none = absurd (false≢true h)
      by_row x (e ∷ es) b h none = absurd (omega (arith, none))

  module _ (net : Network) (is : IsRun p paths problem pseudo linked error net) where
    pub pend : (i j : ℕ) (v : AdoptView) → i < length p.sizes → j < length p.sizes → slice_get net.views i ≡ Some (AdoptKind v) → v.phase.ended ≡ false → (waiting net.desks i j ≡ [] → ⊥) → SomePending net
    pend i j v li lj at going some =
        let count = is.good.count in
        record {
          to = i;
          from = j;
          to_agent = omega (arith, li, count);
          from_agent = omega (arith, lj, count);
          some = λ none. some (sym (ap (pending_at net i j) at ∙ ap (λ (b : Bool). cond b [] (waiting net.desks i j)) going) ∙ none);
        }

    -- between an agent that has not ended and its child
    pub between : (i c : ℕ) (x : AdoptView) → parent_of paths c ≡ Some i → slice_get net.views i ≡ Some (AdoptKind x) → x.phase.ended ≡ false → SomePending net
    between i c x parent at going =
        let li = parent_in p paths problem pseudo linked error i c parent in
        let lc = child_in p paths problem pseudo linked error i c parent in
        let other = is.good.agents c lc in
        let y : AdoptView = other.view in
        let pair = is.pairs i c x y parent at other.at in
        let lives = pair.alive going in
        elim (cases_Bool y.phase.ended) [
          | inl ended ↦
              absurd (told_took (place_at p paths c) y (taken_at net.desks c i) (link net.desks i c) pair.digested
              (child_told p paths problem pseudo linked error i c y (placed_at p paths problem pseudo linked error net is.good c y other.at) parent (is.enders c y other.at).ended_is ended) (pair.no_end going))
          | inr awake ↦
              elim (or_cases (list_any is_value_message (waiting net.desks c i)) (list_any is_cost (waiting net.desks i c)) lives) [
                | inl value ↦ pend c i y lc li other.at awake (none_in is_value_message (waiting net.desks c i) value)
                | inr cost ↦ pend i c x li lc at going (none_in is_cost (waiting net.desks i c) cost)
              ]
        ]
