-- Joined cells stay joined.
use Rattle.std.proofs.Common.{◌≡◌, ℕ, ◌<◌, List, length, slice_get, slice_index_or, Some, refl, sym, ap, subst, ◌∙◌, arith}
use Rattle.std.specs.List.{All, Contains}
use Rattle.std.specs.List.Sorted.{IsStrictlyIncreasing}
use Rattle.std.proofs.lemmas.Option.{slice_get_within}
use Rattle.std.proofs.lemmas.List.{get_or_default}
use Rattle.agent_workers.proofs.ListLaws.{one_at}
use Rattle.std.specs.declared.dyn_box.DynBox.{DynBox}
use Rattle.std.specs.declared.alloc.Global.{Global}
use Rattle.protocol_steps.specs.View.{View}
use Rattle.fifo_links.specs.Link.{AreEnds}
use Rattle.worker_laws.specs.Cells.{CellState, peers, IsWired}
use Rattle.worker_laws.specs.OneNode.{home}
use Rattle.worker_laws.proofs.EachLaws.{there}
use Rattle.agent_cells.specs.declared.cell.Cell.{Cell}
use Rattle.agent_cells.specs.Links.{Tail, Head, AreSameTails, AreSameHeads}
use Rattle.agent_cells.specs.Settled.{EndsJoin}
use Rattle.agent_cells.specs.State.{state_of, tails_in, heads_in, IsCell}
use Rattle.agent_cells.proofs.CellLaws.{tails_peers, heads_peers}
use Rattle.agent_workers.specs.Joined.{EachIs, EachBecomes, IsSameCell, AreCellsJoined}
use Rattle.agent_workers.specs.Settled.{StaysQuiet}
use Rattle.agent_workers.proofs.CellLaws.{stays_none, stays_then}

-- the ends of one link stay the ends of one link
ends_join_still : (ts us : List Tail) (hs gs : List Head) (to from : ℕ) → EndsJoin ts to hs from → AreSameTails ts us → AreSameHeads hs gs → EndsJoin us to gs from
ends_join_still ts us hs gs to from j s r = record {
  each = λ k g at is. record {
    each = λ p u at_u is_u.
        let in_k : k < length hs = let l = at.inside in let z = r.size in omega (arith, l, z) in
        let in_p : p < length ts = let l = at_u.inside in let z = s.size in omega (arith, l, z) in
        let h : Head = slice_index_or hs k g in
        let t : Tail = slice_index_or ts p u in
        let head = r.each k g in_k in
        let tail = s.each p u in_p in
        let same_g : slice_index_or gs k g ≡ g = at.is in
        let same_u : slice_index_or us p u ≡ u = at_u.is in
        let old : AreEnds t.1 h.1 = (j.each k h (record { inside = in_k; is = get_or_default hs k h g in_k }) (sym head.peer ∙ ap (λ (x : Head). x.0) same_g ∙ is)).each p t (record { inside = in_p; is = get_or_default ts p t u in_p }) (sym tail.peer ∙ ap (λ (x : Tail). x.0) same_u ∙ is_u) in
        let new : AreEnds (slice_index_or us p u).1 (slice_index_or gs k g).1 = (
          head.end.0.0 ∙ old.0 ∙ sym tail.end.0.0,
          head.end.0.1 ∙ old.1 ∙ sym tail.end.0.1,
          head.end.0.2 ∙ old.2 ∙ sym tail.end.0.2,
          head.end.0.3 ∙ old.3 ∙ sym tail.end.0.3,
        ) in
        subst (λ (x : Tail). AreEnds x.1 g.1) same_u (subst (λ (x : Head). AreEnds (slice_index_or us p u).1 x.1) same_g new);
  };
}

wired_still : (n i : ℕ) (s t : CellState) → t.me ≡ s.me → peers t.sent ≡ peers s.sent → peers t.taken ≡ peers s.taken → IsWired n i s → IsWired n i t
wired_still n i s t me sent taken w = record {
  me = me ∙ w.me;
  both = sent ∙ w.both ∙ sym taken;
  ascend = subst (λ (ns : List ℕ). IsStrictlyIncreasing ns) (sym taken) w.ascend;
  below = subst (λ (ns : List ℕ). All (λ j. j < n) ns) (sym taken) w.below;
}

module _ {X : Type 0} {F : X → Type 0} (M : DynBox X Global F → View) where
  pub taken_peers : (a b : Cell X F) → IsSameCell a b → peers (state_of M b).taken ≡ peers (state_of M a).taken
  taken_peers a b s = heads_peers a.heads.items b.heads.items s.links.heads

  pub sent_peers : (a b : Cell X F) → IsSameCell a b → peers (state_of M b).sent ≡ peers (state_of M a).sent
  sent_peers a b s = tails_peers a.tails.items b.tails.items s.links.tails

  -- the element that was at a place before
  pub stood : (R : Cell X F → Cell X F → Type 0) (before after : List (Cell X F)) → EachBecomes R before after → (i : ℕ) (b : Cell X F) → slice_get after i ≡ Some b → (a : Cell X F) × (slice_get before i ≡ Some a) × R a b
  stood R before after e i b is =
      let in_after = slice_get_within after i b is in
      let size = e.size in
      let a = there before i (omega (arith, in_after, size)) in
      (a.0, a.1, e.each i a.0 b a.1 is)

  pub joined_still : (nodes : ℕ) (before after : List (Cell X F)) → AreCellsJoined M nodes before → EachBecomes IsSameCell before after → AreCellsJoined M nodes after
  joined_still nodes before after j e =
      let size : length after ≡ length before = e.size in
      record {
        few = let few = j.few in omega (arith, few, size);
        wired = λ i c is.
            let a = stood IsSameCell before after e i c is in
            subst (λ n. IsWired n i (state_of M c)) (sym size) (wired_still (length before) i (state_of M a.0) (state_of M c) a.2.me (sent_peers a.0 c a.2) (taken_peers a.0 c a.2) (j.wired i a.0 a.1));
        others = λ i c is has.
            let a = stood IsSameCell before after e i c is in
            j.others i a.0 a.1 (subst (λ (ns : List ℕ). Contains ns i) (taken_peers a.0 c a.2) has);
        back = λ i k x y is_x is_y has.
            let a = stood IsSameCell before after e i x is_x in
            let b = stood IsSameCell before after e k y is_y in
            subst (λ (ns : List ℕ). Contains ns i) (sym (taken_peers b.0 y b.2)) (j.back i k a.0 b.0 a.1 b.1 (subst (λ (ns : List ℕ). Contains ns k) (taken_peers a.0 x a.2) has));
        ends = λ i k x y is_x is_y same.
            let a = stood IsSameCell before after e i x is_x in
            let b = stood IsSameCell before after e k y is_y in
            let old = j.ends i k a.0 b.0 a.1 b.1 (subst (λ n. home nodes n i ≡ home nodes n k) size same) in
            let new = ends_join_still (tails_in a.0) (tails_in x) (heads_in b.0) (heads_in y) b.0.me a.0.me old a.2.links.tails b.2.links.heads in
            subst (λ (n : ℕ). EndsJoin (tails_in x) n (heads_in y) x.me) (sym b.2.me) (subst (λ (n : ℕ). EndsJoin (tails_in x) b.0.me (heads_in y) n) (sym a.2.me) new);
      }

  pub quiet_same : (before after : List (Cell X F)) → EachBecomes (StaysQuiet M) before after → EachBecomes IsSameCell before after
  quiet_same before after e = record { size = e.size; each = λ i a b is_a is_b. let s = e.each i a b is_a is_b in record { me = s.quiet.me; links = s.links } }

  pub sound_still : (before after : List (Cell X F)) → EachIs (λ c. IsCell M c) before → EachBecomes (StaysQuiet M) before after → EachIs (λ c. IsCell M c) after
  sound_still before after s e = record { each = λ i b is. let a = stood (StaysQuiet M) before after e i b is in a.2.cell (s.each i a.0 a.1) }

  pub each_stays : (cells : List (Cell X F)) → EachBecomes (StaysQuiet M) cells cells
  each_stays cells = record { size = refl; each = λ i a b is_a is_b. subst (λ (c : Cell X F). StaysQuiet M a c) (one_at cells i a b is_a is_b) (stays_none M a) }

  pub each_stays_then : (a b c : List (Cell X F)) → EachBecomes (StaysQuiet M) a b → EachBecomes (StaysQuiet M) b c → EachBecomes (StaysQuiet M) a c
  each_stays_then a b c s t = record {
    size = t.size ∙ s.size;
    each = λ i x z is_x is_z. let y = stood (StaysQuiet M) b c t i z is_z in stays_then M x y.0 z (s.each i x y.0 is_x y.1) y.2;
  }
