-- What exchanges that were broken off have passed.
use Rattle.std.proofs.Common.{◌≡◌, ℕ, suc, ◌<◌, List, [], ◌∷◌, ◌++◌, length, set, Some, refl, sym, ap, subst, ◌∙◌, inl, inr, arith}
use Rattle.std.specs.List.{flat_map, slice_get}
use Rattle.std.proofs.lemmas.Bool.{cases_eq}
use Rattle.std.proofs.lemmas.Option.{slice_get_within}
use Rattle.std.proofs.lemmas.List.Concat.{flat_map-append}
use Rattle.std.specs.declared.dyn_box.DynBox.{DynBox}
use Rattle.std.specs.declared.alloc.Global.{Global}
use Rattle.protocol_steps.specs.declared.message.Message.{Message}
use Rattle.protocol_steps.specs.View.{View}
use Rattle.worker_laws.specs.Cells.{CellState, EachAre}
use Rattle.worker_laws.specs.Visits.{IsQuiet}
use Rattle.worker_laws.specs.Wires.{Passage, Wire}
use Rattle.link_records.specs.Keeping.{passage_of}
use Rattle.agent_cells.specs.declared.cell.Cell.{Cell}
use Rattle.agent_cells.specs.State.{state_of}
use Rattle.agent_workers.specs.Joined.{states_of, EachBecomes}
use Rattle.agent_workers.specs.Settled.{StaysQuiet}
use Rattle.agent_workers.proofs.ListLaws.{each_are, one_at}
use Rattle.node_exchange.specs.Passings.{Passing, SamePassing}
use Rattle.tcp_links.specs.declared.plan.InnerEnds.{InnerEnds}
use Rattle.tcp_links.specs.Kept.{MayKeep, MayKeepAll}
use Rattle.tcp_links.specs.Broken.{HasPassedAll, MayHavePassed, IsPartExchange, IsLostExchange}
use Rattle.tcp_links.specs.Woven.{AreEmptied, HaveFed}
use Rattle.tcp_links.specs.Over.{IsDrainedOf}
use Rattle.tcp_links.proofs.KeptLaws.{kept_drained}
use Rattle.tcp_links.proofs.WeaveLaws.{at_place, at_other}
use Rattle.tcp_links.proofs.ExchangeLaws.{passed_keeps}

-- nothing is noted yet
pub keep_none : (ws : List Wire) (ps : List Passing) → MayKeepAll ws ps ws
keep_none ws ps = λ k v p w at_v at_p at_w. inl (one_at ws k w v at_w at_v)

-- one link more
keep_set : (ws vs : List Wire) (ps : List Passing) (k : ℕ) (z : Wire) → k < length vs → MayKeepAll ws ps vs → ((v : Wire) (p : Passing) → slice_get ws k ≡ Some v → slice_get ps k ≡ Some p → MayKeep v p z) → MayKeepAll ws ps (set vs k z)
keep_set ws vs ps k z lt m one = λ j v p w at_v at_p at_w. elim (cases_eq j k) [
  | inl here ↦
      let same : w ≡ z = at_place vs k z w lt (subst (λ (n : ℕ). slice_get (set vs k z) n ≡ Some w) here at_w) in
      subst (λ (u : Wire). MayKeep v p u) (sym same) (one v p (subst (λ (n : ℕ). slice_get ws n ≡ Some v) here at_v) (subst (λ (n : ℕ). slice_get ps n ≡ Some p) here at_p))
  | inr other ↦ m j v p w at_v at_p (at_other vs k z j w lt other at_w)
]

-- the links that were not yet fed are as they were
pub keep_next : {X : Type 0} {F : X → Type 0} (M : DynBox X Global F → View) (k : ℕ) (mid : List (Cell X F)) (ws vs : List Wire) (es ds : List InnerEnds) (ps qs : List Passing) (w z : Wire) (q : Passing)
    → HaveFed M k mid ws vs es ds ps → AreEmptied k ps qs → MayKeepAll ws ps vs → slice_get vs k ≡ Some w → slice_get qs k ≡ Some q → MayKeep w q z → MayKeepAll ws ps (set vs k z)
keep_next M k mid ws vs es ds ps qs w z q fed left m at_w at_q one = keep_set ws vs ps k z (slice_get_within vs k w at_w) m (λ v p at_v at_p.
    let same : w ≡ v = fed.left k v w (omega arith) at_v at_w in
    let alike : q ≡ p = one_at ps k q p (sym (left.rest k (omega arith)) ∙ at_q) at_p in
    subst (λ (u : Wire). MayKeep u p z) same (subst (λ (x : Passing). MayKeep w x z) alike one))

-- what is noted of a link was all that its sender had sent
may_pass : (node : ℕ → ℕ) (cells : List CellState) (w v : Wire) (p q : Passing) → IsDrainedOf node cells w p → SamePassing p q → MayKeep w q v → MayHavePassed cells w v
may_pass node cells w v p q d s (inl same) = inl same
may_pass node cells w v p q d s (inr is) = inr (subst (λ (u : Wire). HasPassedAll cells w u) (sym is) (record {
  link = passed_keeps w q.drained q.arrived;
  drained = λ from at.
      flat_map-append (λ (x : Passage). x.drained) w.passages (passage_of q.drained q.arrived)
      ∙ ap (λ (es : List (ℕ × Message)). flat_map (λ (x : Passage). x.drained) w.passages ++ es) (kept_drained q.drained q.arrived ∙ s.drained)
      ∙ d.drained from at;
}))

all_may_pass : (node : ℕ → ℕ) (cells : List CellState) (ws vs : List Wire) (ps qs : List Passing) → length vs ≡ length ws → EachAre (IsDrainedOf node cells) ws ps → EachAre SamePassing ps qs → MayKeepAll ws qs vs → EachAre (MayHavePassed cells) ws vs
all_may_pass node cells [] [] ps qs size d s m = tt
all_may_pass node cells [] (v ∷ vs) ps qs size d s m = absurd (omega (arith, size))
all_may_pass node cells (w ∷ ws) [] ps qs size d s m = absurd (omega (arith, size))
all_may_pass node cells (w ∷ ws) (v ∷ vs) [] qs size d s m = absurd d
all_may_pass node cells (w ∷ ws) (v ∷ vs) (p ∷ ps) [] size d s m = absurd s
all_may_pass node cells (w ∷ ws) (v ∷ vs) (p ∷ ps) (q ∷ qs) size d s m =
    (may_pass node cells w v p q d.0 s.0 (m 0 w q v refl refl refl), all_may_pass node cells ws vs ps qs (omega (arith, size)) d.1 s.1 (λ k a b c e f g. m (suc k) a b c e f g))

none_pass : (cells : List CellState) (ws : List Wire) → EachAre (MayHavePassed cells) ws ws
none_pass cells [] = tt
none_pass cells (w ∷ ws) = (inl refl, none_pass cells ws)

module _ {X : Type 0} {F : X → Type 0} (M : DynBox X Global F → View) (cells last : List (Cell X F)) (quiet : EachBecomes (StaysQuiet M) cells last) where
  states_quiet : EachAre IsQuiet (states_of M cells) (states_of M last)
  states_quiet = each_are IsQuiet (state_of M) (state_of M) cells last quiet.size (λ i a b e f. (quiet.each i a b e f).quiet)

  -- no link has passed anything
  pub lost : (ws : List Wire) → IsLostExchange ws ws (states_of M cells) (states_of M last)
  lost ws = record { none = refl; quiet = states_quiet }

  pub part_none : (ws : List Wire) → IsPartExchange ws ws (states_of M cells) (states_of M last)
  part_none ws = record { passed = none_pass (states_of M cells) ws; quiet = states_quiet }

  -- some links have
  pub part : (node : ℕ → ℕ) (ws vs us : List Wire) (ps qs : List Passing) → us ≡ vs → length vs ≡ length ws → EachAre (IsDrainedOf node (states_of M cells)) ws ps → EachAre SamePassing ps qs → MayKeepAll ws qs vs
      → IsPartExchange ws us (states_of M cells) (states_of M last)
  part node ws vs us ps qs is size d s m = record {
    passed = subst (λ (xs : List Wire). EachAre (MayHavePassed (states_of M cells)) ws xs) (sym is) (all_may_pass node (states_of M cells) ws vs ps qs size d s m);
    quiet = states_quiet;
  }

-- the same lists in slices
pub keep_slices : (ws ks vs : List Wire) (ps qs : List Passing) → ks ≡ ws → qs ≡ ps → MayKeepAll ks qs vs → MayKeepAll ws ps vs
keep_slices ws ks vs ps qs kept came m = subst (λ (xs : List Wire). MayKeepAll xs ps vs) kept (subst (λ (xs : List Passing). MayKeepAll ks xs vs) came m)
