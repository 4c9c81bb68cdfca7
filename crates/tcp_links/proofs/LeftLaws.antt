-- What exchanges and faults leave of a plan.
use Rattle.std.proofs.Common.{◌≡◌, ℕ, zero, suc, ◌<◌, List, [], ◌∷◌, length, set, get_or, refl, sym, ap, subst, ◌∙◌, arith, length-set}
use Rattle.std.specs.declared.dyn_box.DynBox.{DynBox}
use Rattle.std.specs.declared.alloc.Global.{Global}
use Rattle.protocol_steps.specs.View.{View}
use Rattle.worker_laws.specs.Cells.{EachAre}
use Rattle.worker_laws.specs.Wires.{Wire}
use Rattle.link_records.specs.Left.{fresh_link}
use Rattle.agent_cells.specs.declared.cell.Cell.{Cell}
use Rattle.agent_workers.specs.Joined.{EachBecomes, IsSameCell}
use Rattle.agent_workers.proofs.CellLaws.{keeps_then as keeps_links}
use Rattle.agent_workers.proofs.JoinLaws.{stood}
use Rattle.tcp_links.specs.declared.fault.Difference.{Difference}
use Rattle.tcp_links.specs.declared.fault.Difference.TheVariants.{Message, Bytes}
use Rattle.tcp_links.specs.declared.plan.InnerEnds.{InnerEnds}
use Rattle.tcp_links.specs.declared.plan.NodePlan.{NodePlan}
use Rattle.tcp_links.specs.Left.{IsTakenOut, AreSameEnds, KeepsPlan}
use Rattle.fifo_links.specs.Link.{taken_from, sent_on}
use Rattle.tcp_links.specs.Kept.{HasSameFeed}
use Rattle.tcp_links.proofs.DrainLaws.{head_none, head_then, prefix_none, prefix_then}
use Rattle.tcp_links.proofs.FeedLaws.{tail_none, tail_then}

module _ {A : Type 0} (R : A → A → Type 0) (none : (a : A) → R a a) (then : (a b c : A) → R a b → R b c → R a c) where
  each_none : (xs : List A) → EachAre R xs xs
  each_none [] = tt
  each_none (x ∷ xs) = (none x, each_none xs)

  each_then : (xs ys zs : List A) → EachAre R xs ys → EachAre R ys zs → EachAre R xs zs
  each_then [] [] [] r s = tt
  each_then [] [] (z ∷ zs) r s = absurd s
  each_then [] (y ∷ ys) zs r s = absurd r
  each_then (x ∷ xs) [] zs r s = absurd r
  each_then (x ∷ xs) (y ∷ ys) [] r s = absurd s
  each_then (x ∷ xs) (y ∷ ys) (z ∷ zs) r s = (then x y z r.0 s.0, each_then xs ys zs r.1 s.1)

  -- one element has gone on
  each_set : (xs ys : List A) (k : ℕ) (d z : A) → EachAre R xs ys → k < length ys → R (get_or ys k d) z → EachAre R xs (set ys k z)
  each_set xs [] k d z r lt s = absurd (omega (arith, lt))
  each_set [] (y ∷ ys) k d z r lt s = absurd r
  each_set (x ∷ xs) (y ∷ ys) zero d z r lt s = (then x y z r.0 s, r.1)
  each_set (x ∷ xs) (y ∷ ys) (suc k) d z r lt s = (r.0, each_set xs ys k d z r.1 (omega (arith, lt)) s)

pub ends_none : (e : InnerEnds) → AreSameEnds e e
ends_none e = record { drain = head_none e.drain; feed = tail_none e.feed; drained = prefix_none (taken_from e.drain); fed = prefix_none (sent_on e.feed) }

ends_then : (a b c : InnerEnds) → AreSameEnds a b → AreSameEnds b c → AreSameEnds a c
ends_then a b c r s = record {
  drain = head_then a.drain b.drain c.drain r.drain s.drain;
  feed = tail_then a.feed b.feed c.feed r.feed s.feed;
  drained = prefix_then (taken_from a.drain) (taken_from b.drain) (taken_from c.drain) r.drained s.drained;
  fed = prefix_then (sent_on a.feed) (sent_on b.feed) (sent_on c.feed) r.fed s.fed;
}

pub all_ends_none : (es : List InnerEnds) → EachAre AreSameEnds es es
all_ends_none es = each_none AreSameEnds ends_none ends_then es

pub all_ends_then : (ds es fs : List InnerEnds) → EachAre AreSameEnds ds es → EachAre AreSameEnds es fs → EachAre AreSameEnds ds fs
all_ends_then ds es fs r s = each_then AreSameEnds ends_none ends_then ds es fs r s

pub all_ends_set : (ds es : List InnerEnds) (k : ℕ) (d e : InnerEnds) → EachAre AreSameEnds ds es → k < length es → AreSameEnds (get_or es k d) e → EachAre AreSameEnds ds (set es k e)
all_ends_set ds es k d e h lt one = each_set AreSameEnds ends_none ends_then ds es k d e h lt one

module _ {W : Type 0} where
  pub keeps_none : (p : NodePlan W) → KeepsPlan p p
  keeps_none p = record { agents = refl; nodes = refl; ends = all_ends_none p.ends.items }

  -- a plan that has these inner ends
  pub keeps_parts : (p q : NodePlan W) (es : List InnerEnds) → q.agents ≡ p.agents → q.nodes ≡ p.nodes → q.ends.items ≡ es → EachAre AreSameEnds p.ends.items es → KeepsPlan p q
  keeps_parts p q es agents nodes ends same = record { agents = agents; nodes = nodes; ends = subst (λ (fs : List InnerEnds). EachAre AreSameEnds p.ends.items fs) (sym ends) same }

  -- a plan that has the same inner ends
  pub keeps_same : (p q : NodePlan W) → q.agents ≡ p.agents → q.nodes ≡ p.nodes → q.ends.items ≡ p.ends.items → KeepsPlan p q
  keeps_same p q agents nodes ends = keeps_parts p q p.ends.items agents nodes ends (all_ends_none p.ends.items)

  pub keeps_then : (p q r : NodePlan W) → KeepsPlan p q → KeepsPlan q r → KeepsPlan p r
  keeps_then p q r a b = record { agents = b.agents ∙ a.agents; nodes = b.nodes ∙ a.nodes; ends = all_ends_then p.ends.items q.ends.items r.ends.items a.ends b.ends }

-- nothing was fed to any end
abbrev SameFeed : InnerEnds → InnerEnds → Type 0
SameFeed a b = HasSameFeed a b

pub all_feeds_none : (es : List InnerEnds) → EachAre (λ a b. HasSameFeed a b) es es
all_feeds_none es = each_none SameFeed (λ e. refl) (λ a b c r s. s ∙ r) es

pub all_feeds_set : (ds es : List InnerEnds) (k : ℕ) (d e : InnerEnds) → EachAre (λ a b. HasSameFeed a b) ds es → k < length es → HasSameFeed (get_or es k d) e → EachAre (λ a b. HasSameFeed a b) ds (set es k e)
all_feeds_set ds es k d e h lt one = each_set SameFeed (λ x. refl) (λ a b c r s. s ∙ r) ds es k d e h lt one

-- as many links are left
pub taken_long : (d : Difference) (ws vs : List Wire) → IsTakenOut d ws vs → length vs ≡ length ws
taken_long (Message from to at sent taken) ws vs out = ap length out.1.left ∙ length-set ws out.1.link (fresh_link from to)
taken_long (Bytes round from_node to_node place sent taken) ws vs out = ap length out

module _ {X : Type 0} {F : X → Type 0} (M : DynBox X Global F → View) where
  pub same_then : (a b c : List (Cell X F)) → EachBecomes IsSameCell a b → EachBecomes IsSameCell b c → EachBecomes IsSameCell a c
  same_then a b c s t = record {
    size = t.size ∙ s.size;
    each = λ i x z is_x is_z.
        let y = stood M IsSameCell b c t i z is_z in
        let one = s.each i x y.0 is_x y.1 in
        record { me = y.2.me ∙ one.me; links = keeps_links M x y.0 z one.links y.2.links };
  }
