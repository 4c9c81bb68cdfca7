-- What links have noted of what went through their inner ends.
use Rattle.std.proofs.Common.{◌≡◌, ◌<◌, ℕ, zero, suc, Some, slice_get, List, [], ◌∷◌, ◌++◌, length, set, Result, Ok, Err, refl, sym, ap, subst, ◌∙◌, arith}
use Rattle.std.specs.Prelude.{OnErr}
use Rattle.std.specs.List.{flat_map}
use mathlib.Core.List.{IsPrefix}
use Rattle.std.proofs.lemmas.List.Concat.{flat_map-append}
use Rattle.protocol_steps.specs.declared.message.Message.{Message}
use Rattle.fifo_links.specs.Link.{sent_on, taken_from}
use Rattle.worker_laws.specs.Cells.{EachAre}
use Rattle.worker_laws.specs.Wires.{Passage, Wire}
use Rattle.link_records.specs.Keeping.{passage_of, keeps}
use Rattle.link_records.specs.Left.{fresh_link}
use Rattle.node_exchange.specs.Passings.{Passing}
use Rattle.tcp_links.specs.declared.plan.InnerEnds.{InnerEnds}
use Rattle.tcp_links.specs.declared.fault.Difference.{Difference}
use Rattle.tcp_links.specs.declared.fault.Difference.TheVariants.{Message as differing, Bytes as bytes}
use Rattle.tcp_links.specs.Kept.{IsLinkKept, AreLinksKept, IsNoted, AreNoted, IsFedNoted, AreFedNoted, AreFedButOne, HasSameFeed, IsToNote, AreToNote}
use Rattle.tcp_links.specs.Left.{AreSameEnds, IsTakenOut, AreNotedAfter}
use Rattle.tcp_links.proofs.DrainLaws.{prefix_then, prefix_same}
use Rattle.tcp_links.proofs.KeptLaws.{kept_drained, kept_arrived}
use Rattle.tcp_links.specs.declared.fault.NodeFault.{NodeFault}
use Rattle.tcp_links.specs.declared.fault.NodeFault.TheVariants.{Failed, Differs, NoMemory}
use Rattle.std.proofs.lemmas.Option.{slice_get_within}
use Rattle.worker_laws.proofs.EachLaws.{each_on}
use Rattle.agent_workers.proofs.ListLaws.{one_at}
use Rattle.tcp_links.proofs.WeaveLaws.{at_other}

-- all that went through the ends is noted
kept_noted : (w : Wire) (e : InnerEnds) → IsLinkKept w e → IsNoted w e
kept_noted w e k = record {
  drained = prefix_same (flat_map (λ (p : Passage). p.drained) w.passages) (taken_from e.drain) (sym k.drained);
  arrived = prefix_same (flat_map (λ (p : Passage). p.arrived) w.passages) (sent_on e.feed) (sym k.arrived);
}

all_kept_noted : (ws : List Wire) (es : List InnerEnds) → AreLinksKept ws es → AreNoted ws es
all_kept_noted [] [] k = tt
all_kept_noted [] (e ∷ es) k = absurd k
all_kept_noted (w ∷ ws) [] k = absurd k
all_kept_noted (w ∷ ws) (e ∷ es) k = (kept_noted w e k.0, all_kept_noted ws es k.1)

-- all that was fed is noted
fed_noted : (w : Wire) (e : InnerEnds) → IsFedNoted w e → IsNoted w e
fed_noted w e f = record {
  drained = f.drained;
  arrived = prefix_same (flat_map (λ (p : Passage). p.arrived) w.passages) (sent_on e.feed) (sym f.arrived);
}

pub all_fed_noted : (ws : List Wire) (es : List InnerEnds) → AreFedNoted ws es → AreNoted ws es
all_fed_noted [] [] f = tt
all_fed_noted [] (e ∷ es) f = absurd f
all_fed_noted (w ∷ ws) [] f = absurd f
all_fed_noted (w ∷ ws) (e ∷ es) f = (fed_noted w e f.0, all_fed_noted ws es f.1)

kept_fed : (w : Wire) (e : InnerEnds) → IsLinkKept w e → IsFedNoted w e
kept_fed w e k = record {
  drained = prefix_same (flat_map (λ (p : Passage). p.drained) w.passages) (taken_from e.drain) (sym k.drained);
  arrived = k.arrived;
}

pub all_kept_fed : (ws : List Wire) (es : List InnerEnds) → AreLinksKept ws es → AreFedNoted ws es
all_kept_fed [] [] k = tt
all_kept_fed [] (e ∷ es) k = absurd k
all_kept_fed (w ∷ ws) [] k = absurd k
all_kept_fed (w ∷ ws) (e ∷ es) k = (kept_fed w e k.0, all_kept_fed ws es k.1)

fed_at : (ws : List Wire) (es : List InnerEnds) → AreFedNoted ws es → (k : ℕ) (w : Wire) (e : InnerEnds) → slice_get ws k ≡ Some w → slice_get es k ≡ Some e → IsFedNoted w e
fed_at ws es f k w e at_w at_e =
    let on = each_on IsFedNoted ws es f k w at_w in
    subst (λ (x : InnerEnds). IsFedNoted w x) (one_at es k on.0 e on.1 at_e) on.2

pub fed_but_one : (ws : List Wire) (es : List InnerEnds) → AreFedNoted ws es → AreFedButOne ws es
fed_but_one ws es f = record { place = 0; noted = all_fed_noted ws es f; fed = λ k w e at_w at_e other. fed_at ws es f k w e at_w at_e }

-- whatever the fault is
pub fed_after : (e : NodeFault) (ws : List Wire) (es : List InnerEnds) → AreFedNoted ws es → AreNotedAfter e ws es
fed_after Failed ws es f = f
fed_after (Differs (differing from to at sent taken)) ws es f = fed_but_one ws es f
fed_after (Differs (bytes round from_node to_node place sent taken)) ws es f = f
fed_after NoMemory ws es f = fed_but_one ws es f

-- more was drained, and nothing was fed
fed_on : (w : Wire) (e f : InnerEnds) → IsFedNoted w e → AreSameEnds e f → HasSameFeed e f → IsFedNoted w f
fed_on w e f n s same = record {
  drained = prefix_then (flat_map (λ (p : Passage). p.drained) w.passages) (taken_from e.drain) (taken_from f.drain) n.drained s.drained;
  arrived = n.arrived ∙ sym same;
}

pub all_fed_on : (ws : List Wire) (es fs : List InnerEnds) → AreFedNoted ws es → EachAre AreSameEnds es fs → EachAre (λ a b. HasSameFeed a b) es fs → AreFedNoted ws fs
all_fed_on [] [] [] n s same = tt
all_fed_on [] [] (f ∷ fs) n s same = absurd s
all_fed_on [] (e ∷ es) fs n s same = absurd n
all_fed_on (w ∷ ws) [] fs n s same = absurd n
all_fed_on (w ∷ ws) (e ∷ es) [] n s same = absurd s
all_fed_on (w ∷ ws) (e ∷ es) (f ∷ fs) n s same = (fed_on w e f n.0 s.0 same.0, all_fed_on ws es fs n.1 s.1 same.1)

-- what was drained is still to be noted
pub to_noted : (w : Wire) (e : InnerEnds) (p : Passing) → IsToNote w e p → IsNoted w e
to_noted w e p t = record {
  drained = (p.drained, t.drained);
  arrived = prefix_same (flat_map (λ (q : Passage). q.arrived) w.passages) (sent_on e.feed) (sym t.arrived);
}

pub to_fed : (w : Wire) (e : InnerEnds) (p : Passing) → IsToNote w e p → IsFedNoted w e
to_fed w e p t = record { drained = (p.drained, t.drained); arrived = t.arrived }

pub all_to_fed : (ws : List Wire) (es : List InnerEnds) (ps : List Passing) → length es ≡ length ws → length ps ≡ length ws → AreToNote ws es ps → AreFedNoted ws es
all_to_fed [] [] ps size long t = tt
all_to_fed [] (e ∷ es) ps size long t = absurd (omega (arith, size))
all_to_fed (w ∷ ws) [] ps size long t = absurd (omega (arith, size))
all_to_fed (w ∷ ws) (e ∷ es) [] size long t = absurd (omega (arith, long))
all_to_fed (w ∷ ws) (e ∷ es) (p ∷ ps) size long t =
    (to_fed w e p (t 0 w e p refl refl refl), all_to_fed ws es ps (omega (arith, size)) (omega (arith, long)) (λ k v d q at_v at_d at_q. t (suc k) v d q at_v at_d at_q))

-- something was fed and not noted
pub noted_fed : (w : Wire) (d e : InnerEnds) (p : Passing) → IsToNote w d p → e.drain ≡ d.drain → IsPrefix (sent_on d.feed) (sent_on e.feed) → IsNoted w e
noted_fed w d e p t drain fed =
    let n = to_noted w d p t in
    record {
      drained = prefix_then (flat_map (λ (q : Passage). q.drained) w.passages) (taken_from d.drain) (taken_from e.drain) n.drained (prefix_same (taken_from d.drain) (taken_from e.drain) (ap taken_from drain));
      arrived = prefix_then (flat_map (λ (q : Passage). q.arrived) w.passages) (sent_on d.feed) (sent_on e.feed) n.arrived fed;
    }

-- all was fed and noted
pub fed_kept : (w v : Wire) (d e : InnerEnds) (p : Passing) → IsToNote w d p → v ≡ keeps w p.drained p.arrived → e.drain ≡ d.drain → sent_on e.feed ≡ sent_on d.feed ++ p.arrived → IsFedNoted v e
fed_kept w v d e p t is drain fed = subst (λ (u : Wire). IsFedNoted u e) (sym is) (record {
  drained = prefix_same (flat_map (λ (q : Passage). q.drained) (w.passages ++ passage_of p.drained p.arrived)) (taken_from e.drain)
      (ap taken_from drain ∙ sym t.drained ∙ ap (λ (es : List (ℕ × Message)). flat_map (λ (q : Passage). q.drained) w.passages ++ es) (sym (kept_drained p.drained p.arrived)) ∙ sym (flat_map-append (λ (q : Passage). q.drained) w.passages (passage_of p.drained p.arrived)));
  arrived = sym (fed ∙ ap (λ (es : List (ℕ × Message)). es ++ p.arrived) (sym t.arrived) ∙ ap (λ (es : List (ℕ × Message)). flat_map (λ (q : Passage). q.arrived) w.passages ++ es) (sym (kept_arrived p.drained p.arrived)) ∙ sym (flat_map-append (λ (q : Passage). q.arrived) w.passages (passage_of p.drained p.arrived)));
})

pub noted_kept : (w v : Wire) (d e : InnerEnds) (p : Passing) → IsToNote w d p → v ≡ keeps w p.drained p.arrived → e.drain ≡ d.drain → sent_on e.feed ≡ sent_on d.feed ++ p.arrived → IsNoted v e
noted_kept w v d e p t is drain fed = fed_noted v e (fed_kept w v d e p t is drain fed)

-- one link more
pub noted_set : (ws : List Wire) (es : List InnerEnds) (k : ℕ) (v : Wire) (f : InnerEnds) → AreNoted ws es → IsNoted v f → AreNoted (set ws k v) (set es k f)
noted_set [] [] k v f n one = tt
noted_set [] (e ∷ es) k v f n one = absurd n
noted_set (w ∷ ws) [] k v f n one = absurd n
noted_set (w ∷ ws) (e ∷ es) zero v f n one = (one, n.1)
noted_set (w ∷ ws) (e ∷ es) (suc k) v f n one = (n.0, noted_set ws es k v f n.1 one)

pub fed_set : (ws : List Wire) (es : List InnerEnds) (k : ℕ) (v : Wire) (f : InnerEnds) → AreFedNoted ws es → IsFedNoted v f → AreFedNoted (set ws k v) (set es k f)
fed_set [] [] k v f n one = tt
fed_set [] (e ∷ es) k v f n one = absurd n
fed_set (w ∷ ws) [] k v f n one = absurd n
fed_set (w ∷ ws) (e ∷ es) zero v f n one = (one, n.1)
fed_set (w ∷ ws) (e ∷ es) (suc k) v f n one = (n.0, fed_set ws es k v f n.1 one)

-- one link was fed more than it has noted
pub set_but_one : (ws : List Wire) (es : List InnerEnds) (k : ℕ) (v : Wire) (f : InnerEnds) → AreFedNoted ws es → k < length ws → k < length es → IsNoted v f → AreFedButOne (set ws k v) (set es k f)
set_but_one ws es k v f n in_w in_e one = record {
  place = k;
  noted = noted_set ws es k v f (all_fed_noted ws es n) one;
  fed = λ j w e at_w at_e other. fed_at ws es n j w e (at_other ws k v j w in_w other at_w) (at_other es k f j e in_e other at_e);
}

-- the same links with the same ends
pub but_one_as : (ws vs : List Wire) (es fs : List InnerEnds) → ws ≡ vs → es ≡ fs → AreFedButOne vs fs → AreFedButOne ws es
but_one_as ws vs es fs kept ends n = subst (λ (us : List Wire). AreFedButOne us es) (sym kept) (subst (λ (ds : List InnerEnds). AreFedButOne vs ds) (sym ends) n)

pub fed_as : (ws vs : List Wire) (es fs : List InnerEnds) → ws ≡ vs → es ≡ fs → AreFedNoted vs fs → AreFedNoted ws es
fed_as ws vs es fs kept ends n = subst (λ (us : List Wire). AreFedNoted us es) (sym kept) (subst (λ (ds : List InnerEnds). AreFedNoted vs ds) (sym ends) n)

-- a new link has noted nothing
fresh_noted : (from to : ℕ) (e : InnerEnds) → IsNoted (fresh_link from to) e
fresh_noted from to e = record { drained = (taken_from e.drain, refl); arrived = (sent_on e.feed, refl) }

renewed : (ws : List Wire) (es : List InnerEnds) (k from to : ℕ) → AreNoted ws es → AreNoted (set ws k (fresh_link from to)) es
renewed [] [] k from to n = tt
renewed [] (e ∷ es) k from to n = absurd n
renewed (w ∷ ws) [] k from to n = absurd n
renewed (w ∷ ws) (e ∷ es) zero from to n = (fresh_noted from to e, n.1)
renewed (w ∷ ws) (e ∷ es) (suc k) from to n = (n.0, renewed ws es k from to n.1)

-- a difference was taken out of links that had noted all
pub kept_out : (d : Difference) (ws vs : List Wire) (es : List InnerEnds) → IsTakenOut d ws vs → AreLinksKept ws es → AreNotedAfter (Differs d) vs es
kept_out (differing from to at sent taken) ws vs es out k = subst (λ (us : List Wire). AreFedButOne us es) (sym out.1.left) (record {
  place = out.1.link;
  noted = renewed ws es out.1.link from to (all_kept_noted ws es k);
  fed = λ j w e at_w at_e other. fed_at ws es (all_kept_fed ws es k) j w e (at_other ws out.1.link (fresh_link from to) j w (slice_get_within ws out.1.link out.1.wire out.1.is) other at_w) at_e;
})
kept_out (bytes round from_node to_node place sent taken) ws vs es out k = subst (λ (us : List Wire). AreFedNoted us es) (sym out) (all_kept_fed ws es k)

-- what is so in any case is so after a fault
pub on_fault : {T E P : Type 0} (r : Result T E) → P → OnErr r P
on_fault (Ok x) p = tt
on_fault (Err e) p = p

-- what follows of what is so after a fault
pub fault_then : {T E P Q : Type 0} (r : Result T E) → (P → Q) → OnErr r P → OnErr r Q
fault_then (Ok x) f p = tt
fault_then (Err e) f p = f p
