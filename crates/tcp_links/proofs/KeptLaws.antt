-- A link that was drained to its end, and fed with what arrived, is exchanged.
use Rattle.std.proofs.Common.{◌≡◌, ℕ, List, [], ◌∷◌, ◌++◌, refl, sym, ap, ◌∙◌}
use Rattle.std.specs.List.{flat_map}
use Rattle.std.proofs.lemmas.List.{append-nil}
use Rattle.std.proofs.lemmas.List.Concat.{flat_map-append}
use Rattle.protocol_steps.specs.declared.message.Message.{Message}
use Rattle.fifo_links.specs.Link.{sent_on, taken_from}
use Rattle.worker_laws.specs.Cells.{CellState, lane}
use Rattle.worker_laws.specs.Wires.{Passage, Wire}
use Rattle.worker_laws.specs.Links.{IsLinkExchanged}
use Rattle.link_records.specs.Keeping.{passage_of, keeps}
use Rattle.tcp_links.specs.declared.plan.InnerEnds.{InnerEnds}
use Rattle.tcp_links.specs.Drains.{HasDrained}
use Rattle.tcp_links.specs.Feeds.{AllWaits}
use Rattle.tcp_links.specs.Kept.{IsLinkKept}

pub kept_drained : (ds es : List (ℕ × Message)) → flat_map (λ (p : Passage). p.drained) (passage_of ds es) ≡ ds
kept_drained [] [] = refl
kept_drained [] (a ∷ es) = refl
kept_drained (d ∷ ds) es = append-nil (d ∷ ds)

pub kept_arrived : (ds es : List (ℕ × Message)) → flat_map (λ (p : Passage). p.arrived) (passage_of ds es) ≡ es
kept_arrived [] [] = refl
kept_arrived [] (a ∷ es) = append-nil (a ∷ es)
kept_arrived (d ∷ ds) es = append-nil es

-- a link stays kept where what was drained and what was fed is kept
pub kept_on : (w : Wire) (before after : InnerEnds) (ds es : List (ℕ × Message)) → IsLinkKept w before → HasDrained before.drain [] after.drain ds → sent_on after.feed ≡ sent_on before.feed ++ es → IsLinkKept (keeps w ds es) after
kept_on w before after ds es k drained fed = record {
  drained =
      flat_map-append (λ (p : Passage). p.drained) w.passages (passage_of ds es)
      ∙ ap (λ (fs : List (ℕ × Message)). fs ++ flat_map (λ (p : Passage). p.drained) (passage_of ds es)) k.drained
      ∙ ap (λ (fs : List (ℕ × Message)). taken_from before.drain ++ fs) (kept_drained ds es ∙ drained.added) ∙ sym drained.taken;
  arrived =
      flat_map-append (λ (p : Passage). p.arrived) w.passages (passage_of ds es)
      ∙ ap (λ (fs : List (ℕ × Message)). fs ++ flat_map (λ (p : Passage). p.arrived) (passage_of ds es)) k.arrived
      ∙ ap (λ (fs : List (ℕ × Message)). sent_on before.feed ++ fs) (kept_arrived ds es) ∙ sym fed;
}

-- then it is exchanged
pub link_exchanged : (w : Wire) (ends : InnerEnds) (to from : CellState) → IsLinkKept w ends → taken_from ends.drain ≡ lane w.receiver from.sent → AllWaits to w.sender ends.feed → IsLinkExchanged w to from
link_exchanged w ends to from k all waits = record {
  drained = k.drained ∙ all;
  waiting = waits.waiting;
  arrived = waits.whole ∙ sym k.arrived;
  known = waits.known;
}
