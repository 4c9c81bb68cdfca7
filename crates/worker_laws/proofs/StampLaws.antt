-- No stamp comes to its end where each exchange took just what it sent.
use Rattle.std.proofs.Common.{◌≡◌, ℕ, ◌<◌, ◌≤◌, Bool, false, ◌==◌, if◌then◌else◌, max, List, [], ◌∷◌, ◌++◌, length, Some, refl, sym, ap, ap₂, subst, ◌∙◌, arith}
use Rattle.std.specs.List.{All, Contains, fold, slice_get}
use Rattle.std.specs.List.Sorted.{IsStrictlyIncreasing}
use Rattle.std.proofs.lemmas.Bool.{eq-eqb, ne_eqb, true≢false}
use Rattle.std.proofs.lemmas.List.{append_assoc}
use Rattle.std.proofs.lemmas.List.Elements.{All-head, All-tail}
use Rattle.dcop_base.specs.Table.{has}
use Rattle.protocol_steps.specs.declared.message.Message.{Message}
use Rattle.protocol_steps.specs.View.{View}
use Rattle.protocol_steps.specs.Stamps.{Gain}
use Rattle.protocol_steps.specs.Deeds.{greatest_from, greatest_of, gain_from, gained_from}
use Rattle.protocol_steps.specs.StampLaw.{IsPrefix}
use Rattle.worker_laws.specs.Cells.{CellState, Lane, peers, lane, grown, IsWired, EachAre}
use Rattle.worker_laws.specs.Visits.{IsFrom, IsQuiet}
use Rattle.worker_laws.specs.Acts.{moved}
use Rattle.worker_laws.specs.CellRounds.{IsSettled, AreSettled, AreStarted, AreCellRounds, total}
use Rattle.worker_laws.specs.StampCounts.{IsMoved, ArePrefixes, IsCellWithin}
use Rattle.worker_laws.proofs.LaneLaws.{lane_grown, peers_grown, has_from_contains}
use Rattle.worker_laws.proofs.EachLaws.{each_long, each_back, each_on, there}
use Rattle.worker_laws.proofs.HistoryLaws.{History, begun, rounds_on}
use Rattle.worker_laws.proofs.CellStampLaws.{cell_stamps_are_few}
use Rattle.worker_laws.specs.Wires.{HaveHeld}
use Rattle.worker_laws.specs.NodeStamps.{HasOnlyTaken, NodeStampsAreFew}
use Rattle.worker_laws.proofs.WireLaws.{all_left, all_right, held_before}
use Rattle.worker_laws.proofs.RoundLaws.{each_then, quiet_then, all_quiet, all_settled, rounds_are}

abbrev Within : ℕ → ℕ × Message → Type 0
Within k e = e.0 ≤ k

-- the greatest of stamps that are none above k
low_from : (m k : ℕ) (es : List (ℕ × Message)) → m ≤ k → All (Within k) es → greatest_from m es ≤ k
low_from m k [] le h = le
low_from m k (e ∷ es) le h = let low : e.0 ≤ k = All-head (Within k) e es h in low_from (max m e.0) k es (omega (arith, le, low)) (All-tail (Within k) e es h)

low_gains : (m k : ℕ) (among : List ℕ) (gs : List Gain) → m ≤ k → All (IsFrom among) gs → ((j : ℕ) → Contains among j → All (Within k) (gained_from j gs)) → fold (λ n g. greatest_from n g.envelopes) m gs ≤ k
low_gains m k among [] le senders low = le
low_gains m k among (g ∷ gs) le senders low =
    let sender : Contains among g.from = All-head (IsFrom among) g gs senders in
    let own : All (Within k) g.envelopes = all_left (Within k) g.envelopes (gained_from g.from gs) (subst (λ (b : Bool). All (Within k) ((if b then g.envelopes else []) ++ gained_from g.from gs)) (eq-eqb g.from g.from refl) (low g.from sender)) in
    low_gains (greatest_from m g.envelopes) k among gs (low_from m k g.envelopes le own) (All-tail (IsFrom among) g gs senders) (λ j c. all_right (Within k) (gain_from j g) (gained_from j gs) (low j c))

-- of who is no peer nothing was taken
gained_none : (j : ℕ) (among : List ℕ) (gs : List Gain) → All (IsFrom among) gs → has among j ≡ false → gained_from j gs ≡ []
gained_none j among [] senders none = refl
gained_none j among (g ∷ gs) senders none =
    let apart : (g.from == j) ≡ false = ne_eqb g.from j (λ (e : g.from ≡ j). true≢false (sym (has_from_contains among j (subst (λ (n : ℕ). Contains among n) e (All-head (IsFrom among) g gs senders))) ∙ none)) in
    ap₂ (λ (b : Bool) (es : List (ℕ × Message)). (if b then g.envelopes else []) ++ es) apart (gained_none j among gs (All-tail (IsFrom among) g gs senders) none)

-- a quiet cell that moves then has moved
quiet_moved : (a b c : CellState) → IsQuiet a b → IsMoved b c → IsMoved a c
quiet_moved a b c q m = record { middle = m.middle; quiet = quiet_then a b m.middle q m.quiet; deeds = m.deeds; later = m.later }

moved_peers : (a b : CellState) → IsMoved a b → peers b.taken ≡ peers a.taken
moved_peers a b m = ap peers m.later.taken ∙ peers_grown (λ j. gained_from j (moved m.middle m.deeds).gains) m.middle.taken ∙ ap peers m.quiet.taken

module _ (budget : ℕ) (made : List View) (cells before stood now last : List CellState) (rounds : List (List CellState)) (starts : AreStarted made cells) (played : AreCellRounds budget cells rounds before)
    (moves : EachAre IsMoved before stood) (taken : EachAre HasOnlyTaken stood now) (quiet : EachAre IsQuiet now last) (settled : AreSettled last) where
  history : History budget made before
  history = rounds_on budget made cells before rounds (begun budget made cells starts) played

  -- the peers of a cell ascend and are agents
  record Wiring (s : CellState) : Type 0 where
    ascend : IsStrictlyIncreasing (peers s.taken)
    below : All (λ j. j < length made) (peers s.taken)

  wiring : (i : ℕ) (s : CellState) → slice_get stood i ≡ Some s → Wiring s
  wiring i s e =
      let b = each_back IsMoved before stood moves i s e in
      let wired : IsWired (length made) i b.0 = (history.tells i b.0 b.1).wired in
      let same = sym (moved_peers b.0 s b.2) in
      record {
        ascend = subst IsStrictlyIncreasing same wired.ascend;
        below = subst (λ (ks : List ℕ). All (λ k. k < length made) ks) same wired.below;
      }

  -- what a cell had taken, and what it then took
  lane_taken : (i j : ℕ) (s c : CellState) (gains : List Gain) → slice_get stood i ≡ Some s → All (IsFrom (peers s.taken)) gains → c.taken ≡ grown (λ k. gained_from k gains) s.taken
      → lane j c.taken ≡ lane j s.taken ++ gained_from j gains
  lane_taken i j s c gains e senders is =
      ap (lane j) is ∙ lane_grown j (λ k. gained_from k gains) s.taken (wiring i s e).ascend (λ none. gained_none j (peers s.taken) gains senders none)

  -- all that a cell took at last was sent to it
  ahead : (i j : ℕ) (c from : CellState) → slice_get now i ≡ Some c → slice_get stood j ≡ Some from → IsPrefix (lane j c.taken) (lane i from.sent)
  ahead i j c from at f =
      let d = each_on HasOnlyTaken stood now taken j from f in
      let u = each_on IsQuiet now last quiet i c at in
      let w = each_on IsQuiet now last quiet j d.0 d.1 in
      let s : IsSettled i j u.0 w.0 = settled i j u.0 w.0 u.1 w.1 in
      (s.waiting, ap (λ (ls : List Lane). lane j ls ++ s.waiting) (sym u.2.taken) ∙ s.whole ∙ ap (lane i) (w.2.sent ∙ d.2.sent))

  prefixes : ArePrefixes stood
  prefixes i j to from e f =
      let c = each_on HasOnlyTaken stood now taken i to e in
      let p = ahead i j c.0 from c.1 f in (
        gained_from j c.2.gains ++ p.0,
        sym (append_assoc (lane j to.taken) (gained_from j c.2.gains) p.0) ∙ ap (λ (es : List (ℕ × Message)). es ++ p.0) (sym (lane_taken i j to c.0 c.2.gains e c.2.senders c.2.taken)) ∙ p.1,
      )

  low : (i : ℕ) (s : CellState) → slice_get stood i ≡ Some s → IsCellWithin (total stood) s
  low = cell_stamps_are_few budget made cells before stood rounds starts played moves prefixes

  pub low_taken : (i : ℕ) (s c : CellState) (gains : List Gain) → slice_get stood i ≡ Some s → slice_get now i ≡ Some c → All (IsFrom (peers s.taken)) gains → c.taken ≡ grown (λ j. gained_from j gains) s.taken
      → IsCellWithin (total stood) s × (max s.stamp (greatest_of gains) ≤ total stood)
  low_taken i s c gains e at senders is =
      let own = low i s e in
      let last_stamp = own.last in
      let sized = history.sized in
      let long = each_long IsMoved before stood moves in
      let gained = low_gains 0 (total stood) (peers s.taken) gains (omega arith) senders (λ j among.
      let inside : j < length made = subst (λ (k : ℕ). k < length made) among.2 ((wiring i s e).below among.0 j among.1) in
      let from = there stood j (omega (arith, inside, sized, long)) in
      let p = ahead i j c from.0 at from.1 in
      let all : All (Within (total stood)) (lane j c.taken) = all_left (Within (total stood)) (lane j c.taken) p.0 (subst (λ (es : List (ℕ × Message)). All (Within (total stood)) es) (sym p.1) ((low j from.0 from.1).sent i)) in
      all_right (Within (total stood)) (lane j s.taken) (gained_from j gains) (subst (λ (es : List (ℕ × Message)). All (Within (total stood)) es) (lane_taken i j s c gains e senders is) all)) in
      (own, omega (arith, last_stamp, gained))

pub node_stamps_are_few : NodeStampsAreFew
node_stamps_are_few node budget made start wires more cells stood now last starts b end held =
    let held_wires : HaveHeld wires = held_before wires more end.exchange.passed held in
    let held_passed : HaveHeld b.passed = held_before b.passed wires b.exchange.passed held_wires in
    low_taken budget made cells b.before stood now last b.played.rounds starts (rounds_are node budget start cells b.played.rounds b.passed b.before b.played.are held_passed)
    (each_then IsQuiet IsMoved IsMoved quiet_moved b.before b.ready stood b.exchange.quiet b.moved) b.taken
    (all_quiet node wires more now end.ready last end.exchange end.settling held) (all_settled node wires more now end.ready last end.exchange end.settling held)
