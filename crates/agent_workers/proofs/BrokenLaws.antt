-- No round is broken off because stamps end.
use Rattle.std.proofs.Common.{◌≡◌, ℕ, zero, suc, ◌<◌, ◌≤◌, ◌==◌, if◌then◌else◌, Bool, false, Some, List, [], ◌∷◌, ◌++◌, map, max, length, slice_get, refl, sym, ap, ap₂, subst, ◌∙◌, inl, inr, arith}
use Rattle.std.specs.List.{All, Contains, fold}
use Rattle.std.specs.List.Sorted.{IsStrictlyIncreasing}
use Rattle.std.proofs.Math.Nat.{mul-le-mul_right}
use Rattle.std.proofs.lemmas.Bool.{true≢false, ne_eqb, eq-eqb}
use Rattle.std.proofs.lemmas.Option.{none-some, same_Some}
use Rattle.std.proofs.lemmas.List.{append-nil, append_assoc}
use Rattle.std.specs.declared.dyn_box.DynBox.{DynBox}
use Rattle.std.specs.declared.alloc.Global.{Global}
use Rattle.dcop_base.specs.Limits.{variable_limit, budget_limit, amount_limit}
use Rattle.dcop_base.specs.Table.{has}
use Rattle.protocol_steps.specs.declared.message.Message.{Message}
use Rattle.protocol_steps.specs.View.{View}
use Rattle.protocol_steps.specs.Stamps.{Gain}
use Rattle.protocol_steps.specs.Deeds.{greatest_from, gain_from, gained_from}
use Rattle.protocol_steps.specs.StampLaw.{IsPrefix}
use Rattle.worker_laws.specs.Cells.{CellState, Lane, peers, lane, EachAre}
use Rattle.worker_laws.specs.Visits.{IsFrom, IsQuiet}
use Rattle.worker_laws.specs.CellRounds.{AreSettled, AreStarted, total}
use Rattle.worker_laws.specs.StampCounts.{IsMoved, ArePrefixes, IsCellWithin}
use Rattle.worker_laws.proofs.LaneLaws.{lane_grown, peers_grown, has_from_contains}
use Rattle.worker_laws.proofs.EachLaws.{each_long, each_back, each_on, there}
use Rattle.worker_laws.proofs.VisitLaws.{later_then}
use Rattle.worker_laws.proofs.CellStampLaws.{cell_stamps_are_few}
use Rattle.agent_cells.specs.declared.cell.Cell.{Cell}
use Rattle.agent_cells.specs.declared.fault.VisitFault.{VisitFault}
use Rattle.agent_cells.specs.declared.fault.VisitFault.TheVariants.{StampEnd}
use Rattle.agent_cells.specs.Failed.{HasReachedEnd}
use Rattle.agent_cells.specs.State.{state_of}
use Rattle.agent_workers.specs.Joined.{states_of, AreCellsJoined}
use Rattle.agent_workers.specs.Turns.{sprint_limit, SomeFailed}
use Rattle.agent_workers.specs.Broken.{HasGoneOn, HasFailedVisit, StandsOrFails, HaveBrokenOff}

pub gone_then : (a b c : CellState) → HasGoneOn a b → HasGoneOn b c → HasGoneOn a c
gone_then a b c g h = record { deeds = g.deeds ++ h.deeds; later = later_then a b c g.deeds h.deeds g.later h.later }

pub moved_by : (a b c : CellState) → IsQuiet a b → HasGoneOn b c → IsMoved a c
moved_by a b c q g = record { middle = b; quiet = q; deeds = g.deeds; later = g.later }

-- the element at a place of a mapped list
map_at : {A B : Type 0} (f : A → B) (xs : List A) (i : ℕ) (x : A) → slice_get xs i ≡ Some x → slice_get (map f xs) i ≡ Some (f x)
map_at f [] i x e = absurd (none-some x e)
map_at f (y ∷ xs) zero x e = ap (λ (z : _). Some (f z)) (same_Some y x e)
map_at f (y ∷ xs) (suc i) x e = map_at f xs i x e

-- from others nothing was gained
gained_none : (j : ℕ) (among : List ℕ) (gs : List Gain) → All (IsFrom among) gs → has among j ≡ false → gained_from j gs ≡ []
gained_none j among [] h none = refl
gained_none j among (g ∷ gs) h none =
    let apart : (g.from == j) ≡ false = ne_eqb g.from j (λ (e : g.from ≡ j). true≢false (sym (has_from_contains among j (subst (λ (n : ℕ). Contains among n) e (h 0 g (omega arith)))) ∙ none)) in
    ap₂ (λ (b : Bool) (es : List (ℕ × Message)). (if b then g.envelopes else []) ++ es) apart (gained_none j among gs (λ k d lt. h (suc k) d (omega (arith, lt))) none)

abbrev Within : ℕ → (ℕ × Message) → Type 0
Within k e = e.0 ≤ k

-- both halves of a list are within a limit if the list is
all_both : (k : ℕ) (e : ℕ × Message) (es : List (ℕ × Message)) → Within k e → All (Within k) es → All (Within k) (e ∷ es)
all_both k e es h rest zero d lt = h
all_both k e es h rest (suc i) d lt = rest i d (omega (arith, lt))

all_left : (k : ℕ) (es fs : List (ℕ × Message)) → All (Within k) (es ++ fs) → All (Within k) es
all_left k [] fs h = λ i d lt. absurd (omega (arith, lt))
all_left k (e ∷ es) fs h = all_both k e es (h 0 e (omega arith)) (all_left k es fs (λ i d lt. h (suc i) d (omega (arith, lt))))

all_right : (k : ℕ) (es fs : List (ℕ × Message)) → All (Within k) (es ++ fs) → All (Within k) fs
all_right k [] fs h = h
all_right k (e ∷ es) fs h = all_right k es fs (λ i d lt. h (suc i) d (omega (arith, lt)))

-- the greatest of stamps that are at most k
low_from : (m k : ℕ) (es : List (ℕ × Message)) → m ≤ k → All (Within k) es → greatest_from m es ≤ k
low_from m k [] le h = le
low_from m k (e ∷ es) le h = let low : e.0 ≤ k = h 0 e (omega arith) in low_from (max m e.0) k es (omega (arith, le, low)) (λ i d lt. h (suc i) d (omega (arith, lt)))

low_gains : (m k : ℕ) (among : List ℕ) (gs : List Gain) → m ≤ k → All (IsFrom among) gs → ((j : ℕ) → Contains among j → All (Within k) (gained_from j gs)) → fold (λ n g. greatest_from n g.envelopes) m gs ≤ k
low_gains m k among [] le senders low = le
low_gains m k among (g ∷ gs) le senders low =
    let sender : Contains among g.from = senders 0 g (omega arith) in
    let own : All (Within k) g.envelopes = all_left k g.envelopes (gained_from g.from gs) (subst (λ (b : Bool). All (Within k) ((if b then g.envelopes else []) ++ gained_from g.from gs)) (eq-eqb g.from g.from refl) (low g.from sender)) in
    low_gains (greatest_from m g.envelopes) k among gs (low_from m k g.envelopes le own) (λ l d lt. senders (suc l) d (omega (arith, lt)))
    (λ j c. all_right k (gain_from j g) (gained_from j gs) (low j c))

module _ {X : Type 0} {F : X → Type 0} (M : DynBox X Global F → View) where
  -- only the end of the stamps has broken off the visits of cells
  abbrev StandsOrEnds : CellState → Cell X F → Type 0
  StandsOrEnds s c = StandsOrFails M StampEnd s c

  pub has_ended : (s : CellState) (c : Cell X F) → (own : VisitFault) × (StampEnd ≡ StampEnd → own ≡ StampEnd) × HasFailedVisit M own s c → HasReachedEnd s (state_of M c)
  has_ended s c failed = failed.2.end (failed.1 refl)

  -- what a cell has taken, by what it had taken as it stood
  record HasTaken (j : ℕ) (s : CellState) (c : Cell X F) : Type 0 where
    more : List (ℕ × Message)
    is : lane j (state_of M c).taken ≡ lane j s.taken ++ more

  same_peers : (s : CellState) (c : Cell X F) → StandsOrEnds s c → peers (state_of M c).taken ≡ peers s.taken
  same_peers s c (inl e) = ap (λ (t : CellState). peers t.taken) e.0
  same_peers s c (inr failed) = let r = has_ended s c failed in ap peers r.taken ∙ peers_grown (λ j. gained_from j r.gains) s.taken

  has_taken : (j : ℕ) (s : CellState) (c : Cell X F) → IsStrictlyIncreasing (peers (state_of M c).taken) → StandsOrEnds s c → HasTaken j s c
  has_taken j s c up (inl e) = record { more = []; is = ap (λ (t : CellState). lane j t.taken) e.0 ∙ sym (append-nil (lane j s.taken)) }
  has_taken j s c up (inr failed) =
      let r = has_ended s c failed in
      record {
        more = gained_from j r.gains;
        is = ap (lane j) r.taken ∙ lane_grown j (λ i. gained_from i r.gains) s.taken (subst (λ (ns : List ℕ). IsStrictlyIncreasing ns) (same_peers s c (inr failed)) up) (λ none. gained_none j (peers s.taken) r.gains r.senders none);
      }

  same_sent : (s : CellState) (c : Cell X F) → StandsOrEnds s c → (state_of M c).sent ≡ s.sent
  same_sent s c (inl e) = ap (λ (t : CellState). t.sent) e.0
  same_sent s c (inr failed) = (has_ended s c failed).sent

  module _ (workers budget : ℕ) (made : List View) (started : List CellState) (now : List (Cell X F)) (last : List CellState) (starts : AreStarted made started) (broken : HaveBrokenOff M StampEnd workers budget started now)
      (joined : AreCellsJoined M 1 now) (quiet : EachAre IsQuiet (states_of M now) last) (settled : AreSettled last) where
    abbrev stood : List CellState
    stood = broken.broken.stood

    ascends : (i : ℕ) (c : Cell X F) → slice_get now i ≡ Some c → IsStrictlyIncreasing (peers (state_of M c).taken)
    ascends i c e = (joined.wired i c e).ascend

    -- what a cell has taken is a first part of what was sent to it
    ahead : (i j : ℕ) (c : Cell X F) (from : CellState) → slice_get now i ≡ Some c → slice_get stood j ≡ Some from → IsPrefix (lane j (state_of M c).taken) (lane i from.sent)
    ahead i j c from at f =
        let d = each_on StandsOrEnds stood now broken.broken.came j from f in
        let u = each_on IsQuiet (states_of M now) last quiet i (state_of M c) (map_at (state_of M) now i c at) in
        let w = each_on IsQuiet (states_of M now) last quiet j (state_of M d.0) (map_at (state_of M) now j d.0 d.1) in
        let s = settled i j u.0 w.0 u.1 w.1 in
        (s.waiting, ap (λ (ls : List Lane). lane j ls ++ s.waiting) (sym u.2.taken) ∙ s.whole ∙ ap (lane i) (w.2.sent ∙ same_sent from d.0 d.2))

    prefixes : ArePrefixes stood
    prefixes i j to from e f =
        let c = each_on StandsOrEnds stood now broken.broken.came i to e in
        let t = has_taken j to c.0 (ascends i c.0 c.1) c.2 in
        let p = ahead i j c.0 from c.1 f in
        (t.more ++ p.0, sym (append_assoc (lane j to.taken) t.more p.0) ∙ ap (λ (es : List (ℕ × Message)). es ++ p.0) (sym t.is) ∙ p.1)

    low : (i : ℕ) (s : CellState) → slice_get stood i ≡ Some s → IsCellWithin (total stood) s
    low = cell_stamps_are_few budget made started broken.before stood broken.played.rounds starts broken.played.are broken.broken.gone prefixes

    -- all stamps that a cell has taken are low
    low_taken : (i j : ℕ) (c : Cell X F) → slice_get now i ≡ Some c → j < length now → All (Within (total stood)) (lane j (state_of M c).taken)
    low_taken i j c at lt =
        let long : length stood ≡ length now = each_long StandsOrEnds stood now broken.broken.came in
        let from = there stood j (omega (arith, lt, long)) in
        let p = ahead i j c from.0 at from.1 in
        all_left (total stood) (lane j (state_of M c).taken) p.0 (subst (λ (es : List (ℕ × Message)). All (Within (total stood)) es) (sym p.1) ((low j from.0 from.1).sent i))

    few : budget ≤ budget_limit → total stood < amount_limit
    few within =
        let long = each_long StandsOrEnds stood now broken.broken.came in
        let longer = each_long IsMoved broken.before stood broken.broken.gone in
        let size = joined.few in
        let bound = mul-le-mul_right sprint_limit (let le : length broken.before ≤ variable_limit = omega (arith, long, longer, size) in le) in
        let most = broken.broken.most in
        let less = broken.less in
        omega (arith, bound, most, less, within)

    pub no_end : budget ≤ budget_limit → SomeFailed StampEnd now → ⊥
    no_end within failed =
        let s = each_back StandsOrEnds stood now broken.broken.came failed.place failed.cell failed.at in
        elim s.2 [
          | inl fine ↦ none-some StampEnd (sym (sym failed.is ∙ fine.1))
          | inr own ↦
              let r = has_ended s.0 failed.cell own in
              let among : List ℕ = peers s.0.taken in
              let is : peers (state_of M failed.cell).taken ≡ among = same_peers s.0 failed.cell (inr own) in
              let up = ascends failed.place failed.cell failed.at in
              let wired = joined.wired failed.place failed.cell failed.at in
              let gains = low_gains 0 (total stood) among r.gains (omega arith) r.senders
              (λ j c.
              let inside : j < length now = subst (λ (n : ℕ). n < length now) c.2 (subst (λ (ns : List ℕ). All (λ n. n < length now) ns) is wired.below c.0 j c.1) in
              let taken = has_taken j s.0 failed.cell up (inr own) in
              all_right (total stood) (lane j s.0.taken) (gained_from j r.gains) (subst (λ (es : List (ℕ × Message)). All (Within (total stood)) es)
              (ap (lane j) r.taken ∙ lane_grown j (λ i. gained_from i r.gains) s.0.taken (subst (λ (ns : List ℕ). IsStrictlyIncreasing ns) is up) (λ none. gained_none j among r.gains r.senders none))
              (low_taken failed.place j failed.cell failed.at inside))) in
              let own = (low failed.place s.0 s.1).last in
              let end = r.last in
              let some = few within in
              omega (arith, gains, own, end, some)
        ]
