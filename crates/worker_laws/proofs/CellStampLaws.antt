-- No stamp of a cell is above the number of messages taken.
use Rattle.std.proofs.Common.{◌≡◌, ℕ, zero, suc, ◌+◌, ◌≤◌, ◌<◌, Bool, true, false, not, nat_le, if◌then◌else◌, List, [], ◌∷◌, ◌++◌, map, length, Option, Some, None, refl, sym, ap, ap₂, subst, ◌∙◌, inl, inr, arith}
use Rattle.std.specs.List.{All, fold, sum_by, list_any, slice_get}
use Rattle.std.proofs.Math.Path.{fun_ext}
use Rattle.std.proofs.lemmas.Bool.{cases_Bool, cases_lt, false≢true}
use Rattle.std.proofs.lemmas.Option.{none-some, same_Some, slice_get_within}
use Rattle.std.proofs.lemmas.List.{append-nil, length-map}
use Rattle.std.proofs.lemmas.List.Sums.{sum_by-append}
use Rattle.protocol_steps.specs.declared.message.Message.{Message}
use Rattle.protocol_steps.specs.declared.event.Take.{Take}
use Rattle.protocol_steps.specs.declared.event.Event.{Event}
use Rattle.protocol_steps.specs.declared.event.EventFault.{EventFault}
use Rattle.protocol_steps.specs.declared.event.EventFault.TheVariants.{Nobody, Ended, Nothing, Order}
use Rattle.protocol_steps.specs.View.{View, ended_of}
use Rattle.protocol_steps.specs.Network.{Desk, Network, start_state, batch}
use Rattle.protocol_steps.specs.Step.{step_of}
use Rattle.protocol_steps.specs.Effect.{desk_after, deliveries}
use Rattle.protocol_steps.specs.Run.{or_else, ascends_from, form_fault, too_many, has_nothing, run}
use Rattle.protocol_steps.specs.Stamps.{Deed, Account, do_one}
use Rattle.protocol_steps.specs.Deeds.{event_of, AreDeeds, deeds_of, after_all, posted_to}
use Rattle.protocol_steps.specs.StampLaw.{TakenIsPrefix, all_of}
use Rattle.protocol_steps.proofs.EventLaws.{Happens, begins}
use Rattle.protocol_steps.proofs.JournalStampLaws.{starts_show}
use Rattle.protocol_steps.proofs.TallyLaws.{sum-set}
use Rattle.worker_laws.specs.Cells.{CellState, EachAre}
use Rattle.worker_laws.specs.CellRounds.{total}
use Rattle.worker_laws.specs.StampCounts.{IsMoved, IsCellWithin, CellStampsAreFew}
use Rattle.worker_laws.proofs.SortLaws.{OfAgent}
use Rattle.worker_laws.proofs.EachLaws.{each_long, there}
use Rattle.worker_laws.proofs.TakeLaws.{deed_agent, deed_stamp}
use Rattle.worker_laws.proofs.TellLaws.{first, starts, Tells, tells_quiet, tells_later}
use Rattle.worker_laws.proofs.PieceLaws.{Piece, piece, by_stamp}
use Rattle.worker_laws.proofs.HistoryLaws.{reached, History, Told, begun, told_prefix, delivered_told, rounds_on}
use Rattle.worker_laws.proofs.IdleLaws.{some_taken}
use Rattle.worker_laws.proofs.StampCountLaws.{IsLow, Within, low_to, low_stamps, low_more, all_from}

-- the activations of cell i in a round that may have been broken off
abbrev moves : (xs ys : List CellState) → EachAre IsMoved xs ys → ℕ → List Deed
moves [] [] h i = []
moves [] (y ∷ ys) h i = []
moves (x ∷ xs) [] h i = []
moves (x ∷ xs) (y ∷ ys) h zero = h.0.deeds
moves (x ∷ xs) (y ∷ ys) h (suc i) = moves xs ys h.1 i

moves_past : (xs ys : List CellState) (h : EachAre IsMoved xs ys) (i : ℕ) → length xs ≤ i → moves xs ys h i ≡ []
moves_past [] [] h i le = refl
moves_past [] (y ∷ ys) h i le = refl
moves_past (x ∷ xs) [] h i le = refl
moves_past (x ∷ xs) (y ∷ ys) h zero le = absurd (omega (arith, le))
moves_past (x ∷ xs) (y ∷ ys) h (suc i) le = moves_past xs ys h.1 i (omega (arith, le))

-- a cell that has moved tells them too
moved_tells : (made : List View) (k : ℕ) (own : ℕ → List Deed) (xs ys : List CellState) (h : EachAre IsMoved xs ys)
    → ((i : ℕ) (c : CellState) → slice_get xs i ≡ Some c → (k + i < length made) × Tells made (k + i) (own i) c)
    → (i : ℕ) (c : CellState) → slice_get ys i ≡ Some c → Tells made (k + i) (own i ++ moves xs ys h i) c
moved_tells made k own [] [] h told i c e = absurd (none-some c e)
moved_tells made k own [] (y ∷ ys) h told i c e = absurd h
moved_tells made k own (x ∷ xs) [] h told i c e = absurd h
moved_tells made k own (x ∷ xs) (y ∷ ys) h told zero c e =
    let t = told zero x refl in
    subst (λ (d : CellState). Tells made (k + zero) (own zero ++ h.0.deeds) d) (same_Some y c e)
    (tells_later made (k + zero) (own zero) h.0.middle (tells_quiet made (k + zero) (own zero) x h.0.middle t.1 h.0.quiet) t.0 h.0.deeds y h.0.later)
moved_tells made k own (x ∷ xs) (y ∷ ys) h told (suc i) c e =
    let shift : (j : ℕ) → suc k + j ≡ k + suc j = λ j. omega arith in
    subst (λ (j : ℕ). Tells made j (own (suc i) ++ moves xs ys h.1 i) c) (shift i)
    (moved_tells made (suc k) (λ j. own (suc j)) xs ys h.1 (λ j d f. subst (λ (l : ℕ). (l < length made) × Tells made l (own (suc j)) d) (sym (shift j)) (told (suc j) d f)) i c e)

-- each event of a run takes some message
one_delivers : (net after : Network) (e : Event) → Happens net e after → suc (deliveries net) ≤ deliveries after
one_delivers net after e h =
    let nothing : has_nothing e.takes ≡ false = takes_some (length net.desks) (ended_of h.view) e.takes (too_many net.desks e.agent e.takes) h.fine in
    let some = some_taken e.takes nothing in
    let more : sum_by (λ (t : Take). t.count) (h.desk.takes ++ e.takes) ≡ sum_by (λ (t : Take). t.count) h.desk.takes + sum_by (λ (t : Take). t.count) e.takes = sum_by-append (λ (t : Take). t.count) h.desk.takes e.takes in
    let set = sum-set (λ (x : Desk). sum_by (λ (t : Take). t.count) x.takes) net.desks e.agent (sum_by (λ (t : Take). t.count) e.takes) h.desk (desk_after h.desk (step_of h.view (batch net.desks e.agent e.takes)).sends e.takes) h.desks more in
    let is = ap deliveries h.after in
    omega (arith, some, set, is)
  where
    takes_some : (n : ℕ) (ended : Bool) (ts : List Take) (later : Option EventFault) → or_else (form_fault n ended ts) later ≡ None → has_nothing ts ≡ false
    takes_some n ended ts later fine = elim (cases_Bool (has_nothing ts)) [
      | inr not_so ↦ not_so
      | inl is_so ↦ absurd (faulty (list_any (λ t. nat_le n t.from) ts) ended (has_nothing ts) (not (ascends_from 0 ts)) later is_so fine)
    ]
      where
        faulty : (a b c e : Bool) (later : Option EventFault) → c ≡ true
            → or_else (if a then Some Nobody else (if b then Some Ended else (if c then Some Nothing else (if e then Some Order else None)))) later ≡ None → ⊥
        faulty true b c e later is fine = none-some _ (sym fine)
        faulty false true c e later is fine = none-some _ (sym fine)
        faulty false false true e later is fine = none-some _ (sym fine)
        faulty false false false e later is fine = false≢true is

pub run_delivers : (net end : Network) (es : List Event) → run net es ≡ Some end → deliveries net + length es ≤ deliveries end
run_delivers net end [] r = let is = ap deliveries (same_Some net end r) in omega (arith, is)
run_delivers net end (e ∷ es) r =
    let b = begins net end e es r in
    let one = one_delivers net b.next e b.first in
    let rest = run_delivers b.next end es b.rest in
    omega (arith, one, rest)

module _ (made : List View) (own : ℕ → List Deed) (cells : List CellState) (told : Told made own cells) (prefix : TakenIsPrefix (reached made own)) where
  abbrev n : ℕ
  n = length made

  cell_at : (i : ℕ) → i < n → (c : CellState) × (slice_get cells i ≡ Some c)
  cell_at i lt = let sized = told.sized in there cells i (omega (arith, lt, sized))

  own_of : (i : ℕ) → OfAgent deed_agent deed_stamp i (own i)
  own_of i = elim (cases_lt i n) [
    | inl lt ↦ let c = cell_at i lt in (told.tells i c.0 c.1).agent
    | inr le ↦ subst (λ (ds : List Deed). OfAgent deed_agent deed_stamp i ds) (sym (told.none i le)) tt
  ]

  own_allowed : (i : ℕ) → AreDeeds n (first made i) (own i)
  own_allowed i = elim (cases_lt i n) [
    | inl lt ↦ let c = cell_at i lt in (told.tells i c.0 c.1).allowed
    | inr le ↦ subst (λ (ds : List Deed). AreDeeds n (first made i) ds) (sym (told.none i le)) tt
  ]

  whole : Piece n (start_state made) (first made) own
  whole =
      let show = starts_show made (first made) (starts made) in
      piece n (start_state made) (first made) own show.0 show.1 own_of own_allowed told.none prefix

  -- there are no more events than messages taken
  few_events : length whole.deeds ≤ total cells
  few_events =
      let delivers = run_delivers (start_state made) whole.end (map event_of whole.deeds) whole.leads in
      let long = length-map whole.deeds event_of in
      let count = delivered_told made own cells told whole.end whole.shows in
      omega (arith, delivers, long, count)

  all_reached : (i : ℕ) → after_all (first made) whole.deeds i ≡ reached made own i
  all_reached i = ap (λ (ds : List Deed). fold do_one (first made i) ds) (whole.own_is i)

  account_low : (i : ℕ) → i < n → IsLow (length whole.deeds) (reached made own i)
  account_low i lt =
      let same : all_of (whole.deeds ∷ []) ≡ whole.deeds = append-nil whole.deeds in
      let pieced : TakenIsPrefix (after_all (first made) whole.deeds) = subst TakenIsPrefix (sym (fun_ext all_reached)) prefix in
      let low = low_stamps made (first made) (whole.deeds ∷ []) (starts made)
      (λ j. subst (λ (ds : List Deed). AreDeeds n (first made j) (deeds_of j ds)) (sym same) (subst (λ (ds : List Deed). AreDeeds n (first made j) ds) (sym (whole.own_is j)) (own_allowed j)))
      (by_stamp whole.deeds whole.ordered, pieced, tt) i lt in
      subst (λ (x : Account). IsLow (length whole.deeds) x) (all_reached i) (subst (λ (ds : List Deed). IsLow (length ds) (after_all (first made) ds i)) same low)

  pub cells_low : (i : ℕ) (c : CellState) → slice_get cells i ≡ Some c → IsCellWithin (total cells) c
  cells_low i c e =
      let sized = told.sized in
      let inside = slice_get_within cells i c e in
      let few = few_events in
      let low : IsLow (total cells) (reached made own i) = low_more (length whole.deeds) (total cells) (reached made own i) few (account_low i (omega (arith, inside, sized))) in
      let t = told.tells i c e in
      record {
        last = let last = low.last in let is = t.stamped in omega (arith, last, is);
        sent = λ j. subst (λ (es : List (ℕ × Message)). All (Within (total cells)) es) (sym (t.sent j)) (all_from (Within (total cells)) (posted_to j (reached made own i).posted) (low_to j (total cells) (reached made own i).posted low.sent));
      }

pub cell_stamps_are_few : CellStampsAreFew
cell_stamps_are_few budget made cells before after rounds started played moved prefixes =
    let h : History budget made before = rounds_on budget made cells before rounds (begun budget made cells started) played in
    let own : ℕ → List Deed = λ (i : ℕ). h.own i ++ moves before after moved i in
    let sized = h.sized in
    let told : Told made own after = record {
      none = λ i le. ap₂ (λ (ds : List Deed) (es : List Deed). ds ++ es) (h.none i le) (moves_past before after moved i (omega (arith, le, sized)));
      sized = sym (each_long IsMoved before after moved) ∙ h.sized;
      tells = λ i c e.
          subst (λ (j : ℕ). Tells made j (own i) c) (from_zero i)
          (moved_tells made 0 h.own before after moved
          (λ j d f.
          let inside = slice_get_within before j d f in
          let lt : j < length made = omega (arith, inside, sized) in
          subst (λ (l : ℕ). (l < length made) × Tells made l (h.own j) d) (sym (from_zero j)) (lt, h.tells j d f))
          i c e);
    } in
    cells_low made own after told (told_prefix made own after told prefixes)
  where
    from_zero : (i : ℕ) → 0 + i ≡ i
    from_zero i = omega arith
