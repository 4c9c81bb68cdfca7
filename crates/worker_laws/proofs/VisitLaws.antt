-- Visits make sprints.
use Rattle.std.proofs.Common.{◌≡◌, ℕ, ◌+◌, ◌≤◌, Bool, true, false, ◌==◌, if◌then◌else◌, List, [], ◌∷◌, ◌++◌, length, refl, sym, ap, ap₂, subst, ◌∙◌, inl, inr, arith}
use Rattle.std.specs.List.{All, sum_by, fold}
use Rattle.std.proofs.Math.Path.{fun_ext}
use Rattle.std.proofs.lemmas.Bool.{cases_lt}
use Rattle.std.proofs.lemmas.List.{append-nil, append_assoc, length-append, map-append}
use Rattle.std.proofs.lemmas.List.Concat.{flat_map-append}
use Rattle.std.proofs.lemmas.List.Elements.{All-nil, All-cons, All-append}
use Rattle.std.proofs.lemmas.List.Sums.{fold-append, sum_by-cons, sum_by-append}
use Rattle.protocol_steps.specs.declared.message.Message.{Message}
use Rattle.protocol_steps.specs.declared.event.Take.{Take}
use Rattle.protocol_steps.specs.declared.event.Entry.{Entry}
use Rattle.protocol_steps.specs.View.{View, ended_of}
use Rattle.protocol_steps.specs.Stamps.{Gain, Deed, Posted, Account, do_one}
use Rattle.protocol_steps.specs.Deeds.{takes_of, envelope_to, posted_to, gain_from, gained_from}
use Rattle.worker_laws.specs.Cells.{CellState, Lane, peers, grown, known_from, EachAre}
use Rattle.worker_laws.specs.Visits.{IsQuiet, IsEvent, IsVisit}
use Rattle.worker_laws.specs.Acts.{AreActs, moment, moved, entry_of, journal_of, IsLater}
use Rattle.worker_laws.specs.Sprints.{TakesFew, SprintsAreVisits}
use Rattle.worker_laws.specs.CellRounds.{taken_by, total}
use Rattle.worker_laws.specs.WorkerLaws.{TotalsAdd}
use Rattle.worker_laws.proofs.LaneLaws.{peers_grown, grown_grown, grown_none}
use Rattle.worker_laws.proofs.ActLaws.{behind, behind_all, acts_behind, acts_append}

-- nothing happened
pub quiet_later : (before after : CellState) → IsQuiet before after → IsLater before [] after
quiet_later before after q = record {
  acts = tt;
  me = q.me;
  viewed = q.viewed;
  stamped = q.stamped;
  noted = q.noted ∙ sym (append-nil before.journal);
  sent = q.sent ∙ sym (grown_none before.sent);
  taken = q.taken ∙ sym (grown_none before.taken);
}

-- one activation
pub event_later : (before after : CellState) (gains : List Gain) → IsEvent before gains after → IsLater before (record { agent = before.me; stamp = after.stamp; gains = gains } ∷ []) after
event_later before after gains e = record {
  acts = (record { own = refl; live = e.live; some = e.some; ascend = e.ascend; senders = e.senders; receivers = e.receivers; right = e.stamped }, tt);
  me = e.me;
  viewed = e.viewed;
  stamped = refl;
  noted = e.noted;
  sent = e.sent;
  taken = e.taken;
}

-- the account of a cell after some activations, as it stands
moment_later : (a b : CellState) (ds : List Deed) → IsLater a ds b → behind (moved a ds).posted (moved a ds).gains (moment b) ≡ moved a ds
moment_later a b ds l =
    let m : Account = moved a ds in
    ap (λ (v : View). let y : Account = record { view = v; stamp = b.stamp; posted = m.posted ++ []; gains = m.gains ++ [] } in y) l.viewed
    ∙ ap (λ (k : ℕ). let y : Account = record { view = m.view; stamp = k; posted = m.posted ++ []; gains = m.gains ++ [] } in y) l.stamped
    ∙ ap₂ (λ (ps : List Posted) (gs : List Gain). let y : Account = record { view = m.view; stamp = m.stamp; posted = ps; gains = gs } in y) (append-nil m.posted) (append-nil m.gains)

pub moved_then : (a b : CellState) (ds es : List Deed) → IsLater a ds b → moved a (ds ++ es) ≡ behind (moved a ds).posted (moved a ds).gains (moved b es)
moved_then a b ds es l =
    fold-append do_one (moment a) ds es
    ∙ ap (λ (x : Account). fold do_one x es) (sym (moment_later a b ds l))
    ∙ behind_all (moved a ds).posted (moved a ds).gains (moment b) es

-- some activations, and then others
pub later_then : (a b c : CellState) (ds es : List Deed) → IsLater a ds b → IsLater b es c → IsLater a (ds ++ es) c
later_then a b c ds es l k =
    let m : Account = moved a ds in
    let whole : moved a (ds ++ es) ≡ behind m.posted m.gains (moved b es) = moved_then a b ds es l in
    let same : peers b.taken ≡ peers a.taken = ap peers l.taken ∙ peers_grown (λ j. gained_from j m.gains) a.taken in
    let later : AreActs a.me (peers a.taken) (moment b) es = subst (λ (me : ℕ). AreActs me (peers a.taken) (moment b) es) l.me (subst (λ (ps : List ℕ). AreActs b.me ps (moment b) es) same k.acts) in
    record {
      acts =
          acts_append a.me (peers a.taken) (moment a) ds es l.acts
          (subst (λ (x : Account). AreActs a.me (peers a.taken) x es) (moment_later a b ds l) (acts_behind a.me (peers a.taken) m.posted m.gains (moment b) es later));
      me = k.me ∙ l.me;
      viewed = k.viewed ∙ ap (λ (x : Account). x.view) (sym whole);
      stamped = k.stamped ∙ ap (λ (x : Account). x.stamp) (sym whole);
      noted =
          k.noted ∙ ap (λ (es' : List Entry). es' ++ journal_of es) l.noted ∙ append_assoc a.journal (journal_of ds) (journal_of es)
          ∙ ap (λ (fs : List Entry). a.journal ++ fs) (sym (map-append entry_of ds es));
      sent =
          k.sent ∙ ap (λ (ls : List Lane). grown (λ j. posted_to j (moved b es).posted) ls) l.sent
          ∙ grown_grown (λ j. posted_to j m.posted) (λ j. posted_to j (moved b es).posted) a.sent
          ∙ ap (λ (f : ℕ → List (ℕ × Message)). grown f a.sent) (fun_ext (λ j. sym (flat_map-append (envelope_to j) m.posted (moved b es).posted)))
          ∙ ap (λ (x : Account). grown (λ j. posted_to j x.posted) a.sent) (sym whole);
      taken =
          k.taken ∙ ap (λ (ls : List Lane). grown (λ j. gained_from j (moved b es).gains) ls) l.taken
          ∙ grown_grown (λ j. gained_from j m.gains) (λ j. gained_from j (moved b es).gains) a.taken
          ∙ ap (λ (f : ℕ → List (ℕ × Message)). grown f a.taken) (fun_ext (λ j. sym (flat_map-append (gain_from j) m.gains (moved b es).gains)))
          ∙ ap (λ (x : Account). grown (λ j. gained_from j x.gains) a.taken) (sym whole);
    }

-- of one sender no more is taken than of all
part_step : (b : Bool) (es rest : List (ℕ × Message)) (n : ℕ) → length rest ≤ n → length ((if b then es else []) ++ rest) ≤ length es + n
part_step true es rest n le = let both = length-append es rest in omega (arith, le, both)
part_step false es rest n le = omega (arith, le)

gained_part : (j : ℕ) (gs : List Gain) → length (gained_from j gs) ≤ sum_by (λ g. length g.envelopes) gs
gained_part j [] = omega arith
gained_part j (g ∷ gs) =
    let rest = part_step (g.from == j) g.envelopes (gained_from j gs) (sum_by (λ (h : Gain). length h.envelopes) gs) (gained_part j gs) in
    let sum = sum_by-cons (λ (h : Gain). length h.envelopes) g gs in
    omega (arith, rest, sum)

-- a visit as a sprint of one
one_visit : (before after : CellState) (count : ℕ) → IsVisit before count after
    → (ds : List Deed) × IsLater before ds after × (length ds ≤ 1) × ((j : ℕ) → known_from j before.known ≤ length (gained_from j (moved before ds).gains)) × All TakesFew ds
one_visit before after count v =
    elim (cases_lt 0 count) [
      | inl some ↦
          let d : Deed = record { agent = before.me; stamp = after.stamp; gains = v.gains } in
          (d ∷ [], event_later before after v.gains (v.event some), omega arith, v.served, All-cons TakesFew d [] v.each (All-nil TakesFew))
      | inr none ↦
          let zero_count : count ≡ 0 = omega (arith, none) in
          ([], quiet_later before after (v.idle zero_count), omega arith, λ j. let low = v.served j in let part = gained_part j v.gains in let is = v.counted in omega (arith, low, part, is, zero_count), All-nil TakesFew)
    ]

pub sprints_are_visits : SprintsAreVisits
sprints_are_visits = record {
  first = λ before after count live v.
      let one = one_visit before after count v in
      record { deeds = one.0; later = one.1; few = one.2; bounded = one.4; served = λ _. one.3 };
  next = λ visits count before middle after s v.
      let one = one_visit middle after count v in
      let long = length-append s.deeds one.0 in
      let low = s.few in
      let few = one.2 in
      record {
        deeds = s.deeds ++ one.0;
        later = later_then before middle after s.deeds one.0 s.later one.1;
        few = omega (arith, long, low, few);
        bounded = All-append TakesFew s.deeds one.0 s.bounded one.4;
        served = λ live j.
            let first : known_from j before.known ≤ length (gained_from j (moved before s.deeds).gains) = s.served live j in
            let whole : length (gained_from j (moved before (s.deeds ++ one.0)).gains) ≡ length (gained_from j (moved before s.deeds).gains) + length (gained_from j (moved middle one.0).gains) =
            ap (λ (x : Account). length (gained_from j x.gains)) (moved_then before middle s.deeds one.0 s.later)
            ∙ ap (λ (es : List (ℕ × Message)). length es) (flat_map-append (gain_from j) (moved before s.deeds).gains (moved middle one.0).gains)
            ∙ length-append (gained_from j (moved before s.deeds).gains) (gained_from j (moved middle one.0).gains) in
            omega (arith, first, whole);
      };
  fewer = λ visits more before after le s. record { deeds = s.deeds; later = s.later; few = let few = s.few in omega (arith, few, le); bounded = s.bounded; served = s.served };
  rests = λ visits cell done. record {
    deeds = [];
    later = quiet_later cell cell (record { me = refl; viewed = refl; stamped = refl; noted = refl; sent = refl; taken = refl });
    few = omega arith;
    bounded = All-nil TakesFew;
    served = λ live. absurd (apart cell done live);
  };
}
  where
    apart : (cell : CellState) → ended_of cell.view ≡ true → ended_of cell.view ≡ false → ⊥
    apart cell a b = both (ended_of cell.view) a b
      where
        both : (x : Bool) → x ≡ true → x ≡ false → ⊥
        both true a b = absurd (cc)
        both false a b = absurd (cc)

-- the takes of an activation take what it gains
takes_sum : (gs : List Gain) → sum_by (λ t. t.count) (takes_of gs) ≡ sum_by (λ g. length g.envelopes) gs
takes_sum [] = refl
takes_sum (g ∷ gs) =
    let t : Take = record { from = g.from; count = length g.envelopes } in
    sum_by-cons (λ (u : Take). u.count) t (takes_of gs) ∙ ap (λ (k : ℕ). length g.envelopes + k) (takes_sum gs) ∙ sym (sum_by-cons (λ (h : Gain). length h.envelopes) g gs)

pub taken_by_one : (es : List Entry) (e : Entry) → taken_by (es ++ e ∷ []) ≡ taken_by es + sum_by (λ t. t.count) e.takes
taken_by_one es e =
    let both = sum_by-append (λ (f : Entry). sum_by (λ (t : Take). t.count) f.takes) es (e ∷ []) in
    let one = sum_by-cons (λ (f : Entry). sum_by (λ (t : Take). t.count) f.takes) e [] in
    omega (arith, both, one)

quiet_total : (before after : List CellState) → EachAre IsQuiet before after → total after ≡ total before
quiet_total [] [] h = refl
quiet_total [] (c ∷ cs) h = absurd h
quiet_total (c ∷ cs) [] h = absurd h
quiet_total (b ∷ bs) (c ∷ cs) h =
    sum_by-cons (λ (x : CellState). taken_by x.journal) c cs ∙ ap₂ (λ (es : List Entry) (k : ℕ). taken_by es + k) h.0.noted (quiet_total bs cs h.1) ∙ sym (sum_by-cons (λ (x : CellState). taken_by x.journal) b bs)

pub totals_add : TotalsAdd
totals_add = record {
  visit = λ before after count v.
      elim (cases_lt 0 count) [
        | inl some ↦
            let e : IsEvent before v.gains after = v.event some in
            let is = v.counted in
            let takes = takes_sum v.gains in
            let entry : Entry = record { stamp = after.stamp; takes = takes_of v.gains } in
            let more : taken_by after.journal ≡ taken_by before.journal + sum_by (λ t. t.count) (takes_of v.gains) = ap taken_by e.noted ∙ taken_by_one before.journal entry in
            omega (arith, more, takes, is)
        | inr none ↦
            let zero_count : count ≡ 0 = omega (arith, none) in
            let same : taken_by after.journal ≡ taken_by before.journal = ap taken_by (v.idle zero_count).noted in
            omega (arith, same, zero_count)
      ];
  quiet = quiet_total;
}
