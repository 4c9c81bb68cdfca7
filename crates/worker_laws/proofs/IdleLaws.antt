-- After a round that took nothing, nothing waits for an agent that has not ended.
use Rattle.std.proofs.Common.{◌≡◌, ℕ, ◌+◌, ◌≤◌, ◌<◌, false, ◌==◌, List, [], ◌∷◌, ◌++◌, length, refl, sym, ap, subst, ◌∙◌, inl, inr, arith}
use Rattle.std.specs.List.{sum_by, list_any}
use Rattle.std.proofs.lemmas.Bool.{cases_lt, or_parts, true≢false, eq-eqb}
use Rattle.std.proofs.lemmas.List.{append-nil}
use Rattle.std.proofs.lemmas.List.Sums.{sum_by-cons, sum_by-append}
use Rattle.protocol_steps.specs.declared.message.Message.{Message}
use Rattle.protocol_steps.specs.declared.event.Take.{Take}
use Rattle.protocol_steps.specs.declared.event.Entry.{Entry}
use Rattle.protocol_steps.specs.View.{ended_of}
use Rattle.protocol_steps.specs.Run.{has_nothing}
use Rattle.protocol_steps.specs.Rounds.{most_events}
use Rattle.protocol_steps.specs.Stamps.{Deed, Account}
use Rattle.protocol_steps.specs.Deeds.{takes_of, gained_from}
use Rattle.worker_laws.specs.Cells.{CellState, lane, known_from, EachAre}
use Rattle.worker_laws.specs.Visits.{IsQuiet}
use Rattle.worker_laws.specs.Acts.{AreActs, moment, moved, entry_of, journal_of, IsLater}
use Rattle.worker_laws.specs.Sprints.{IsSprint}
use Rattle.worker_laws.specs.CellRounds.{IsSettled, taken_by, total}
use Rattle.worker_laws.specs.WorkerLaws.{IdleRoundsLeaveNothing}
use Rattle.worker_laws.proofs.LaneLaws.{grown_none}
use Rattle.worker_laws.proofs.VisitLaws.{totals_add}
use Rattle.worker_laws.proofs.EachLaws.{each_back}

-- takes that are something take some message
pub some_taken : (ts : List Take) → has_nothing ts ≡ false → 0 < sum_by (λ t. t.count) ts
some_taken [] h = absurd (true≢false h)
some_taken (t ∷ ts) h =
    let parts = or_parts (length (t ∷ ts) == 0) (list_any (λ (u : Take). u.count == 0) (t ∷ ts)) h in
    let first = or_parts (t.count == 0) (list_any (λ (u : Take). u.count == 0) ts) parts.1 in
    let sum = sum_by-cons (λ (u : Take). u.count) t ts in
    let some : 0 < t.count = above t.count first.0 in
    omega (arith, sum, some)
  where
    above : (k : ℕ) → (k == 0) ≡ false → 0 < k
    above k out = elim (cases_lt 0 k) [ inl some ↦ some | inr none ↦ absurd (true≢false (sym (eq-eqb k 0 (omega (arith, none))) ∙ out)) ]

-- activations that take nothing are none
no_deeds : (me : ℕ) (among : List ℕ) (x : Account) (ds : List Deed) → AreActs me among x ds → taken_by (journal_of ds) ≡ 0 → ds ≡ []
no_deeds me among x [] h none = refl
no_deeds me among x (d ∷ ds) h none =
    let some = some_taken (takes_of d.gains) h.0.some in
    let sum = sum_by-cons (λ (e : Entry). sum_by (λ (t : Take). t.count) e.takes) (entry_of d) (journal_of ds) in
    absurd (omega (arith, none, some, sum))

later_takes : (before after : CellState) (ds : List Deed) → IsLater before ds after → taken_by after.journal ≡ taken_by before.journal + taken_by (journal_of ds)
later_takes before after ds l = ap taken_by l.noted ∙ sum_by-append (λ (e : Entry). sum_by (λ (t : Take). t.count) e.takes) before.journal (journal_of ds)

-- a sprint in which nothing happened: where the agent had not ended, nothing was known to wait
record IsIdle (before after : CellState) : Type 0 where
  quiet : IsQuiet before after
  unknown : ended_of before.view ≡ false → (j : ℕ) → known_from j before.known ≡ 0

idle_sprint : (visits : ℕ) (before after : CellState) → IsSprint visits before after → taken_by after.journal ≡ taken_by before.journal → IsIdle before after
idle_sprint visits before after s same =
    let l : IsLater before s.deeds after = s.later in
    let more = later_takes before after s.deeds l in
    let none : s.deeds ≡ [] = no_deeds before.me _ (moment before) s.deeds l.acts (omega (arith, more, same)) in
    let still : IsLater before [] after = subst (λ (ds : List Deed). IsLater before ds after) none l in
    record {
      quiet = record {
        me = still.me;
        viewed = still.viewed;
        stamped = still.stamped;
        noted = still.noted ∙ append-nil before.journal;
        sent = still.sent ∙ grown_none before.sent;
        taken = still.taken ∙ grown_none before.taken;
      };
      unknown = λ live j.
          let low = s.served live j in
          let nothing : length (gained_from j (moved before s.deeds).gains) ≡ 0 = ap (λ (ds : List Deed). length (gained_from j (moved before ds).gains)) none in
          omega (arith, low, nothing);
    }

sprints_add : (visits : ℕ) (before after : List CellState) → EachAre (IsSprint visits) before after → total before ≤ total after
sprints_add visits [] [] h = omega arith
sprints_add visits [] (c ∷ cs) h = absurd h
sprints_add visits (b ∷ bs) [] h = absurd h
sprints_add visits (b ∷ bs) (c ∷ cs) h =
    let here = later_takes b c h.0.deeds h.0.later in
    let rest = sprints_add visits bs cs h.1 in
    let one = sum_by-cons (λ (x : CellState). taken_by x.journal) b bs in
    let two = sum_by-cons (λ (x : CellState). taken_by x.journal) c cs in
    omega (arith, here, rest, one, two)

idle_sprints : (visits : ℕ) (before after : List CellState) → EachAre (IsSprint visits) before after → total after ≡ total before → EachAre IsIdle before after
idle_sprints visits [] [] h same = tt
idle_sprints visits [] (c ∷ cs) h same = absurd h
idle_sprints visits (b ∷ bs) [] h same = absurd h
idle_sprints visits (b ∷ bs) (c ∷ cs) h same =
    let here = later_takes b c h.0.deeds h.0.later in
    let rest = sprints_add visits bs cs h.1 in
    let one = sum_by-cons (λ (x : CellState). taken_by x.journal) b bs in
    let two = sum_by-cons (λ (x : CellState). taken_by x.journal) c cs in (
      idle_sprint visits b c h.0 (omega (arith, here, rest, one, two, same)),
      idle_sprints visits bs cs h.1 (omega (arith, here, rest, one, two, same)),
    )

nothing_left : (es all : List (ℕ × Message)) (waiting : List (ℕ × Message)) → es ++ waiting ≡ all → length waiting ≡ 0 → es ≡ all
nothing_left es all [] whole none = sym (append-nil es) ∙ whole
nothing_left es all (w ∷ ws) whole none = absurd (omega (arith, none))

pub idle_rounds_leave_nothing : IdleRoundsLeaveNothing
idle_rounds_leave_nothing before after last r same quiet i j to from e f live =
    let middle : List CellState = r.middle in
    let still : total middle ≡ total before = totals_add.quiet before middle r.quiet in
    let idle : EachAre IsIdle middle after = idle_sprints most_events middle after r.sprints (same ∙ sym still) in
    let to_after = each_back IsQuiet after last quiet i to e in
    let to_middle = each_back IsIdle middle after idle i to_after.0 to_after.1 in
    let from_after = each_back IsQuiet after last quiet j from f in
    let from_middle = each_back IsIdle middle after idle j from_after.0 from_after.1 in
    let awake : ended_of to_middle.0.view ≡ false = ap ended_of (sym (to_after.2.viewed ∙ to_middle.2.quiet.viewed)) ∙ live in
    let link : IsSettled i j to_middle.0 from_middle.0 = r.settled i j to_middle.0 from_middle.0 to_middle.1 from_middle.1 in
    let unknown = to_middle.2.unknown awake j in
    let known = link.known in
    ap (lane j) (to_after.2.taken ∙ to_middle.2.quiet.taken)
    ∙ nothing_left (lane j to_middle.0.taken) (lane i from_middle.0.sent) link.waiting link.whole (omega (arith, unknown, known))
    ∙ sym (ap (lane i) (from_after.2.sent ∙ from_middle.2.quiet.sent))
