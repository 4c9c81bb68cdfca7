-- One line of an edit session, and what comes of it and of the later lines.
use Rattle.std.proofs.Common.{◌≡◌, ℕ, List, [], ◌∷◌, ◌++◌, Option, Some, None, Result, Ok, Err, MatchResult, refl, sym, ap, subst, ◌∙◌, append-nil, append_assoc}
use Rattle.std.specs.Result.{IsErrAnd}
use Rattle.problem_text.specs.PlainLines.{Plain}
use Rattle.problem_text.specs.declared.edited.Edited.{Edited}
use Rattle.problem_text.specs.declared.line_end.LineEnd.{LineEnd}
use Rattle.problem_text.specs.declared.line_end.LineEnd.TheVariants as ends
use Rattle.edit_session.specs.State.{SessionState, edited}
use Rattle.edit_session.specs.Session.{OpenSession}
use Rattle.edit_session.specs.Faults.{IsEditFaultOf, set_fault, fill_fault, cells_set}
use Rattle.edit_session.specs.declared.fault.SetFault.{SetFault}
use Rattle.edit_session.specs.declared.fault.SetFault.TheVariants as faults
use Rattle.edit_text.specs.EditLines.{line_said}
use Rattle.edit_text.specs.declared.kind.EditKind.{EditKind}
use Rattle.edit_text.specs.declared.kind.EditKind.TheVariants as kinds
use Rattle.edit_text.specs.declared.line.EditLine.{EditLine}
use Rattle.edit_text.specs.declared.line.EditLine.TheVariants as lines
use Rattle.solve_edit.specs.Running.{EditsTold, Refused, refused, behind, ended, IsRefusedBy, IsEditTold, IsLineTold, AreLinesTold}
use Rattle.solve_edit.specs.Steps.{IsKind, IsKindOf, IsEditPlayed, IsLinePlayed, LeadsSession, EndsAtLine, IsLineStep, IsRun}
use Rattle.solve_edit.specs.declared.stop.Stop.{Stop}
use Rattle.solve_edit.specs.declared.stop.Stop.TheVariants as stops
use Rattle.solve_edit.specs.declared.playing.Played.{Played}
use Rattle.solve_edit.specs.declared.playing.Played.TheVariants as played

-- running out of memory says nothing
no_memory_played : (fault : Option SetFault) (next after : SessionState) → IsEditPlayed fault next (Err ends.NoMemory) after
no_memory_played None next after = tt
no_memory_played (Some fault) next after = tt

kind_played : (f : SetFault) (kind : EditKind) (fault : Option SetFault) (next after : SessionState) (r : Result Played (LineEnd EditKind)) → IsKind f kind → fault ≡ Some f → r ≡ Err (ends.Fault kind) → IsEditPlayed fault next r after
kind_played f kind fault next after r is same result =
    subst (λ (o : Option SetFault). IsEditPlayed o next r after) (sym same) (subst (λ (x : Result Played (LineEnd EditKind)). IsEditPlayed (Some f) next x after) (sym result) is)

-- what an edit did, by what came of it
pub set_played : {A : Type 0} (fault : Option SetFault) (next : SessionState) (old new done : OpenSession) (set : Result A SetFault) (r : Result Played (LineEnd EditKind)) → done.state ≡ next
    → MatchResult set (λ _. (fault ≡ None) × (new ≡ done)) (λ e. IsEditFaultOf fault e × (new ≡ old)) → IsKindOf set r → IsEditPlayed fault next r new.state
set_played fault next old new done (Ok u) r is_next is kind =
    subst (λ (o : Option SetFault). IsEditPlayed o next r new.state) (sym is.0)
    (subst (λ (x : Result Played (LineEnd EditKind)). IsEditPlayed None next x new.state) (sym kind) (ap (λ (o : OpenSession). o.state) is.1 ∙ is_next))
set_played fault next old new done (Err faults.NoTable) r is_next is kind = kind_played faults.NoTable kinds.NoTable fault next new.state r refl is.0 kind
set_played fault next old new done (Err faults.NoCell) r is_next is kind = kind_played faults.NoCell kinds.NoCell fault next new.state r refl is.0 kind
set_played fault next old new done (Err faults.CostTooLarge) r is_next is kind = kind_played faults.CostTooLarge kinds.CostTooLarge fault next new.state r refl is.0 kind
set_played fault next old new done (Err faults.SumTooLarge) r is_next is kind = kind_played faults.SumTooLarge kinds.SumTooLarge fault next new.state r refl is.0 kind
set_played fault next old new done (Err faults.NoMemory) r is_next is kind = subst (λ (x : Result Played (LineEnd EditKind)). IsEditPlayed fault next x new.state) (sym kind) (no_memory_played fault next new.state)

behind_none : (told : Result EditsTold Refused) → behind [] told ≡ told
behind_none (Ok told) = refl
behind_none (Err fault) = refl

edit_goes : (fault : Option SetFault) (next after : SessionState) (line : ℕ) (later : SessionState → Result EditsTold Refused → Type 0) (told : Result EditsTold Refused) → IsEditPlayed fault next (Ok played.Edit) after → later after told → IsEditTold line fault next later told
edit_goes None next after line later told is goes = subst (λ (s : SessionState). later s told) is goes
edit_goes (Some fault) next after line later told is goes = absurd is

refused_by : (f : SetFault) (kind : EditKind) (line : ℕ) → IsKind f kind → IsRefusedBy line f (refused line kind)
refused_by faults.NoTable kind line is = ap (refused line) is
refused_by faults.NoCell kind line is = ap (refused line) is
refused_by faults.CostTooLarge kind line is = ap (refused line) is
refused_by faults.SumTooLarge kind line is = ap (refused line) is
refused_by faults.NoMemory kind line is = absurd is

edit_refused : (fault : Option SetFault) (next after : SessionState) (line : ℕ) (later : SessionState → Result EditsTold Refused → Type 0) (kind : EditKind) → IsEditPlayed fault next (Err (ends.Fault kind)) after → IsEditTold line fault next later (refused line kind)
edit_refused None next after line later kind is = absurd is
edit_refused (Some fault) next after line later kind is = refused_by fault kind line is

no_answer : (fault : Option SetFault) (next after : SessionState) (e : Edited) → IsEditPlayed fault next (Ok (played.Answer e)) after → ⊥
no_answer None next after e is = is
no_answer (Some fault) next after e is = is

no_end : (fault : Option SetFault) (next after : SessionState) → IsEditPlayed fault next (Ok played.End) after → ⊥
no_end None next after is = is
no_end (Some fault) next after is = is

-- what a line said, in what comes of it
at_line : (l : Plain) (s : SessionState) (last : ℕ) (ls : List Plain) (line : Result EditLine EditKind) (told : Result EditsTold Refused) → line_said l.words ≡ line
    → IsLineTold s l.number line ls (λ next rest. AreLinesTold next last ls rest) told → AreLinesTold s last (l ∷ ls) told
at_line l s last ls line told said is = subst (λ (x : Result EditLine EditKind). IsLineTold s l.number x ls (λ next rest. AreLinesTold next last ls rest) told) (sym said) is

-- a line that is refused by itself
pub line_refused : (l : Plain) (s : SessionState) (kind : EditKind) → line_said l.words ≡ Err kind → (last : ℕ) (ls : List Plain) → AreLinesTold s last (l ∷ ls) (refused l.number kind)
line_refused l s kind said last ls = at_line l s last ls (Err kind) (refused l.number kind) said refl

-- an edit was done
pub edit_on : (l : Plain) (line : EditLine) (s after : SessionState) (old : List Edited) → line_said l.words ≡ Ok line → IsLinePlayed s line (Ok played.Edit) after → LeadsSession l s after old old
edit_on l (lines.Set k cell cost) s after old said is = record {
  part = [];
  kept = sym (append-nil old);
  goes = λ last ls told goes.
      at_line l s last ls (Ok (lines.Set k cell cost)) (behind [] told) said
      (edit_goes (set_fault s.file.problem k cell cost) (edited s k (cells_set s.file.problem.tables k cell cost)) after l.number (λ next rest. AreLinesTold next last ls rest) (behind [] told) is
      (subst (AreLinesTold after last ls) (sym (behind_none told)) goes));
}
edit_on l (lines.Fill k cells) s after old said is = record {
  part = [];
  kept = sym (append-nil old);
  goes = λ last ls told goes.
      at_line l s last ls (Ok (lines.Fill k cells)) (behind [] told) said
      (edit_goes (fill_fault s.file.problem k cells) (edited s k cells) after l.number (λ next rest. AreLinesTold next last ls rest) (behind [] told) is
      (subst (AreLinesTold after last ls) (sym (behind_none told)) goes));
}
edit_on l lines.Answer s after old said is = absurd is
edit_on l lines.End s after old said is = absurd is

-- an optimum was found
pub answer_on : (l : Plain) (line : EditLine) (s after : SessionState) (old : List Edited) (e : Edited) → line_said l.words ≡ Ok line → IsLinePlayed s line (Ok (played.Answer e)) after → LeadsSession l s after old (old ++ (e ∷ []))
answer_on l (lines.Set k cell cost) s after old e said is = absurd (no_answer (set_fault s.file.problem k cell cost) (edited s k (cells_set s.file.problem.tables k cell cost)) after e is)
answer_on l (lines.Fill k cells) s after old e said is = absurd (no_answer (fill_fault s.file.problem k cells) (edited s k cells) after e is)
answer_on l lines.Answer s after old e said is = record {
  part = e ∷ [];
  kept = refl;
  goes = λ last ls told goes.
      at_line l s last ls (Ok lines.Answer) (behind (e ∷ []) told) said (record {
        answer = e;
        is = is.0;
        rest = told;
        goes = subst (λ (t : SessionState). AreLinesTold t last ls told) is.1 goes;
        told_is = refl;
      });
}
answer_on l lines.End s after old e said is = absurd is

-- the lines are over
pub end_at : (l : Plain) (line : EditLine) (s after : SessionState) (old : List Edited) → line_said l.words ≡ Ok line → IsLinePlayed s line (Ok played.End) after → EndsAtLine l s after old old
end_at l (lines.Set k cell cost) s after old said is = absurd (no_end (set_fault s.file.problem k cell cost) (edited s k (cells_set s.file.problem.tables k cell cost)) after is)
end_at l (lines.Fill k cells) s after old said is = absurd (no_end (fill_fault s.file.problem k cells) (edited s k cells) after is)
end_at l lines.Answer s after old said is = absurd is
end_at l lines.End s after old said is = record {
  kept = refl;
  same = is;
  ends_so = λ last ls. at_line l s last ls (Ok lines.End) (ended s ls) said refl;
}

-- an edit was refused
pub play_refused : (l : Plain) (line : EditLine) (s after : SessionState) (kind : EditKind) → line_said l.words ≡ Ok line → IsLinePlayed s line (Err (ends.Fault kind)) after → (last : ℕ) (ls : List Plain) → AreLinesTold s last (l ∷ ls) (refused l.number kind)
play_refused l (lines.Set k cell cost) s after kind said is last ls =
    at_line l s last ls (Ok (lines.Set k cell cost)) (refused l.number kind) said
    (edit_refused (set_fault s.file.problem k cell cost) (edited s k (cells_set s.file.problem.tables k cell cost)) after l.number (λ next rest. AreLinesTold next last ls rest) kind is)
play_refused l (lines.Fill k cells) s after kind said is last ls =
    at_line l s last ls (Ok (lines.Fill k cells)) (refused l.number kind) said
    (edit_refused (fill_fault s.file.problem k cells) (edited s k cells) after l.number (λ next rest. AreLinesTold next last ls rest) kind is)
play_refused l lines.Answer s after kind said is last ls = absurd is
play_refused l lines.End s after kind said is last ls = absurd is

-- what came of the first lines, behind which these are left: whatever comes of them comes of all, behind the optima that were kept
abbrev pub HasRun : SessionState → ℕ → List Plain → SessionState → List Plain → List Edited → Type 0
HasRun s last all after left kept = (told : Result EditsTold Refused) → AreLinesTold after last left told → AreLinesTold s last all (behind kept told)

behind_both : (xs ys : List Edited) (told : Result EditsTold Refused) → behind xs (behind ys told) ≡ behind (xs ++ ys) told
behind_both xs ys (Ok told) = ap (λ (es : List Edited). let t : EditsTold = record { answers = es; file = told.file } in Ok t) (sym (append_assoc xs ys told.answers))
behind_both xs ys (Err fault) = refl

pub run_start : (s : SessionState) (last : ℕ) (all left : List Plain) (after : SessionState) (kept : List Edited) → after ≡ s → left ≡ all → kept ≡ [] → HasRun s last all after left kept
run_start s last all left after kept same_state same_lines none told is =
    subst (AreLinesTold s last all) (sym (ap (λ (es : List Edited). behind es told) none ∙ behind_none told)) (subst (λ (t : SessionState). AreLinesTold t last all told) same_state (subst (λ (ls : List Plain). AreLinesTold after last ls told) same_lines is))

pub run_more : (s : SessionState) (last : ℕ) (all : List Plain) (mid after : SessionState) (l : Plain) (ls left : List Plain) (old new : List Edited) → HasRun s last all mid left old → left ≡ l ∷ ls → LeadsSession l mid after old new → HasRun s last all after ls new
run_more s last all mid after l ls left old new has next goes told is =
    subst (AreLinesTold s last all) (behind_both old goes.part told ∙ ap (λ (es : List Edited). behind es told) (sym goes.kept))
    (has (behind goes.part told) (subst (λ (xs : List Plain). AreLinesTold mid last xs (behind goes.part told)) (sym next) (goes.goes last ls told is)))

-- the lines that are left are refused
pub run_refused : (s : SessionState) (last : ℕ) (all : List Plain) (mid : SessionState) (l : Plain) (ls left : List Plain) (old : List Edited) (line : ℕ) (kind : EditKind) → HasRun s last all mid left old → left ≡ l ∷ ls
    → ((last : ℕ) (ls : List Plain) → AreLinesTold mid last (l ∷ ls) (refused line kind)) → AreLinesTold s last all (refused line kind)
run_refused s last all mid l ls left old line kind has next is =
    has (refused line kind) (subst (λ (xs : List Plain). AreLinesTold mid last xs (refused line kind)) (sym next) (is last ls))

-- no line is left
pub run_over : (s : SessionState) (last : ℕ) (all : List Plain) (mid : SessionState) (left : List Plain) (old : List Edited) → HasRun s last all mid left old → left ≡ [] → AreLinesTold s last all (refused last kinds.NoEnd)
run_over s last all mid left old has none = has (refused last kinds.NoEnd) (subst (λ (xs : List Plain). AreLinesTold mid last xs (refused last kinds.NoEnd)) (sym none) refl)

-- the last line was taken, and none is left behind it
pub run_ended : (s : SessionState) (last : ℕ) (all : List Plain) (mid after : SessionState) (l : Plain) (ls left : List Plain) (old new : List Edited) → HasRun s last all mid left old → left ≡ l ∷ ls → EndsAtLine l mid after old new → ls ≡ []
    → AreLinesTold s last all (Ok (record { answers = new; file = after.file }))
run_ended s last all mid after l ls left old new has next ends_at none =
    let done : Result EditsTold Refused = ended mid ls in
    let all_told = has done (subst (λ (xs : List Plain). AreLinesTold mid last xs done) (sym next) (ends_at.ends_so last ls)) in
    subst (AreLinesTold s last all)
    (ap (λ (xs : List Plain). behind old (ended mid xs)) none
    ∙ ap (λ (es : List Edited). let t : EditsTold = record { answers = es; file = mid.file } in Ok t) (append-nil old ∙ sym ends_at.kept)
    ∙ ap (λ (t : SessionState). let u : EditsTold = record { answers = new; file = t.file } in Ok u) (sym ends_at.same)) all_told

-- the last line was taken, and a further line stands behind it
pub run_further : (s : SessionState) (last : ℕ) (all : List Plain) (mid after : SessionState) (l further : Plain) (ls later left : List Plain) (old new : List Edited) → HasRun s last all mid left old → left ≡ l ∷ ls → EndsAtLine l mid after old new → ls ≡ further ∷ later
    → AreLinesTold s last all (refused further.number kinds.BadLine)
run_further s last all mid after l further ls later left old new has next ends_at more =
    let done : Result EditsTold Refused = ended mid ls in
    let all_told = has done (subst (λ (xs : List Plain). AreLinesTold mid last xs done) (sym next) (ends_at.ends_so last ls)) in
    subst (AreLinesTold s last all) (ap (λ (xs : List Plain). behind old (ended mid xs)) more) all_told

-- a line at which the lines end early
stop_told : (s : SessionState) (last : ℕ) (all : List Plain) (mid after end : SessionState) (l : Plain) (ls left : List Plain) (old new : List Edited) (stop : Stop) → HasRun s last all mid left old → left ≡ l ∷ ls → IsLineStep l mid after old new (Err stop) → IsRun s last all (Err stop) end
stop_told s last all mid after end l ls left old new (stops.Refused line kind) has next is = run_refused s last all mid l ls left old line kind has next is
stop_told s last all mid after end l ls left old new stops.NoMemory has next is = tt

pub run_stopped : (s : SessionState) (last : ℕ) (all : List Plain) (mid after : SessionState) (l : Plain) (ls left : List Plain) (old new : List Edited) (stop : Stop) (result : Result (List Edited) Stop) → HasRun s last all mid left old → left ≡ l ∷ ls → IsLineStep l mid after old new (Err stop)
    → IsErrAnd result (λ y. y ≡ stop) → IsRun s last all result after
run_stopped s last all mid after l ls left old new stop (Ok answers) has next is same = absurd same
run_stopped s last all mid after l ls left old new stop (Err y) has next is same =
    subst (λ (x : Stop). IsRun s last all (Err x) after) (sym same) (stop_told s last all mid after after l ls left old new stop has next is)
