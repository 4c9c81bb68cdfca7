-- The optima that a session answers can be told by the names of its file.
use Rattle.std.proofs.Common.{◌≡◌, ℕ, List, [], ◌∷◌, length, Option, Some, None, Result, Ok, Err, refl, sym, get_or, ap, subst, ◌∙◌, All}
use Rattle.std.specs.List.{AllZip}
use Rattle.std.proofs.lemmas.List.Elements.{All-nil, All-cons}
use Rattle.certificate_text.specs.Named.{HasWord}
use Rattle.dcop_base.specs.Table.{AreWithin}
use Rattle.problem_text.specs.File.{TextFile, IsFile}
use Rattle.problem_text.specs.PlainLines.{Plain}
use Rattle.problem_text.specs.declared.edited.Edited.{Edited}
use Rattle.certificate_text.specs.declared.report.Report.{Report}
use Rattle.certificate_text.specs.declared.report.Ending.TheVariants.{Solved}
use Rattle.certificate_text.specs.declared.report.Method.TheVariants.{Dpop}
use Rattle.minimised_problem.proofs.SolvedLaws.{solved_sizes}
use Rattle.solve_report.specs.Edits.{IsNamedOptimum}
use Rattle.solve_methods.proofs.TellLaws.{CanTell-assignment}
use Rattle.edit_session.specs.State.{SessionState, IsAnswerNow, answered, edited}
use Rattle.edit_session.specs.Faults.{set_fault, fill_fault, cells_set}
use Rattle.edit_session.specs.declared.fault.SetFault.{SetFault}
use Rattle.edit_session.specs.declared.fault.SetFault.TheVariants as faults
use Rattle.edit_session.proofs.CellLaws.{file_stays}
use Rattle.edit_text.specs.EditLines.{line_said}
use Rattle.edit_text.specs.declared.kind.EditKind.{EditKind}
use Rattle.edit_text.specs.declared.line.EditLine.{EditLine}
use Rattle.edit_text.specs.declared.line.EditLine.TheVariants as lines
use Rattle.solve_edit.specs.Running.{EditsTold, Refused, behind, ended, IsRefusedBy, IsEditTold, IsLineTold, AreLinesTold}

named_answer : (s : SessionState) (e : Edited) → IsFile s.file → IsAnswerNow s e → IsNamedOptimum s.file e
named_answer s e whole is =
    let report : Report = record { status = Solved; method = Dpop; goal = s.file.goal; error = 0; deliveries = 0; cost = 0; lower = 0; upper = 0; values = e.values; certificate = None } in
    let within = subst (λ (ss : List ℕ). AreWithin ss e.values) (solved_sizes s.file.goal s.file.problem) is.first.assignment in
    let can = CanTell-assignment s.file report whole within refl in
    record { many = can.many; worded = can.worded }

-- the file that a session ends with has the names of the first one, and these can tell its optima
pub record AreNamed (f : TextFile) (told : EditsTold) : Type 0 where
  pub names : told.file.names ≡ f.names
  pub labels : told.file.labels ≡ f.labels
  pub all : All (IsNamedOptimum f) told.answers

not_refused : (line : ℕ) (f : SetFault) (told : EditsTold) → IsRefusedBy line f (Ok told) → ⊥
not_refused line faults.NoTable told is = cc
not_refused line faults.NoCell told is = cc
not_refused line faults.CostTooLarge told is = cc
not_refused line faults.SumTooLarge told is = cc
not_refused line faults.NoMemory told is = is

same_told : (a b : EditsTold) → ◌≡◌ {0} {A = Result EditsTold Refused} (Ok a) (Ok b) → a ≡ b
same_told a b e = cc

edit_named : (line : ℕ) (fault : Option SetFault) (f : TextFile) (next : SessionState) (later : SessionState → Result EditsTold Refused → Type 0) (told : EditsTold) → IsEditTold line fault next later (Ok told) → (later next (Ok told) → AreNamed f told) → AreNamed f told
edit_named line (Some fault) f next later told is go = absurd (not_refused line fault told is)
edit_named line None f next later told is go = go is

ended_named : (s : SessionState) (ls : List Plain) (told : EditsTold) → Ok told ≡ ended s ls → AreNamed s.file told
ended_named s [] told is =
    let t : EditsTold = record { answers = []; file = s.file } in
    subst (AreNamed s.file) (sym (same_told told t is)) (record { names = refl; labels = refl; all = All-nil (IsNamedOptimum s.file) })
ended_named s (l ∷ ls) told is = absurd (cc)

answer_named : (s : SessionState) (e : Edited) (rest : Result EditsTold Refused) (told : EditsTold) → IsNamedOptimum s.file e → Ok told ≡ behind (e ∷ []) rest → ((t : EditsTold) → rest ≡ Ok t → AreNamed s.file t) → AreNamed s.file told
answer_named s e (Ok t) told named is go =
    let u : EditsTold = record { answers = e ∷ t.answers; file = t.file } in
    let has = go t refl in
    subst (AreNamed s.file) (sym (same_told told u is)) (record { names = has.names; labels = has.labels; all = All-cons (IsNamedOptimum s.file) e t.answers named has.all })
answer_named s e (Err fault) told named is go = absurd (cc)

line_named : (s : SessionState) (line : ℕ) (said : Result EditLine EditKind) (ls : List Plain) (later : SessionState → Result EditsTold Refused → Type 0) (told : EditsTold) → IsFile s.file
    → ((next : SessionState) (t : EditsTold) → IsFile next.file → next.file.names ≡ s.file.names → next.file.labels ≡ s.file.labels → later next (Ok t) → AreNamed s.file t) → IsLineTold s line said ls later (Ok told) → AreNamed s.file told
line_named s line (Err kind) ls later told whole go is = absurd (cc)
line_named s line (Ok (lines.Set k cell cost)) ls later told whole go is =
    let cells : List ℕ = cells_set s.file.problem.tables k cell cost in
    edit_named line (set_fault s.file.problem k cell cost) s.file (edited s k cells) later told is (λ goes. go (edited s k cells) told (file_stays s.file k cells whole) refl refl goes)
line_named s line (Ok (lines.Fill k cells)) ls later told whole go is =
    edit_named line (fill_fault s.file.problem k cells) s.file (edited s k cells) later told is (λ goes. go (edited s k cells) told (file_stays s.file k cells whole) refl refl goes)
line_named s line (Ok lines.Answer) ls later told whole go is =
    answer_named s is.answer is.rest told (named_answer s is.answer whole is.is) is.told_is (λ t e. go (answered s) t whole refl refl (subst (later (answered s)) e is.goes))
line_named s line (Ok lines.End) ls later told whole go is = ended_named s ls told is

same_names : (f g : TextFile) (told : EditsTold) → g.names ≡ f.names → g.labels ≡ f.labels → AreNamed g told → AreNamed f told
same_names f g told names labels is = record {
  names = is.names ∙ names;
  labels = is.labels ∙ labels;
  all = λ k d lt.
      let one = is.all k d lt in
      record { many = one.many ∙ ap length names; worded = subst (λ (ls : List (List (List ℕ))). AllZip HasWord ls (get_or told.answers k d).values) labels one.worded };
}

told_named : (ls : List Plain) (s : SessionState) (last : ℕ) (told : EditsTold) → IsFile s.file → AreLinesTold s last ls (Ok told) → AreNamed s.file told
told_named [] s last told whole is = absurd (cc)
told_named (l ∷ ls) s last told whole is =
    line_named s l.number (line_said l.words) ls (λ next rest. AreLinesTold next last ls rest) told whole
    (λ next t file names labels goes. same_names s.file next.file t names labels (told_named ls next last t file goes)) is

-- so the file at the end can tell all optima
pub all_named : (ls : List Plain) (s : SessionState) (last : ℕ) (told : EditsTold) → IsFile s.file → AreLinesTold s last ls (Ok told) → All (IsNamedOptimum told.file) told.answers
all_named ls s last told whole is =
    let named = told_named ls s last told whole is in
    (same_names told.file s.file told (sym named.names) (sym named.labels) named).all
