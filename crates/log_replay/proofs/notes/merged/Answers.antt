use Rattle.std.proofs.Common.{◌≡◌, ℕ, List, length, sym, ap, subst, ◌∙◌, arith}
use Rattle.std.proofs.lemmas.Result.{IfOk-weaker}
use Rattle.protocol_steps.specs.declared.event.Entry.{Entry}
use Rattle.protocol_steps.specs.JournalStamps.{journal_at}
use Rattle.worker_laws.specs.Merges.{AscendsAbove, IsMerge}
use Rattle.run_log.specs.Logs.{entries_of}
use Rattle.log_replay.specs.Notes.{NotesView, IsLogBy}
use Rattle.log_replay.proofs.LoggedLaws.{notes_ascend, log_by}
use Rattle.log_replay.proofs.notes.merged.Goals as goal

pub merge-requires-clause-few : goal.merge-requires-clause-few
merge-requires-clause-few c =
    let h = c.requires in
    let few = h.4 in
    let size = h.5.sized in
    let many = h.5.agents in
    let is : length c.from_vec-journals.result ≡ length c.args.notes.journals = ap (λ (js : List (List Entry)). length js) (c.from_vec-journals.ensures ∙ ap (λ (v : NotesView). v.journals) c.notes.view_is) in
    omega (arith, few, size, many, is)

pub merge-requires-clause-ascend : goal.merge-requires-clause-ascend
merge-requires-clause-ascend c =
    let h = c.requires in
    subst (λ (js : List (List Entry)). (i : ℕ) → AscendsAbove 0 (journal_at js i)) (sym (c.from_vec-journals.ensures ∙ ap (λ (v : NotesView). v.journals) c.notes.view_is)) (notes_ascend h.0 h.1 h.2 h.3 c.args.notes h.5)

pub returns : goal.returns
returns c =
    IfOk-weaker c.merge.result (λ log. IsMerge c.from_vec-journals.result (entries_of log)) (IsLogBy c.args.notes)
    (λ log m. log_by c.args.notes log (subst (λ (js : List (List Entry)). IsMerge js (entries_of log)) (c.from_vec-journals.ensures ∙ ap (λ (v : NotesView). v.journals) c.notes.view_is) m)) c.merge.ensures
