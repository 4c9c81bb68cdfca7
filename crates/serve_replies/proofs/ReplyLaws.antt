-- A key has one reply, and what a call reads of a key is its input.
use Rattle.std.proofs.Common.{◌≡◌, ℕ, ◌+◌, ◌<◌, ◌≤◌, false, inl, inr, List, length, Option, Some, Result, Ok, Err, IfOk, refl, sym, ap, subst, ◌∙◌, arith}
use Rattle.std.proofs.lemmas.Bool.{lt-ltb, le-ltb}
use Rattle.dcop_base.specs.Limits.{input_limit}
use Rattle.dcop_base.specs.declared.memory.NoMemory.{NoMemory}
use Rattle.dcop_edge.specs.Faults.{Rose}
use Rattle.solve_words.specs.declared.command.Format.TheVariants.{Dcop as Own}
use Rattle.answer_io.specs.Input.{Input, Unread, Broken, TooLong, Whole, source_state, IsReadFrom}
use Rattle.answer_io.proofs.InputLaws.{taken-least}
use Rattle.solve_report.specs.AnswerText.{answer_text}
use Rattle.solve_report.specs.declared.answer.Answer.{Answer}
use Rattle.solve_answers.specs.Answering.{IsInputAnswer, IsAnswer}
use Rattle.solve_answers.specs.declared.task.Task.TheVariants.{File}
use Rattle.solve_answers.specs.declared.task.FileTask.TheVariants as tasks
use Rattle.solve_answers.specs.Answered.{Answered}
use Rattle.solve_answers.specs.Same.{AreReadAlike, DpopAnswersAreOne, IsGiven}
use Rattle.serve_replies.specs.Reply.{dpop_words, input_of, IsReply}
use Rattle.serve_replies.proofs.WordLaws.{asks_dpop, of_words, to_words, own_answer}

-- an input is read as itself
alike : (input : Input) → AreReadAlike Own Own input input
alike Unread = refl
alike Broken = refl
alike TooLong = refl
alike (Whole bytes) = refl

-- a key has one reply
pub one_reply : DpopAnswersAreOne → (key reply other : List ℕ) → IsReply key reply → IsReply key other → reply ≡ other
one_reply one key reply other is is' =
    is.written ∙ ap answer_text (one Own Own false dpop_words dpop_words (input_of key) (input_of key) is.answer is'.answer asks_dpop asks_dpop (alike (input_of key)) is.belongs is'.belongs) ∙ sym is'.written

long_input : (key : List ℕ) → input_limit < length key → input_of key ≡ TooLong
long_input key lt = rw (lt-ltb input_limit (length key) lt) refl

whole_input : (key : List ℕ) → length key ≤ input_limit → input_of key ≡ Whole key
whole_input key le = rw (le-ltb input_limit (length key) le) refl

never_rose : ¬ Rose 0 0
never_rose (inl more) = omega (arith, more)
never_rose (inr last) = omega (arith, last)

-- what a call reads from a source that never fails and has a key left has the same answer of DPOP
-- as the key's input
belongs_so : (key : List ℕ) (left : Option (List ℕ)) (old new : List ℕ) (input : Input) (answer : Answer) → IsReadFrom input (source_state (Some key) 0 old) (source_state left 0 new)
    → IsInputAnswer (File Own (tasks.Dpop false)) input answer → IsInputAnswer (File Own (tasks.Dpop false)) (input_of key) answer
belongs_so key left old new Unread answer read belongs = absurd belongs
belongs_so key left old new Broken answer read belongs = absurd (never_rose read.0)
belongs_so key left old new TooLong answer read belongs =
    let long : input_limit + 1 ≤ length key = taken-least _ _ (source_state (Some key) 0 old) (source_state left 0 new) key refl read.0 in
    subst (λ (i : Input). IsInputAnswer (File Own (tasks.Dpop false)) i answer) (sym (long_input key (omega (arith, long)))) belongs
belongs_so key left old new (Whole bytes) answer read belongs =
    let same : bytes ≡ key = read.1.0 in
    let short : length key ≤ input_limit = subst (λ (bs : List ℕ). length bs ≤ input_limit) same read.0 in
    subst (λ (i : Input). IsInputAnswer (File Own (tasks.Dpop false)) i answer) (ap Whole same ∙ sym (whole_input key short)) belongs

belongs_to_key : (key : List ℕ) (left : Option (List ℕ)) (old new : List ℕ) (input : Input) (answer : Answer) → IsReadFrom input (source_state (Some key) 0 old) (source_state left 0 new)
    → IsAnswer dpop_words input answer → IsAnswer dpop_words (input_of key) answer
belongs_to_key key left old new input answer read belongs = to_words (input_of key) answer (belongs_so key left old new input answer read (of_words input answer belongs))

-- what `solve` answers on a source that never fails and has a key left
pub answered_so : (key given : List ℕ) (words : List (List ℕ)) (left : Option (List ℕ)) (old new : List ℕ) (answer : Answer) → given ≡ key → words ≡ dpop_words
    → Answered words (source_state (Some given) 0 old) (source_state left 0 new) answer → IsAnswer dpop_words (input_of key) answer
answered_so key given words left old new answer is_key is_dpop is =
    let read = subst (λ (k : List ℕ). IsReadFrom is.input (source_state (Some k) 0 old) (source_state left 0 new)) is_key is.read in
    let own : IsGiven dpop_words is.input answer = subst (λ (ws : List (List ℕ)). IsGiven ws is.input answer) is_dpop is.belongs in
    belongs_to_key key left old new is.input answer read (own_answer is.input answer own)

-- the text of that answer
pub reply_written : (result : Result (List ℕ) NoMemory) (key : List ℕ) (answer : Answer) → IsAnswer dpop_words (input_of key) answer → IfOk result (λ text. text ≡ answer_text answer) → IfOk result (IsReply key)
reply_written (Ok text) key answer belongs written = record { answer = answer; belongs = belongs; written = written }
reply_written (Err refused) key answer belongs written = tt
