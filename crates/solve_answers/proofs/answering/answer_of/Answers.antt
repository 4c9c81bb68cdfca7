use Rattle.std.proofs.Common.{Err, refl, sym}
use Rattle.answer_io.specs.Input.{Unread, Broken, TooLong, Whole}
use Rattle.answer_io.specs.declared.reading.ReadEnd.TheVariants.{NoMemory}
use Rattle.answer_io.proofs.InputLaws.{taken-most, reading-taken}
use Rattle.solve_answers.proofs.AnswerLaws.{Answered-task, Answered-text, Answered-unread}
use Rattle.solve_answers.proofs.LinkAnswerLaws.{asks_tells}
use Rattle.solve_answers.proofs.LinklessLaws.{linkless-tells}
use Rattle.solve_answers.proofs.answering.answer_of.Goals as goal

pub returns-in-Ok-read_all-clause-answered : goal.returns-in-Ok-read_all-clause-answered
returns-in-Ok-read_all-clause-answered g c =
    Answered-text _ c.in-Ok.command c.nodes_of-nodes.result (sym c.in-Ok.ensures.answer) (λ many. c.nodes_of-nodes.ensures.same) c.in-Some.task _ _ c.in-Ok-read_all.bytes c.in-Ok-read_all.bytes c.task_answer.result
    (sym c.in-Some.ensures.same) c.in-Ok-read_all.ensures refl c.task_answer.ensures.belongs c.task_answer.ensures.right

pub returns-in-Ok-read_all-clause-links : goal.returns-in-Ok-read_all-clause-links
returns-in-Ok-read_all-clause-links g c =
    asks_tells _ c.in-Ok.command c.nodes_of-nodes.result _ _ _ c.task_answer.result (sym c.in-Ok.ensures.answer) (λ many. c.nodes_of-nodes.ensures.same) c.task_answer.ensures.links

pub returns-in-Ok-read_all-clause-taken : goal.returns-in-Ok-read_all-clause-taken
returns-in-Ok-read_all-clause-taken g c = taken-most (Whole c.in-Ok-read_all.bytes) _ _ c.in-Ok-read_all.ensures

pub returns-in-Err-Failed-clause-answered : goal.returns-in-Err-Failed-clause-answered
returns-in-Err-Failed-clause-answered g c =
    Answered-task _ c.in-Ok.command c.in-Some.task _ _ Broken _
    (sym c.in-Ok.ensures.answer) (sym c.in-Some.ensures.same) (rw c.in-Err-Failed.field-0-is at c.in-Err-Failed.ensures) refl tt

pub returns-in-Err-Failed-clause-links : goal.returns-in-Err-Failed-clause-links
returns-in-Err-Failed-clause-links g c = linkless-tells _ _ _ _ refl _ tt

pub returns-in-Err-Failed-clause-taken : goal.returns-in-Err-Failed-clause-taken
returns-in-Err-Failed-clause-taken g c = taken-most Broken _ _ (rw c.in-Err-Failed.field-0-is at c.in-Err-Failed.ensures)

pub returns-in-Err-TooLong-clause-answered : goal.returns-in-Err-TooLong-clause-answered
returns-in-Err-TooLong-clause-answered g c =
    rw c.fault_answer.ensures (Answered-task _ c.in-Ok.command c.in-Some.task _ _ TooLong _
    (sym c.in-Ok.ensures.answer) (sym c.in-Some.ensures.same) (rw c.in-Err-TooLong.field-0-is at c.in-Err-TooLong.ensures) refl tt)

pub returns-in-Err-TooLong-clause-links : goal.returns-in-Err-TooLong-clause-links
returns-in-Err-TooLong-clause-links g c = rw c.fault_answer.ensures (linkless-tells _ _ _ _ refl _ tt)

pub returns-in-Err-TooLong-clause-taken : goal.returns-in-Err-TooLong-clause-taken
returns-in-Err-TooLong-clause-taken g c = taken-most TooLong _ _ (rw c.in-Err-TooLong.field-0-is at c.in-Err-TooLong.ensures)

pub returns-in-Err-NoMemory-read_all-clause-taken : goal.returns-in-Err-NoMemory-read_all-clause-taken
returns-in-Err-NoMemory-read_all-clause-taken g c =
    reading-taken (Err NoMemory) _ _ (rw c.in-Err-NoMemory-read_all.field-0-is at c.in-Err-NoMemory-read_all.ensures)

pub returns-in_default-clause-answered : goal.returns-in_default-clause-answered
returns-in_default-clause-answered g c =
    Answered-unread _ c.in-Ok.command c.nodes_of-nodes.result (sym c.in-Ok.ensures.answer) (λ many. c.nodes_of-nodes.ensures.same) _ _ c.unread_answer.result (sym c.in_default.ensures.same) refl
    c.unread_answer.ensures.belongs c.unread_answer.ensures.right

pub returns-in_default-clause-links : goal.returns-in_default-clause-links
returns-in_default-clause-links g c =
    asks_tells _ c.in-Ok.command c.nodes_of-nodes.result _ _ _ c.unread_answer.result (sym c.in-Ok.ensures.answer) (λ many. c.nodes_of-nodes.ensures.same) c.unread_answer.ensures.links

pub returns-in-Err-Bad-clause-taken : goal.returns-in-Err-Bad-clause-taken
returns-in-Err-Bad-clause-taken g c = taken-most Unread _ _ refl

pub returns-in-Err-NoMemory-clause-taken : goal.returns-in-Err-NoMemory-clause-taken
returns-in-Err-NoMemory-clause-taken g c = taken-most Unread _ _ refl

pub returns-in_default-clause-taken : goal.returns-in_default-clause-taken
returns-in_default-clause-taken g c = taken-most Unread _ _ refl
