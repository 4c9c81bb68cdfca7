use Rattle.std.proofs.Common.{refl}
use Rattle.solve_answers.proofs.LinklessLaws.{edits-tells, replay-tells, report-tells}
use Rattle.solve_answers.proofs.answering.task_answer.Goals as goal

pub returns-in-Check-clause-links : goal.returns-in-Check-clause-links
returns-in-Check-clause-links g c = report-tells _ _ _ _ refl c.in-Check.format c.as_slice.result.now c.report_answer.result c.report_answer.ensures.belongs

pub returns-in-Replay-clause-links : goal.returns-in-Replay-clause-links
returns-in-Replay-clause-links g c = replay-tells _ _ _ _ refl c.in-Replay.format c.as_slice-in-Replay.result.now c.in-Replay.after c.replay_behind.result c.replay_behind.ensures.belongs

pub returns-in-Edit-clause-links : goal.returns-in-Edit-clause-links
returns-in-Edit-clause-links g c = edits-tells _ _ _ _ refl c.as_slice-in-Edit.result.now c.edits_behind.result c.edits_behind.ensures.belongs
