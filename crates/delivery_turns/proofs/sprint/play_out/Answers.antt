use Rattle.delivery_turns.proofs.sprint.play_out.Goals as goal

pub returns-clause-run : goal.returns-clause-run
returns-clause-run g c = c.in_ok-played.ensures.run

pub returns-clause-rounds : goal.returns-clause-rounds
returns-clause-rounds g c = record { run = c.in_ok-played.ensures.run; due = c.in_ok-played.ensures.due }
