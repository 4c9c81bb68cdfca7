use Rattle.test_threads.proofs.server.session.session_on.Given as goal

abbrev pub ghosts-session_with-A-Ledger : goal.ghosts-session_with-A-Ledger
ghosts-session_with-A-Ledger g a = record { name = a.looks.name; parts = a.looks.parts }

abbrev pub ghosts-session_with-B-Ledger : goal.ghosts-session_with-B-Ledger
ghosts-session_with-B-Ledger g a = record { name = a.misses.name; parts = a.misses.parts }
