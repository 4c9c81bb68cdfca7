use Rattle.serve_clients.proofs.clients.serve_clients.Given as goal

abbrev pub ghosts-serve_with-A-Ledger : goal.ghosts-serve_with-A-Ledger
ghosts-serve_with-A-Ledger g a = record { name = a.looks.name; parts = a.looks.parts }

abbrev pub ghosts-serve_with-B-Ledger : goal.ghosts-serve_with-B-Ledger
ghosts-serve_with-B-Ledger g a = record { name = a.misses.name; parts = a.misses.parts }
