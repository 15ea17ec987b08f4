use Rattle.adb_server.proofs.server.serve_at.Given as goal

abbrev pub ghosts-serve_with-E-Ledger : goal.ghosts-serve_with-E-Ledger
ghosts-serve_with-E-Ledger g a = record { name = a.entries.name; parts = a.entries.parts }

abbrev pub ghosts-serve_with-M-Ledger : goal.ghosts-serve_with-M-Ledger
ghosts-serve_with-M-Ledger g a = record { name = a.moved.name; parts = a.moved.parts }

abbrev pub ghosts-serve_with-K-Ledger : goal.ghosts-serve_with-K-Ledger
ghosts-serve_with-K-Ledger g a = record { name = a.marks.name; parts = a.marks.parts }

abbrev pub ghosts-serve_with-K-Marks : goal.ghosts-serve_with-K-Marks
ghosts-serve_with-K-Marks g a = record { steady = g.Y.Keeper.Recorder.steady a.recorder }
