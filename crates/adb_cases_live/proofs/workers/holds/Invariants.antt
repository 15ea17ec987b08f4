use Rattle.adb_cases_live.proofs.workers.holds.Given as goal

abbrev pub ghosts-tried-E-Ledger : goal.ghosts-tried-E-Ledger
ghosts-tried-E-Ledger g a = record { name = a.entries.name; parts = a.entries.parts }

abbrev pub ghosts-tried-M-Ledger : goal.ghosts-tried-M-Ledger
ghosts-tried-M-Ledger g a = record { name = a.moved.name; parts = a.moved.parts }

abbrev pub ghosts-tried-K-Ledger : goal.ghosts-tried-K-Ledger
ghosts-tried-K-Ledger g a = record { name = a.marks.name; parts = a.marks.parts }

abbrev pub ghosts-tried-K-Marks : goal.ghosts-tried-K-Marks
ghosts-tried-K-Marks g a = record { steady = ⊥ }
