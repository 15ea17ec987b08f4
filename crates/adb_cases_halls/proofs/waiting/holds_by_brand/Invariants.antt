use Rattle.adb_cases_halls.proofs.waiting.holds_by_brand.Given as goal

abbrev pub ghosts-holds-E-Ledger : goal.ghosts-holds-E-Ledger
ghosts-holds-E-Ledger g a = record { name = a.entries.name; parts = a.entries.parts }

abbrev pub ghosts-holds-M-Ledger : goal.ghosts-holds-M-Ledger
ghosts-holds-M-Ledger g a = record { name = a.moved.name; parts = a.moved.parts }

abbrev pub ghosts-holds-K-Ledger : goal.ghosts-holds-K-Ledger
ghosts-holds-K-Ledger g a = record { name = a.marks.name; parts = a.marks.parts }

abbrev pub ghosts-holds-K-Marks : goal.ghosts-holds-K-Marks
ghosts-holds-K-Marks g a = record { steady = Unit {0} }
