use Rattle.adb_cases_halls.proofs.locked_hall.rings_by_brand.Given as goal

abbrev pub ghosts-rings-E-Ledger : goal.ghosts-rings-E-Ledger
ghosts-rings-E-Ledger a = record { name = a.entries.name; parts = a.entries.parts }

abbrev pub ghosts-rings-M-Ledger : goal.ghosts-rings-M-Ledger
ghosts-rings-M-Ledger a = record { name = a.moved.name; parts = a.moved.parts }

abbrev pub ghosts-rings-K-Ledger : goal.ghosts-rings-K-Ledger
ghosts-rings-K-Ledger a = record { name = a.marks.name; parts = a.marks.parts }

abbrev pub ghosts-rings-K-Marks : goal.ghosts-rings-K-Marks
ghosts-rings-K-Marks a = record { steady = Unit {0} }
