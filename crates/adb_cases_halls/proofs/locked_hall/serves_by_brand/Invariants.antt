use Rattle.adb_cases_halls.proofs.locked_hall.serves_by_brand.Given as goal

abbrev pub ghosts-serves-E-Ledger : goal.ghosts-serves-E-Ledger
ghosts-serves-E-Ledger g a = record { name = a.entries.name; parts = a.entries.parts }

abbrev pub ghosts-serves-M-Ledger : goal.ghosts-serves-M-Ledger
ghosts-serves-M-Ledger g a = record { name = a.moved.name; parts = a.moved.parts }

abbrev pub ghosts-serves-K-Ledger : goal.ghosts-serves-K-Ledger
ghosts-serves-K-Ledger g a = record { name = a.marks.name; parts = a.marks.parts }

abbrev pub ghosts-serves-K-Marks : goal.ghosts-serves-K-Marks
ghosts-serves-K-Marks g a = record { steady = Unit {0} }
