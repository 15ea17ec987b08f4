use Rattle.adb_stream.proofs.shelf.Shelf.remove.Goals as goal

pub returns-clause-index : goal.returns-clause-index
returns-clause-index c = λ i t l. c.remove.ensures.updates.0 (t, l) i
