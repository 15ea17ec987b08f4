use Rattle.adb_stream.specs.Shelf.{IsIndexed}
use Rattle.adb_stream.proofs.Shelves.{sound}
use Rattle.adb_stream.proofs.Calls.{cleared_indexed}
use Rattle.adb_stream.proofs.streams.Streams.clear.Goals as goal

indexed : (c : goal.After-clear) → IsIndexed c.self.inside.drawn c.clear.new.self
indexed c = cleared_indexed c.self.inside.drawn c.clear.new.self c.self.invariant.fits (record {
  keys = c.clear.ensures.keys;
  slots = c.clear.ensures.slots;
  index = c.clear.ensures.index;
  rises = c.clear.ensures.rises;
})

pub invariant_of-self : goal.invariant_of-self
invariant_of-self c = indexed c

pub returns-clause-sound : goal.returns-clause-sound
returns-clause-sound c = sound (record { drawn = c.self.inside.drawn; shelf = c.clear.new.self; indexed = indexed c })
