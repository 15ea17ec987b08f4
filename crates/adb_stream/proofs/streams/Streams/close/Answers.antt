use Rattle.std.proofs.Common.{ap, ◌∙◌}
use Rattle.adb_outside.specs.Tables.{at, without}
use Rattle.adb_stream.specs.Streams.{StreamTable}
use Rattle.adb_stream.proofs.Shelves.{Kept, sound}
use Rattle.adb_stream.proofs.Calls.{Removed, removed}
use Rattle.adb_stream.proofs.streams.Streams.close.Goals as goal

abbrev old : (c : goal.After-remove) → Kept
old c = record { drawn = c.self.inside.drawn; shelf = c.self.inside.shelf; indexed = c.self.invariant }

taken : (c : goal.After-remove) → Removed c.args.id c.remove.result (old c) c.remove.new.self
taken c = removed c.args.id c.remove.result (old c) c.remove.new.self (record {
  was = c.remove.ensures.was;
  keys = c.remove.ensures.keys;
  slots = c.remove.ensures.slots;
  index = c.remove.ensures.index;
  rises = c.remove.ensures.rises;
})

pub invariant_of-self : goal.invariant_of-self
invariant_of-self c = (taken c).indexed

pub returns-clause-was : goal.returns-clause-was
returns-clause-was c = (taken c).was ∙ ap (λ (t : StreamTable). at c.args.id t.streams) c.self.view_is

pub returns-clause-after : goal.returns-clause-after
returns-clause-after c =
    (λ i. record { drawn = c.self.inside.drawn; streams = (taken c).streams i })
    ∙ ap (λ (t : StreamTable). record t { streams = without c.args.id t.streams }) c.self.view_is

pub returns-clause-sound : goal.returns-clause-sound
returns-clause-sound c = sound (record { drawn = c.self.inside.drawn; shelf = c.remove.new.self; indexed = (taken c).indexed })
