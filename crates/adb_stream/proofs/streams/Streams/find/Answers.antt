use Rattle.std.proofs.Common.{ap, ◌∙◌, subst}
use Rattle.adb_stream.specs.Streams.{StreamTable, IsSound, found}
use Rattle.adb_stream.proofs.Shelves.{Kept, finds, sound}
use Rattle.adb_stream.proofs.streams.Streams.find.Goals as goal

abbrev kept : (c : goal.After-find) → Kept
kept c = record { drawn = c.self.inside.drawn; shelf = c.self.inside.shelf; indexed = c.self.invariant }

pub returns-clause-found : goal.returns-clause-found
returns-clause-found c =
    c.find.ensures ∙ (finds (kept c) c.args.link c.args.id ∙ ap (λ (t : StreamTable). found c.args.link c.args.id t.streams) c.self.view_is)

pub returns-clause-sound : goal.returns-clause-sound
returns-clause-sound c = subst IsSound c.self.view_is (sound (kept c))
