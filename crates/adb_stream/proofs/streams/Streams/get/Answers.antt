use Rattle.std.proofs.Common.{ap, ◌∙◌, sym, subst}
use Rattle.adb_outside.specs.Tables.{at}
use Rattle.adb_stream.specs.Streams.{StreamTable, IsSound}
use Rattle.adb_stream.proofs.Shelves.{Kept, shows, sound}
use Rattle.adb_stream.proofs.streams.Streams.get.Goals as goal

abbrev kept : (c : goal.After-get) → Kept
kept c = record { drawn = c.self.inside.drawn; shelf = c.self.inside.shelf; indexed = c.self.invariant }

pub returns-clause-found : goal.returns-clause-found
returns-clause-found c =
    c.get.ensures ∙ (sym (shows (kept c) c.args.id) ∙ ap (λ (t : StreamTable). at c.args.id t.streams) c.self.view_is)

pub returns-clause-sound : goal.returns-clause-sound
returns-clause-sound c = subst IsSound c.self.view_is (sound (kept c))
