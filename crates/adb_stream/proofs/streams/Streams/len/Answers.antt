use Rattle.std.proofs.Common.{sym, ◌∙◌, ap, subst, length}
use Rattle.adb_stream.specs.Streams.{StreamTable, IsSound}
use Rattle.adb_stream.proofs.Shelves.{Kept, shown_length, sound}
use Rattle.adb_stream.proofs.streams.Streams.len.Goals as goal

pub returns-clause-count : goal.returns-clause-count
returns-clause-count c =
    c.len.ensures ∙ (sym (shown_length c.self.inside.shelf.rows c.self.inside.shelf.keys.entries)
    ∙ ap (λ (t : StreamTable). length t.streams) c.self.view_is)

pub returns-clause-sound : goal.returns-clause-sound
returns-clause-sound c =
    let kept : Kept = record { drawn = c.self.inside.drawn; shelf = c.self.inside.shelf; indexed = c.self.invariant } in
    subst IsSound c.self.view_is (sound kept)
