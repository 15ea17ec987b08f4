use Rattle.std.proofs.Common.{subst}
use Rattle.adb_stream.specs.Streams.{IsSound}
use Rattle.adb_stream.proofs.Shelves.{Kept, sound}
use Rattle.adb_stream.proofs.streams.Streams.are_sound.Goals as goal

pub returns : goal.returns
returns c =
    let kept : Kept = record { drawn = c.self.inside.drawn; shelf = c.self.inside.shelf; indexed = c.self.invariant } in
    subst IsSound c.self.view_is (sound kept)
