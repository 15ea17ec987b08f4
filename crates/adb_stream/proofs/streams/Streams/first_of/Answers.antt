use Rattle.std.proofs.Common.{subst}
use Rattle.std.specs.Prelude.{MatchOption}
use Rattle.adb_stream.specs.Streams.{StreamTable, IsSound, HasNoneOf, IsFirstOf}
use Rattle.adb_stream.proofs.Shelves.{Kept, sound, first_found}
use Rattle.adb_stream.proofs.streams.Streams.first_of.Goals as goal

abbrev kept : (c : goal.After-first_of) → Kept
kept c = record { drawn = c.self.inside.drawn; shelf = c.self.inside.shelf; indexed = c.self.invariant }

pub returns-clause-first : goal.returns-clause-first
returns-clause-first c =
    subst (λ (t : StreamTable). MatchOption c.first_of.result (HasNoneOf c.args.link t.streams)
    (IsFirstOf c.args.link t.streams)) c.self.view_is
    (first_found (kept c) c.args.link c.first_of.result c.first_of.ensures.here c.first_of.ensures.least)

pub returns-clause-sound : goal.returns-clause-sound
returns-clause-sound c = subst IsSound c.self.view_is (sound (kept c))
