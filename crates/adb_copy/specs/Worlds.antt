-- What a world is behind sessions of its own.
use Rattle.std.specs.Prelude.{ℕ, ◌+◌, ◌≡◌, ◌≤◌, true, false}
use Rattle.adb_world.specs.Parts.{AreSame}
use Rattle.adb_world.specs.Settled.{IsCounted, IsSettled}
use Rattle.adb_world.specs.World.{View}

-- So many sessions were given, one behind the other, and dropped; the world has settled, and the sessions that it had are the same.
pub record Syncs (sessions : ℕ) (old new : View) : Type 0 where
  pub given : new.given ≡ old.given + sessions
  pub same : AreSame old.sessions new.sessions
  pub rests : new.settled ≡ true
  pub whole : old.spent ≡ false → new.spent ≡ false
  pub calm : IsSettled old → IsSettled new
  pub counted : IsCounted old → IsCounted new

-- There were at most so many.
pub record SyncsAtMost (most : ℕ) (old new : View) : Type 0 where
  pub sessions : ℕ
  pub few : sessions ≤ most
  pub syncs : Syncs sessions old new
