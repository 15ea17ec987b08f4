-- The sessions of an echo, side by side.
use Rattle.std.specs.Prelude.{ℕ, ◌+◌, ◌≡◌, ◌<◌, List, Some, codes, option_map}
use Rattle.adb_outside.specs.Tables.{at}
use Rattle.adb_script.specs.Pattern.{pattern}
use Rattle.adb_world.specs.Answered.{answer_of}
use Rattle.adb_world.specs.Session.{new_session}
use Rattle.adb_world.specs.World.{View}
use Rattle.adb_world.specs.declared.session.Session.{Session}

-- the session of a stream, by its number from 0, that has written nothing
abbrev pub stream_session : (size stream : ℕ) → Session
stream_session size stream = new_session (codes "echo:") (pattern stream size)

-- The session of a number is that of a stream.
pub record IsOfStream (size : ℕ) (session : Session) : Type 0 where
  pub stream : ℕ
  pub is : session ≡ stream_session size stream

-- The sessions of the first streams were started behind those that were given, and there are no others; the files stayed.
pub record IsStarting (streams size : ℕ) (old new : View) : Type 0 where
  pub each : (stream : ℕ) → stream < streams → at (old.given + 1 + stream) new.sessions ≡ Some (stream_session size stream)
  pub only : (c : ℕ) (session : Session) → at c new.sessions ≡ Some session → IsOfStream size session
  pub given : new.given ≡ old.given + streams
  pub files : new.files ≡ old.files

-- The session of each of the first streams, from a number on, got back what it sent.
abbrev pub AreEchoed : (first streams size : ℕ) → List (ℕ × Session) → Type 0
AreEchoed first streams size sessions =
    (stream : ℕ) → stream < streams → option_map answer_of (at (first + stream) sessions) ≡ Some (pattern stream size)
