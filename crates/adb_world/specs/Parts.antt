-- What the parts of a world hold: a history of sessions, and all that the device did on its link.
use Rattle.std.specs.Prelude.{ℕ, ◌^◌, ◌≡◌, ◌≢◌, ◌≤◌, ◌<◌, ◌⊎◌, Bool, true, false, List, [], ◌∷◌, Option, Some, None}
use Rattle.adb_outside.specs.Tables.{at, put_at, Puts}
use Rattle.adb_outside.specs.declared.kinds.Kind.TheVariants.{Local}
use Rattle.adb_registry.specs.Row.{new_row}
use Rattle.adb_wire.specs.declared.packets.Packet.{Packet}
use Rattle.adb_capture.specs.declared.entry.Entry.{Entry}
use Rattle.adb_capture.specs.declared.entry.Entry.TheVariants.{Attach}
use Rattle.adb_history.specs.Book.{plugged, plugged_count}
use Rattle.adb_history.specs.Bytes.{bytes_received, bytes_sent, has_ended, is_lost, brought}
use Rattle.adb_history.specs.Kept.{IsLawful}
use Rattle.adb_history.specs.Machine.{History, IsDrawn, state}
use Rattle.adb_history.specs.Tied.{came_count}
use Rattle.adb_daemon.specs.Daemon.{HasDone}
use Rattle.adb_daemon.specs.Device.{own_cnxn}
use Rattle.adb_laws_model_device.specs.Joined.{IsJoined}
use Rattle.adb_laws_answers.specs.Words.{serial}
use Rattle.adb_laws_answers.specs.Model.{model_setting}
use Rattle.adb_laws_answers.specs.Sessions.{IsOfSessions}
use Rattle.adb_world.specs.Calls.{AreFirst, HasNone}
use Rattle.adb_world.specs.Session.{IsTold}
use Rattle.adb_world.specs.declared.parts.Parts.{Parts}
use Rattle.adb_world.specs.declared.session.Session.{Session}

-- a client came, ended and is gone
pub record IsOver (given : ℕ) (h : History) (c : ℕ) : Type 0 where
  pub drawn : IsDrawn given c
  pub ended : has_ended c h ≡ true
  pub gone : (state h).clients c ≡ None

-- The sessions of a world stand under the numbers of their clients; under each other number nobody came, or it is over.
abbrev pub IsKeptAt : ℕ → History → ℕ → Option Session → Type 0
IsKeptAt given h c None = ((c ≡ 0) ⊎ (given < c)) ⊎ IsOver given h c
IsKeptAt given h c (Some session) = IsDrawn given c × IsTold h c session

-- how many sessions may be given
abbrev pub most_sessions : ℕ
most_sessions = 2 ^ 31

-- The hub holds what the history leaves; the device was fed what was sent to the first link, and what came on it was
-- taken from the device; no other was
-- plugged in; and each client is that of a session, or is over.
pub record Holds (h : History) (parts : Parts) : Type 0 where
  pub lawful : IsLawful parts.hub h
  pub done : HasDone model_setting (bytes_sent 1 h) (bytes_received 1 h) parts.device
  pub joined : IsJoined model_setting h
  pub here : is_lost 1 h ≡ false
  pub plugged_as : plugged 1 h ≡ Some (new_row 1 Local serial)
  pub one : plugged_count h ≡ 1
  pub asks : IsOfSessions h
  pub came : came_count h ≡ parts.given
  pub few : parts.given ≤ most_sessions
  pub sessions : (c : ℕ) → IsKeptAt parts.given h c (at c parts.sessions.entries)

-- The device said who it is.
pub record IsGreeted (h : History) : Type 0 where
  pub rest : List Packet
  pub is : brought 1 h ≡ (own_cnxn model_setting).packet ∷ rest

-- Both ends of the link said who they are, and the parts hold a history.
pub record IsRunning (parts : Parts) : Type 0 where
  pub history : History
  pub holds : Holds history parts
  pub greeted : IsGreeted history

-- The parts hold a history.
pub record IsHeld (parts : Parts) : Type 0 where
  pub history : History
  pub holds : Holds history parts

-- the entry by which the device is plugged in
abbrev pub plugging : Entry
plugging = Attach 1 Local serial

-- ---- sessions
-- what is kept of the same session: its service and its words stay
abbrev pub IsSame : Option Session → Option Session → Type 0
IsSame None None = Unit {0}
IsSame (Some old) (Some new) = (new.service ≡ old.service) × (new.words ≡ old.words)
IsSame _ _ = ⊥

abbrev pub AreSame : List (ℕ × Session) → List (ℕ × Session) → Type 0
AreSame old new = (c : ℕ) → IsSame (at c old) (at c new)

-- Under a number no session is kept any more, and the others are the same.
pub record AreSameBut (number : ℕ) (old new : List (ℕ × Session)) : Type 0 where
  pub here : at number new ≡ None
  pub others : (c : ℕ) → c ≢ number → IsSame (at c old) (at c new)

-- a session is added under a number, and nothing else changes that the world keeps
pub record Adds (number : ℕ) (session : Session) (old new : Parts) : Type 0 where
  pub sessions : new.sessions.entries ≡ put_at number session old.sessions.entries
  pub given : new.given ≡ number
  pub device : new.device ≡ old.device

-- The session of a number is kept no more, and nothing else changes that the world keeps.
pub record Drops (number : ℕ) (old new : Parts) : Type 0 where
  pub sessions : Puts number None old.sessions.entries new.sessions.entries
  pub given : new.given ≡ old.given
  pub device : new.device ≡ old.device

-- ---- steps
-- The first of these bytes were moved, one at least, by an entry of them; the sessions are the same.
pub record Moved (e : List ℕ → Entry) (max : ℕ) (all : Option (List ℕ)) (h : History) (old new : Parts) : Type 0 where
  pub bytes : List ℕ
  pub some : bytes ≢ []
  pub first : AreFirst max all bytes
  pub holds : Holds (e bytes ∷ h) new
  pub same : AreSame old.sessions.entries new.sessions.entries
  pub given : new.given ≡ old.given

-- Some of these bytes were moved; or there were none, and nothing has changed.
abbrev pub Moves : (List ℕ → Entry) → ℕ → Option (List ℕ) → Bool → History → Parts → Parts → Type 0
Moves e max all true h old new = Moved e max all h old new
Moves e max all false h old new = (new ≡ old) × HasNone all
